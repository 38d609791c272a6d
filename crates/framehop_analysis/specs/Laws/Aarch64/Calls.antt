-- Authenticated calls of aarch64, and the words that an epilogue ends with.
use Rattle.std.proofs.Common.{◌≡◌, ◌⊎◌, inl, inr, ℕ, zero, suc, ◌+◌, ◌-◌, ◌*◌, ◌/◌, ◌%◌, ◌^◌, ◌<◌, ◌≤◌, ℤ, true, false, ◌||◌, ◌==◌, List, [], ◌∷◌, ◌++◌, length, slice_index, Some, refl, sym, ap, ◌∙◌, subst, arith, bit_and}
use Rattle.std.proofs.lemmas.Bool.{cases_lt, eqb-true, and_parts, false_from_ne_true, or_cases, or_right}
use Rattle.std.proofs.lemmas.Nat.{and_shr, and_mod, and_mask, shr-shr}
use Rattle.std.proofs.lemmas.Option.{same_Some}
use Rattle.framehop_core.specs.Bits.{bits_at}
use Rattle.framehop_analysis.specs.Aarch64.Words.{word_at, AreWordsAt, is_load, is_add_sp, is_return, is_b, is_br, is_braa, is_mov, is_branch}
use Rattle.framehop_analysis.specs.Laws.Aarch64.Masks.{kept}
use Rattle.framehop_analysis.specs.Aarch64.Epilogue.{check_words, is_call_word, IsAuthenticatedCall, by_b, by_braa, IsEnd, returns, branches, calls, IsInsideCallAfter, is_restoring}

-- ---- no word is both

-- the word's highest 7 bits, of a load and of a branch
pub pair-high : (word value : ℕ) → bit_and (word / 2 ^ 22) 0x2F9 ≡ value → value / 2 ^ 3 ≡ 0x54
    → bit_and (bits_at word 25 7) 0x5F ≡ 0x54
pair-high word value field value_is =
    let shifted : bit_and (word / 2 ^ 22) 0x2F9 / 2 ^ 3 ≡ 0x54 = ap (λ n. n / 2 ^ 3) field ∙ value_is in
    let moved : bit_and (word / 2 ^ 22 / 2 ^ 3) 0x5F ≡ 0x54 = sym (and_shr (word / 2 ^ 22) 0x2F9 3) ∙ shifted in
    let high : bit_and (word / 2 ^ 25) 0x5F ≡ 0x54 = ap (λ n. bit_and n 0x5F) (sym (shr-shr word 22 3)) ∙ moved in
    sym (and_mod (word / 2 ^ 25) 0x5F 7) ∙ ap (λ n. n % 2 ^ 7) high

pub load-high : (word : ℕ) → is_load word ≡ true → bit_and (bits_at word 25 7) 0x5F ≡ 0x54
load-high word e = pair-high word 0x2A1 (eqb-true _ _ (and_parts _ _ e).0) refl

two_of : (n : ℕ) → 10 ≤ n → n ≤ 11 → (n ≡ 10) ⊎ (n ≡ 11)
two_of n low high = elim (cases_lt 10 n) [ inl above ↦ inr (omega arith) | inr below ↦ inl (omega arith) ]

pub b-high : (word : ℕ) → is_b word ≡ true → (bits_at word 25 7 ≡ 10) ⊎ (bits_at word 25 7 ≡ 11)
b-high word e =
    let top : word / 2 ^ 26 % 2 ^ 6 ≡ 5 = eqb-true _ _ e in
    let split = shr-shr word 25 1 in
    two_of (bits_at word 25 7) (omega arith) (omega arith)

high-not-restoring : (word high : ℕ) → bits_at word 25 7 ≡ high → (bit_and high 0x5F ≡ 0x54 → ⊥) → (high ≡ 72 → ⊥)
    → is_restoring word ≡ false
high-not-restoring word high is apart other =
    let no_load : is_load word ≡ false =
    false_from_ne_true (is_load word) (λ load. apart (ap (λ n. bit_and n 0x5F) (sym is) ∙ load-high word load)) in
    let no_add : is_add_sp word ≡ false = false_from_ne_true (is_add_sp word) (λ add.
    let code : word / 2 ^ 23 % 2 ^ 9 ≡ 0x122 = eqb-true _ _ (and_parts _ _ (and_parts _ _ add).0).0 in
    let split = shr-shr word 23 2 in
    other (omega arith)) in
    cc

pub branch-not-restoring : (word : ℕ) → is_branch word ≡ true → is_restoring word ≡ false
branch-not-restoring word e = elim (or_cases (is_b word) (bits_at word 25 7 == 0x6B) e) [
  | inl b ↦ elim (b-high word b) [
    | inl ten ↦ high-not-restoring word 10 ten (λ same. let t : 10 ≡ 84 = same in omega arith) (λ n. omega arith)
    | inr eleven ↦ high-not-restoring word 11 eleven (λ same. let t : 11 ≡ 84 = same in omega arith) (λ n. omega arith)
  ]
  | inr register ↦ high-not-restoring word 107 (eqb-true _ _ register) (λ same. let t : 75 ≡ 84 = same in omega arith)
      (λ n. omega arith)
]

b-mov-apart : (word : ℕ) → is_b word ≡ true → is_mov word ≡ true → ⊥
b-mov-apart word b mov =
    let top : word / 2 ^ 26 % 2 ^ 6 ≡ 5 = eqb-true _ _ b in
    let mask : bit_and (word / 2 ^ 23) 0x1C7 ≡ 0x185 = eqb-true _ _ (and_parts _ _ mov).0 in
    let high : word / 2 ^ 23 / 2 ^ 6 % 2 ^ 3
    ≡ 6 = sym (kept (word / 2 ^ 23) 0x1C7 6 3 refl) ∙ ap (λ n. n / 2 ^ 6 % 2 ^ 3) mask in
    let below = shr-shr word 26 3 in
    omega (arith, shr-shr word 23 6)

-- ---- branches

pub b-branch : (word : ℕ) → is_b word ≡ true → is_branch word ≡ true
b-branch word e = ap (λ t. t || (bits_at word 25 7 == 0x6B)) e

pub return-branch : (word : ℕ) → is_return word ≡ true → is_branch word ≡ true
return-branch word e = elim (or_cases (word == 0xD65F03C0) (word == 0xD65F0FFF) e) [
  | inl ret ↦ ap is_branch (eqb-true word 0xD65F03C0 ret)
  | inr retab ↦ ap is_branch (eqb-true word 0xD65F0FFF retab)
]

high-branch : (word mask value : ℕ) → bit_and word mask ≡ value → mask / 2 ^ 25 ≡ 2 ^ 7 - 1 → value / 2 ^ 25 ≡ 0x6B
    → is_branch word ≡ true
high-branch word mask value e mask_is value_is =
    let shifted : bit_and (word / 2 ^ 25) (mask / 2 ^ 25) ≡ 0x6B =
    sym (and_shr word mask 25) ∙ ap (λ n. n / 2 ^ 25) e ∙ value_is in
    let high : bits_at word 25 7 ≡ 0x6B =
    sym (and_mask (word / 2 ^ 25) 7) ∙ ap (bit_and (word / 2 ^ 25)) (sym mask_is) ∙ shifted in
    or_right (is_b word) (bits_at word 25 7 == 0x6B) (ap (λ n. n == 0x6B) high)

pub br-branch : (word : ℕ) → is_br word ≡ true → is_branch word ≡ true
br-branch word e = high-branch word 0xFFFFFC1F 0xD61F0000 (eqb-true _ _ e) refl refl

pub braa-branch : (word : ℕ) → is_braa word ≡ true → is_branch word ≡ true
braa-branch word e = high-branch word 0xFFFFFC00 0xD71F0800 (eqb-true _ _ (and_parts _ _ e).0) refl refl

pub branch-high : (word : ℕ) → (is_return word || is_b word || is_br word || is_braa word) ≡ true
    → is_branch word ≡ true
branch-high word e = elim (or_cases (is_return word || is_b word || is_br word) (is_braa word) e) [
  | inr braa ↦ braa-branch word braa
  | inl three ↦ elim (or_cases (is_return word || is_b word) (is_br word) three) [
    | inr br ↦ br-branch word br
    | inl two ↦ elim (or_cases (is_return word) (is_b word) two) [
      | inl return ↦ return-branch word return
      | inr b ↦ b-branch word b
    ]
  ]
]

-- ---- calls

pub stand-nth : (bytes : List ℕ) (at k : ℕ) (words : List ℕ) → AreWordsAt bytes at words → k < length words
    → word_at bytes (at + 4 * k) ≡ Some (slice_index words k)
stand-nth bytes at k [] stands below = absurd (omega arith)
stand-nth bytes at zero (word ∷ words) stands below =
    let here : at + 4 * 0 ≡ at = omega arith in ap (word_at bytes) here ∙ stands.0
stand-nth bytes at (suc k) (word ∷ words) stands below =
    let there : at + 4 * suc k ≡ at + 4 + 4 * k = omega arith in
    ap (word_at bytes) there ∙ stand-nth bytes (at + 4) k words stands.1 (omega arith)

pub moved : (bytes : List ℕ) (at : ℕ) (xs ys : List ℕ) → xs ≡ ys → AreWordsAt bytes at xs → AreWordsAt bytes at ys
moved bytes at xs ys e stands = let P : List ℕ → Type 0 = AreWordsAt bytes at in subst P e stands

pub call-by_b : (bytes : List ℕ) (start b at : ℕ) → AreWordsAt bytes start check_words → at ≡ start + 4 + 4 + 4 + 4
    → Some b ≡ word_at bytes at → is_b b ≡ true
    → (words : List ℕ) × AreWordsAt bytes start words × IsAuthenticatedCall words × (5 ≡ length words)
call-by_b bytes start b at stands at_is there b_is =
    let last : word_at bytes (start + 4 + 4 + 4 + 4) ≡ Some b = ap (word_at bytes) (sym at_is) ∙ sym there in (
      check_words ++ b ∷ [],
      (stands.0, (stands.1.0, (stands.1.1.0, (stands.1.1.1.0, (last, tt))))),
      by_b b b_is refl,
      refl,
    )

pub call-by_braa : (bytes : List ℕ) (start mov braa at : ℕ) → AreWordsAt bytes start check_words
    → at ≡ start + 4 + 4 + 4 + 4 → Some mov ≡ word_at bytes at → Some braa ≡ word_at bytes (at + 4) → is_mov mov ≡ true
    → is_braa braa ≡ true
    → (words : List ℕ) × AreWordsAt bytes start words × IsAuthenticatedCall words × (6 ≡ length words)
call-by_braa bytes start mov braa at stands at_is there later mov_is braa_is =
    let fifth : word_at bytes (start + 4 + 4 + 4 + 4) ≡ Some mov = ap (word_at bytes) (sym at_is) ∙ sym there in
    let sixth : word_at bytes (start + 4 + 4 + 4 + 4 + 4) ≡ Some braa =
    ap (λ n. word_at bytes (n + 4)) (sym at_is) ∙ sym later in (
      check_words ++ mov ∷ braa ∷ [],
      (stands.0, (stands.1.0, (stands.1.1.0, (stands.1.1.1.0, (fifth, (sixth, tt)))))),
      by_braa mov braa mov_is braa_is refl,
      refl,
    )

fifth-of : (bytes : List ℕ) (at w : ℕ) (words rest : List ℕ) → AreWordsAt bytes at words
    → words ≡ check_words ++ w ∷ rest → word_at bytes (at + 4 + 4 + 4 + 4) ≡ Some w
fifth-of bytes at w words rest stands e = (moved bytes at words (check_words ++ w ∷ rest) e stands).1.1.1.1.0

-- there is one call at a place
pub call-same : (bytes : List ℕ) (at : ℕ) (xs ys : List ℕ) → AreWordsAt bytes at xs → IsAuthenticatedCall xs
    → AreWordsAt bytes at ys → IsAuthenticatedCall ys → xs ≡ ys
call-same bytes at xs ys a (by_b b b_is e) c (by_b d d_is f) =
    let same : b ≡ d = same_Some b d (sym (fifth-of bytes at b xs [] a e) ∙ fifth-of bytes at d ys [] c f) in
    e ∙ ap (λ w. check_words ++ w ∷ []) same ∙ sym f
call-same bytes at xs ys a (by_b b b_is e) c (by_braa mov braa mov_is braa_is f) =
    let same : b ≡ mov = same_Some b mov
    (sym (fifth-of bytes at b xs [] a e) ∙ fifth-of bytes at mov ys (braa ∷ []) c f) in
    absurd (b-mov-apart mov (ap is_b (sym same) ∙ b_is) mov_is)
call-same bytes at xs ys a (by_braa mov braa mov_is braa_is e) c (by_b d d_is f) =
    let same : mov ≡ d = same_Some mov d
    (sym (fifth-of bytes at mov xs (braa ∷ []) a e) ∙ fifth-of bytes at d ys [] c f) in
    absurd (b-mov-apart mov (ap is_b same ∙ d_is) mov_is)
call-same bytes at xs ys a (by_braa mov braa mov_is braa_is e) c (by_braa mov' braa' mov_is' braa_is' f) =
    let one = moved bytes at xs (check_words ++ mov ∷ braa ∷ []) e a in
    let two = moved bytes at ys (check_words ++ mov' ∷ braa' ∷ []) f c in
    let same : mov ≡ mov' = same_Some mov mov' (sym one.1.1.1.1.0 ∙ two.1.1.1.1.0) in
    let later : braa ≡ braa' = same_Some braa braa' (sym one.1.1.1.1.1.0 ∙ two.1.1.1.1.1.0) in
    e ∙ ap (λ w. check_words ++ w ∷ braa ∷ []) same ∙ ap (λ w. check_words ++ mov' ∷ w ∷ []) later ∙ sym f

pub call-short : (words : List ℕ) → IsAuthenticatedCall words → length words ≤ 6
call-short words (by_b b b_is e) = let n : length words ≡ 5 = ap length e in omega arith
call-short words (by_braa mov braa mov_is braa_is e) = let n : length words ≡ 6 = ap length e in omega arith

-- a word inside a call can stand at its place
b-places : (k b : ℕ) → is_b b ≡ true → k < 5 → is_call_word k (slice_index (check_words ++ b ∷ []) k) ≡ true
b-places zero b is below = refl
b-places (suc zero) b is below = refl
b-places (suc (suc zero)) b is below = refl
b-places (suc (suc (suc zero))) b is below = refl
b-places (suc (suc (suc (suc zero)))) b is below = ap (λ t. t || is_mov b) is
b-places (suc (suc (suc (suc (suc k))))) b is below = absurd (omega arith)

braa-places : (k mov braa : ℕ) → is_mov mov ≡ true → is_braa braa ≡ true → k < 6
    → is_call_word k (slice_index (check_words ++ mov ∷ braa ∷ []) k) ≡ true
braa-places zero mov braa is later below = refl
braa-places (suc zero) mov braa is later below = refl
braa-places (suc (suc zero)) mov braa is later below = refl
braa-places (suc (suc (suc zero))) mov braa is later below = refl
braa-places (suc (suc (suc (suc zero)))) mov braa is later below = or_right (is_b mov) (is_mov mov) is
braa-places (suc (suc (suc (suc (suc zero))))) mov braa is later below = later
braa-places (suc (suc (suc (suc (suc (suc k)))))) mov braa is later below = absurd (omega arith)

call-places : (k : ℕ) (words : List ℕ) → IsAuthenticatedCall words → k < length words
    → is_call_word k (slice_index words k) ≡ true
call-places k words (by_b b b_is e) below =
    let n : length words ≡ 5 = ap length e in
    ap (λ ws. is_call_word k (slice_index ws k)) e ∙ b-places k b b_is (omega arith)
call-places k words (by_braa mov braa mov_is braa_is e) below =
    let n : length words ≡ 6 = ap length e in
    ap (λ ws. is_call_word k (slice_index ws k)) e ∙ braa-places k mov braa mov_is braa_is (omega arith)

pub call-word : (text : List ℕ) (pc k word : ℕ) → IsInsideCallAfter text pc k → Some word ≡ word_at text pc
    → is_call_word k word ≡ true
call-word text pc k word i e =
    let nth = stand-nth text i.start k i.words i.stands i.inside in
    let same : word ≡ slice_index i.words k = same_Some _ _ (e ∙ ap (word_at text) i.place ∙ nth) in
    ap (is_call_word k) same ∙ call-places k i.words i.call i.inside

-- ---- ends

first-of : (text : List ℕ) (at w word : ℕ) (words rest : List ℕ) → AreWordsAt text at words → words ≡ w ∷ rest
    → word_at text at ≡ Some word → word ≡ w
first-of text at w word words rest stands e there =
    same_Some word w (sym there ∙ (moved text at words (w ∷ rest) e stands).0)

call-not-restoring : (text : List ℕ) (at word : ℕ) (words : List ℕ) → IsAuthenticatedCall words
    → AreWordsAt text at words → word_at text at ≡ Some word → is_restoring word ≡ false
call-not-restoring text at word words (by_b b b_is e) stands there =
    ap is_restoring (first-of text at 0xD50323FF word words _ stands e there)
call-not-restoring text at word words (by_braa mov braa mov_is braa_is e) stands there =
    ap is_restoring (first-of text at 0xD50323FF word words _ stands e there)

-- what an epilogue ends with does not restore
pub end-not-restoring : (text : List ℕ) (at word : ℕ) (by : ℤ) (words : List ℕ) → IsEnd by words
    → AreWordsAt text at words → word_at text at ≡ Some word → is_restoring word ≡ false
end-not-restoring text at word by words (returns w is e) stands there =
    ap is_restoring (first-of text at w word words [] stands e there) ∙ branch-not-restoring w (return-branch w is)
end-not-restoring text at word by words (branches w is apart e) stands there =
    ap is_restoring (first-of text at w word words [] stands e there) ∙ branch-not-restoring w (b-branch w is)
end-not-restoring text at word by words (calls call) stands there =
    call-not-restoring text at word words call stands there
