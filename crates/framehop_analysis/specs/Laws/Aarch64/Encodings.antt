-- The words by which the analysis reads an instruction read what the machine does: a run of the machine is one of those
-- words, and the other way round.
use Rattle.std.proofs.Common.{◌≡◌, ◌≢◌, inl, inr, ℕ, zero, suc, ◌+◌, ◌*◌, ◌/◌, ◌%◌, ◌^◌, ◌<◌, ◌≤◌, ℤ, pos, ◌-ℤ◌, ◌*ℤ◌, Bool, true, false, not, ◌&&◌, ◌||◌, ◌==◌, nat_lt, if◌then◌else◌, List, [], ◌∷◌, length, Some, None, refl, sym, ap, ◌∙◌, subst, arith, bit_and, eq-eqb, nat_le}
use Rattle.std.specs.Prelude.{slice_index}
use Rattle.std.proofs.lemmas.Int.{ints}
use Rattle.std.proofs.lemmas.Nat.{and_le_r, shr-shr}
use Rattle.std.proofs.lemmas.Option.{same_Some, slice_get_within, slice_get-get_or, get_or_from_slice_get}
use Rattle.std.proofs.lemmas.Bool.{eqb-true, and_parts, and_from, or_cases, or_left, or_right, false_from_ne_true, le-leb, leb-true}
use Rattle.framehop_core.specs.Bits.{bits_at}
use Rattle.framehop_analysis.specs.Aarch64.Words.{word_at, is_store, is_load, is_sub_sp, is_add_sp, is_signing, is_pacibsp, is_autibsp, is_other, is_return, is_b, is_br, is_braa, is_mov, is_check, is_branch, is_pair_by_sp, addressing, base_register, pair_offset, first_register, second_register, immediate}
use Rattle.framehop_analysis.specs.Aarch64.Machine.{State, Signs, IsInstructionAt, field, sign_extended, Access, IsPair, IsAddSub, IsSigning, pacibsp, autibsp, IsOther, ret, retab, b, br, braa, mov, eor, tbz, brk, IsBranch, by_store, by_load, by_add, by_sub, by_signing, by_other, with_sp_moved}
use Rattle.framehop_analysis.specs.Aarch64.Machine as machine
use Rattle.framehop_analysis.specs.Aarch64.Prologue.{IsRun}
use Rattle.framehop_analysis.specs.Laws.Aarch64.Shapes.{Step, Run, RunOut}
use Rattle.framehop_analysis.specs.Laws.Aarch64.Masks.{kept, dropped}
use Rattle.framehop_analysis.specs.Laws.Aarch64.Apart.{store-step, load-step, sub-step, add-step, signing-step, other-step}

-- ---- where an instruction is

chosen : (whole : Bool) (found word : ℕ) → whole ≡ true → found ≡ word
    → (if whole then Some found else None) ≡ Some word
chosen true found word is same = ap Some same
chosen false found word is same = cc

chosen-some : (whole : Bool) (found word : ℕ) → (if whole then Some found else None) ≡ Some word
    → (whole ≡ true) × (found ≡ word)
chosen-some true found word e = (refl, same_Some found word e)
chosen-some false found word e = cc

pub instruction-word : (bytes : List ℕ) (at word : ℕ) → IsInstructionAt bytes at word → word_at bytes at ≡ Some word
instruction-word bytes at word i =
    let within = slice_get_within bytes (at + 3) i.fourth i.fourth_is in
    let first = get_or_from_slice_get bytes at i.first 0 i.first_is in
    let second = get_or_from_slice_get bytes (at + 1) i.second 0 i.second_is in
    let third = get_or_from_slice_get bytes (at + 2) i.third 0 i.third_is in
    let fourth = get_or_from_slice_get bytes (at + 3) i.fourth 0 i.fourth_is in
    let word_is = i.word_is in
    chosen (nat_le (at + 4) (length bytes)) _ word (le-leb (at + 4) (length bytes) (omega arith)) (omega arith)

pub word-instruction : (bytes : List ℕ) (at word : ℕ) → word_at bytes at ≡ Some word → IsInstructionAt bytes at word
word-instruction bytes at word e =
    let found = chosen-some (nat_le (at + 4) (length bytes)) _ word e in
    let within : at + 4 ≤ length bytes = leb-true (at + 4) (length bytes) found.0 in
    record {
      first = slice_index bytes at;
      second = slice_index bytes (at + 1);
      third = slice_index bytes (at + 2);
      fourth = slice_index bytes (at + 3);
      first_is = slice_get-get_or bytes at 0 (omega arith);
      second_is = slice_get-get_or bytes (at + 1) 0 (omega arith);
      third_is = slice_get-get_or bytes (at + 2) 0 (omega arith);
      fourth_is = slice_get-get_or bytes (at + 3) 0 (omega arith);
      word_is = sym found.1;
    }

-- the lowest five bits
lowest-is : (word : ℕ) → word % 2 ^ 5 ≡ field word 4 0
lowest-is word = omega arith

lowest : (word number : ℕ) → (word % 2 ^ 5 == number) ≡ true → field word 4 0 ≡ number
lowest word number e = sym (lowest-is word) ∙ eqb-true (word % 2 ^ 5) number e

lowest-test : (word number : ℕ) → field word 4 0 ≡ number → (word % 2 ^ 5 == number) ≡ true
lowest-test word number e = eq-eqb (word % 2 ^ 5) number (lowest-is word ∙ e)

-- ---- pair accesses

abbrev pub access : ℕ → ℤ → ℕ → ℕ → Access
access mode offset first second = record { mode = mode; offset = offset; first = first; second = second }

abbrev pub access_of : ℕ → Access
access_of word = access (addressing word) (pair_offset word) (first_register word) (second_register word)

scaled : (small : Bool) (units : ℕ) → (if small then pos (units * 8) else pos (units * 8) -ℤ pos 1024)
    ≡ (if small then pos units else pos units -ℤ pos 128) *ℤ pos 8
scaled true units = omega (arith, ints)
scaled false units = omega (arith, ints)

pair_offset-is : (word : ℕ) → pair_offset word ≡ sign_extended 7 (field word 21 15) *ℤ pos 8
pair_offset-is word = scaled (nat_lt (field word 21 15) 64) (field word 21 15)

-- the bits that the test of a pair access reads
masked-pair : (word load : ℕ) → load < 2 → bit_and (word / 2 ^ 22) 0x2F9 ≡ 0x2A0 + load
    → (field word 31 31 ≡ 1) × (field word 29 25 ≡ 0x14) × (field word 22 22 ≡ load)
masked-pair word load fits e =
    let top = kept (word / 2 ^ 22) 0x2F9 9 1 refl in
    let class = kept (word / 2 ^ 22) 0x2F9 3 5 refl in
    let l = kept (word / 2 ^ 22) 0x2F9 0 1 refl in
    let n = bit_and (word / 2 ^ 22) 0x2F9 in
    let first : n / 2 ^ 9 % 2 ^ 1 ≡ 1 = rw e (omega arith) in
    let second : n / 2 ^ 3 % 2 ^ 5 ≡ 0x14 = rw e (omega arith) in
    let third : n / 2 ^ 0 % 2 ^ 1 ≡ load = rw e (omega arith) in (
      ap (λ m. m % 2 ^ 1) (sym (shr-shr word 22 9)) ∙ sym top ∙ first,
      ap (λ m. m % 2 ^ 5) (sym (shr-shr word 22 3)) ∙ sym class ∙ second,
      ap (λ m. m % 2 ^ 1) (sym (shr-shr word 22 0)) ∙ sym l ∙ third,
    )

pair-masked : (word load : ℕ) → load < 2 → field word 31 31 ≡ 1 → field word 29 25 ≡ 0x14 → field word 22 22 ≡ load
    → bit_and (word / 2 ^ 22) 0x2F9 ≡ 0x2A0 + load
pair-masked word load fits top_is class_is l_is =
    let x = word / 2 ^ 22 in
    let n = bit_and x 0x2F9 in
    let most : n ≤ 0x2F9 = and_le_r x 0x2F9 in
    let top : n / 2 ^ 9 % 2 ^ 1 ≡ 1 = kept x 0x2F9 9 1 refl ∙ ap (λ m. m % 2 ^ 1) (shr-shr word 22 9) ∙ top_is in
    let eighth : n / 2 ^ 8 % 2 ^ 1 ≡ 0 = dropped x 0x2F9 8 1 refl in
    let class : n / 2 ^ 3 % 2 ^ 5 ≡ 0x14 = kept x 0x2F9 3 5 refl ∙ ap (λ m. m % 2 ^ 5) (shr-shr word 22 3) ∙ class_is in
    let mode : n / 2 ^ 1 % 2 ^ 2 ≡ 0 = dropped x 0x2F9 1 2 refl in
    let l : n / 2 ^ 0 % 2 ^ 1 ≡ load = kept x 0x2F9 0 1 refl ∙ ap (λ m. m % 2 ^ 1) (shr-shr word 22 0) ∙ l_is in
    omega arith

shape-pair : (word load : ℕ) → load < 2
    → ((bit_and (word / 2 ^ 22) 0x2F9 == 0x2A0 + load) && is_pair_by_sp word) ≡ true → IsPair load word (access_of word)
shape-pair word load fits e =
    let both = and_parts _ _ e in
    let by_sp = and_parts (not (addressing word == 0)) (base_register word == 31) both.1 in
    let bits = masked-pair word load fits (eqb-true _ _ both.0) in
    record {
      opc = bits.0;
      class = bits.1;
      mode_is = refl;
      mode_known = λ none. (let zero : (addressing word == 0) ≡ true = ap (λ n. n == 0) none in let t = by_sp.0 in cc);
      l = bits.2;
      imm7 = pair_offset-is word;
      rt2 = refl;
      rn = eqb-true _ _ by_sp.1;
      rt = lowest-is word;
    }

not-zero : (n : ℕ) → n ≢ 0 → not (n == 0) ≡ true
not-zero n apart = ap not (false_from_ne_true (n == 0) (λ zero. apart (eqb-true n 0 zero)))

pair-shape : (word load : ℕ) (a : Access) → load < 2 → IsPair load word a
    → ((bit_and (word / 2 ^ 22) 0x2F9 == 0x2A0 + load) && is_pair_by_sp word) ≡ true
pair-shape word load a fits p =
    and_from _ _ (eq-eqb (bit_and (word / 2 ^ 22) 0x2F9) (0x2A0 + load) (pair-masked word load fits p.opc p.class p.l))
    (and_from (not (addressing word == 0)) (base_register word == 31)
    (not-zero (addressing word) (λ none. p.mode_known (p.mode_is ∙ none))) (eq-eqb (base_register word) 31 p.rn))

pair-access : (word load : ℕ) (a : Access) → IsPair load word a → a ≡ access_of word
pair-access word load a p =
    let offset : a.offset ≡ pair_offset word = p.imm7 ∙ sym (pair_offset-is word) in
    let first : a.first ≡ first_register word = p.rt ∙ sym (lowest-is word) in
    ap (λ m. access m a.offset a.first a.second) p.mode_is
    ∙ ap (λ o. access (addressing word) o a.first a.second) offset
    ∙ ap (λ f. access (addressing word) (pair_offset word) f a.second) first
    ∙ ap (λ s. access (addressing word) (pair_offset word) (first_register word) s) p.rt2

-- ---- ADD and SUB

shifted : (sh : Bool) (imm : ℕ) → (if sh then imm * 4096 else imm) ≡ imm * (if sh then 2 ^ 12 else 1)
shifted true imm = refl
shifted false imm = omega arith

immediate-is : (word : ℕ) → immediate word ≡ field word 21 10 * (if field word 22 22 == 1 then 2 ^ 12 else 1)
immediate-is word = shifted (field word 22 22 == 1) (field word 21 10)

shape-add : (word : ℕ) → is_add_sp word ≡ true → IsAddSub 0 word (immediate word)
shape-add word e =
    let both = and_parts _ _ e in let first = and_parts _ _ both.0 in
    record { opcode = eqb-true _ _ first.0; imm12 = immediate-is word; rn = eqb-true _ _ first.1; rd = lowest word 31 both.1 }

shape-sub : (word : ℕ) → is_sub_sp word ≡ true → IsAddSub 1 word (immediate word)
shape-sub word e =
    let both = and_parts _ _ e in let first = and_parts _ _ both.0 in
    record { opcode = eqb-true _ _ first.0; imm12 = immediate-is word; rn = eqb-true _ _ first.1; rd = lowest word 31 both.1 }

add-shape : (word bytes : ℕ) → IsAddSub 0 word bytes → is_add_sp word ≡ true
add-shape word bytes a =
    and_from _ _ (and_from _ _ (ap (λ n. n == 0x122) a.opcode) (ap (λ n. n == 31) a.rn)) (lowest-test word 31 a.rd)

sub-shape : (word bytes : ℕ) → IsAddSub 1 word bytes → is_sub_sp word ≡ true
sub-shape word bytes a =
    and_from _ _ (and_from _ _ (ap (λ n. n == 0x1A2) a.opcode) (ap (λ n. n == 31) a.rn)) (lowest-test word 31 a.rd)

-- ---- signing, and the others

shape-signing : (word : ℕ) → is_signing word ≡ true → IsSigning word
shape-signing word e = elim (or_cases (is_pacibsp word) (is_autibsp word) e) [
  | inl pac ↦ pacibsp (eqb-true _ _ pac)
  | inr aut ↦ autibsp (eqb-true _ _ aut)
]

signing-shape : (word : ℕ) → IsSigning word → is_signing word ≡ true
signing-shape word (pacibsp e) = ap is_signing e
signing-shape word (autibsp e) = ap is_signing e

shape-br : (word : ℕ) → is_br word ≡ true → IsOther word
shape-br word e =
    let is : bit_and word 0xFFFFFC1F ≡ 0xD61F0000 = eqb-true _ _ e in
    br (sym (kept word 0xFFFFFC1F 10 22 refl) ∙ ap (λ n. n / 2 ^ 10 % 2 ^ 22) is)
    (sym (kept word 0xFFFFFC1F 0 5 refl) ∙ ap (λ n. n / 2 ^ 0 % 2 ^ 5) is)

br-shape : (word : ℕ) → field word 31 10 ≡ 0x3587C0 → field word 4 0 ≡ 0 → is_br word ≡ true
br-shape word high low =
    let n = bit_and word 0xFFFFFC1F in
    let most : n ≤ 0xFFFFFC1F = and_le_r word 0xFFFFFC1F in
    let first : n / 2 ^ 10 % 2 ^ 22 ≡ 0x3587C0 = kept word 0xFFFFFC1F 10 22 refl ∙ high in
    let second : n / 2 ^ 5 % 2 ^ 5 ≡ 0 = dropped word 0xFFFFFC1F 5 5 refl in
    let third : n / 2 ^ 0 % 2 ^ 5 ≡ 0 = kept word 0xFFFFFC1F 0 5 refl ∙ low in
    let is : n ≡ 0xD61F0000 = omega arith in
    ap (λ m. m == 0xD61F0000) is

shape-braa : (word : ℕ) → is_braa word ≡ true → IsOther word
shape-braa word e =
    let both = and_parts _ _ e in
    let is : bit_and word 0xFFFFFC00 ≡ 0xD71F0800 = eqb-true _ _ both.0 in
    braa (sym (kept word 0xFFFFFC00 10 22 refl) ∙ ap (λ n. n / 2 ^ 10 % 2 ^ 22) is) (lowest word 16 both.1)

braa-shape : (word : ℕ) → field word 31 10 ≡ 0x35C7C2 → field word 4 0 ≡ 16 → is_braa word ≡ true
braa-shape word high low =
    let n = bit_and word 0xFFFFFC00 in
    let most : n ≤ 0xFFFFFC00 = and_le_r word 0xFFFFFC00 in
    let first : n / 2 ^ 10 % 2 ^ 22 ≡ 0x35C7C2 = kept word 0xFFFFFC00 10 22 refl ∙ high in
    let second : n / 2 ^ 0 % 2 ^ 10 ≡ 0 = dropped word 0xFFFFFC00 0 10 refl in
    let is : n ≡ 0xD71F0800 = omega arith in
    and_from _ _ (ap (λ m. m == 0xD71F0800) is) (lowest-test word 16 low)

shape-mov : (word : ℕ) → is_mov word ≡ true → IsOther word
shape-mov word e =
    let both = and_parts _ _ e in
    let x = word / 2 ^ 23 in
    let is : bit_and x 0x1C7 ≡ 0x185 = eqb-true _ _ both.0 in
    mov (ap (λ m. m % 2 ^ 3) (sym (shr-shr word 23 6)) ∙ sym (kept x 0x1C7 6 3 refl) ∙ ap (λ n. n / 2 ^ 6 % 2 ^ 3) is)
    (ap (λ m. m % 2 ^ 3) (sym (shr-shr word 23 0)) ∙ sym (kept x 0x1C7 0 3 refl) ∙ ap (λ n. n / 2 ^ 0 % 2 ^ 3) is)
    (lowest word 16 both.1)

mov-shape : (word : ℕ) → field word 31 29 ≡ 6 → field word 25 23 ≡ 5 → field word 4 0 ≡ 16 → is_mov word ≡ true
mov-shape word high low register =
    let x = word / 2 ^ 23 in
    let n = bit_and x 0x1C7 in
    let most : n ≤ 0x1C7 = and_le_r x 0x1C7 in
    let first : n / 2 ^ 6 % 2 ^ 3 ≡ 6 = kept x 0x1C7 6 3 refl ∙ ap (λ m. m % 2 ^ 3) (shr-shr word 23 6) ∙ high in
    let second : n / 2 ^ 3 % 2 ^ 3 ≡ 0 = dropped x 0x1C7 3 3 refl in
    let third : n / 2 ^ 0 % 2 ^ 3 ≡ 5 = kept x 0x1C7 0 3 refl ∙ ap (λ m. m % 2 ^ 3) (shr-shr word 23 0) ∙ low in
    let is : n ≡ 0x185 = omega arith in
    and_from _ _ (ap (λ m. m == 0x185) is) (lowest-test word 16 register)

shape-check : (word : ℕ) → is_check word ≡ true → IsOther word
shape-check word e = elim (or_cases ((word == 0xCA1E07D0) || (word == 0xB6F00050)) (word == 0xD4388E20) e) [
  | inl two ↦ elim (or_cases (word == 0xCA1E07D0) (word == 0xB6F00050) two) [
    | inl first ↦ eor (eqb-true _ _ first)
    | inr second ↦ tbz (eqb-true _ _ second)
  ]
  | inr third ↦ brk (eqb-true _ _ third)
]

shape-return : (word : ℕ) → is_return word ≡ true → IsOther word
shape-return word e = elim (or_cases (word == 0xD65F03C0) (word == 0xD65F0FFF) e) [
  | inl first ↦ ret (eqb-true _ _ first)
  | inr second ↦ retab (eqb-true _ _ second)
]

shape-other : (word : ℕ) → is_other word ≡ true → IsOther word
shape-other word e = elim (or_cases _ (is_check word) e) [
  | inr check ↦ shape-check word check
  | inl five ↦ elim (or_cases _ (is_mov word) five) [
    | inr moves ↦ shape-mov word moves
    | inl four ↦ elim (or_cases _ (is_braa word) four) [
      | inr authenticated ↦ shape-braa word authenticated
      | inl three ↦ elim (or_cases _ (is_br word) three) [
        | inr register ↦ shape-br word register
        | inl two ↦ elim (or_cases (is_return word) (is_b word) two) [
          | inl return ↦ shape-return word return
          | inr branch ↦ b (eqb-true _ _ branch)
        ]
      ]
    ]
  ]
]

other-shape : (word : ℕ) → IsOther word → is_other word ≡ true
other-shape word (ret e) = ap is_other e
other-shape word (retab e) = ap is_other e
other-shape word (eor e) = ap is_other e
other-shape word (tbz e) = ap is_other e
other-shape word (brk e) = ap is_other e
other-shape word (b e) =
    or_left _ (is_check word) (or_left _ (is_mov word) (or_left _ (is_braa word) (or_left _ (is_br word)
    (or_right (is_return word) (is_b word) (ap (λ n. n == 5) e)))))
other-shape word (br high low) =
    or_left _ (is_check word) (or_left _ (is_mov word) (or_left _ (is_braa word)
    (or_right (is_return word || is_b word) (is_br word) (br-shape word high low))))
other-shape word (braa high low) =
    or_left _ (is_check word) (or_left _ (is_mov word)
    (or_right (is_return word || is_b word || is_br word) (is_braa word) (braa-shape word high low)))
other-shape word (mov high low register) =
    or_left _ (is_check word)
    (or_right (is_return word || is_b word || is_br word || is_braa word) (is_mov word)
    (mov-shape word high low register))

-- ---- branches

branch-shape : (word : ℕ) → IsBranch word → is_branch word ≡ true
branch-shape word (inl e) = or_left (is_b word) (bits_at word 25 7 == 0x6B) (ap (λ n. n == 5) e)
branch-shape word (inr e) = or_right (is_b word) (bits_at word 25 7 == 0x6B) (ap (λ n. n == 0x6B) e)

shape-branch : (word : ℕ) → is_branch word ≡ true → IsBranch word
shape-branch word e = elim (or_cases (is_b word) (bits_at word 25 7 == 0x6B) e) [
  | inl branch ↦ inl (eqb-true _ _ branch)
  | inr register ↦ inr (eqb-true _ _ register)
]

-- ---- steps

step-shape : (mask word : ℕ) (s t : State) → machine.Step mask word s t → Step mask word s t
step-shape mask word s t (by_store a pair is) =
    let P : Access → Type 0 = λ x. t ≡ record s { sp = machine.sp_after_access x s.sp; memory = t.memory } in
    store-step mask word s t (pair-shape word 0 a (omega arith) pair) (subst P (pair-access word 0 a pair) is)
step-shape mask word s t (by_load a pair is) =
    let P : Access → Type 0 = λ x. t ≡ machine.after_load x s in
    load-step mask word s t (pair-shape word 1 a (omega arith) pair) (subst P (pair-access word 1 a pair) is)
step-shape mask word s t (by_add bytes add is) =
    let P : ℕ → Type 0 = λ n. t ≡ with_sp_moved s (pos n) in
    add-step mask word s t (add-shape word bytes add) (subst P (add.imm12 ∙ sym (immediate-is word)) is)
step-shape mask word s t (by_sub bytes sub is) =
    let P : ℕ → Type 0 = λ n. t ≡ with_sp_moved s (pos 0 -ℤ pos n) in
    sub-step mask word s t (sub-shape word bytes sub) (subst P (sub.imm12 ∙ sym (immediate-is word)) is)
step-shape mask word s t (by_signing sign signs) = signing-step mask word s t (signing-shape word sign) signs
step-shape mask word s t (by_other other is) = other-step mask word s t (other-shape word other) is

shape-step : (mask word : ℕ) (s t : State) → Step mask word s t → machine.Step mask word s t
shape-step mask word s t step = elim (or_cases _ (is_other word) step.known) [
  | inr other ↦ by_other (shape-other word other) (step.others other)
  | inl five ↦ elim (or_cases _ (is_signing word) five) [
    | inr sign ↦ by_signing (shape-signing word sign) (step.signs sign)
    | inl four ↦ elim (or_cases _ (is_add_sp word) four) [
      | inr add ↦ by_add (immediate word) (shape-add word add) (step.adds add)
      | inl three ↦ elim (or_cases _ (is_sub_sp word) three) [
        | inr sub ↦ by_sub (immediate word) (shape-sub word sub) (step.subs sub)
        | inl two ↦ elim (or_cases (is_store word) (is_load word) two) [
          | inl store ↦ by_store (access_of word) (shape-pair word 0 (omega arith) store) (step.stores store)
          | inr load ↦ by_load (access_of word) (shape-pair word 1 (omega arith) load) (step.loads load)
        ]
      ]
    ]
  ]
]

-- ---- runs

-- a run of the machine over the bytes of a prologue's run
pub run-shape : (mask : ℕ) (bytes : List ℕ) (at : ℕ) (run : List ℕ) (s t : State) → IsRun bytes at run
    → machine.Run mask bytes (length run) at s t → Run mask run s t
run-shape mask bytes at [] s t stands e = e
run-shape mask bytes at (word ∷ run) s t stands (w, there, next, step, rest) =
    let same : w ≡ word = same_Some w word (sym (instruction-word bytes at w there) ∙ stands.0) in
    let P : ℕ → Type 0 = λ v. Step mask v s next in
    (next, subst P same (step-shape mask w s next step), run-shape mask bytes (at + 4) run next t stands.2 rest)

pub shape-run : (mask : ℕ) (bytes : List ℕ) (at : ℕ) (run : List ℕ) (s t : State) → IsRun bytes at run
    → Run mask run s t → machine.Run mask bytes (length run) at s t
shape-run mask bytes at [] s t stands e = e
shape-run mask bytes at (word ∷ run) s t stands (next, step, rest) = (
  word,
  word-instruction bytes at word stands.0,
  next,
  shape-step mask word s next step,
  shape-run mask bytes (at + 4) run next t stands.2 rest,
)

pub run_out-shape : (mask : ℕ) (bytes : List ℕ) (count at : ℕ) (s t : State) → machine.RunOut mask bytes count at s t
    → RunOut mask bytes count at s t
run_out-shape mask bytes zero at s t (word, there, branch, step) =
    (word, instruction-word bytes at word there, branch-shape word branch, step-shape mask word s t step)
run_out-shape mask bytes (suc count) at s t (word, there, none, next, step, rest) = (
  word,
  instruction-word bytes at word there,
  false_from_ne_true (is_branch word) (λ branch. none (shape-branch word branch)),
  next,
  step-shape mask word s next step,
  run_out-shape mask bytes count (at + 4) next t rest,
)

pub shape-run_out : (mask : ℕ) (bytes : List ℕ) (count at : ℕ) (s t : State) → RunOut mask bytes count at s t
    → machine.RunOut mask bytes count at s t
shape-run_out mask bytes zero at s t (word, there, branch, step) =
    (word, word-instruction bytes at word there, shape-branch word branch, shape-step mask word s t step)
shape-run_out mask bytes (suc count) at s t (word, there, none, next, step, rest) = (
  word,
  word-instruction bytes at word there,
  λ branch. (let t = branch-shape word branch in cc),
  next,
  shape-step mask word s next step,
  shape-run_out mask bytes count (at + 4) next t rest,
)
