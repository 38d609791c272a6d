-- aarch64: no instruction has two shapes, and the steps of each shape.
use Rattle.std.proofs.Common.{◌≡◌, ◌≢◌, inl, inr, ℕ, ◌/◌, ◌%◌, ◌^◌, pos, ◌-ℤ◌, true, false, ◌||◌, ◌==◌, refl, sym, ap, ◌∙◌, subst, arith, bit_and}
use Rattle.std.proofs.lemmas.Nat.{and_assoc, and_shr, and_mod, shr-shr}
use Rattle.std.proofs.lemmas.Bool.{eqb-true, and_parts, or_cases, or_left, or_right}
use Rattle.framehop_core.specs.Bits.{bits_at}
use Rattle.framehop_analysis.specs.Aarch64.Words.{is_store, is_load, is_sub_sp, is_add_sp, is_signing, is_pacibsp, is_autibsp, is_other, is_b, is_mov, is_check, is_branch, immediate}
use Rattle.framehop_analysis.specs.Aarch64.Machine.{State, Signs, with_sp_moved}
use Rattle.framehop_analysis.specs.Laws.Aarch64.Shapes.{Step, sp_after_access, after_load}
use Rattle.framehop_analysis.specs.Laws.Aarch64.Calls.{pair-high, load-high, b-high, branch-high}

-- ---- words of different shapes

sub-high : (word : ℕ) → is_sub_sp word ≡ true → bits_at word 25 7 ≡ 0x68
sub-high word e =
    let code : word / 2 ^ 23 % 2 ^ 9 ≡ 0x1A2 = eqb-true _ _ (and_parts _ _ (and_parts _ _ e).0).0 in
    let split = shr-shr word 23 2 in omega arith

add-high : (word : ℕ) → is_add_sp word ≡ true → bits_at word 25 7 ≡ 0x48
add-high word e =
    let code : word / 2 ^ 23 % 2 ^ 9 ≡ 0x122 = eqb-true _ _ (and_parts _ _ (and_parts _ _ e).0).0 in
    let split = shr-shr word 23 2 in omega arith

store-high : (word : ℕ) → is_store word ≡ true → bit_and (bits_at word 25 7) 0x5F ≡ 0x54
store-high word e = pair-high word 0x2A0 (eqb-true _ _ (and_parts _ _ e).0) refl

store-load : (word : ℕ) → is_store word ≡ true → is_load word ≡ true → ⊥
store-load word store load =
    let a : bit_and (word / 2 ^ 22) 0x2F9 ≡ 0x2A0 = eqb-true _ _ (and_parts _ _ store).0 in
    let b : bit_and (word / 2 ^ 22) 0x2F9 ≡ 0x2A1 = eqb-true _ _ (and_parts _ _ load).0 in omega arith

-- the highest bits are none of those of a pair access, a `sub` or an `add`
record IsApart (high : ℕ) : Type 0 where
  pair : bit_and high 0x5F ≢ 0x54
  sub : high ≢ 0x68
  add : high ≢ 0x48

apart-number : (word high : ℕ) → bits_at word 25 7 ≡ high → IsApart high → IsApart (bits_at word 25 7)
apart-number word high e a = let P : ℕ → Type 0 = IsApart in subst P (sym e) a

apart-word : (word literal : ℕ) → word ≡ literal → IsApart (bits_at literal 25 7) → IsApart (bits_at word 25 7)
apart-word word literal e a = apart-number word (bits_at literal 25 7) (ap (λ n. bits_at n 25 7) e) a

mov-apart : (word : ℕ) → is_mov word ≡ true → IsApart (bits_at word 25 7)
mov-apart word e =
    let high = bits_at word 25 7 in
    let field : bit_and (word / 2 ^ 23) 0x1C7 ≡ 0x185 = eqb-true _ _ (and_parts _ _ e).0 in
    let shifted : bit_and (word / 2 ^ 25) 0x71 ≡ 0x61 =
    ap (λ n. bit_and n 0x71) (sym (shr-shr word 23 2)) ∙ sym (and_shr (word / 2 ^ 23) 0x1C7 2)
    ∙ ap (λ n. n / 2 ^ 2) field in
    let bits : bit_and high 0x71 ≡ 0x61 = sym (and_mod (word / 2 ^ 25) 0x71 7) ∙ ap (λ n. n % 2 ^ 7) shifted in
    let fifth : bit_and high 0x10 ≡ 0 = sym (and_assoc 0x10 high 0x71) ∙ ap (λ n. bit_and n 0x10) bits in
    record {
      pair = λ pair.
          (let other : bit_and high 0x10 ≡ 0x10 = sym (and_assoc 0x10 high 0x5F) ∙ ap (λ n. bit_and n 0x10) pair in
          omega arith);
      sub = λ sub. (let other : 0x60 ≡ 0x61 = ap (λ n. bit_and n 0x71) (sym sub) ∙ bits in omega arith);
      add = λ add. (let other : 0x40 ≡ 0x61 = ap (λ n. bit_and n 0x71) (sym add) ∙ bits in omega arith);
    }

numeral : (high : ℕ) → (bit_and high 0x5F == 0x54) ≡ false → (high == 0x68) ≡ false → (high == 0x48) ≡ false
    → IsApart high
numeral high a b c = record {
  pair = λ e. (let t = ap (λ n. n == 0x54) e in cc);
  sub = λ e. (let t = ap (λ n. n == 0x68) e in cc);
  add = λ e. (let t = ap (λ n. n == 0x48) e in cc);
}

b-apart : (word : ℕ) → is_b word ≡ true → IsApart (bits_at word 25 7)
b-apart word b = elim (b-high word b) [
  | inl ten ↦ apart-number word 10 ten (numeral 10 refl refl refl)
  | inr eleven ↦ apart-number word 11 eleven (numeral 11 refl refl refl)
]

branch-apart : (word : ℕ) → is_branch word ≡ true → IsApart (bits_at word 25 7)
branch-apart word e = elim (or_cases (is_b word) (bits_at word 25 7 == 0x6B) e) [
  | inl b ↦ b-apart word b
  | inr register ↦ apart-number word 107 (eqb-true _ _ register) (numeral 107 refl refl refl)
]

check-apart : (word : ℕ) → is_check word ≡ true → IsApart (bits_at word 25 7)
check-apart word e = elim (or_cases ((word == 0xCA1E07D0) || (word == 0xB6F00050)) (word == 0xD4388E20) e) [
  | inl two ↦ elim (or_cases (word == 0xCA1E07D0) (word == 0xB6F00050) two) [
    | inl eor ↦ apart-word word 0xCA1E07D0 (eqb-true _ _ eor) (numeral _ refl refl refl)
    | inr tbz ↦ apart-word word 0xB6F00050 (eqb-true _ _ tbz) (numeral _ refl refl refl)
  ]
  | inr brk ↦ apart-word word 0xD4388E20 (eqb-true _ _ brk) (numeral _ refl refl refl)
]

other-apart : (word : ℕ) → is_other word ≡ true → IsApart (bits_at word 25 7)
other-apart word e = elim (or_cases _ (is_check word) e) [
  | inr check ↦ check-apart word check
  | inl five ↦ elim (or_cases _ (is_mov word) five) [
    | inr mov ↦ mov-apart word mov
    | inl four ↦ branch-apart word (branch-high word four)
  ]
]

signing-apart : (word : ℕ) → is_signing word ≡ true → IsApart (bits_at word 25 7)
signing-apart word e = elim (or_cases (is_pacibsp word) (is_autibsp word) e) [
  | inl pac ↦ apart-word word 0xD503237F (eqb-true _ _ pac) (numeral _ refl refl refl)
  | inr aut ↦ apart-word word 0xD50323FF (eqb-true _ _ aut) (numeral _ refl refl refl)
]

-- ---- steps

pub load-step : (mask word : ℕ) (s t : State) → is_load word ≡ true → t ≡ after_load word s → Step mask word s t
load-step mask word s t load is =
    let high = load-high word load in
    record {
      known = or_left _ _ (or_left _ _ (or_left _ _ (or_left _ _ (or_right (is_store word) (is_load word) load))));
      stores = λ store. absurd (store-load word store load);
      loads = λ l. is;
      subs = λ sub. absurd (let t : 0x48 ≡ 0x54 = ap (λ n. bit_and n 0x5F) (sym (sub-high word sub)) ∙ high in
          omega arith);
      adds = λ add. absurd (let t : 0x48 ≡ 0x54 = ap (λ n. bit_and n 0x5F) (sym (add-high word add)) ∙ high in
          omega arith);
      signs = λ sign. absurd ((signing-apart word sign).pair high);
      others = λ other. absurd ((other-apart word other).pair high);
    }

pub store-step : (mask word : ℕ) (s t : State) → is_store word ≡ true
    → t ≡ record s { sp = sp_after_access word s.sp; memory = t.memory } → Step mask word s t
store-step mask word s t store is =
    let high = store-high word store in
    record {
      known = or_left _ _ (or_left _ _ (or_left _ _ (or_left _ _ (or_left (is_store word) (is_load word) store))));
      stores = λ s. is;
      loads = λ load. absurd (store-load word store load);
      subs = λ sub. absurd (let t : 0x48 ≡ 0x54 = ap (λ n. bit_and n 0x5F) (sym (sub-high word sub)) ∙ high in
          omega arith);
      adds = λ add. absurd (let t : 0x48 ≡ 0x54 = ap (λ n. bit_and n 0x5F) (sym (add-high word add)) ∙ high in
          omega arith);
      signs = λ sign. absurd ((signing-apart word sign).pair high);
      others = λ other. absurd ((other-apart word other).pair high);
    }

pub sub-step : (mask word : ℕ) (s t : State) → is_sub_sp word ≡ true
    → t ≡ with_sp_moved s (pos 0 -ℤ pos (immediate word)) → Step mask word s t
sub-step mask word s t sub is =
    let high = sub-high word sub in
    record {
      known = or_left _ _ (or_left _ _ (or_left _ _ (or_right _ (is_sub_sp word) sub)));
      stores = λ store. absurd (let t : 0x48 ≡ 0x54 = ap (λ n. bit_and n 0x5F) (sym high) ∙ store-high word store in
          omega arith);
      loads = λ load. absurd (let t : 0x48 ≡ 0x54 = ap (λ n. bit_and n 0x5F) (sym high) ∙ load-high word load in
          omega arith);
      subs = λ s. is;
      adds = λ add. absurd (let t = add-high word add in omega arith);
      signs = λ sign. absurd ((signing-apart word sign).sub high);
      others = λ other. absurd ((other-apart word other).sub high);
    }

pub add-step : (mask word : ℕ) (s t : State) → is_add_sp word ≡ true → t ≡ with_sp_moved s (pos (immediate word))
    → Step mask word s t
add-step mask word s t add is =
    let high = add-high word add in
    record {
      known = or_left _ _ (or_left _ _ (or_right _ (is_add_sp word) add));
      stores = λ store. absurd (let t : 0x48 ≡ 0x54 = ap (λ n. bit_and n 0x5F) (sym high) ∙ store-high word store in
          omega arith);
      loads = λ load. absurd (let t : 0x48 ≡ 0x54 = ap (λ n. bit_and n 0x5F) (sym high) ∙ load-high word load in
          omega arith);
      subs = λ sub. absurd (let t = sub-high word sub in omega arith);
      adds = λ a. is;
      signs = λ sign. absurd ((signing-apart word sign).add high);
      others = λ other. absurd ((other-apart word other).add high);
    }

-- signing and authentication are no other instruction
signing-other : (word : ℕ) → is_signing word ≡ true → is_other word ≡ false
signing-other word e = elim (or_cases (is_pacibsp word) (is_autibsp word) e) [
  | inl pac ↦ ap is_other (eqb-true word 0xD503237F pac)
  | inr aut ↦ ap is_other (eqb-true word 0xD50323FF aut)
]

pub signing-step : (mask word : ℕ) (s t : State) → is_signing word ≡ true → Signs mask s t → Step mask word s t
signing-step mask word s t sign signs =
    let apart = signing-apart word sign in
    record {
      known = or_left _ _ (or_right _ (is_signing word) sign);
      stores = λ store. absurd (apart.pair (store-high word store));
      loads = λ load. absurd (apart.pair (load-high word load));
      subs = λ sub. absurd (apart.sub (sub-high word sub));
      adds = λ add. absurd (apart.add (add-high word add));
      signs = λ sign. signs;
      others = λ other. absurd (let no = signing-other word sign in cc);
    }

pub other-step : (mask word : ℕ) (s t : State) → is_other word ≡ true → t ≡ s → Step mask word s t
other-step mask word s t other is =
    let apart = other-apart word other in
    record {
      known = or_right _ (is_other word) other;
      stores = λ store. absurd (apart.pair (store-high word store));
      loads = λ load. absurd (apart.pair (load-high word load));
      subs = λ sub. absurd (apart.sub (sub-high word sub));
      adds = λ add. absurd (apart.add (add-high word add));
      signs = λ sign. absurd (let no = signing-other word sign in cc);
      others = λ other. is;
    }

-- an instruction that changes nothing
pub quiet-step : (mask word : ℕ) (s : State) → (is_signing word || is_other word) ≡ true → Step mask word s s
quiet-step mask word s e = elim (or_cases (is_signing word) (is_other word) e) [
  | inl sign ↦ signing-step mask word s s sign (record { others = refl; address = refl })
  | inr other ↦ other-step mask word s s other refl
]
