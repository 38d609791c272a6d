-- The machine of x86_64 at instructions that the analysis has read.
use Rattle.std.proofs.Common.{◌≡◌, ◌≢◌, ℕ, zero, suc, ◌+◌, ◌*◌, ◌/◌, ◌<◌, ◌≤◌, Bool, true, false, not, nat_eq, ◌==◌, List, slice_get, Some, refl, sym, ◌∙◌, subst, arith}
use Rattle.std.proofs.lemmas.Bool.Decides.{nat_tests}
use Rattle.std.proofs.lemmas.Bool.{eqb-true, and_parts}
use Rattle.std.proofs.lemmas.Option.{same_Some}
use Rattle.framehop_analysis.specs.X86_64.Bytes.{is_prefix, is_push, is_pop_opcode}
use Rattle.framehop_analysis.specs.X86_64.Machine.{State, short, long, Pushes, Pops, Moves, Step, by_push, by_pop, by_move, Run}
use Rattle.framehop_analysis.specs.X86_64.Prologue.{IsPushBytes, plain, prefixed}
use Rattle.framehop_analysis.specs.X86_64.Epilogue.{is_plain_pop, IsPopBytes, alone, after_40, after_41}

-- ---- any instruction

-- an instruction of the machine begins with a lower byte than an end
pub step-low : (text : List ℕ) (at next : ℕ) (s t : State) → Step text at next s t
    → (byte : ℕ) × (slice_get text at ≡ Some byte) × (byte < 96) × (at < next)
step-low text at next s t (by_push r (short fits there next_is) does) = (0x50 + r, there, omega arith, omega arith)
step-low text at next s t (by_push r (long low high low_fits high_fits first second next_is r_is) does) =
    (0x40 + high, first, omega arith, omega arith)
step-low text at next s t (by_pop r (short fits there next_is) does) = (0x58 + r, there, omega arith, omega arith)
step-low text at next s t (by_pop r (long low high low_fits high_fits first second next_is r_is) does) =
    (0x40 + high, first, omega arith, omega arith)
step-low text at next s t (by_move a b move does) = let next_is = move.next_is in
    (0x48, move.rex, omega arith, omega arith)

pub run-forward : (text : List ℕ) (n at end : ℕ) (s t : State) → Run text n at end s t → at + n ≤ end
run-forward text zero at end s t (same, e) = omega arith
run-forward text (suc n) at end s t (next, u, step, rest) =
    let below = (step-low text at next s u step).3 in
    let others = run-forward text n next end u t rest in omega arith

-- ---- pushes

push-code : (opcode : ℕ) → is_push opcode ≡ true → opcode / 8 ≡ 10
push-code opcode is = eqb-true _ _ is

prefix-code : (prefix : ℕ) → is_prefix prefix ≡ true → prefix / 2 ≡ 32
prefix-code prefix is = eqb-true _ _ is

-- at a push that has been read the machine pushes
pub step-push : (text : List ℕ) (at next after : ℕ) (s t : State) → IsPushBytes text at after → Step text at next s t
    → (next ≡ after) × (register : ℕ) × Pushes register s t
step-push text at next after s t (plain o there is after_is) (by_push r (short fits here next_is) does) =
    (omega arith, r, does)
step-push text at next after s t (plain o there is after_is)
    (by_push r (long low high low_fits high_fits first second next_is r_is) does) =
    let same = same_Some o (0x40 + high) (sym there ∙ first) in let code = push-code o is in absurd (omega arith)
step-push text at next after s t (plain o there is after_is) (by_pop r (short fits here next_is) does) =
    let same = same_Some o (0x58 + r) (sym there ∙ here) in let code = push-code o is in absurd (omega arith)
step-push text at next after s t (plain o there is after_is)
    (by_pop r (long low high low_fits high_fits first second next_is r_is) does) =
    let same = same_Some o (0x40 + high) (sym there ∙ first) in let code = push-code o is in absurd (omega arith)
step-push text at next after s t (plain o there is after_is) (by_move a b move does) =
    let same = same_Some o 0x48 (sym there ∙ move.rex) in let code = push-code o is in absurd (omega arith)
step-push text at next after s t (prefixed p o before is_pre there is after_is)
    (by_push r (short fits here next_is) does) =
    let same = same_Some p (0x50 + r) (sym before ∙ here) in let code = prefix-code p is_pre in absurd (omega arith)
step-push text at next after s t (prefixed p o before is_pre there is after_is)
    (by_push r (long low high low_fits high_fits first second next_is r_is) does) = (omega arith, r, does)
step-push text at next after s t (prefixed p o before is_pre there is after_is)
    (by_pop r (short fits here next_is) does) =
    let same = same_Some p (0x58 + r) (sym before ∙ here) in let code = prefix-code p is_pre in absurd (omega arith)
step-push text at next after s t (prefixed p o before is_pre there is after_is)
    (by_pop r (long low high low_fits high_fits first second next_is r_is) does) =
    let same = same_Some o (0x58 + low) (sym there ∙ second) in let code = push-code o is in absurd (omega arith)
step-push text at next after s t (prefixed p o before is_pre there is after_is) (by_move a b move does) =
    let same = same_Some p 0x48 (sym before ∙ move.rex) in let code = prefix-code p is_pre in absurd (omega arith)

-- at 55 the machine pushes rbp
pub step-push_rbp : (text : List ℕ) (at next : ℕ) (s t : State) → slice_get text at ≡ Some 0x55
    → Step text at next s t → (next ≡ at + 1) × Pushes 5 s t
step-push_rbp text at next s t there (by_push r (short fits here next_is) does) =
    let same = same_Some 0x55 (0x50 + r) (sym there ∙ here) in
    let five : r ≡ 5 = omega arith in
    let P : ℕ → Type 0 = λ register. Pushes register s t in (next_is, subst P five does)
step-push_rbp text at next s t there (by_push r (long low high low_fits high_fits first second next_is r_is) does) =
    let same = same_Some 0x55 (0x40 + high) (sym there ∙ first) in absurd (omega arith)
step-push_rbp text at next s t there (by_pop r (short fits here next_is) does) =
    let same = same_Some 0x55 (0x58 + r) (sym there ∙ here) in absurd (omega arith)
step-push_rbp text at next s t there (by_pop r (long low high low_fits high_fits first second next_is r_is) does) =
    let same = same_Some 0x55 (0x40 + high) (sym there ∙ first) in absurd (omega arith)
step-push_rbp text at next s t there (by_move a b move does) =
    let same = same_Some 0x55 0x48 (sym there ∙ move.rex) in absurd (omega arith)

-- at 48 89 E5 the machine copies rsp to rbp
pub step-move : (text : List ℕ) (at next : ℕ) (s t : State) → slice_get text at ≡ Some 0x48
    → slice_get text (at + 2) ≡ Some 0xE5 → Step text at next s t → (next ≡ at + 3) × Moves 4 5 s t
step-move text at next s t there modrm (by_push r (short fits here next_is) does) =
    let same = same_Some 0x48 (0x50 + r) (sym there ∙ here) in absurd (omega arith)
step-move text at next s t there modrm (by_push r (long low high low_fits high_fits first second next_is r_is) does) =
    let same = same_Some 0x48 (0x40 + high) (sym there ∙ first) in absurd (omega arith)
step-move text at next s t there modrm (by_pop r (short fits here next_is) does) =
    let same = same_Some 0x48 (0x58 + r) (sym there ∙ here) in absurd (omega arith)
step-move text at next s t there modrm (by_pop r (long low high low_fits high_fits first second next_is r_is) does) =
    let same = same_Some 0x48 (0x40 + high) (sym there ∙ first) in absurd (omega arith)
step-move text at next s t there modrm (by_move a b move does) =
    let same = same_Some 0xE5 (0xC0 + 8 * a + b) (sym modrm ∙ move.registers) in
    let a_fits = move.source_fits in let b_fits = move.destination_fits in
    let four : a ≡ 4 = omega arith in
    let five : b ≡ 5 = omega arith in
    let P : ℕ → Type 0 = λ source. Moves source b s t in
    let Q : ℕ → Type 0 = λ destination. Moves 4 destination s t in
    (move.next_is, subst Q five (subst P four does))

-- ---- pops

-- the machine's reading of a pop that has been read
pub record IsSamePop (at size : ℕ) (is_bp : Bool) (next : ℕ) (s t : State) : Type 0 where
  pub register : ℕ
  pub next_is : next ≡ at + size
  pub no_sp : register ≢ 4
  pub bp : nat_eq register 5 ≡ is_bp
  pub pops : Pops register s t

test-iff : (a b c d : ℕ) → (a ≡ b → c ≡ d) → (c ≡ d → a ≡ b) → nat_eq a b ≡ nat_eq c d
test-iff a b c d to from = on (nat_eq a b) (nat_eq c d) refl refl where
  on : (s t : Bool) → nat_eq a b ≡ s → nat_eq c d ≡ t → nat_eq a b ≡ nat_eq c d
  on true t s_is t_is = (let same = to (eqb-true a b s_is) in grind (arith, nat_tests))
  on false true s_is t_is = (let same = from (eqb-true c d t_is) in grind (arith, nat_tests))
  on false false s_is t_is = s_is ∙ sym t_is

not-eq : (m n : ℕ) → not (nat_eq m n) ≡ true → m ≢ n
not-eq m n e = λ same. grind (arith, nat_tests)

-- the opcode of a pop of one of the first eight registers but rsp
plain-code : (opcode : ℕ) → is_plain_pop opcode ≡ true → (opcode / 8 ≡ 11) × (opcode ≢ 0x5C)
plain-code opcode is =
    let parts = and_parts (is_pop_opcode opcode) (not (opcode == 0x5C)) is in
    (eqb-true _ _ parts.0, not-eq opcode 0x5C parts.1)

-- at a pop that has been read the machine pops the same
pub step-pop : (text : List ℕ) (at next size : ℕ) (is_bp : Bool) (s t : State) → IsPopBytes text at size is_bp
    → Step text at next s t → IsSamePop at size is_bp next s t
step-pop text at next size is_bp s t (alone o there is size_is bp_is) (by_push r (short fits here next_is) does) =
    let same = same_Some o (0x50 + r) (sym there ∙ here) in let code = (plain-code o is).0 in absurd (omega arith)
step-pop text at next size is_bp s t (alone o there is size_is bp_is)
    (by_push r (long low high low_fits high_fits first second next_is r_is) does) =
    let same = same_Some o (0x40 + high) (sym there ∙ first) in let code = (plain-code o is).0 in absurd (omega arith)
step-pop text at next size is_bp s t (alone o there is size_is bp_is) (by_pop r (short fits here next_is) does) =
    let same = same_Some o (0x58 + r) (sym there ∙ here) in
    let other = (plain-code o is).1 in
    record {
      register = r;
      next_is = omega arith;
      no_sp = λ four. other (omega arith);
      bp = test-iff r 5 o 0x5D (λ five. omega arith) (λ five. omega arith) ∙ sym bp_is;
      pops = does;
    }
step-pop text at next size is_bp s t (alone o there is size_is bp_is)
    (by_pop r (long low high low_fits high_fits first second next_is r_is) does) =
    let same = same_Some o (0x40 + high) (sym there ∙ first) in let code = (plain-code o is).0 in absurd (omega arith)
step-pop text at next size is_bp s t (alone o there is size_is bp_is) (by_move a b move does) =
    let same = same_Some o 0x48 (sym there ∙ move.rex) in let code = (plain-code o is).0 in absurd (omega arith)
step-pop text at next size is_bp s t (after_40 o before there is size_is bp_is)
    (by_push r (short fits here next_is) does) =
    let same = same_Some 0x40 (0x50 + r) (sym before ∙ here) in absurd (omega arith)
step-pop text at next size is_bp s t (after_40 o before there is size_is bp_is)
    (by_push r (long low high low_fits high_fits first second next_is r_is) does) =
    let same = same_Some o (0x50 + low) (sym there ∙ second) in let code = (plain-code o is).0 in absurd (omega arith)
step-pop text at next size is_bp s t (after_40 o before there is size_is bp_is)
    (by_pop r (short fits here next_is) does) =
    let same = same_Some 0x40 (0x58 + r) (sym before ∙ here) in absurd (omega arith)
step-pop text at next size is_bp s t (after_40 o before there is size_is bp_is)
    (by_pop r (long low high low_fits high_fits first second next_is r_is) does) =
    let rex = same_Some 0x40 (0x40 + high) (sym before ∙ first) in
    let same = same_Some o (0x58 + low) (sym there ∙ second) in
    let other = (plain-code o is).1 in
    let number : r ≡ low = omega arith in
    record {
      register = r;
      next_is = omega arith;
      no_sp = λ four. other (omega arith);
      bp = test-iff r 5 o 0x5D (λ five. omega arith) (λ five. omega arith) ∙ sym bp_is;
      pops = does;
    }
step-pop text at next size is_bp s t (after_40 o before there is size_is bp_is) (by_move a b move does) =
    let same = same_Some 0x40 0x48 (sym before ∙ move.rex) in absurd (omega arith)
step-pop text at next size is_bp s t (after_41 o before there is size_is bp_is)
    (by_push r (short fits here next_is) does) =
    let same = same_Some 0x41 (0x50 + r) (sym before ∙ here) in absurd (omega arith)
step-pop text at next size is_bp s t (after_41 o before there is size_is bp_is)
    (by_push r (long low high low_fits high_fits first second next_is r_is) does) =
    let same = same_Some o (0x50 + low) (sym there ∙ second) in
    let code : o / 8 ≡ 11 = eqb-true _ _ is in absurd (omega arith)
step-pop text at next size is_bp s t (after_41 o before there is size_is bp_is)
    (by_pop r (short fits here next_is) does) =
    let same = same_Some 0x41 (0x58 + r) (sym before ∙ here) in absurd (omega arith)
step-pop text at next size is_bp s t (after_41 o before there is size_is bp_is)
    (by_pop r (long low high low_fits high_fits first second next_is r_is) does) =
    let rex = same_Some 0x41 (0x40 + high) (sym before ∙ first) in
    let number : r ≡ low + 8 = omega arith in
    record {
      register = r;
      next_is = omega arith;
      no_sp = λ four. absurd (omega arith);
      bp =
          test-iff r 5 0 1 (λ five. absurd (omega arith)) (λ none. absurd (omega arith)) ∙ sym bp_is;
      pops = does;
    }
step-pop text at next size is_bp s t (after_41 o before there is size_is bp_is) (by_move a b move does) =
    let same = same_Some 0x41 0x48 (sym before ∙ move.rex) in absurd (omega arith)
