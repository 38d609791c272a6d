-- Operations have one rule or none, and `rule_of_operations` is it.
use Rattle.std.proofs.Common.{◌≡◌, ℕ, zero, suc, ◌+◌, ◌<◌, ◌≤◌, nat_le, nat_lt, Bool, true, false, cond, List, [], ◌∷◌, length, get_or, Option, Some, None, ◌⊎◌, inl, inr, refl, sym, ap, subst, ◌∙◌, arith}
use Rattle.std.specs.Bool.{Decides}
use Rattle.std.specs.Cmp.Lexicographic.{pointwise}
use Rattle.std.specs.List.{find, range_with_len}
use Rattle.std.specs.Option.{option_map, option_and_then}
use Rattle.std.proofs.lemmas.Bool.{cases_eq, cases_lt}
use Rattle.std.proofs.lemmas.Bool.Decides.{Decides-eqb, nat_tests}
use Rattle.std.proofs.lemmas.Option.{some_pair_parts}
use Rattle.std.proofs.lemmas.Slice.Eq.{slice_eq-Decides}
use Rattle.framehop_core.specs.X86_64.Ordering.{ordering, IsArrangement, IsEncoding}
use Rattle.framehop_core.specs.X86_64.RuleOfOperations.{place_of, register_eq, least_below, number_of, rule_of, rule_of_operations}
use Rattle.framehop_core.specs.X86_64.Rules.{offset_and_pops_of, IsRuleOf, IsRuleOfOperations, is_executable}
use Rattle.framehop_core.specs.Laws.Orderings.{IsArrangement-number, IsArrangement-encoding}
use Rattle.framehop_core.specs.declared.x86_64.unwindregs.Reg.{Reg}
use Rattle.framehop_core.specs.declared.x86_64.unwindregs.Reg.TheVariants.{RAX, RDX, RCX, RBX, RSI, RDI, RBP, RSP, R8, R9, R10, R11, R12, R13, R14, R15}
use Rattle.framehop_core.specs.declared.x86_64.unwind_rule.OffsetOrPop.{OffsetOrPop}
use Rattle.framehop_core.specs.declared.x86_64.unwind_rule.UnwindRuleX86_64.{UnwindRuleX86_64}
use Rattle.framehop_core.specs.declared.x86_64.unwind_rule.UnwindRuleX86_64.TheVariants.{EndOfStack, JustReturn, JustReturnIfFirstFrameOtherwiseFp, OffsetSp, OffsetSpAndRestoreBp, UseFramePointer, UseFramePointerWithOffsets, OffsetSpAndPopRegisters}

-- ---- one rule

pub one-encoding :
    (registers : List Reg) (c d m n : ℕ) → IsEncoding registers c m → IsEncoding registers d n → (c ≡ d) × (m ≡ n)
one-encoding registers c d m n e f =
    let same : c ≡ d = e.counted ∙ sym f.counted in
    let below : m ≤ n = e.least n (ap (λ k. ordering k n) same ∙ f.orders) in
    let above : n ≤ m = f.least m (ap (λ k. ordering k m) (sym same) ∙ e.orders) in
    (same, omega arith)

-- the two kinds of rules that operations have
abbrev pub IsPlain : ℕ → List Reg → UnwindRuleX86_64 → Type 0
IsPlain x registers rule = (rule ≡ JustReturn) × (x ≡ 0) × (registers ≡ [])

abbrev pub IsOfPops : ℕ → List Reg → UnwindRuleX86_64 → Type 0
IsOfPops x registers rule =
    (count : ℕ) × (n : ℕ) × (rule ≡ OffsetSpAndPopRegisters x count n) × IsEncoding registers count n
    × ¬ ((x ≡ 0) × (registers ≡ []))

pub kinds :
    (x : ℕ) (registers : List Reg) (rule : UnwindRuleX86_64) → IsRuleOf x registers rule
    → IsPlain x registers rule ⊎ IsOfPops x registers rule
kinds x registers EndOfStack h = absurd h
kinds x registers JustReturn h = inl (refl, h.0, h.1)
kinds x registers JustReturnIfFirstFrameOtherwiseFp h = absurd h
kinds x registers (OffsetSp y) h = absurd h
kinds x registers (OffsetSpAndRestoreBp y z) h = absurd h
kinds x registers UseFramePointer h = absurd h
kinds x registers (UseFramePointerWithOffsets y z) h = absurd h
kinds x registers (OffsetSpAndPopRegisters y count n) h =
    inr (count, n, ap (λ k. OffsetSpAndPopRegisters k count n) h.0, h.1, h.2)

one-kind :
    (x : ℕ) (registers : List Reg) (a b : UnwindRuleX86_64) → IsPlain x registers a ⊎ IsOfPops x registers a
    → IsPlain x registers b ⊎ IsOfPops x registers b → a ≡ b
one-kind x registers a b (inl p) (inl q) = p.0 ∙ sym q.0
one-kind x registers a b (inl p) (inr q) = absurd (q.4 (p.1, p.2))
one-kind x registers a b (inr p) (inl q) = absurd (p.4 (q.1, q.2))
one-kind x registers a b (inr p) (inr q) =
    let same = one-encoding registers p.0 q.0 p.1 q.1 p.3 q.3 in
    p.2
    ∙ ap (λ c. OffsetSpAndPopRegisters x c p.1) same.0
    ∙ ap (OffsetSpAndPopRegisters x q.0) same.1
    ∙ sym q.2

-- the registers of a rule have an ordering
arrangement_of :
    (x : ℕ) (registers : List Reg) (rule : UnwindRuleX86_64) → IsPlain x registers rule ⊎ IsOfPops x registers rule
    → IsArrangement registers
arrangement_of x registers rule (inl p) =
    let none : IsArrangement [] = record {
      distinct = λ i j d less h. absurd (omega arith);
      among = λ i d h. absurd (omega arith);
    } in
    subst IsArrangement (sym p.2) none
arrangement_of x registers rule (inr p) = IsArrangement-encoding registers p.0 p.1 p.3

kind-executable :
    (x : ℕ) (registers : List Reg) (rule : UnwindRuleX86_64) → IsPlain x registers rule ⊎ IsOfPops x registers rule
    → is_executable rule ≡ true
kind-executable x registers rule (inl p) = ap is_executable p.0
kind-executable x registers rule (inr p) =
    let encoding = p.3 in
    let few = (IsArrangement-number registers (IsArrangement-encoding registers p.0 p.1 encoding)).2 in
    let fits : nat_le p.0 8 ≡ true = (let counted = encoding.counted in grind (arith, nat_tests)) in
    let below : nat_lt p.1 40320 ≡ true = (let b = encoding.below in grind (arith, nat_tests)) in
    ap is_executable p.2 ∙ rw (fits, below) refl

-- the rule of an offset and pops can be run
pub IsRuleOf-executable :
    (x : ℕ) (registers : List Reg) (rule : UnwindRuleX86_64) → IsRuleOf x registers rule → is_executable rule ≡ true
IsRuleOf-executable x registers rule made = kind-executable x registers rule (kinds x registers rule made)

-- operations have one rule, or none
pub one-IsRuleOfOperations :
    (operations : List OffsetOrPop) (a b : Option UnwindRuleX86_64) → IsRuleOfOperations operations a
    → IsRuleOfOperations operations b → a ≡ b
one-IsRuleOfOperations operations None None p q = refl
one-IsRuleOfOperations operations None (Some b) p q =
    absurd (p q.0 q.1 q.2 (arrangement_of q.0 q.1 b (kinds q.0 q.1 b q.3)))
one-IsRuleOfOperations operations (Some a) None p q =
    absurd (q p.0 p.1 p.2 (arrangement_of p.0 p.1 a (kinds p.0 p.1 a p.3)))
one-IsRuleOfOperations operations (Some a) (Some b) p q =
    let same = some_pair_parts p.0 q.0 p.1 q.1 (sym p.2 ∙ q.2) in
    let moved : IsRuleOf p.0 p.1 b =
    subst (λ k. IsRuleOf k p.1 b) (sym same.0) (subst (λ rs. IsRuleOf q.0 rs b) (sym same.1) q.3) in
    ap Some (one-kind p.0 p.1 a b (kinds p.0 p.1 a p.3) (kinds p.0 p.1 b moved))

-- ---- the least number that passes a test

record IsLeast (test : ℕ → Bool) (from bound n : ℕ) : Type 0 where
  within : n < bound
  passes : test n ≡ true
  least : (m : ℕ) → from ≤ m → m < n → test m ≡ false

-- what fails here and from the next number on fails from here on
fails_from :
    (test : ℕ → Bool) (from m : ℕ) → test from ≡ false → from ≤ m → (from + 1 ≤ m → test m ≡ false)
    → test m ≡ false
fails_from test from m here above later =
    elim (cases_eq m from) as (λ _. test m ≡ false) [ inl e ↦ ap test e ∙ here | inr e ↦ later (omega arith) ]

least-step :
    (test : ℕ → Bool) (from bound n : ℕ) (b : Bool) (rest : Option ℕ) → test from ≡ b → from < bound
    → (rest ≡ Some n → IsLeast test (from + 1) bound n) → cond b (Some from) rest ≡ Some n
    → IsLeast test from bound n
least-step test from bound n true rest here below later e =
    let same : from ≡ n = cc in
    record {
      within = omega arith;
      passes = ap test (sym same) ∙ here;
      least = λ m above less. absurd (omega arith);
    }
least-step test from bound n false rest here below later e =
    let found = later e in
    record {
      within = found.within;
      passes = found.passes;
      least = λ m above less. fails_from test from m here above (λ next. found.least m next less);
    }

find-some :
    (test : ℕ → Bool) (from count bound n : ℕ) → from + count ≡ bound
    → find test (range_with_len from count) ≡ Some n → IsLeast test from bound n
find-some test from zero bound n ends e = cc
find-some test from (suc count) bound n ends e =
    let rest = find test (range_with_len (from + 1) count) in
    let later = find-some test (from + 1) count bound n (omega arith) in
    least-step test from bound n (test from) rest refl (omega arith) later e

none-step :
    (test : ℕ → Bool) (from m : ℕ) (b : Bool) (rest : Option ℕ) → test from ≡ b → from ≤ m
    → (rest ≡ None → from + 1 ≤ m → test m ≡ false) → cond b (Some from) rest ≡ None → test m ≡ false
none-step test from m true rest here above later e = cc
none-step test from m false rest here above later e = fails_from test from m here above (later e)

find-none :
    (test : ℕ → Bool) (from count m : ℕ) → from ≤ m → m < from + count
    → find test (range_with_len from count) ≡ None → test m ≡ false
find-none test from zero m above below e = absurd (omega arith)
find-none test from (suc count) m above below e =
    let rest = find test (range_with_len (from + 1) count) in
    let later =
    λ (none : rest ≡ None) (next : from + 1 ≤ m). find-none test (from + 1) count m next (omega arith) none in
    none-step test from m (test from) rest refl above later e

least_below-some : (bound : ℕ) (test : ℕ → Bool) (n : ℕ) → least_below bound test ≡ Some n → IsLeast test 0 bound n
unfolding least_below
least_below-some bound test n e = find-some test 0 bound bound n (omega arith) e

least_below-none : (bound : ℕ) (test : ℕ → Bool) (m : ℕ) → least_below bound test ≡ None → m < bound → test m ≡ false
unfolding least_below
least_below-none bound test m e below = find-none test 0 bound m (omega arith) (omega arith) e

-- ---- the number of registers

-- the registers in the order of `Reg`
in_order : List Reg
in_order = RAX ∷ RDX ∷ RCX ∷ RBX ∷ RSI ∷ RDI ∷ RBP ∷ RSP ∷ R8 ∷ R9 ∷ R10 ∷ R11 ∷ R12 ∷ R13 ∷ R14 ∷ R15 ∷ []

at_place : (register : Reg) → get_or in_order (place_of register) RAX ≡ register
unfolding in_order
at_place RAX = refl
at_place RDX = refl
at_place RCX = refl
at_place RBX = refl
at_place RSI = refl
at_place RDI = refl
at_place RBP = refl
at_place RSP = refl
at_place R8 = refl
at_place R9 = refl
at_place R10 = refl
at_place R11 = refl
at_place R12 = refl
at_place R13 = refl
at_place R14 = refl
at_place R15 = refl

pub register_eq-Decides : (a b : Reg) → Decides (register_eq a b) (a ≡ b)
register_eq-Decides a b =
    let places = Decides-eqb (place_of a) (place_of b) in (
      λ same. sym (at_place a) ∙ ap (λ place. get_or in_order place RAX) (places.0 same) ∙ at_place b,
      λ same. places.1 (ap place_of same),
    )

-- what the test of a number says
number-Decides :
    (registers : List Reg) (n : ℕ)
    → let ordered = ordering (length registers) n in
    Decides (pointwise register_eq ordered registers) (ordered ≡ registers)
number-Decides registers n = slice_eq-Decides register_eq-Decides (ordering (length registers) n) registers _ refl

not_less : (m n : ℕ) → (m < n → ⊥) → n ≤ m
not_less m n h = elim (cases_lt m n) [ inl less ↦ absurd (h less) | inr above ↦ above ]

-- the number that is found encodes the registers
pub number_of-some :
    (registers : List Reg) (n : ℕ) → number_of registers ≡ Some n → IsEncoding registers (length registers) n
unfolding number_of
number_of-some registers n e =
    let test = λ (m : ℕ). pointwise register_eq (ordering (length registers) m) registers in
    let found = least_below-some 40320 test n e in
    record {
      counted = refl;
      below = found.within;
      orders = (number-Decides registers n).0 found.passes;
      least = λ m orders.
          not_less m n (λ less.
          let fails = found.least m (omega arith) less in
          let passes = (number-Decides registers m).1 orders in
          cc);
    }

-- where none is found, the registers have no ordering
pub number_of-none : (registers : List Reg) → number_of registers ≡ None → ¬ IsArrangement registers
unfolding number_of
number_of-none registers e arrangement =
    let test = λ (m : ℕ). pointwise register_eq (ordering (length registers) m) registers in
    let number = IsArrangement-number registers arrangement in
    let fails = least_below-none 40320 test number.0 e number.3 in
    let passes = (number-Decides registers number.0).1 number.1 in
    cc

-- ---- the rule of operations

rule_of-pops :
    (operations : List OffsetOrPop) (x : ℕ) (registers : List Reg) (number : Option ℕ) → number_of registers ≡ number
    → offset_and_pops_of operations ≡ Some (x, registers) → ¬ ((x ≡ 0) × (registers ≡ []))
    → IsRuleOfOperations operations (option_map (λ n. OffsetSpAndPopRegisters x (length registers) n) number)
rule_of-pops operations x registers None e is several = λ y others found arrangement.
    let same = some_pair_parts x y registers others (sym is ∙ found) in
    number_of-none registers e (subst IsArrangement (sym same.1) arrangement)
rule_of-pops operations x registers (Some n) e is several =
    (x, registers, is, (refl, number_of-some registers n e, several))

rule_of-is :
    (operations : List OffsetOrPop) (x : ℕ) (registers : List Reg)
    → offset_and_pops_of operations ≡ Some (x, registers) → IsRuleOfOperations operations (rule_of x registers)
unfolding rule_of
rule_of-is operations zero [] is = (0, [], is, (refl, refl))
rule_of-is operations zero (r ∷ rs) is =
    rule_of-pops operations zero (r ∷ rs) (number_of (r ∷ rs)) refl is (λ both. let none = both.1 in cc)
rule_of-is operations (suc x) registers is =
    rule_of-pops operations (suc x) registers (number_of registers) refl is (λ both. absurd (omega (arith, both.0)))

rule-of :
    (operations : List OffsetOrPop) (found : Option (ℕ × List Reg)) → offset_and_pops_of operations ≡ found
    → IsRuleOfOperations operations (option_and_then (λ p. rule_of p.0 p.1) found)
rule-of operations None is = λ x registers e. cc
rule-of operations (Some (x, registers)) is = rule_of-is operations x registers is

-- the rule of operations is the one that they have
pub rule_of_operations-is :
    (operations : List OffsetOrPop) → IsRuleOfOperations operations (rule_of_operations operations)
unfolding rule_of_operations
rule_of_operations-is operations = rule-of operations (offset_and_pops_of operations) refl

pub rule_of_operations-only :
    (operations : List OffsetOrPop) (rule : Option UnwindRuleX86_64) → IsRuleOfOperations operations rule
    → rule ≡ rule_of_operations operations
rule_of_operations-only operations rule h =
    one-IsRuleOfOperations operations rule (rule_of_operations operations) h (rule_of_operations-is operations)
