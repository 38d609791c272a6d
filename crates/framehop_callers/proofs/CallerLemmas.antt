-- The caller that runs come to is that of the processor.
use Rattle.std.proofs.Common.{◌≡◌, ◌≢◌, ℕ, zero, suc, ◌<◌, ◌≤◌, ◌+◌, Bool, true, false, ◌&&◌, List, Option, Some, None, length, refl, ap, sym, ◌∙◌, subst, arith, inl, inr, ◌==◌, ◌⊎◌}
use Rattle.std.proofs.lemmas.Bool.{cases_Bool, eqb-true}
use Rattle.std.proofs.lemmas.Bool.Decides.{nat_tests}
use Rattle.std.specs.Prelude.{IfSome, replicate, slice_get, if◌then◌else◌}
use Rattle.framehop_callers.specs.Caller.{is_same}
use Rattle.framehop_callers.specs.RegisterFile.{in_column, word_of, with_word, unknown}
use Rattle.framehop_callers.proofs.Columns.{is-set, set-elsewhere}
use Rattle.framehop_callers.specs.declared.convention.Convention.{Convention}
use Rattle.framehop_callers.specs.declared.convention.Convention.TheVariants.{X86_64, Aarch64}
use Rattle.framehop_callers.specs.declared.run.RunCaller.{RunCaller}
use Rattle.framehop_callers.specs.declared.run.Together.TheVariants.{Ends, Forks}
use Rattle.framehop_callers.specs.declared.state.State.{State}
use Rattle.framehop_callers.specs.Machine.{Machine}
use Rattle.framehop_callers.specs.Run.{MOST_STEPS, IsTogether, run_from, program_counter, alike, alike_below, common, caller_of, start, run_of, agree, both, agreed, caller_by_runs}
use Rattle.framehop_callers.specs.Sound.{Agrees, ReturnsTo, IsCallerOf, IsSound}
use Rattle.framehop_callers.specs.Convention.{program_counter_of}
use Rattle.framehop_callers.specs.State.{stack_pointer}
use Rattle.framehop_callers.specs.Step.{Source}
use Rattle.framehop_callers.proofs.SoundLemmas.{Fits, set-some, run-fits}

-- ---- what is known alike

if-some : (test : Bool) (word : Option ℕ) (x : ℕ) → (if test then word else None) ≡ Some x → word ≡ Some x
if-some true word x is = is
if-some false word x is = cc

alike-left : (left right : Option ℕ) (x : ℕ) → alike left right ≡ Some x → left ≡ Some x
alike-left left right x is = if-some (is_same left right) left x is

same-right : (w v x : ℕ) (same : Bool) → (w == v) ≡ same → (if same then Some w else None) ≡ Some x → Some v ≡ Some x
same-right w v x true same is = ap Some (sym (eqb-true w v same)) ∙ is
same-right w v x false same is = cc

alike-right : (left right : Option ℕ) (x : ℕ) → alike left right ≡ Some x → right ≡ Some x
alike-right None right x is = cc
alike-right (Some w) None x is = cc
alike-right (Some w) (Some v) x is = same-right w v x (w == v) refl is

none-known : (n j : ℕ) → in_column (slice_get (replicate n None) j) ≡ None
none-known zero j = refl
none-known (suc n) zero = refl
none-known (suc n) (suc j) = none-known n j

nothing-known : (j x : ℕ) → word_of unknown (record { 0 = j }) ≡ Some x → ⊥
nothing-known j x is = (let none : None ≡ Some x = sym (none-known 33 j) ∙ is in cc)

known-alike : (n : ℕ) (left right words : List (Option ℕ)) (j x : ℕ) → n ≤ 33
    → word_of (alike_below n left right words) (record { 0 = j }) ≡ Some x
    → (word_of words (record { 0 = j }) ≡ Some x) ⊎ (alike (word_of left (record { 0 = j })) (word_of right (record { 0 = j })) ≡ Some x)
unfolding alike_below
known-alike zero left right words j x below is = inl is
known-alike (suc n) left right words j x below is =
    let word : Option ℕ = alike (word_of left (record { 0 = n })) (word_of right (record { 0 = n })) in
    elim (known-alike n left right (with_word words (record { 0 = n }) word) j x (omega arith) is) [
      | inr both_know ↦ inr both_know
      | inl known ↦ elim (cases_Bool (j == n)) [
        | inl here ↦
            let equal : j ≡ n = grind (arith, nat_tests) in
            let less : n < 33 = omega arith in
            let at_n : word_of (with_word words (record { 0 = n }) word) (record { 0 = n }) ≡ Some x =
            subst (λ (i : ℕ). word_of (with_word words (record { 0 = n }) word) (record { 0 = i }) ≡ Some x) equal known in
            let told : word ≡ Some x = set-some words n x word (subst (λ (set : List (Option ℕ)). word_of set (record { 0 = n }) ≡ Some x) (is-set words n word less) at_n) in
            inr (subst (λ (i : ℕ). alike (word_of left (record { 0 = i })) (word_of right (record { 0 = i })) ≡ Some x) (sym equal) told)
        | inr other ↦
            let apart : j ≢ n = λ equal. grind (arith, nat_tests) in
            inl (sym (set-elsewhere words n j word (omega arith) apart) ∙ known)
      ]
    ]

few-columns : (convention : Convention) → program_counter_of convention + 1 ≤ 33
few-columns X86_64 = omega arith
few-columns Aarch64 = omega arith

common-is : (convention : Convention) (left right : List (Option ℕ)) (j x : ℕ) → word_of (common convention left right) (record { 0 = j }) ≡ Some x
    → alike (word_of left (record { 0 = j })) (word_of right (record { 0 = j })) ≡ Some x
common-is convention left right j x is =
    elim (known-alike (program_counter_of convention + 1) left right unknown j x (few-columns convention) is) [
      | inl none ↦ absurd (nothing-known j x none)
      | inr known ↦ known
    ]

-- ---- one run

fitting-caller : (memory-is : ℕ → Option ℕ) (convention : Convention) (last : State) (now : Machine) → Fits memory-is last now
    → now.address ≡ last.address → IsCallerOf convention (caller_of convention last) now
fitting-caller memory-is convention last now fits here = record {
  at = here;
  knows = λ j x below is.
      let pc : ℕ = program_counter_of convention in
      let few : pc + 1 ≤ 33 = few-columns convention in
      let all : List (Option ℕ) = with_word last.registers (program_counter convention) (Some last.address) in
      let known : word_of all (record { 0 = j }) ≡ Some x = alike-left (word_of all (record { 0 = j })) (word_of all (record { 0 = j })) x (common-is convention all all j x is) in
      let apart : j ≢ pc = λ equal. omega arith in
      fits.knows j x (sym (set-elsewhere last.registers pc j (Some last.address) (omega arith) apart) ∙ known);
}

run-is-of : (source : Source) (forward : Bool) (address : ℕ) (registers : List (Option ℕ)) (found : RunCaller) (before now : Machine)
    → length registers ≡ 33 → run_of source forward address registers ≡ Some found → Agrees source.memory (start address registers) before
    → ReturnsTo source forward (start address registers) before now → IsCallerOf source.convention found now
unfolding run_of
run-is-of source forward address registers found before now long is agrees run =
    let fits : Fits source.memory (start address registers) before = record { long = long; knows = agrees.knows; remembers = agrees.remembers } in
    let there = run-fits source forward MOST_STEPS (start address registers) found before now fits is run in
    subst (λ (c : RunCaller). IsCallerOf source.convention c now) there.3 (fitting-caller source.memory source.convention there.0 now there.1 there.2)

-- ---- both runs

some-caller : (x y : RunCaller) → Some x ≡ Some y → x ≡ y
some-caller x y is = cc

left-both : (convention : Convention) (caller other : RunCaller) (now : Machine) → IsCallerOf convention caller now → IsCallerOf convention (both convention caller other) now
left-both convention caller other now is = record {
  at = is.at;
  knows = λ j x below known. is.knows j x below
      (alike-left (word_of caller.registers (record { 0 = j })) (word_of other.registers (record { 0 = j })) x (common-is convention caller.registers other.registers j x known));
}

right-both : (convention : Convention) (caller other : RunCaller) (now : Machine) → caller.return_address ≡ other.return_address → IsCallerOf convention other now
    → IsCallerOf convention (both convention caller other) now
right-both convention caller other now same is = record {
  at = is.at ∙ sym same;
  knows = λ j x below known. is.knows j x below
      (alike-right (word_of caller.registers (record { 0 = j })) (word_of other.registers (record { 0 = j })) x (common-is convention caller.registers other.registers j x known));
}

and-left : (x y : Bool) → (x && y) ≡ true → x ≡ true
and-left true y is = refl
and-left false y is = is

left-agreed : (convention : Convention) (caller other found : RunCaller) (now : Machine) (same : Bool) → (if same then Some (both convention caller other) else None) ≡ Some found
    → IsCallerOf convention caller now → IsCallerOf convention found now
left-agreed convention caller other found now true is of = subst (λ (c : RunCaller). IsCallerOf convention c now) (some-caller (both convention caller other) found is) (left-both convention caller other now of)
left-agreed convention caller other found now false is of = cc

right-agreed : (convention : Convention) (caller other found : RunCaller) (now : Machine) (same : Bool) → agree convention caller other ≡ same
    → (if same then Some (both convention caller other) else None) ≡ Some found → IsCallerOf convention other now → IsCallerOf convention found now
right-agreed convention caller other found now true same is of =
    subst (λ (c : RunCaller). IsCallerOf convention c now) (some-caller (both convention caller other) found is)
    (right-both convention caller other now (eqb-true caller.return_address other.return_address
    (and-left (caller.return_address == other.return_address) (is_same (word_of caller.registers (stack_pointer convention)) (word_of other.registers (stack_pointer convention))) same)) of)
right-agreed convention caller other found now false same is of = cc

agreed-left : (convention : Convention) (straight forward : Option RunCaller) (found mine : RunCaller) (now : Machine) → agreed convention straight forward ≡ Some found
    → straight ≡ Some mine → IsCallerOf convention mine now → IsCallerOf convention found now
agreed-left convention None forward found mine now is own of = cc
agreed-left convention (Some caller) None found mine now is own of =
    subst (λ (c : RunCaller). IsCallerOf convention c now) (some-caller mine found (sym own ∙ is)) of
agreed-left convention (Some caller) (Some other) found mine now is own of =
    left-agreed convention caller other found now (agree convention caller other) is (subst (λ (c : RunCaller). IsCallerOf convention c now) (sym (some-caller caller mine own)) of)

agreed-right : (convention : Convention) (straight forward : Option RunCaller) (found mine : RunCaller) (now : Machine) → agreed convention straight forward ≡ Some found
    → forward ≡ Some mine → IsCallerOf convention mine now → IsCallerOf convention found now
agreed-right convention None forward found mine now is own of =
    subst (λ (c : RunCaller). IsCallerOf convention c now) (some-caller mine found (sym own ∙ is)) of
agreed-right convention (Some caller) None found mine now is own of = cc
agreed-right convention (Some caller) (Some other) found mine now is own of =
    right-agreed convention caller other found now (agree convention caller other) refl is (subst (λ (c : RunCaller). IsCallerOf convention c now) (sym (some-caller other mine own)) of)

one-sound : (source : Source) (address : ℕ) (registers : List (Option ℕ)) (found : RunCaller)
    → agreed source.convention (run_of source false address registers) (run_of source true address registers) ≡ Some found
    → IsSound source address registers found
one-sound source address registers found is false mine before now long own agrees run =
    agreed-left source.convention (run_of source false address registers) (run_of source true address registers) found mine now is own
    (run-is-of source false address registers mine before now long own agrees run)
one-sound source address registers found is true mine before now long own agrees run =
    agreed-right source.convention (run_of source false address registers) (run_of source true address registers) found mine now is own
    (run-is-of source true address registers mine before now long own agrees run)

pub caller-sound : (source : Source) (address : ℕ) (registers : List (Option ℕ)) (result : Option RunCaller)
    → result ≡ caller_by_runs source address registers → IfSome result (IsSound source address registers)
unfolding caller_by_runs
caller-sound source address registers None is = tt
caller-sound source address registers (Some found) is = one-sound source address registers found (sym is)

-- ---- where both runs are one

pub ends-exact : (source : Source) (address : ℕ) (registers : List (Option ℕ)) (first state : State) (caller : Option RunCaller)
    → first ≡ start address registers → IsTogether source first state (Ends caller)
    → agreed source.convention caller caller ≡ caller_by_runs source address registers
unfolding caller_by_runs run_of
ends-exact source address registers first state caller begins ends =
    let run : (forward : Bool) → caller ≡ run_from source forward MOST_STEPS (start address registers) =
    λ forward. sym (ends forward) ∙ ap (run_from source forward MOST_STEPS) begins in
    ap (λ (c : Option RunCaller). agreed source.convention c caller) (run false)
    ∙ ap (agreed source.convention (run_from source false MOST_STEPS (start address registers))) (run true)

pub forks-exact : (source : Source) (address : ℕ) (registers : List (Option ℕ)) (first state : State) (left : ℕ)
    → first ≡ start address registers → IsTogether source first state (Forks left)
    → agreed source.convention (run_from source false left state) (run_from source true left state) ≡ caller_by_runs source address registers
unfolding caller_by_runs run_of
forks-exact source address registers first state left begins forks =
    let run : (forward : Bool) → run_from source forward left state ≡ run_from source forward MOST_STEPS (start address registers) =
    λ forward. sym (forks forward) ∙ ap (run_from source forward MOST_STEPS) begins in
    ap (λ (c : Option RunCaller). agreed source.convention c (run_from source true left state)) (run false)
    ∙ ap (agreed source.convention (run_from source false MOST_STEPS (start address registers))) (run true)
