-- The value of an expression that may read memory, an operation at a time.
use Rattle.std.proofs.Common.{◌≡◌, ◌≢◌, ℕ, zero, suc, ◌-◌, true, false, List, [], ◌∷◌, length, Option, Some, None, Result, Ok, Err, refl, ap, sym, subst, ◌∙◌, arith, ◌==◌}
use Rattle.std.proofs.lemmas.Bool.Decides.{nat_tests}
use Rattle.std.specs.Prelude.{option_and_then, slice_get, IfOk, IfErr}
use Rattle.framehop_core.specs.Memory.{Memory}
use Rattle.framehop_dwarf.specs.declared.evaluation.Refusal.{Refusal}
use Rattle.framehop_dwarf.specs.declared.evaluation.Refusal.TheVariants.{NoValue, OutOfMemory}
use Rattle.framehop_dwarf.specs.Refusal.{Reaches, Returns}
use Rattle.framehop_dwarf.specs.Evaluation.{Evaluation, State}
use Rattle.framehop_callers.specs.Evaluation.{step_over, value_from}

same : (m n : ℕ) → m ≡ n → (m == n) ≡ true
same m n e = grind (arith, nat_tests)

other : (m n : ℕ) → m ≢ n → (m == n) ≡ false
other m n e = grind (arith, nat_tests)

-- a refusal, as a result
abbrev pub err-of : Refusal → Result ℕ Refusal
err-of error = Err error

module _ (e : Evaluation) (memory : Memory) where
  -- at the end the value is on top
  pub ended : (n : ℕ) (s : State) → s.position ≡ length e.code → value_from e memory n s ≡ slice_get s.stack 0
  unfolding value_from
  ended zero s end = rw (same s.position (length e.code) end) refl
  ended (suc n) s end = rw (same s.position (length e.code) end) refl

  -- elsewhere an operation is needed
  pub spent : (s : State) → s.position ≢ length e.code → value_from e memory 0 s ≡ None
  unfolding value_from
  spent s more = rw (other s.position (length e.code) more) refl

  pub stepped : (n : ℕ) (s : State) → s.position ≢ length e.code
      → value_from e memory (suc n) s ≡ option_and_then (value_from e memory n) (step_over e memory s)
  unfolding value_from
  stepped n s more = rw (other s.position (length e.code) more) refl

  -- what the loop does at each of its ends
  pub out_of_operations : (n : ℕ) (s : State) (wanted : Option ℕ) → n ≡ 0 → s.position ≢ length e.code
      → value_from e memory n s ≡ wanted → wanted ≡ None
  out_of_operations n s wanted none more is = sym is ∙ ap (λ m. value_from e memory m s) none ∙ spent s more

  less : (n : ℕ) → n ≢ 0 → n ≡ suc (n - 1)
  less n some = omega arith

  one-step : (n : ℕ) (s : State) (wanted : Option ℕ) → n ≢ 0 → s.position ≢ length e.code
      → value_from e memory n s ≡ wanted
      → option_and_then (value_from e memory (n - 1)) (step_over e memory s) ≡ wanted
  one-step n s wanted some more is =
      sym (stepped (n - 1) s more) ∙ sym (ap (λ m. value_from e memory m s) (less n some)) ∙ is

  pub refused : (limit : Option ℕ) (error : Refusal) (n : ℕ) (s : State) (stack : List ℕ) (wanted : Option ℕ) → n ≢ 0
      → s.position ≢ length e.code → value_from e memory n s ≡ wanted
      → Reaches limit (Err error) (step_over e memory s) stack → Returns limit (err-of error) wanted
  refused limit NoValue n s stack wanted some more is none = sym (rw none at (one-step n s wanted some more is))
  refused limit OutOfMemory n s stack wanted some more is out = out

  pub goes-on : (n : ℕ) (s next : State) (wanted : Option ℕ) → n ≢ 0 → s.position ≢ length e.code
      → value_from e memory n s ≡ wanted → step_over e memory s ≡ Some next
      → value_from e memory (n - 1) next ≡ wanted
  goes-on n s next wanted some more is there = rw there at (one-step n s wanted some more is)

  pub popped : (limit : Option ℕ) (n : ℕ) (s : State) (rest : List ℕ) (wanted : Option ℕ) (result : Result ℕ Refusal)
      → s.position ≡ length e.code → value_from e memory n s ≡ wanted → IfOk result (λ top. s.stack ≡ top ∷ rest)
      → IfErr result (λ error. (error ≡ NoValue) × (s.stack ≡ [])) → Returns limit result wanted
  popped limit n s rest wanted (Ok top) end is some none = sym is ∙ ended n s end ∙ ap (λ stack. slice_get stack 0) some
  popped limit n s rest wanted (Err error) end is some none =
      subst (λ r. Returns limit (err-of r) wanted) (sym none.0)
      (sym is ∙ ended n s end ∙ ap (λ stack. slice_get stack 0) none.1)
