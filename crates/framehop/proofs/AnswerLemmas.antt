-- A module's answer, with the fallback rule where its bytes give none.
use Rattle.std.proofs.Common.{◌≡◌, ◌≢◌, ◌⊎◌, inl, inr, ℕ, ◌-◌, Bool, true, List, Option, Some, None, Result, Ok, Err, IfOk, IfErr, refl, sym, ap, ◌∙◌}
use Rattle.std.specs.Option.{unwrap_or}
use Rattle.std.proofs.lemmas.Bool.{MatchBool-at_true, MatchBool-at_false}
use Rattle.framehop_core.specs.Memory.{Memory}
use Rattle.framehop_core.specs.Outcome.{answered}
use Rattle.framehop_core.specs.Step.{IfRule, WritesWithAddress}
use Rattle.framehop_core.specs.declared.error.Error.{Error}
use Rattle.framehop_core.specs.declared.error.Error.TheVariants.{OutOfMemory as NoMemory}
use Rattle.framehop_core.specs.declared.unwind_result.UnwindResult.{UnwindResult}
use Rattle.framehop_core.specs.declared.unwind_result.UnwindResult.TheVariants.{ExecRule, Uncacheable}
use Rattle.framehop.specs.Answer.{Fresh, by_rule, direct}
use Rattle.framehop.specs.Modules.{ModuleView, covering}
use Rattle.framehop.specs.Policy.{Policy}
use Rattle.framehop.specs.Unwinding.{Unwinding, Readers, answer_by, may_take_memory_by}
use Rattle.framehop.specs.Soundness.{MayTakeMemory}
use Rattle.framehop.specs.Fresh.{fresh, outcome_of}
use Rattle.framehop.specs.Told.{out_of_memory, IsDirect, values_in, TellsAnswer, TellsValues, TellsFresh, TellsFreshValues, WritesComputed, AnswerHas, no_memory, no_values, nothing, IsAnswerOf}
use Rattle.framehop.specs.Laws.Meaning.{fresh-covered}
use Rattle.framehop.proofs.ToldLemmas.{err-same}
use Rattle.framehop.specs.declared.modules.UnwinderError.{UnwinderError}
use Rattle.framehop.specs.declared.frame_answer.FrameAnswer.{FrameAnswer}
use Rattle.framehop.specs.declared.frame_answer.FrameAnswer.TheVariants.{Rule, Fallback, Computed, NotComputed}

-- what the modules give where none covers the address
pub fresh-uncovered : {R Regs : Type 0} (unwinding : Unwinding R Regs) (modules : List ModuleView) (address : ℕ) (first : Bool) → covering modules address ≡ None → fresh unwinding modules address first ≡ by_rule unwinding.fallback
unfolding fresh
fresh-uncovered unwinding modules address first covers = rw covers refl

-- the same by the readers of an architecture
pub given-fresh : {R Regs : Type 0} (unwinding : Unwinding R Regs) (readers : Readers R Regs) (policy : Policy) (fallback : R) → unwinding.module_answer ≡ answer_by readers policy → unwinding.fallback ≡ fallback → (modules : List ModuleView) (address : ℕ) (first : Bool) (m : ModuleView) (relative : ℕ) → covering modules address ≡ Some m → relative ≡ address - m.base_avma → unwrap_or (answer_by readers policy m relative first) (by_rule fallback) ≡ fresh unwinding modules address first
given-fresh unwinding readers policy fallback answers default modules address first m relative covers is =
    sym (fresh-covered unwinding modules address first m covers
    ∙ ap (λ answer. unwrap_or (answer m (address - m.base_avma) first) (by_rule unwinding.fallback)) answers
    ∙ ap (λ at. unwrap_or (answer_by readers policy m at first) (by_rule unwinding.fallback)) (sym is)
    ∙ ap (λ rule. unwrap_or (answer_by readers policy m relative first) (by_rule rule)) default)

pub may-take-memory : {R Regs : Type 0} (unwinding : Unwinding R Regs) (readers : Readers R Regs) (policy : Policy) → unwinding.may_take_memory ≡ may_take_memory_by readers policy → (modules : List ModuleView) (address : ℕ) (first : Bool) (m : ModuleView) (relative : ℕ) → covering modules address ≡ Some m → relative ≡ address - m.base_avma → may_take_memory_by readers policy m relative first ≡ true → MayTakeMemory unwinding modules address first
may-take-memory unwinding readers policy memory modules address first m relative covers is may = record {
  covered_by = m;
  covers = covers;
  may = ap (λ test. test m (address - m.base_avma) first) memory ∙ ap (λ at. may_take_memory_by readers policy m at first) (sym is) ∙ may;
}

error-is : {A : Type 0} (error : UnwinderError) → error ≢ out_of_memory → ◌≢◌ {A = Result A UnwinderError} (Err error) (Err out_of_memory)
error-is error some e = some (err-same error out_of_memory e)

module _ {R : Type 0} where
  pub has : (P : R → Type 0) (told : Result (UnwindResult R) UnwinderError) (result : Result (FrameAnswer R) Error) → IsAnswerOf told result → IfRule told P → IfOk result (AnswerHas P)
  has P (Ok (ExecRule rule)) result is holds = rw is holds
  has P (Ok (Uncacheable address)) result is holds = rw is tt
  has P (Err error) result (no_memory out is) holds = rw is tt
  has P (Err error) result (no_values some of is) holds = rw is tt
  has P (Err error) result (nothing some of is) holds = rw is tt

module _ {R Regs : Type 0} (fallback : R) where
  pub refused : {Q : Type 0} (Advances : Regs → Regs → Type 0) (told : Result (UnwindResult R) UnwinderError) (result : Result (FrameAnswer R) Error) (old new : Regs) → IsAnswerOf told result → WritesWithAddress Advances told old new → (told ≡ Err out_of_memory → Q) → IfErr result (λ error. (error ≡ NoMemory) × (new ≡ old) × Q)
  refused Advances (Ok (ExecRule rule)) result old new is writes then = rw is tt
  refused Advances (Ok (Uncacheable address)) result old new is writes then = rw is tt
  refused Advances (Err error) result old new (no_memory out is) writes then = rw is (refl, writes, then (ap Err out))
  refused Advances (Err error) result old new (no_values some of is) writes then = rw is tt
  refused Advances (Err error) result old new (nothing some of is) writes then = rw is tt

  abbrev Given : Option (Fresh R Regs) → Fresh R Regs
  Given answer = unwrap_or answer (by_rule fallback)

  direct-given : (answer : Option (Fresh R Regs)) → IsDirect answer → IsDirect (Some (Given answer))
  direct-given None is = absurd is
  direct-given (Some (by_rule rule)) is = absurd is
  direct-given (Some (direct compute)) is = tt

  values-given : (answer : Option (Fresh R Regs)) (old : Regs) (memory : Memory) → IsDirect answer → values_in (Some (Given answer)) old memory ≡ values_in answer old memory
  values-given None old memory is = absurd is
  values-given (Some (by_rule rule)) old memory is = absurd is
  values-given (Some (direct compute)) old memory is = refl

  pub tells : (answer : Option (Fresh R Regs)) (told : Result (UnwindResult R) UnwinderError) (result : Result (FrameAnswer R) Error) → IsAnswerOf told result → (told ≢ Err out_of_memory → TellsAnswer answer told) → IfOk result (TellsFresh fallback (Given answer))
  tells answer (Ok (ExecRule rule)) result is told = rw is (ap Given (told (λ e. cc)))
  tells answer (Ok (Uncacheable address)) result is told = rw is (direct-given answer (told (λ e. cc)))
  tells answer (Err error) result (no_memory out is) told = rw is tt
  tells answer (Err error) result (no_values some of is) told =
      rw is (direct-given answer (MatchBool-at_true _ _ of (told (error-is error some))))
  tells answer (Err error) result (nothing some of is) told =
      rw is (ap Given (MatchBool-at_false _ _ of (told (error-is error some))))

  pub values : (answer : Option (Fresh R Regs)) (told : Result (UnwindResult R) UnwinderError) (result : Result (FrameAnswer R) Error) (old new : Regs) (memory : Memory) → IsAnswerOf told result → (told ≢ Err out_of_memory → TellsAnswer answer told) → (told ≢ Err out_of_memory → TellsValues answer old memory told new) → IfOk result (λ made. TellsFreshValues (Given answer) old memory made new)
  values answer (Ok (ExecRule rule)) result old new memory is told are = rw is tt
  values answer (Ok (Uncacheable address)) result old new memory is told are =
      rw is (values-given answer old memory (told (λ e. cc)) ∙ are (λ e. cc))
  values answer (Err error) result old new memory (no_memory out is) told are = rw is tt
  values answer (Err error) result old new memory (no_values some of is) told are =
      let direct' = MatchBool-at_true _ _ of (told (error-is error some)) in
      rw is (values-given answer old memory direct' ∙ MatchBool-at_true _ _ of (are (error-is error some)))
  values answer (Err error) result old new memory (nothing some of is) told are = rw is tt

  pub written : (Advances : Regs → Regs → Type 0) (told : Result (UnwindResult R) UnwinderError) (result : Result (FrameAnswer R) Error) (old new : Regs) → IsAnswerOf told result → WritesWithAddress Advances told old new → IfOk result (λ made. WritesComputed Advances made old new)
  written Advances (Ok (ExecRule rule)) result old new is writes = rw is writes
  written Advances (Ok (Uncacheable address)) result old new is writes = rw is writes
  written Advances (Err error) result old new (no_memory out is) writes = rw is tt
  written Advances (Err error) result old new (no_values some of is) writes = rw is writes
  written Advances (Err error) result old new (nothing some of is) writes = rw is writes

-- what a rule does, and what is done where values can't be computed
pub rule-outcome : {R Regs : Type 0} (unwinding : Unwinding R Regs) (answer : Fresh R Regs) (rule : R) (first : Bool) (regs : Regs) (memory : Memory) → answer ≡ by_rule rule → outcome_of unwinding answer first regs memory ≡ unwinding.outcome rule first regs memory
rule-outcome unwinding answer rule first regs memory is = rw is refl

pub failed-outcome : {R Regs : Type 0} (unwinding : Unwinding R Regs) (answer : Fresh R Regs) (first : Bool) (regs : Regs) (memory : Memory) → IsDirect (Some answer) → values_in (Some answer) regs memory ≡ None → outcome_of unwinding answer first regs memory ≡ unwinding.outcome unwinding.fallback first regs memory
failed-outcome unwinding (by_rule rule) first regs memory direct' none = absurd direct'
failed-outcome unwinding (direct compute) first regs memory direct' none = rw none refl

-- values that are computed are answered
pub computed-outcome : {R Regs : Type 0} (unwinding : Unwinding R Regs) (answer : Fresh R Regs) (first : Bool) (old new : Regs) (memory : Memory) (address : ℕ) → IsDirect (Some answer) → values_in (Some answer) old memory ≡ Some (address, new) → outcome_of unwinding answer first old memory ≡ answered address new
computed-outcome unwinding (by_rule rule) first old new memory address direct' is = absurd direct'
computed-outcome unwinding (direct compute) first old new memory address direct' is = rw is refl

-- the fallback rule is run where there is no rule, or values can't be computed: the registers are as they were
pub fallback-outcome : {R Regs : Type 0} (unwinding : Unwinding R Regs) (fallback : R) (Advances : Regs → Regs → Type 0) (answer : Fresh R Regs) (made : FrameAnswer R) (first : Bool) (old new : Regs) (memory : Memory) → unwinding.fallback ≡ fallback → (made ≡ Fallback) ⊎ (made ≡ NotComputed) → TellsFresh fallback answer made → WritesComputed Advances made old new → TellsFreshValues answer old memory made new → (new ≡ old) × (outcome_of unwinding answer first old memory ≡ unwinding.outcome fallback first old memory)
fallback-outcome unwinding fallback Advances answer Fallback first old new memory is which told same values =
    (same, rule-outcome unwinding answer fallback first old memory told)
fallback-outcome unwinding fallback Advances answer NotComputed first old new memory is which told same values =
    (same, failed-outcome unwinding answer first old memory told values ∙ ap (λ rule. unwinding.outcome rule first old memory) is)
fallback-outcome unwinding fallback Advances answer (Rule rule) first old new memory is (inl e) told same values = (let no = e in cc)
fallback-outcome unwinding fallback Advances answer (Rule rule) first old new memory is (inr e) told same values = (let no = e in cc)
fallback-outcome unwinding fallback Advances answer (Computed address) first old new memory is (inl e) told same values = (let no = e in cc)
fallback-outcome unwinding fallback Advances answer (Computed address) first old new memory is (inr e) told same values = (let no = e in cc)
