-- Results that are errors, and results that are not.
use Rattle.std.proofs.Common.{◌≡◌, ◌∙◌, ℕ, Bool, true, false, refl, Result, Ok, Err, IfErr, ap, sym, subst}
use Rattle.std.specs.Result.{IsErrAnd}
use Rattle.framehop_dump_stacks.specs.Ended.{MayEnd}
use Rattle.framehop_dump_stacks.specs.declared.error.DumpStacksError.{DumpStacksError}
use Rattle.framehop_dump_stacks.specs.declared.error.DumpStacksError.TheVariants.{Core, Minidump, OutOfMemory, GenerationsExhausted, EmptyMapping, CannotWrite}

-- what holds of an error holds of the result that has it
pub failed_as : {T E : Type 0} (result : Result T E) (error : E) (P : E → Type 0) → IsErrAnd result (λ back. back ≡ error) → P error → IfErr result P
failed_as (Ok x) error P is holds = absurd is
failed_as (Err e) error P is holds = subst P (sym is) holds

abbrev value_or : {A E : Type 0} → A → Result A E → A
value_or other (Ok value) = value
value_or other (Err error) = other

-- a result has one value
pub ok-same : {A E : Type 0} (read : Result A E) (first second : A) → read ≡ Ok first → read ≡ Ok second → first ≡ second
ok-same read first second one two = ap (value_or first) (sym one ∙ two)

-- one where no write has failed is also one where some may have
pub may-end-failed : (failed : Bool) (drawn : ℕ) (error : DumpStacksError) → MayEnd false drawn error → MayEnd failed drawn error
may-end-failed failed drawn OutOfMemory may = may
may-end-failed false drawn CannotWrite may = may
may-end-failed true drawn CannotWrite may = refl
may-end-failed failed drawn GenerationsExhausted may = may
may-end-failed failed drawn EmptyMapping may = may
may-end-failed failed drawn (Core refusal) may = may
may-end-failed failed drawn (Minidump refusal) may = may
