-- Errors of steps, one after another.
use Rattle.std.proofs.Common.{◌≡◌, ◌⊎◌, inl, inr, ℕ, ◌+◌, ◌^◌, ◌≤◌, Bool, true, false, cond, List, [], ◌∷◌, Option, Some, None, Result, Ok, Err, OnOk, IfErr, IsErrAnd, refl, ap, sym, ◌∙◌, subst, true≢false, arith}
use Rattle.std.specs.Prelude.{is_some}
use Rattle.std.specs.BTreeMap.{is_at}
use Rattle.std.specs.Cmp.Lexicographic.{slice_cmp}
use Rattle.std.specs.Option.{option_or, unwrap_or}
use Rattle.std.specs.Ordering.{nat_cmp}
use Rattle.std.specs.Result.{is_err, result_and, result_err}
use Rattle.std.proofs.lemmas.Map.Steps.{lookup-le-sum}
use Rattle.framehop_folded.specs.Folded.{count_in, total_of}
use Rattle.framehop_folded.specs.declared.folded.Folded.{Folded}
use Rattle.framehop_recording.specs.Records.{RecordView}
use Rattle.framehop_recording.specs.declared.error.RecordingError.{RecordingError}
use Rattle.framehop_recording.specs.declared.error.RecordingError.TheVariants as recording
use Rattle.framehop_perf_stacks.specs.Ended.{refusal_in, first_refusal, before_refusal, MayEnd}
use Rattle.framehop_perf_stacks.specs.Refusal.{of_recording}
use Rattle.framehop_perf_stacks.specs.Run.{AreCounted}
use Rattle.framehop_perf_stacks.specs.declared.counts.Counts.{Counts}
use Rattle.framehop_perf_stacks.specs.declared.error.StacksError.{StacksError}
use Rattle.framehop_perf_stacks.specs.declared.error.StacksError.TheVariants.{Recording, OutOfMemory, GenerationsExhausted, EmptyMapping, TooManySamples, CannotWrite}

-- a refusal ends a step whose record is refused so
pub refused_by : (failed : Bool) (refusal : Option RecordingError) (drawn samples : ℕ) (error : RecordingError)
    → refusal ≡ Some error → MayEnd failed refusal drawn samples (of_recording error)
refused_by failed refusal drawn samples recording.OutOfMemory is = tt
refused_by failed refusal drawn samples other is = is

-- what ends a step ends one that has failed to write, is refused so, draws or counts more
pub ends_more : (failed failed' : Bool) (refusal refusal' : Option RecordingError) (drawn drawn' samples samples' : ℕ) (error : StacksError)
    → (failed ≡ true → failed' ≡ true) → ((e : RecordingError) → refusal ≡ Some e → refusal' ≡ Some e) → drawn ≤ drawn' → samples ≤ samples'
    → MayEnd failed refusal drawn samples error → MayEnd failed' refusal' drawn' samples' error
ends_more failed failed' refusal refusal' drawn drawn' samples samples' OutOfMemory w r d s ends = tt
ends_more failed failed' refusal refusal' drawn drawn' samples samples' CannotWrite w r d s ends = w ends
ends_more failed failed' refusal refusal' drawn drawn' samples samples' GenerationsExhausted w r d s ends = omega (arith, d, ends)
ends_more failed failed' refusal refusal' drawn drawn' samples samples' TooManySamples w r d s ends = omega (arith, s, ends)
ends_more failed failed' refusal refusal' drawn drawn' samples samples' EmptyMapping w r d s ends = absurd ends
ends_more failed failed' refusal refusal' drawn drawn' samples samples' (Recording error) w r d s ends = r error ends

-- ---- counts

-- a count is at most their sum
pub within_total : (folded : Folded) (line : List ℕ) → count_in folded line ≤ total_of folded
within_total folded line = lookup-le-sum (is_at (λ key. slice_cmp nat_cmp line key.items)) folded.counts.entries

pub cannot_write : (failed : Bool) (refusal : Option RecordingError) (drawn samples : ℕ) (error : StacksError) → error ≡ CannotWrite
    → failed ≡ true → MayEnd failed refusal drawn samples error
cannot_write failed refusal drawn samples error is has = rw is has

too_many : (failed : Bool) (samples : ℕ) (error : StacksError) → error ≡ TooManySamples → 2 ^ 64 ≤ samples → MayEnd failed None 0 samples error
too_many failed samples error is large = rw is large

pub out_of_memory : (failed : Bool) (refusal : Option RecordingError) (drawn samples : ℕ) (error : StacksError) → error ≡ OutOfMemory
    → MayEnd failed refusal drawn samples error
out_of_memory failed refusal drawn samples error is = rw is tt

module _ (failed frames : Bool) (counts : Counts) (samples : ℕ) (counted : AreCounted frames samples counts) (line : List ℕ) (error : StacksError) where
  pub sample_ends : (error ≡ OutOfMemory)
      ⊎ ((error ≡ TooManySamples) × ((2 ^ 64 ≤ count_in counts.ends line + 1) ⊎ (2 ^ 64 ≤ counts.samples + 1) ⊎ (2 ^ 64 ≤ counts.unsure + 1) ⊎ (2 ^ 64 ≤ counts.guessed + 1) ⊎ (2 ^ 64 ≤ counts.cut + 1) ⊎ (2 ^ 64 ≤ counts.in_vdso + 1)))
      → MayEnd failed None 0 (samples + 1) error
  sample_ends (inl is) = out_of_memory failed None 0 (samples + 1) error is
  sample_ends (inr (is, inl large)) =
      too_many failed (samples + 1) error is (omega (arith, large, within_total counts.ends line, counted.ends))
  sample_ends (inr (is, inr (inl large))) = too_many failed (samples + 1) error is (omega (arith, large, counted.samples))
  sample_ends (inr (is, inr (inr (inl large)))) = too_many failed (samples + 1) error is (omega (arith, large, counted.unsure))
  sample_ends (inr (is, inr (inr (inr (inl large))))) = too_many failed (samples + 1) error is (omega (arith, large, counted.guessed))
  sample_ends (inr (is, inr (inr (inr (inr (inl large)))))) = too_many failed (samples + 1) error is (omega (arith, large, counted.cut))
  sample_ends (inr (is, inr (inr (inr (inr (inr large)))))) = too_many failed (samples + 1) error is (omega (arith, large, counted.in_vdso))

pub stack_ends : (failed : Bool) (counts : Counts) (line : List ℕ) (error : StacksError)
    → (error ≡ OutOfMemory) ⊎ ((error ≡ TooManySamples) × (2 ^ 64 ≤ count_in counts.stacks line + 1))
    → MayEnd failed None 0 (total_of counts.stacks + 1) error
stack_ends failed counts line error (inl is) = out_of_memory failed None 0 (total_of counts.stacks + 1) error is
stack_ends failed counts line error (inr (is, large)) =
    too_many failed (total_of counts.stacks + 1) error is (omega (arith, large, within_total counts.stacks line))

-- ---- records

-- where the first of records is refused, nothing is before it
pub refused-first : (r : RecordView) (rest : List RecordView) (e : RecordingError) → refusal_in r ≡ Some e
    → first_refusal (r ∷ rest) ≡ Some e
refused-first r rest e is = ap (λ refusal. option_or refusal (first_refusal rest)) is

pub none-before : (r : RecordView) (rest : List RecordView) (e : RecordingError) → refusal_in r ≡ Some e
    → before_refusal (r ∷ rest) ≡ []
none-before r rest e is = ap (λ refusal. cond (is_some refusal) [] (r ∷ before_refusal rest)) is

-- and where it is not, it is before those after it
pub taken-first : (r : RecordView) (rest : List RecordView) → refusal_in r ≡ None → before_refusal (r ∷ rest) ≡ r ∷ before_refusal rest
taken-first r rest is = ap (λ refusal. cond (is_some refusal) [] (r ∷ before_refusal rest)) is

pub refused-after : (r : RecordView) (rest : List RecordView) → refusal_in r ≡ None → first_refusal (r ∷ rest) ≡ first_refusal rest
refused-after r rest is = ap (λ refusal. option_or refusal (first_refusal rest)) is

unrefused-by : (r : RecordView) (rest : List RecordView) (refusal : Option RecordingError) → option_or refusal (first_refusal rest) ≡ None → refusal ≡ None
unrefused-by r rest None is = refl
unrefused-by r rest (Some e) is = absurd (true≢false (ap is_some is))

rest-unrefused : (refusal rest : Option RecordingError) → option_or refusal rest ≡ None → rest ≡ None
rest-unrefused None rest is = is
rest-unrefused (Some e) rest is = absurd (true≢false (ap is_some is))

-- where none is refused, all are before
pub all-before : (records : List RecordView) → first_refusal records ≡ None → before_refusal records ≡ records
all-before [] is = refl
all-before (r ∷ rest) is =
    taken-first r rest (unrefused-by r rest (refusal_in r) is)
    ∙ ap (λ records. r ∷ records) (all-before rest (rest-unrefused (refusal_in r) (first_refusal rest) is))

-- ---- results

abbrev pub failed : (T : Type 0) → StacksError → Result T StacksError
failed T error = Err error

pub same_error : (T : Type 0) (e error : StacksError) → failed T e ≡ failed T error → e ≡ error
same_error T e error is = ap (λ r. unwrap_or (result_err r) e) is

pub if_err_weaker : {T E : Type 0} (result : Result T E) (P Q : E → Type 0) → ((error : E) → P error → Q error) → IfErr result P → IfErr result Q
if_err_weaker (Ok x) P Q weaker told = tt
if_err_weaker (Err e) P Q weaker told = weaker e told

pub if_err_at : {T E : Type 0} (result : Result T E) (error : E) (P : E → Type 0) → result ≡ Err error → P error → IfErr result P
if_err_at result error P is holds = subst (λ r. IfErr r P) (sym is) holds

-- what holds of an error holds of the result that has it
pub failed_as : {T E : Type 0} (result : Result T E) (error : E) (P : E → Type 0) → IsErrAnd result (λ back. back ≡ error) → P error → IfErr result P
failed_as (Ok x) error P is holds = absurd is
failed_as (Err e) error P is holds = subst P (sym is) holds

pub if_err_none : {T E : Type 0} (result : Result T E) (value : T) (P : E → Type 0) → result ≡ Ok value → IfErr result P
if_err_none result value P is = subst (λ r. IfErr r P) (sym is) tt

-- what holds of the errors of two results holds of that of both
pub either_error : {T U : Type 0} (first : Result T StacksError) (second : Result U StacksError) (error : StacksError) (P : StacksError → Type 0)
    → result_and first second ≡ Err error → IfErr first P → IfErr second P → P error
either_error (Ok x) (Ok y) error P is told told' = absurd (true≢false (sym (ap is_err is)))
either_error {T} {U} (Ok x) (Err e) error P is told told' = subst P (same_error U e error is) told'
either_error {T} {U} (Err e) second error P is told told' = subst P (same_error U e error is) told

abbrev is_refusal : StacksError → Bool
is_refusal (Recording refusal) = true
is_refusal other = false

-- a refusal is that of the second, where the first can't have one
pub refusal_of_second : {T U : Type 0} (first : Result T StacksError) (second : Result U StacksError) (refusal : RecordingError)
    → result_and first second ≡ Err (Recording refusal) → IfErr first (λ error. error ≡ CannotWrite) → second ≡ Err (Recording refusal)
refusal_of_second (Ok x) second refusal is told = is
refusal_of_second {T} {U} (Err e) second refusal is told =
    absurd (true≢false (sym (ap is_refusal (sym told ∙ same_error U e (Recording refusal) is))))

-- what holds where the first of two results is `Ok`, holds where both are, and where the second is refused
pub first_ok : {T U E : Type 0} {A : Type 0} (first : Result T E) (second : Result U E) (value : U) → result_and first second ≡ Ok value → OnOk first A → A
first_ok (Ok x) second value is told = told
first_ok (Err e) second value is told = absurd (true≢false (ap is_err is))

pub first_ok_refused : {T U : Type 0} {A : Type 0} (first : Result T StacksError) (second : Result U StacksError) (refusal : RecordingError)
    → result_and first second ≡ Err (Recording refusal) → IfErr first (λ error. error ≡ CannotWrite) → OnOk first A → A
first_ok_refused (Ok x) second refusal is wrote told = told
first_ok_refused {T} {U} (Err e) second refusal is wrote told =
    absurd (true≢false (sym (ap is_refusal (sym wrote ∙ same_error U e (Recording refusal) is))))
