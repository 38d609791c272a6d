-- What is made of a recording, by its architecture.
use Rattle.std.proofs.Common.{◌≡◌, ℕ, Bool, List, map, Option, Result, Ok, Err, IfOk, IfErr, refl, sym, subst}
use Rattle.std.specs.Prelude.{MatchResult}
use Rattle.framehop_folded.specs.declared.folded.Folded.{Folded}
use Rattle.framehop_recording.specs.Attributes.{AttributeView, attribute_view}
use Rattle.framehop_recording.specs.Records.{RecordView}
use Rattle.framehop_recording.specs.declared.error.RecordingError.{RecordingError}
use Rattle.framehop_processes.specs.declared.files.Files.{Files}
use Rattle.framehop_perf_stacks.specs.Bodies.{own_body, IsCompleted}
use Rattle.framehop_perf_stacks.specs.Ended.{before_refusal}
use Rattle.framehop_perf_stacks.specs.Printed.{IsToldIn, IsSaid, IsMadeFrom, IsMadeOf, IsMadeWith, IsWhole, IsMadeUntil, IsMadeUntilWith, MayEndAt}
use Rattle.framehop_perf_stacks.specs.Recording.{are_of_aarch64, records_in}
use Rattle.framehop_perf_stacks.specs.Samples.{beginning, samples_from, Told, Each, IsMade}
use Rattle.framehop_perf_stacks.specs.declared.error.StacksError.{StacksError}
use Rattle.framehop_perf_stacks.specs.declared.error.StacksError.TheVariants.{Recording as Refused, OutOfMemory, GenerationsExhausted, EmptyMapping, TooManySamples, CannotWrite}
use Rattle.framehop_perf_stacks.specs.declared.program.Unwound.{Unwound}
use Rattle.framehop_perf_stacks.specs.declared.recording.Recording.{Recording}
use Rattle.framehop_perf_stacks.specs.declared.run.Options.{Options}
use Rattle.framehop_perf_stacks.proofs.BodiesLemmas.{own}

module _ (gives : RecordView → List ℕ → Type 0) (failed : Bool) (recording : Recording) (files : Files) (options : Options) (before after unsaid said : Option (List ℕ)) where
  -- what is made of records with bodies that are given, by texts of an architecture
  abbrev pub IsMadeBy : Bool → List RecordView → Folded → Type 0
  IsMadeBy of_aarch64 records folded =
      (whole : List RecordView) × Each (IsCompleted gives) records whole × ((samples : List Told)
      × Each (IsToldIn of_aarch64 options files (map attribute_view recording.events.attributes.items)) (samples_from files beginning whole) samples
      × IsMade options.frames samples folded before after × IsSaid samples whole unsaid said)

  abbrev pub IsWholeBy : Bool → Unwound → Type 0
  IsWholeBy of_aarch64 unwound =
      IfOk unwound.ended (λ refusal. IsWhole recording refusal × IsMadeBy of_aarch64 (records_in recording.records.items) unwound.folded)

  abbrev pub IsPartBy : Bool → Unwound → Type 0
  IsPartBy of_aarch64 unwound =
      (refusal : RecordingError) → unwound.ended ≡ Err (Refused refusal)
      → IsMadeBy of_aarch64 (before_refusal (records_in recording.records.items)) unwound.folded

  abbrev pub IsMadeAt : Folded → Result (Option RecordingError) StacksError → Type 0
  IsMadeAt folded ended = MatchResult ended
      (λ refusal. IsWhole recording refusal × IsMadeWith gives recording files options folded before after unsaid said)
      (λ error. MayEndAt failed recording files error × IsMadeUntilWith gives error recording files options folded before after unsaid said)

  abbrev actual : Bool
  actual = are_of_aarch64 (map attribute_view recording.events.attributes.items)

  made-at : (folded : Folded) (ended : Result (Option RecordingError) StacksError)
      → IfOk ended (λ refusal. IsWhole recording refusal × IsMadeBy actual (records_in recording.records.items) folded)
      → IfErr ended (MayEndAt failed recording files)
      → ((refusal : RecordingError) → ended ≡ Err (Refused refusal) → IsMadeBy actual (before_refusal (records_in recording.records.items)) folded)
      → IsMadeAt folded ended
  made-at folded (Ok refusal) whole ends part = whole
  made-at folded (Err (Refused refusal)) whole ends part = (ends, part refusal refl)
  made-at folded (Err OutOfMemory) whole ends part = (ends, tt)
  made-at folded (Err GenerationsExhausted) whole ends part = (ends, tt)
  made-at folded (Err EmptyMapping) whole ends part = (ends, tt)
  made-at folded (Err TooManySamples) whole ends part = (ends, tt)
  made-at folded (Err CannotWrite) whole ends part = (ends, tt)

  made-in : (result : Result Unwound StacksError) → IfOk result (IsWholeBy actual) → IfOk result (λ unwound. IfErr unwound.ended (MayEndAt failed recording files))
      → IfOk result (IsPartBy actual) → IfOk result (λ unwound. IsMadeAt unwound.folded unwound.ended)
  made-in (Ok unwound) whole ends part = made-at unwound.folded unwound.ended whole ends part
  made-in (Err error) whole ends part = tt

  -- what is made by the unwinder of an architecture, which is the recording's
  pub made-by : (of_aarch64 : Bool) → actual ≡ of_aarch64 → (result : Result Unwound StacksError) → IfOk result (IsWholeBy of_aarch64)
      → IfOk result (λ unwound. IfErr unwound.ended (MayEndAt failed recording files)) → IfOk result (IsPartBy of_aarch64)
      → IfOk result (λ unwound. IsMadeAt unwound.folded unwound.ended)
  made-by of_aarch64 is result whole ends part =
      made-in result (subst (λ b. IfOk result (IsWholeBy b)) (sym is) whole) ends (subst (λ b. IfOk result (IsPartBy b)) (sym is) part)

-- ---- the bodies of a recording in memory

module _ (failed : Bool) (recording : Recording) (files : Files) (options : Options) (folded : Folded) (before after unsaid said : Option (List ℕ)) where
  -- what is made of records that have their own bodies
  own-from : (attributes : List AttributeView) (records whole : List RecordView) → Each (IsCompleted own_body) records whole
      → IsMadeFrom attributes whole files options folded before after unsaid said
      → IsMadeFrom attributes records files options folded before after unsaid said
  own-from attributes records whole each is =
      subst (λ list. IsMadeFrom attributes list files options folded before after unsaid said) (own records whole each) is

  own-until : (error : StacksError) → IsMadeUntilWith own_body error recording files options folded before after unsaid said
      → IsMadeUntil error recording files options folded before after unsaid said
  own-until (Refused refusal) is =
      own-from (map attribute_view recording.events.attributes.items) (before_refusal (records_in recording.records.items)) is.0 is.1 is.2
  own-until OutOfMemory is = tt
  own-until GenerationsExhausted is = tt
  own-until EmptyMapping is = tt
  own-until TooManySamples is = tt
  own-until CannotWrite is = tt

  pub made-own : (ended : Result (Option RecordingError) StacksError)
      → MatchResult ended
      (λ refusal. IsWhole recording refusal × IsMadeWith own_body recording files options folded before after unsaid said)
      (λ error. MayEndAt failed recording files error × IsMadeUntilWith own_body error recording files options folded before after unsaid said)
      → MatchResult ended
      (λ refusal. IsWhole recording refusal × IsMadeOf recording files options folded before after unsaid said)
      (λ error. MayEndAt failed recording files error × IsMadeUntil error recording files options folded before after unsaid said)
  made-own (Ok refusal) is =
      (is.0, own-from (map attribute_view recording.events.attributes.items) (records_in recording.records.items) is.1.0 is.1.1 is.1.2)
  made-own (Err error) is = (is.0, own-until error is.1)
