-- The records of a recording one after another.
use Rattle.std.specs.Prelude.{◌≡◌, ◌≤◌, ℕ, ◌+◌, Bool, ◌==◌, if◌then◌else◌, List, codes}
use Rattle.framehop_recording.specs.Numbers.{PERF_RECORD_SAMPLE}
use Rattle.framehop_recording.specs.declared.order.TimedRecord.{TimedRecord}
use Rattle.framehop_recording.specs.declared.error.RecordingError.{RecordingError}
use Rattle.framehop_recording.specs.declared.error.RecordingError.TheVariants.{NoThread, NoUserStack, NoUserRegisters, Process32Bit, UnknownAbi, UnsupportedField, ShortRecord}
use Rattle.framehop_folded.specs.Folded.{total_of}
use Rattle.framehop_perf_stacks.specs.declared.counts.Counts.{Counts}

-- how many folded stacks there are of so many samples: none where a block is written for each
abbrev pub folded_of : Bool → ℕ → ℕ
folded_of frames samples = if frames then 0 else samples

-- So many samples were counted: the counts of ends sum to them, and those of stacks, and no more are unsure, guessed, cut or in
-- a vdso.
pub record AreCounted (frames : Bool) (count : ℕ) (counts : Counts) : Type 0 where
  pub samples : counts.samples ≡ count
  pub unsure : counts.unsure ≤ count
  pub guessed : counts.guessed ≤ count
  pub cut : counts.cut ≤ count
  pub in_vdso : counts.in_vdso ≤ count
  pub ends : total_of counts.ends ≡ count
  pub stacks : total_of counts.stacks ≡ folded_of frames count

-- so many samples more are counted
abbrev pub CountsMore : Bool → ℕ → Counts → Counts → Type 0
CountsMore frames more old new = (samples : ℕ) → AreCounted frames samples old → AreCounted frames (samples + more) new

-- a record of a sample
abbrev pub is_sample : TimedRecord → Bool
is_sample timed = timed.«record».kind == PERF_RECORD_SAMPLE

-- how many samples a record of a kind is
abbrev pub samples_in_kind : ℕ → ℕ
samples_in_kind kind = if kind == PERF_RECORD_SAMPLE then 1 else 0

-- what is said of a sample that can't be unwound
abbrev pub sample_refusal : RecordingError → List ℕ
sample_refusal (NoThread offset) = codes "no-thread"
sample_refusal (NoUserStack offset) = codes "no-user-stack"
sample_refusal (NoUserRegisters offset) = codes "no-user-registers"
sample_refusal (Process32Bit offset) = codes "32-bit-process"
sample_refusal (UnknownAbi offset) = codes "unknown-abi"
sample_refusal (UnsupportedField offset) = codes "unsupported-field"
sample_refusal (ShortRecord offset) = codes "short-record"
sample_refusal refusal = codes "unreadable"
