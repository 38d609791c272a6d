-- Why a run is refused, by what refused it.
use Rattle.framehop_recording.specs.declared.error.RecordingError.{RecordingError}
use Rattle.framehop_recording.specs.declared.error.RecordingError.TheVariants as recording
use Rattle.framehop_processes.specs.declared.error.ProcessesError.{ProcessesError}
use Rattle.framehop_processes.specs.declared.error.ProcessesError.TheVariants as processes
use Rattle.framehop_folded.specs.declared.error.FoldedError.{FoldedError}
use Rattle.framehop_folded.specs.declared.error.FoldedError.TheVariants as folded
use Rattle.framehop_perf_stacks.specs.declared.error.StacksError.{StacksError}
use Rattle.framehop_perf_stacks.specs.declared.error.StacksError.TheVariants.{Recording, OutOfMemory, GenerationsExhausted, EmptyMapping, TooManySamples}

-- the refusal of a recording, of a change of processes, and of folded stacks, as one of a run
abbrev pub of_recording : RecordingError → StacksError
of_recording recording.OutOfMemory = OutOfMemory
of_recording refusal = Recording refusal

abbrev pub of_processes : ProcessesError → StacksError
of_processes processes.OutOfMemory = OutOfMemory
of_processes processes.GenerationsExhausted = GenerationsExhausted
of_processes processes.EmptyMapping = EmptyMapping

abbrev pub of_folded : FoldedError → StacksError
of_folded folded.OutOfMemory = OutOfMemory
of_folded folded.CountTooLarge = TooManySamples
