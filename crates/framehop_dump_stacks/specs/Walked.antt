-- The threads of a process with their stacks, and with notes where these are asked for.
use Rattle.std.specs.Prelude.{◌≡◌, ℕ, Bool, true, false, List, [], ◌∷◌, map, Option, option_map, Result}
use Rattle.framehop_core.specs.CodeAddress.{FrameLocation}
use Rattle.framehop_core.specs.Memory.{Memory}
use Rattle.framehop_dump_files.specs.declared.coredump.core_file.Machine.{Machine}
use Rattle.framehop_dump_files.specs.declared.coredump.core_file.Machine.TheVariants.{X86_64, Aarch64}
use Rattle.framehop.specs.Modules.{ModuleView}
use Rattle.framehop_backtrace.specs.declared.frame.BacktraceEnd.{BacktraceEnd}
use Rattle.framehop_backtrace.specs.declared.frame.FoundBy.{FoundBy}
use Rattle.framehop_processes.specs.declared.mapping.Mapping.{Mapping}
use Rattle.framehop_processes.specs.declared.files.Files.{Files}
use Rattle.framehop_frames.specs.Notes.{NotedStack, noted_from, AreStackNotes}
use Rattle.framehop_frames.specs.Rows.{rows_in}
use Rattle.framehop_frames.specs.Stack.{StackView}
use Rattle.framehop_frames.specs.TakenText.{IsNoteX86_64, IsNoteAarch64}
use Rattle.framehop_frames.specs.Walker.{Walker, x86_64_walker, aarch64_walker}
use Rattle.framehop_frames.specs.declared.machine.Start.{Start}
use Rattle.framehop_dumps.specs.Dump.{RegistersView, ThreadView, DumpView, memory_in}
use Rattle.framehop_dump_stacks.specs.Modules.{mappings_in, module_at}
use Rattle.framehop_dump_stacks.specs.Thread.{code_in, thread_stack, begins_x86_64, begins_aarch64}

-- a thread with its stack, and with notes for the lines of its block
pub record WalkedThread : Type 0 where
  pub thread : ThreadView
  pub stack : StackView
  pub notes : List (List ℕ)

-- notes are such, where they are asked for (`true`); else there are none
abbrev pub AreNotesIf : Bool → (List (List ℕ) → Type 0) → List (List ℕ) → Type 0
AreNotesIf true are_notes notes = are_notes notes
AreNotesIf false are_notes notes = notes ≡ []

module _ {Regs : Type 0} (walker : Walker Regs) (begins : RegistersView → Option (Start Regs)) (limit : ℕ) where
  -- what is noted of the stack of a thread, by mappings and by modules
  abbrev pub noted_thread : Files → List Mapping → List ModuleView → DumpView → ThreadView → Option (NotedStack Regs)
  noted_thread files mappings modules dump thread = option_map
      (noted_from walker limit modules (rows_in walker files mappings modules) (memory_in dump) (code_in dump files mappings))
      (begins thread.registers)

  -- `is_note`: a note is that of a frame, among modules and over a memory; `explains`: notes are asked for
  module _ (is_note : List ModuleView → Memory → FrameLocation → Regs → Result FoundBy BacktraceEnd → List ℕ → Type 0)
      (explains : Bool) where
    -- notes are those of a thread's block, if they are asked for
    abbrev pub AreNotesOf : Files → List Mapping → List ModuleView → DumpView → ThreadView → List (List ℕ) → Type 0
    AreNotesOf files mappings modules dump thread notes = AreNotesIf explains
        (AreStackNotes (is_note modules (memory_in dump)) (noted_thread files mappings modules dump thread)) notes

    -- a thread has the stack of its walk, and its notes
    abbrev pub IsWalked : Files → List Mapping → List ModuleView → DumpView → ThreadView → WalkedThread → Type 0
    IsWalked files mappings modules dump thread walked =
        (walked.thread ≡ thread)
        × (walked.stack ≡ thread_stack walker begins limit files mappings modules dump thread)
        × AreNotesOf files mappings modules dump thread walked.notes

    -- the same of threads, one after another
    abbrev pub AreWalked : Files → List Mapping → List ModuleView → DumpView → List ThreadView → List WalkedThread → Type 0
    AreWalked files mappings modules dump [] walked = walked ≡ []
    AreWalked files mappings modules dump (thread ∷ others) walked =
        (first : WalkedThread) × IsWalked files mappings modules dump thread first
        × ((later : List WalkedThread) × AreWalked files mappings modules dump others later × (walked ≡ first ∷ later))

    -- those of a process, by the modules of the mappings of its files
    abbrev pub AreWalkedBy : (Mapping → ModuleView) → DumpView → Files → List WalkedThread → Type 0
    AreWalkedBy module_of dump files walked =
        AreWalked files (mappings_in dump files) (map module_of (mappings_in dump files)) dump dump.threads walked

-- the same on one of the two machines
abbrev pub AreWalkedOn : Machine → Bool → ℕ → DumpView → Files → List WalkedThread → Type 0
AreWalkedOn X86_64 explains limit dump files walked =
    AreWalkedBy x86_64_walker begins_x86_64 limit IsNoteX86_64 explains (module_at dump files) dump files walked
AreWalkedOn Aarch64 explains limit dump files walked =
    AreWalkedBy aarch64_walker begins_aarch64 limit IsNoteAarch64 explains (module_at dump files) dump files walked

-- all threads of a process with their stacks, by its memory and its files, each of at most so many frames
abbrev pub AreThreadsOf : Bool → ℕ → DumpView → Files → List WalkedThread → Type 0
AreThreadsOf explains limit dump files walked = AreWalkedOn dump.machine explains limit dump files walked
