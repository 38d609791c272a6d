-- The threads of a process as text.
use Rattle.std.specs.Prelude.{ℕ, List, [], ◌∷◌, ◌++◌, codes, Bool, Option, Some, None}
use Rattle.std.specs.Fmt.{decimal}
use Rattle.std.specs.List.{flat_map}
use Rattle.framehop_processes.specs.declared.mapping.Mapping.{Mapping}
use Rattle.framehop_frames.specs.Explained.{shown_with}
use Rattle.framehop_frames.specs.Line.{plain}
use Rattle.framehop_frames.specs.Numbered.{numbered_text}
use Rattle.framehop_frames.specs.Stack.{StackView}
use Rattle.framehop_processes.specs.declared.files.Files.{Files}
use Rattle.framehop_dumps.specs.Dump.{ThreadView, DumpView}
use Rattle.framehop_dump_stacks.specs.Exception.{unnamed_exception, exception_text}
use Rattle.framehop_dump_stacks.specs.Signal.{signal_text}
use Rattle.framehop_dump_stacks.specs.Walked.{WalkedThread}
use Rattle.framehop_dumps.specs.declared.dump.Cause.{Cause}
use Rattle.framehop_dumps.specs.declared.dump.Cause.TheVariants.{Signal, Exception, Other}

-- the name of the program and the number of the process, as far as the file tells them, and the thread
abbrev pub name_text : Option (List ℕ) → List ℕ
name_text (Some name) = plain name
name_text None = codes "[unknown]"

abbrev pub numbers_text : Option ℕ → ℕ → List ℕ
numbers_text (Some pid) tid = 32 ∷ decimal pid ++ 47 ∷ decimal tid
numbers_text None tid = 32 ∷ decimal tid

abbrev pub names_text : Option (List ℕ) → Option ℕ → ℕ → List ℕ
names_text name pid tid = name_text name ++ numbers_text pid tid

-- the name of a thread, if the file tells it
abbrev pub thread_name_text : Option (List ℕ) → List ℕ
thread_name_text (Some name) = codes " \"" ++ plain name ++ codes "\""
thread_name_text None = []

-- what ended the process: a signal, an exception of Windows, or one of another system
abbrev pub reason_text : Cause → List ℕ
reason_text (Signal signal) = signal_text signal
reason_text (Exception exception) = exception_text exception
reason_text (Other code) = unnamed_exception code

-- that a thread ended its process, if it did
abbrev pub cause_text : Option Cause → List ℕ
cause_text None = codes ":\n"
cause_text (Some cause) = codes " crashed by " ++ reason_text cause ++ codes ":\n"

-- the head of a thread's block
unfoldable pub thread_head : Option (List ℕ) → Option ℕ → ThreadView → List ℕ
thread_head name pid thread =
    names_text name pid thread.tid ++ thread_name_text thread.name ++ cause_text thread.cause

-- the block of a thread: its head, a numbered line for each frame, and how the walk ended
abbrev pub thread_text : DumpView → Files → List Mapping → ThreadView → StackView → List ℕ
thread_text dump files mappings thread stack =
    thread_head dump.name dump.pid thread ++ numbered_text files mappings stack

-- the same of a thread with its stack, with its notes under the lines where the block is to be explained
abbrev pub block_text : Bool → DumpView → Files → List Mapping → WalkedThread → List ℕ
block_text explain dump files mappings walked =
    shown_with explain walked.notes (thread_text dump files mappings walked.thread walked.stack)

-- the blocks of threads in their order
abbrev pub blocks_text : Bool → DumpView → Files → List Mapping → List WalkedThread → List ℕ
blocks_text explain dump files mappings threads = flat_map (block_text explain dump files mappings) threads
