-- Stacks as text with numbers of frames: the innermost is 0, as gdb and eu-stack number them.
use Rattle.std.specs.Prelude.{ℕ, ◌+◌, List, [], ◌∷◌, ◌++◌, codes}
use Rattle.std.specs.Fmt.{decimal}
use Rattle.framehop_processes.specs.declared.mapping.Mapping.{Mapping}
use Rattle.framehop_backtrace.specs.declared.frame.BacktraceEnd.{BacktraceEnd}
use Rattle.framehop_processes.specs.declared.files.Files.{Files}
use Rattle.framehop_frames.specs.Line.{ShownFrame, frame_line, last_line, end_text}
use Rattle.framehop_frames.specs.Stack.{StackView, walked, no_stack}

-- a number before a line
abbrev pub number_text : ℕ → List ℕ
number_text n = codes "#" ++ decimal n ++ codes " "

-- the lines of frames, each after its number, from one on
abbrev pub numbered_from : ℕ → (ShownFrame → List ℕ) → List ShownFrame → List ℕ
numbered_from n line [] = []
numbered_from n line (frame ∷ frames) = (number_text n ++ line frame) ++ numbered_from (n + 1) line frames

-- the lines of a block after its head: the frames from the innermost on, and the end of the walk
abbrev pub numbered_block_of : BacktraceEnd → (ShownFrame → List ℕ) → List ShownFrame → List ℕ
numbered_block_of end line frames = numbered_from 0 line frames ++ last_line (end_text end)

-- the block of a stack after its head
abbrev pub numbered_text : Files → List Mapping → StackView → List ℕ
numbered_text files mappings (walked frames end) = numbered_block_of end (frame_line files mappings) frames
numbered_text files mappings (no_stack why) = last_line why
