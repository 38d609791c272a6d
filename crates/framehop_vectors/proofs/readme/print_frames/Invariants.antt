use Rattle.framehop.specs.UnwindIterator.{progress_in, regs_of}
use Rattle.framehop.proofs.EndingLemmas.{calls_left, Fits}
use Rattle.framehop_vectors.proofs.readme.print_frames.Given as goal

-- how many calls can still follow
abbrev pub decreases-loop-frame : goal.decreases-loop-frame
decreases-loop-frame l = calls_left (progress_in l.frames) (regs_of l.frames)

-- sp fits 64 bits, where a step has led
abbrev pub invariant-loop-frame : goal.invariant-loop-frame
invariant-loop-frame l = Fits (progress_in l.frames) (regs_of l.frames)
