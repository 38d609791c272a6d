-- What an iterator over frames is, in the words of contracts.
use Rattle.std.specs.Borrow.{Bor, MutBor}
use Rattle.framehop.specs.Iterator.{Progress, progress_of}
use Rattle.framehop.specs.declared.iterator.UnwindIterator.{UnwindIterator}

-- its unwinder, how far it has come, and the registers there
abbrev pub unwinder_of : {U F Regs Cache Module : Type 0} → UnwindIterator U F Regs Cache Module → Bor U
unwinder_of frames = frames.unwinder

abbrev pub progress_in : {U F Regs Cache Module : Type 0} → UnwindIterator U F Regs Cache Module → Progress
progress_in frames = progress_of frames.state

abbrev pub regs_of : {U F Regs Cache Module : Type 0} → UnwindIterator U F Regs Cache Module → Regs
regs_of frames = frames.regs

-- the cache that it fills, and the callback that reads the stack for it
abbrev pub cache_of : {U F Regs Cache Module : Type 0} → UnwindIterator U F Regs Cache Module → MutBor Cache
cache_of frames = frames.cache

abbrev pub read_stack_of : {U F Regs Cache Module : Type 0} → UnwindIterator U F Regs Cache Module → MutBor F
read_stack_of frames = frames.read_stack
