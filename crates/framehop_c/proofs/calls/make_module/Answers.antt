-- The name is empty, and the sections are those of C.
use Rattle.framehop_c.proofs.calls.make_module.Goals as goal

pub returns-clause-made : goal.returns-clause-made
returns-clause-made c = rw (c.new.ensures.bytes, c.named.ensures) at c.new-2.ensures.made
