-- The module that is added is the one that was made.
use Rattle.framehop_c.proofs.calls.add_module.Goals as goal

pub returns-in-Ok-add_module-clause-added : goal.returns-in-Ok-add_module-clause-added
returns-in-Ok-add_module-clause-added g c = λ _. rw c.in-Ok.ensures.made at c.in-Ok-add_module.ensures.added
