use Rattle.framehop.proofs.x86_64.unwinder.UnwinderX86_64Unwinder.unwind_frame.Goals as goal

pub returns-clause-means : goal.returns-clause-means
returns-clause-means g c = rw (← c.self.view_is) c.unwind_frame.ensures.means
