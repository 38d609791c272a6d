use Rattle.framehop_cfi.proofs.EntryMeaning.{fde-found, no-fde}
use Rattle.framehop_cfi.proofs.entry.UnwindSection.fde_from_offset.Goals as goal

pub returns-clause-found : goal.returns-clause-found
returns-clause-found c = fde-found c.args.self.now c.args.at c.read_fde_at.result c.read_fde_at.ensures.exact

pub returns-clause-none : goal.returns-clause-none
returns-clause-none c = no-fde c.args.self.now c.args.at c.read_fde_at.result c.read_fde_at.ensures.exact
