use Rattle.framehop_cfi.proofs.EntryMeaning.{cie-found, no-cie}
use Rattle.framehop_cfi.proofs.entry.UnwindSection.cie_from_offset.Goals as goal

pub returns-clause-found : goal.returns-clause-found
returns-clause-found c = cie-found c.args.self.now c.args.at c.read_cie_at.result c.read_cie_at.ensures.exact

pub returns-clause-none : goal.returns-clause-none
returns-clause-none c = no-cie c.args.self.now c.args.at c.read_cie_at.result c.read_cie_at.ensures.exact
