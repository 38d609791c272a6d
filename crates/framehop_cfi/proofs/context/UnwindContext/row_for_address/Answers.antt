use Rattle.framehop_cfi.proofs.RowMeaning.{answered, refused, becomes-row_at}
use Rattle.framehop_cfi.proofs.context.UnwindContext.row_for_address.Goals as goal

pub returns-clause-row : goal.returns-clause-row
returns-clause-row g c =
    answered g.S.UnwindContextStorage.limits c.args.section.now c.args.fde.now c.args.address c.run_fde.result c.run_fde.new.self c.run_fde.ensures.exact

pub returns-clause-none : goal.returns-clause-none
returns-clause-none g c =
    refused g.S.UnwindContextStorage.limits c.args.section.now c.args.fde.now c.args.address c.run_fde.result c.run_fde.new.self c.run_fde.ensures.exact

pub returns-clause-exact : goal.returns-clause-exact
returns-clause-exact g c =
    becomes-row_at g.S.UnwindContextStorage.limits c.args.section.now c.args.fde.now c.args.address c.run_fde.result c.run_fde.new.self c.run_fde.ensures.exact
