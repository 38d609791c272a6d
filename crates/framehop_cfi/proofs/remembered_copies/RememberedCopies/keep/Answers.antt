use Rattle.std.proofs.Common.{sym}
use Rattle.framehop_cfi.proofs.SharedRules.{kept-unshared}
use Rattle.framehop_cfi.proofs.remembered_copies.RememberedCopies.keep.Goals as goal

pub returns-clause-kept : goal.returns-clause-kept
returns-clause-kept g c =
    sym (kept-unshared c.args.row.now.rules c.args.self.now (rw (← c.if-is_shared.false) (sym c.is_shared.ensures)))
