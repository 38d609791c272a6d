use Rattle.framehop_cfi.proofs.RememberedLog.{logged_rows-remembered}
use Rattle.framehop_cfi.proofs.remembered_log.RememberedLog.push.Goals as goal

pub returns-clause-remembered : goal.returns-clause-remembered
returns-clause-remembered c = λ rules.
    rw (c.in_ok-push.ensures.items, c.self.view_is) (logged_rows-remembered c.args.self.now c.args.cfa rules)
