use Rattle.framehop_check.specs.Check.{items_of_fde}
use Rattle.framehop_check.proofs.ContradictionLemmas.{all-contradict, rows-follow}
use Rattle.framehop_check.proofs.QuietLemmas.{is-quiet}
use Rattle.framehop_check.proofs.check.Checker.check_function.Goals as goal

pub returns-in_err-check_rows-clause-contradiction : goal.returns-in_err-check_rows-clause-contradiction
returns-in_err-check_rows-clause-contradiction g c =
    all-contradict g.C.Code.entry
    (items_of_fde g.C.Code.instruction g.C.Code.numbered g.C.Code.return_column g.S.UnwindContextStorage.limits
    c.args.section.now c.args.fde.now c.args.code.now) c.args.fde.now.initial_address

pub returns-then-len-alarms-clause-contradiction : goal.returns-then-len-alarms-clause-contradiction
returns-then-len-alarms-clause-contradiction g c =
    all-contradict g.C.Code.entry
    (items_of_fde g.C.Code.instruction g.C.Code.numbered g.C.Code.return_column g.S.UnwindContextStorage.limits
    c.args.section.now c.args.fde.now c.args.code.now) c.args.fde.now.initial_address

pub returns-in_err-check_rows-clause-follows : goal.returns-in_err-check_rows-clause-follows
returns-in_err-check_rows-clause-follows g c =
    rows-follow c.args.fde.now.initial_address
    (items_of_fde g.C.Code.instruction g.C.Code.numbered g.C.Code.return_column g.S.UnwindContextStorage.limits
    c.args.section.now c.args.fde.now c.args.code.now)

pub returns-then-len-alarms-clause-follows : goal.returns-then-len-alarms-clause-follows
returns-then-len-alarms-clause-follows g c =
    rows-follow c.args.fde.now.initial_address
    (items_of_fde g.C.Code.instruction g.C.Code.numbered g.C.Code.return_column g.S.UnwindContextStorage.limits
    c.args.section.now c.args.fde.now c.args.code.now)

pub returns-else-len-alarms-clause-follows : goal.returns-else-len-alarms-clause-follows
returns-else-len-alarms-clause-follows g c =
    rows-follow c.args.fde.now.initial_address
    (items_of_fde g.C.Code.instruction g.C.Code.numbered g.C.Code.return_column g.S.UnwindContextStorage.limits
    c.args.section.now c.args.fde.now c.args.code.now)

pub returns-in_err-check_rows-clause-quiet : goal.returns-in_err-check_rows-clause-quiet
returns-in_err-check_rows-clause-quiet g c =
    is-quiet g.C.Code.entry c.args.fde.now.initial_address
    (items_of_fde g.C.Code.instruction g.C.Code.numbered g.C.Code.return_column g.S.UnwindContextStorage.limits
    c.args.section.now c.args.fde.now c.args.code.now)

pub returns-then-len-alarms-clause-quiet : goal.returns-then-len-alarms-clause-quiet
returns-then-len-alarms-clause-quiet g c =
    is-quiet g.C.Code.entry c.args.fde.now.initial_address
    (items_of_fde g.C.Code.instruction g.C.Code.numbered g.C.Code.return_column g.S.UnwindContextStorage.limits
    c.args.section.now c.args.fde.now c.args.code.now)

pub returns-else-len-alarms-clause-quiet : goal.returns-else-len-alarms-clause-quiet
returns-else-len-alarms-clause-quiet g c =
    is-quiet g.C.Code.entry c.args.fde.now.initial_address
    (items_of_fde g.C.Code.instruction g.C.Code.numbered g.C.Code.return_column g.S.UnwindContextStorage.limits
    c.args.section.now c.args.fde.now c.args.code.now)
