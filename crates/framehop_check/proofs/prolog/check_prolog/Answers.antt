use Rattle.std.proofs.Common.{pos}
use Rattle.framehop_pe.specs.Info.{read_by}
use Rattle.framehop_check.specs.Prolog.{prolog_items}
use Rattle.framehop_check.proofs.ContradictionLemmas.{all-contradict}
use Rattle.framehop_check.proofs.prolog.check_prolog.Goals as goal

pub returns-in_err-check_instructions-clause-contradiction : goal.returns-in_err-check_instructions-clause-contradiction
returns-in_err-check_instructions-clause-contradiction c =
    all-contradict (pos 8) (prolog_items (read_by c.args.info.now) c.args.begin c.args.code.now) c.args.begin

pub returns-then-len-alarms-clause-contradiction : goal.returns-then-len-alarms-clause-contradiction
returns-then-len-alarms-clause-contradiction c =
    all-contradict (pos 8) (prolog_items (read_by c.args.info.now) c.args.begin c.args.code.now) c.args.begin
