use Rattle.std.proofs.Common.{◌||◌, inr}
use Rattle.framehop_dumps.specs.Dump.{dump_view}
use Rattle.framehop_dump_stacks.specs.Ended.{MayEndWithFiles}
use Rattle.framehop_dump_stacks.proofs.AskedLemmas.{failed-more, files-failed}
use Rattle.framehop_dump_stacks.proofs.EndLemmas.{failed_as}
use Rattle.framehop_dump_stacks.proofs.program.write_core_stacks.Goals as goal

pub returns-in_err-walk-clause-refused : goal.returns-in_err-walk-clause-refused
returns-in_err-walk-clause-refused g c =
    let source = g.S.FileSource.source c.args.source.now in
    let dump = dump_view c.args.dump.now in
    let all = g.R.Report.is_of_all_files c.args.report.now in
    let failed = c.args.out.now.has_failed || c.args.err.now.has_failed in
    let e = c.in_err-walk.field-0.0 in
    failed_as c.from_residual-in_err-walk.result e (MayEndWithFiles failed all source dump) c.from_residual-in_err-walk.ensures.1
    (files-failed failed all source dump e c.in_err-walk.ensures.refused)

pub returns-clause-printed : goal.returns-clause-printed
returns-clause-printed g c = λ is.
    let both = c.write_walk.ensures.printed is in
    (c.walk_threads.new.files, c.in_ok-walk.ensures.read, both.0, both.1)

pub returns-clause-refused : goal.returns-clause-refused
returns-clause-refused g c =
    failed-more c.write_walk.result _ _ (λ error why. inr (c.walk_threads.new.files, c.in_ok-walk.ensures.read, why)) c.write_walk.ensures.refused
