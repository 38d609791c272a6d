use Rattle.std.proofs.Common.{◌≡◌, ◌∙◌, Bool, false, inr, sym, subst}
use Rattle.framehop_processes.specs.declared.files.Files.{Files}
use Rattle.framehop_dumps.specs.Added.{more, none}
use Rattle.framehop_dumps.specs.Dump.{dump_view}
use Rattle.framehop_dump_stacks.specs.Ended.{MayEndWithFiles}
use Rattle.framehop_dump_stacks.specs.Modules.{AreFilesAsked, AreFilesFor}
use Rattle.framehop_dump_stacks.proofs.AskedLemmas.{done-always, failed-more, read-for}
use Rattle.framehop_dump_stacks.proofs.EndLemmas.{failed_as}
use Rattle.framehop_dump_stacks.proofs.program.walk_threads.Goals as goal
use Rattle.framehop_dump_stacks.proofs.program.walk_threads.Goals.{then-not-tells_all_files+else-loop-round-test, else-not-tells_all_files}

pub loop-round-init : goal.loop-round-init
loop-round-init g c = (c.args.files.now, c.requires, none)

pub returns-in_err-walk-clause-refused : goal.returns-in_err-walk-clause-refused
returns-in_err-walk-clause-refused g c =
    let source = g.S.FileSource.source c.args.source.now in
    let dump = dump_view c.args.dump.now in
    let all = g.R.Report.is_of_all_files c.args.report.now in
    let files = c.loop-round.files in
    let none-left : all ≡ false = sym c.tells_all_files.ensures ∙ c.if-not-tells_all_files.true in
    let asked : AreFilesFor all source dump files = subst (λ (b : Bool). AreFilesFor b source dump files) (sym none-left) c.loop-round.invariant in
    failed_as c.from_residual.result c.in_err-walk.field-0.0 (MayEndWithFiles false all source dump) c.from_residual.ensures.1
    (inr (files, asked, c.in_err-walk.ensures.refused))

pub returns-then-is_asked-clause-read : goal.returns-then-is_asked-clause-read
returns-then-is_asked-clause-read g c =
    let source = g.S.FileSource.source c.args.source.now in
    let dump = dump_view c.args.dump.now in
    let all = g.R.Report.is_of_all_files c.args.report.now in
    let files = c.loop-round.files in
    let none-left : all ≡ false = sym c.tells_all_files.ensures ∙ c.if-not-tells_all_files.true in
    subst (λ (b : Bool). AreFilesFor b source dump files) (sym none-left) c.loop-round.invariant

pub returns-then-not-branch-clause-read : goal.returns-then-not-branch-clause-read
returns-then-not-branch-clause-read g c =
    let source = g.S.FileSource.source c.args.source.now in
    let dump = dump_view c.args.dump.now in
    let all = g.R.Report.is_of_all_files c.args.report.now in
    let asked = c.loop-round.invariant in
    let files = c.read_files_asked_for.new.files in
    let none-left : all ≡ false = sym c.tells_all_files.ensures ∙ c.if-not-tells_all_files.true in
    let read : AreFilesAsked source dump files = (asked.0, asked.1, more false c.loop-round.files asked.2 c.in_ok-read_files_asked_for.ensures.read) in
    subst (λ (b : Bool). AreFilesFor b source dump files) (sym none-left) read

pub loop-round-preserved : goal.loop-round-preserved
loop-round-preserved g c =
    let asked = c.loop-round.invariant in
    (asked.0, asked.1, more false c.loop-round.files asked.2 c.in_ok-read_files_asked_for.ensures.read)

pub returns-clause-read : goal.returns-clause-read
returns-clause-read g c =
    let source = g.S.FileSource.source c.args.source.now in
    let dump = dump_view c.args.dump.now in
    let files = c.if-not-tells_all_files.files in
    let asked : AreFilesAsked source dump files = elim c.if-not-tells_all_files.branch [
      | then-not-tells_all_files+else-loop-round-test w ↦ subst (λ (some : Files). AreFilesAsked source dump some) (sym w.files-is) w.loop-round.invariant
      | else-not-tells_all_files w ↦ subst (λ (some : Files). AreFilesAsked source dump some) (sym w.files-is) (c.args.files.now, c.requires, none)
    ] in
    done-always c.walk_by-2.result _
    (read-for (g.R.Report.is_of_all_files c.args.report.now) source dump files c.read_files_asked_for-2.new.files asked c.in_ok-read_files_asked_for-2.ensures.read)

pub returns-clause-refused : goal.returns-clause-refused
returns-clause-refused g c =
    let source = g.S.FileSource.source c.args.source.now in
    let dump = dump_view c.args.dump.now in
    let files = c.if-not-tells_all_files.files in
    let asked : AreFilesAsked source dump files = elim c.if-not-tells_all_files.branch [
      | then-not-tells_all_files+else-loop-round-test w ↦ subst (λ (some : Files). AreFilesAsked source dump some) (sym w.files-is) w.loop-round.invariant
      | else-not-tells_all_files w ↦ subst (λ (some : Files). AreFilesAsked source dump some) (sym w.files-is) (c.args.files.now, c.requires, none)
    ] in
    let new = c.read_files_asked_for-2.new.files in
    let read = read-for (g.R.Report.is_of_all_files c.args.report.now) source dump files new asked c.in_ok-read_files_asked_for-2.ensures.read in
    failed-more c.walk_by-2.result _ _ (λ error why. inr (new, read, why)) c.walk_by-2.ensures.refused
