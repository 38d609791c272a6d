use Rattle.std.proofs.Common.{rules}
use Rattle.std.proofs.lemmas.Result.{IfOk-weaker}
use Rattle.framehop_check_cli.specs.Checked.{IsReported}
use Rattle.framehop_check_cli.specs.Findings.{found_view, machine_of, nothing_in, IsSectionChecked}
use Rattle.framehop_check_cli.specs.Opened.{rows_of}
use Rattle.framehop_check.specs.Room.{room_of}
use Rattle.std.proofs.Common.{length}
use Rattle.framehop_check_cli.proofs.file.check_rows.Goals as goal

pub returns : goal.returns
returns g c =
    let found = found_view c.check_section.new.findings in
    let checked : IsSectionChecked (machine_of g.C.Code.instruction g.C.Code.numbered g.C.Code.return_column g.C.Code.entry g.C.Code.named)
    (rows_of c.args.rows.now) c.args.parts.now c.args.options c.args.allowed.now
    (nothing_in (room_of c.args.size (length c.args.rows.now.contents.items))) found = search rules in
    IfOk-weaker c.into_checked.result (IsReported c.args.path.now found) _ (λ _ reported. (found, checked, reported)) c.into_checked.ensures
