use Rattle.std.proofs.Common.{◌≡◌, ◌++◌, drop, string_bytes}
use Rattle.framehop_check_cli.specs.Findings.{parts_view, machine_of, alarm_lines}
use Rattle.framehop_check_cli.proofs.findings.push_alarms.Given as goal

-- what the alarms that are left add is what is still to be appended
abbrev pub invariant-loop-alarm : goal.invariant-loop-alarm
invariant-loop-alarm g l =
    let lines = alarm_lines (machine_of g.C.Code.instruction g.C.Code.numbered g.C.Code.return_column g.C.Code.entry g.C.Code.named) (parts_view l.parts) l.start l.code in
    string_bytes l.out ++ lines (drop l.alarm-index l.alarms) ≡ string_bytes l.fn.out ++ lines l.alarms
