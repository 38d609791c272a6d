use Rattle.std.proofs.Common.{◌≡◌, drop}
use Rattle.framehop_check_cli.specs.Findings.{found_view, machine_of, with_fdes}
use Rattle.framehop_check_cli.proofs.findings.Findings.check_fdes.Given as goal

-- the FDEs that are left make of what was found so far what all make of what was found before
abbrev pub invariant-loop-fde : goal.invariant-loop-fde
invariant-loop-fde g l =
    let found = with_fdes (machine_of g.C.Code.instruction g.C.Code.numbered g.C.Code.return_column g.C.Code.entry g.C.Code.named) l.section l.parts l.options l.allowed in
    found (drop l.fde-index l.fdes) (found_view l.self) ≡ found l.fdes (found_view l.fn.self)
