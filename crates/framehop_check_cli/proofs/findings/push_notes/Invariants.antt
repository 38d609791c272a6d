use Rattle.std.proofs.Common.{◌≡◌, ◌++◌, drop, string_bytes}
use Rattle.framehop_check_cli.specs.Findings.{parts_view, note_lines}
use Rattle.framehop_check_cli.proofs.findings.push_notes.Given as goal

-- what the notes that are left add is what is still to be appended
abbrev pub invariant-loop-address : goal.invariant-loop-address
invariant-loop-address l =
    string_bytes l.out ++ note_lines (parts_view l.parts) l.start (drop l.address-index l.notes) ≡ string_bytes l.fn.out ++ note_lines (parts_view l.parts) l.start l.notes
