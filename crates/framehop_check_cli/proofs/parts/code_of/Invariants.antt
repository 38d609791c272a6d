use Rattle.std.proofs.Common.{◌≡◌, ◌++◌, drop, map}
use Rattle.framehop_check_cli.specs.Parts.{code_view, code_of}
use Rattle.framehop_check_cli.proofs.parts.code_of.Given as goal

-- the code so far and that of the sections that are left is all
abbrev pub invariant-loop-section : goal.invariant-loop-section
invariant-loop-section l =
    map code_view l.code.items ++ code_of l.file (drop l.section-index l.sections) ≡ code_of l.file l.sections
