use Rattle.std.proofs.Common.{◌≡◌, drop}
use Rattle.framehop_object.specs.Pe.CodeView.{first_rsds}
use Rattle.framehop_object.proofs.pe.codeview.first_rsds.Given as goal

abbrev pub invariant-loop-entry : goal.invariant-loop-entry
invariant-loop-entry l = first_rsds l.file l.entries ≡ first_rsds l.file (drop l.entry-index l.entries)
