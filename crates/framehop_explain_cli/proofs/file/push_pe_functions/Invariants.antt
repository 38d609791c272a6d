use Rattle.std.proofs.Common.{◌≡◌, ◌++◌, drop, string_bytes}
use Rattle.framehop_explain_cli.specs.FileText.{pe_lines}
use Rattle.framehop_explain_cli.proofs.FileLemmas.{left_of}
use Rattle.framehop_explain_cli.proofs.file.push_pe_functions.Given as goal

abbrev pub invariant-loop-entry : goal.invariant-loop-entry
invariant-loop-entry l = left_of (string_bytes l.out) (drop l.entry-index l.entries) ≡ string_bytes l.fn.out ++ pe_lines l.pdata
