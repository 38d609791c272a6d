use Rattle.std.proofs.Common.{◌≡◌, ◌-◌, ◌/◌, length}
use Rattle.std.specs.List.{filter_map, fold, range_with_len}
use Rattle.framehop_check_cli.specs.Findings.{found_view}
use Rattle.framehop_check_cli.specs.PeFindings.{function_in, with_entry, with_table}
use Rattle.framehop_check_cli.proofs.pe_file.check_table.Given as goal

-- what the entries that are left add is what is still to be found
abbrev pub invariant-loop-number : goal.invariant-loop-number
invariant-loop-number l =
    fold (with_entry l.image l.options) (found_view l.findings) (filter_map (function_in l.table) (range_with_len l.number (length l.table / 12 - l.number)))
    ≡ with_table l.image l.options l.table (found_view l.fn.findings)
