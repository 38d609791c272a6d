use Rattle.std.proofs.Common.{◌≡◌, ◌++◌, drop, string_bytes}
use Rattle.framehop_check_cli.specs.Checked.{range_lines}
use Rattle.framehop_check_cli.proofs.missing.push_ranges.Given as goal

-- what the ranges that are left add is what is still to be appended
abbrev pub invariant-loop-range : goal.invariant-loop-range
invariant-loop-range l =
    string_bytes l.out ++ range_lines l.parts (drop l.range-index l.ranges) ≡ string_bytes l.fn.out ++ range_lines l.parts l.ranges
