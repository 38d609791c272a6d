use Rattle.std.proofs.Common.{◌≡◌, ◌++◌, drop}
use Rattle.framehop_check.specs.Missing.{bounds_of}
use Rattle.framehop_check.proofs.missing.add_bounds.Given as goal

-- the bounds so far and those that are left are all
abbrev pub invariant-loop-function : goal.invariant-loop-function
invariant-loop-function l =
    l.ranges.items ++ bounds_of (drop l.function-index l.functions) ≡ l.fn.ranges.items ++ bounds_of l.functions
