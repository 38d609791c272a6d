use Rattle.std.proofs.Common.{◌≡◌, Some, drop}
use Rattle.framehop_perf_stacks.specs.Kallsyms.{value_after}
use Rattle.framehop_perf_stacks.proofs.kallsyms.value_of.Given as goal

abbrev pub invariant-loop-byte : goal.invariant-loop-byte
invariant-loop-byte l = value_after (Some 0) l.digits ≡ value_after (Some l.value) (drop l.byte-index l.digits)
