use Rattle.std.proofs.Common.{◌≡◌, ℕ}
use Rattle.std.specs.List.Sorted.{IsNonDecreasingBy}
use Rattle.framehop_memory.specs.declared.stairs.Run.{Run}
use Rattle.framehop_memory.specs.Stairs.{have_run}
use Rattle.framehop_memory.proofs.StairLemmas.{AreRisingBelow}
use Rattle.framehop_memory.proofs.stairs.raise.Given as goal

abbrev pub invariant-loop-index : goal.invariant-loop-index
invariant-loop-index l = record {
  sorted : IsNonDecreasingBy (λ (run : Run). run.start) l.runs;
  rising : AreRisingBelow l.runs l.index;
  same : (address size : ℕ) → have_run l.runs address size ≡ have_run l.initial.runs address size;
}
