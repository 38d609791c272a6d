use Rattle.std.proofs.Common.{length}
use Rattle.framehop_dumps.specs.ThreadNames.{named_view}
use Rattle.framehop_dumps.specs.Minidump.{named_in, names_limit}
use Rattle.framehop_dumps.proofs.WithinLemmas.{IsSoFar}
use Rattle.framehop_dumps.proofs.minidump.named_threads.Given as goal

abbrev pub invariant-loop-one : goal.invariant-loop-one
invariant-loop-one l =
    IsSoFar named_view (named_in l.file) (λ named. length named.name) (names_limit l.file) l.placed l.one-index l.left l.names.items
