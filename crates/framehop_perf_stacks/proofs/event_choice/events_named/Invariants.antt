use Rattle.std.proofs.Common.{◌≡◌, ◌++◌, map}
use Rattle.std.specs.Prelude.{drop}
use Rattle.framehop_perf_stacks.specs.EventChoice.{numbers_from}
use Rattle.framehop_perf_stacks.proofs.event_choice.events_named.Given as goal

abbrev pub invariant-loop-name : goal.invariant-loop-name
invariant-loop-name l =
    record {
      number : l.number ≡ l.name-index;
      found : l.numbers.items ++ numbers_from l.name-index l.wanted (map (λ name. name.now) (drop l.name-index l.names))
          ≡ numbers_from 0 l.wanted (map (λ name. name.now) l.names);
    }
