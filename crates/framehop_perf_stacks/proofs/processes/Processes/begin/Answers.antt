use Rattle.framehop_perf_stacks.proofs.ServedLemmas.{served-later}
use Rattle.framehop_perf_stacks.proofs.processes.Processes.begin.Goals as goal

pub returns-clause-served : goal.returns-clause-served
returns-clause-served g c = λ module_of cache served.
    rw c.put.ensures.ready (served-later module_of _ _ _ _ c.put.ensures.drawn.0 (c.take.ensures.served module_of cache served))
