use Rattle.framehop_perf_stacks.specs.Processes.{IsServed}
use Rattle.framehop_perf_stacks.proofs.ServedLemmas.{served-later}
use Rattle.framehop_perf_stacks.proofs.processes.Processes.map.Goals as goal

pub mapped-requires : goal.mapped-requires
mapped-requires g c =
    (rw c.in-Some.is at (c.take-process.ensures.fits (g.M.ModuleMaker.module_of c.args.maker.now) c.requires.0 c.requires.1)).modules

pub returns-in_ok-keep-clause-served : goal.returns-in_ok-keep-clause-served
returns-in_ok-keep-clause-served g c = λ cache served.
    let module_of = g.M.ModuleMaker.module_of c.args.maker.now in
    let taken = c.take-process.ensures.served module_of cache served in
    let put : IsServed module_of (λ view. g.U.Unwinder.is_sound view cache) c.put.new.self.ready c.put.new.self.generations =
    rw c.put.ensures.ready (served-later module_of _ _ _ _ c.put.ensures.drawn.0 taken) in
    c.in_ok-keep.ensures.served module_of cache (c.in_ok-process.ensures.served cache put) (c.in_ok-process.ensures.fits cache put)

pub returns-in_default-clause-served : goal.returns-in_default-clause-served
returns-in_default-clause-served g c = λ cache served.
    let module_of = g.M.ModuleMaker.module_of c.args.maker.now in
    let taken = c.take-process.ensures.served module_of cache served in
    rw c.put.ensures.ready (served-later module_of _ _ _ _ c.put.ensures.drawn.0 taken)
