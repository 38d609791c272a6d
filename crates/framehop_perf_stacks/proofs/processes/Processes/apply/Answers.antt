use Rattle.framehop_perf_stacks.proofs.processes.Processes.apply.Goals as goal

pub returns-in_ok-begin-in-Begin-clause-served : goal.returns-in_ok-begin-in-Begin-clause-served
returns-in_ok-begin-in-Begin-clause-served g c = λ cache served.
    c.in_ok-begin-in-Begin.ensures.served (g.M.ModuleMaker.module_of c.args.maker.now) cache served

pub returns-in_ok-fork-in-Fork-clause-served : goal.returns-in_ok-fork-in-Fork-clause-served
returns-in_ok-fork-in-Fork-clause-served g c = λ cache served.
    c.in_ok-fork-in-Fork.ensures.served (g.M.ModuleMaker.module_of c.args.maker.now) cache served
