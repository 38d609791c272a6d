use Rattle.std.proofs.Common.{rules, List, [], Ok, Some, map, refl, subst}
use Rattle.std.specs.Prelude.{◌&&◌}
use Rattle.framehop_processes.specs.declared.mapping.Mapping.{Mapping}
use Rattle.framehop_recording.specs.Sample.{user_view, read_chain_view}
use Rattle.framehop_perf_stacks.specs.Chain.{frames_of_chain}
use Rattle.framehop_perf_stacks.specs.Names.{named_in}
use Rattle.framehop_perf_stacks.specs.Processes.{mapped_in}
use Rattle.framehop_perf_stacks.specs.Run.{sample_refusal}
use Rattle.framehop_perf_stacks.specs.Samples.{unread_stack, told_by, IsUserStack}
use Rattle.framehop_perf_stacks.proofs.run.Run.take_sample.Goals as goal

pub make_ready-requires : goal.make_ready-requires
make_ready-requires g c = (c.args.self.now.cache, c.requires)

pub returns-in_ok-take_user-in-Ok-clause-served : goal.returns-in_ok-take_user-in-Ok-clause-served
returns-in_ok-take_user-in-Ok-clause-served g c = λ served.
    c.in_ok-take_user-in-Ok.ensures.served (g.M.ModuleMaker.module_of c.args.input.now.maker.now) (c.in_ok-make_ready.ensures.served c.args.self.now.cache served)

pub returns-in_ok-take_unread-in-Err-clause-served : goal.returns-in_ok-take_unread-in-Err-clause-served
returns-in_ok-take_unread-in-Err-clause-served g c = λ served.
    rw (c.in_ok-take_unread-in-Err.ensures.processes, c.in_ok-take_unread-in-Err.ensures.cache)
    (c.in_ok-make_ready.ensures.served c.args.self.now.cache served)

pub returns-in_ok-take_unread-in-Err-clause-told : goal.returns-in_ok-take_unread-in-Err-clause-told
returns-in_ok-take_unread-in-Err-clause-told g c = λ served.
    let chain = read_chain_view c.args.sample.chain in
    let mappings = mapped_in c.args.self.now.processes.by_pid c.args.sample.pid in
    let stack = unread_stack (sample_refusal c.in-Err.error) (frames_of_chain c.in-Err.error chain) in
    let taken = c.in_ok-take_unread-in-Err.ensures.taken in
    let met = c.in_ok-make_ready.ensures.kept c.args.sample.pid in (
      told_by c.args.input.now.options c.args.input.now.files.now (named_in c.args.self.now.names c.args.sample.tid) (Some c.args.sample) mappings stack [],
      (stack, ([], rw c.in-Err.is (refl, refl), refl)),
      search (rules, taken, met),
    )

pub returns-in_ok-take_user-in-Ok-clause-told : goal.returns-in_ok-take_user-in-Ok-clause-told
returns-in_ok-take_user-in-Ok-clause-told g c = λ served.
    let module_of = g.M.ModuleMaker.module_of c.args.input.now.maker.now in
    let pid = c.args.sample.pid in
    let name = named_in c.args.self.now.names c.args.sample.tid in
    let mappings = mapped_in c.args.self.now.processes.by_pid pid in
    let told = c.in_ok-take_user-in-Ok.ensures.told module_of (c.in_ok-make_ready.ensures.served c.args.self.now.cache served) in
    let met = c.in_ok-make_ready.ensures.kept pid in
    let P : List Mapping → Type 0 = λ list.
    IsUserStack g.U.Steps.walker g.U.Steps.is_note g.U.Sampled.starts (c.args.input.now.options.frames && c.args.input.now.options.explain) c.args.input.now.options.limit c.args.input.now.files.now list (map module_of list) c.args.mask (read_chain_view c.args.sample.chain) (Ok (user_view c.in-Ok.user)) told.0 told.1.0 in
    let user = subst P met told.1.1 in
    let taken = told.1.2 in (
      told_by c.args.input.now.options c.args.input.now.files.now name (Some c.args.sample) mappings told.0 told.1.0,
      (told.0, (told.1.0, rw c.in-Ok.is user, refl)),
      search (rules, taken, met),
    )
