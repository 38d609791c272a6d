use Rattle.std.proofs.Common.{List, ℕ, Some, subst}
use Rattle.framehop_processes.specs.declared.mapping.Mapping.{Mapping}
use Rattle.framehop_perf_stacks.specs.Processes.{mapped_in}
use Rattle.framehop_perf_stacks.specs.Samples.{stack_of, told_by, IsTaken}
use Rattle.framehop_perf_stacks.proofs.run.Run.take_known.Goals as goal

pub returns-clause-taken : goal.returns-clause-taken
returns-clause-taken g c =
    let options = c.args.input.now.options in
    let Taken : List ℕ → List Mapping → Type 0 = λ name mappings. IsTaken options.frames
    (told_by options c.args.input.now.files.now name (Some c.args.sample) mappings (stack_of c.args.stack) c.args.notes.now)
    c.args.self.now.counts c.take_stack.new.counts c.args.out.now.bytes c.take_stack.new.out.bytes in
    subst (λ name. Taken name (mapped_in c.args.self.now.processes.by_pid c.args.sample.pid)) c.get.ensures
    (subst (Taken c.get.result.now) c.mappings.ensures.value c.in_ok-take_stack.ensures.taken)
