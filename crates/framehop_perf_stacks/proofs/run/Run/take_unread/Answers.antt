use Rattle.std.proofs.Common.{map, [], ap, ◌∙◌, Some, subst}
use Rattle.framehop_frames.specs.Stack.{shown_frame}
use Rattle.framehop_perf_stacks.specs.Names.{named_in}
use Rattle.framehop_perf_stacks.specs.Processes.{mapped_in}
use Rattle.framehop_perf_stacks.specs.Run.{sample_refusal}
use Rattle.framehop_perf_stacks.specs.Samples.{SampleStack, unread_stack, told_by, IsTaken}
use Rattle.framehop_perf_stacks.proofs.run.Run.take_unread.Goals as goal

pub returns-clause-taken : goal.returns-clause-taken
returns-clause-taken g c =
    let options = c.args.input.now.options in
    let why = sample_refusal c.args.refusal in
    let stack = c.chain_stack-stack.ensures
    ∙ ap (λ why. unread_stack why (map shown_frame c.as_slice.result.now)) c.refusal_name.ensures
    ∙ ap (λ list. unread_stack why (map shown_frame list)) c.as_slice.ensures.value ∙ ap (unread_stack why) c.in_ok-frames.ensures in
    subst (λ (stack : SampleStack). IsTaken options.frames
    (told_by options c.args.input.now.files.now (named_in c.args.self.now.names c.args.sample.tid) (Some c.args.sample)
    (mapped_in c.args.self.now.processes.by_pid c.args.sample.pid) stack [])
    c.args.self.now.counts c.take_known.new.self.counts c.args.out.now.bytes c.take_known.new.out.bytes)
    stack c.in_ok-take_known.ensures.taken
