use Rattle.std.proofs.Common.{[], None, codes, false, refl, ap, ◌∙◌, subst}
use Rattle.framehop_perf_stacks.specs.Json.{thread_members}
use Rattle.framehop_perf_stacks.specs.Run.{sample_refusal}
use Rattle.framehop_perf_stacks.specs.Samples.{SampleStack, unread_stack, stack_told, IsTaken, Told}
use Rattle.framehop_perf_stacks.proofs.run.Run.take_sample_record.Goals as goal

pub returns-in_ok-take_sample-in-Ok-clause-told : goal.returns-in_ok-take_sample-in-Ok-clause-told
returns-in_ok-take_sample-in-Ok-clause-told g c = λ served.
    rw c.in-Ok.ensures.exact (c.in_ok-take_sample-in-Ok.ensures.told served)

pub returns-in_ok-take_stack-in-Err-clause-told : goal.returns-in_ok-take_stack-in-Err-clause-told
returns-in_ok-take_stack-in-Err-clause-told g c = λ served.
    let options = c.args.input.now.options in
    let told : SampleStack → Told = λ stack. stack_told options c.args.input.now.files.now (codes "[unknown]") (codes "[unknown]:\n")
    (thread_members (codes "[unknown]") None None None) [] [] false stack [] in
    let stack = unread_stack (sample_refusal c.in-Err.error) [] in
    let taken = subst (λ stack. IsTaken options.frames (told stack)
    c.args.self.now.counts c.take_stack.new.counts c.args.out.now.bytes c.take_stack.new.out.bytes)
    (c.no_stack-stack.ensures ∙ ap (λ why. unread_stack why []) c.refusal_name.ensures) c.in_ok-take_stack-in-Err.ensures.taken in
    rw c.in-Err.ensures.exact (told stack, (stack, ([], (refl, refl), refl)), taken)
