use Rattle.std.proofs.Common.{◌≡◌, ℕ, List, map, Ok, ap, ◌∙◌, sym, subst}
use Rattle.std.specs.Prelude.{◌&&◌, Option}
use Rattle.framehop.specs.Modules.{ModuleView, UnwinderView}
use Rattle.framehop_frames.specs.Notes.{NotedStack, option_noted, AreStackNotes}
use Rattle.framehop_frames.specs.Stack.{option_stack_view}
use Rattle.framehop_processes.specs.declared.mapping.Mapping.{Mapping}
use Rattle.framehop_recording.specs.Sample.{user_view, read_chain_view}
use Rattle.framehop_perf_stacks.specs.Processes.{mapped_in}
use Rattle.framehop_perf_stacks.specs.Samples.{stack_of, walked_over, base_of, copied_memory, NotedIf, IsUserStack}
use Rattle.framehop_perf_stacks.proofs.ServedLemmas.{served-after, fit-known, modules-known}
use Rattle.framehop_perf_stacks.proofs.run.Run.take_user.Goals as goal

pub returns-clause-served : goal.returns-clause-served
returns-clause-served g c = λ module_of served.
    rw (c.in_ok-take_known.ensures.processes, c.in_ok-take_known.ensures.cache)
    (served-after module_of _ _ _ _ c.known-process.result.now
    (λ other apart sound. c.in_ok-walked.ensures.stays_sound other apart sound)
    c.known-process.ensures.known.0 c.known-process.ensures.known.1 served)

pub returns-clause-told : goal.returns-clause-told
returns-clause-told g c = λ module_of served.
    let pid = c.args.sample.pid in
    let process = c.known-process.result.now in
    let fit = fit-known module_of _ _ _ c.known-process.ensures.known.0 process c.known-process.ensures.known.1 served in
    let mapped : process.mappings ≡ mapped_in c.args.self.now.processes.by_pid pid = c.known-process.ensures.mapped in
    let modules = modules-known module_of _ _ _ c.known-process.ensures.known.0 process (mapped_in c.args.self.now.processes.by_pid pid) mapped c.known-process.ensures.known.1 served in
    let explained = c.args.input.now.options.frames && c.args.input.now.options.explain in
    let start = c.start-start.result in
    let stack = stack_of c.walked_stack-stack.result in
    let walked = c.walked_stack-stack.ensures
    ∙ ap (λ base. walked_over base (option_stack_view c.in_ok-walked.walked)) c.base_of.ensures
    ∙ ap (walked_over (base_of start)) (c.in_ok-walked.ensures.walked fit.sound) in
    let notes = c.as_slice.result.now in
    let memory = copied_memory c.args.user.stack.now start in
    let by-view = subst (λ (view : UnwinderView). NotedIf explained (AreStackNotes (g.U.Steps.is_note view.modules memory) (option_noted c.in_ok-walked.walked)) notes)
    c.unwinder.ensures (subst (λ (list : List (List ℕ)). NotedIf explained (AreStackNotes (g.U.Steps.is_note (g.U.Unwinder.unwinder_view c.unwinder.result.now).modules memory) (option_noted c.in_ok-walked.walked)) list)
    (sym c.as_slice.ensures.value) c.in_ok-notes.ensures) in
    let noted = subst (λ (of : Option (NotedStack g.row.U-UnwindRegs.Denot)). NotedIf explained (AreStackNotes (g.U.Steps.is_note process.unwinder.modules memory) of) notes)
    (c.in_ok-walked.ensures.noted fit.sound) by-view in
    let Told : List Mapping → List ModuleView → Type 0 = λ mappings list.
    IsUserStack g.U.Steps.walker g.U.Steps.is_note g.U.Sampled.starts explained c.args.input.now.options.limit c.args.input.now.files.now mappings list c.args.mask (read_chain_view c.args.sample.chain) (Ok (user_view c.args.user)) stack notes in (
      stack,
      (
        notes,
        subst (λ mappings. Told mappings (map module_of (mapped_in c.args.self.now.processes.by_pid pid))) mapped
            (subst (Told process.mappings) modules
            (start, c.start-start.ensures process.unwinder.modules (sym c.greatest_end.ensures), walked, noted)),
        c.in_ok-take_known.ensures.taken,
      ),
    )
