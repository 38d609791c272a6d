use Rattle.std.proofs.Common.{◌∙◌, ◌-◌, ◌+◌, ◌++◌, ◌∷◌, [], None, map, ap, sym, refl, arith}
use Rattle.std.specs.Prelude.{option_map}
use Rattle.std.proofs.lemmas.List.{map-append}
use Rattle.framehop_backtrace.specs.Covers.{is_covered}
use Rattle.framehop_backtrace.specs.Backtrace.{frame_view, moved_to, stack_of}
use Rattle.framehop_backtrace.proofs.BacktraceLemmas.{none, first, one-more, ended, limited}
use Rattle.framehop_backtrace.proofs.KeptLemmas.{none-found, none-length}
use Rattle.framehop_backtrace.proofs.LibraryLemmas.{library-is}
use Rattle.framehop_backtrace.proofs.walk.backtrace.Goals as goal

pub returns-then-limit-eq0-clause-exact : goal.returns-then-limit-eq0-clause-exact
returns-then-limit-eq0-clause-exact g c = λ sound.
    let stack =
    stack_of g.U.BacktraceUnwinder.machine (g.U.Unwinder.step c.args.unwinder.now)
    (g.U.BacktraceUnwinder.is_by_info c.args.unwinder.now) (g.W.Rows.rows c.args.rows.now g.S.UnwindContextStorage.limits)
    (is_covered (g.U.Unwinder.unwinder_view c.args.unwinder.now).modules) (g.M.WordMemory.memory c.args.memory.now) (g.M.CodeMemory.code c.args.memory.now) in
    rw c.new-frames.ensures.items (none stack c.args.limit (frame_view c.args.first) c.if-limit-eq0.true)

pub loop-caller-init : goal.loop-caller-init
loop-caller-init g c =
    let stack =
    stack_of g.U.BacktraceUnwinder.machine (g.U.Unwinder.step c.args.unwinder.now)
    (g.U.BacktraceUnwinder.is_by_info c.args.unwinder.now) (g.W.Rows.rows c.args.rows.now g.S.UnwindContextStorage.limits)
    (is_covered (g.U.Unwinder.unwinder_view c.args.unwinder.now).modules) (g.M.WordMemory.memory c.args.memory.now) (g.M.CodeMemory.code c.args.memory.now) in (
      λ other apart sound. sound,
      λ sound. first stack c.args.limit (c.args.limit - 1) (frame_view c.args.first) (map frame_view c.push.new.self.items)
          (omega arith) (ap (map frame_view) (c.in_ok-push.ensures.items ∙ ap (λ xs. xs ++ c.args.first ∷ []) c.new-frames.ensures.items)),
      none-length None,
      none-found (g.W.Rows.rows c.args.rows.now g.S.UnwindContextStorage.limits) c.args.room.now,
    )

pub loop-caller-preserved : goal.loop-caller-preserved
loop-caller-preserved g c =
    let stack =
    stack_of g.U.BacktraceUnwinder.machine (g.U.Unwinder.step c.args.unwinder.now)
    (g.U.BacktraceUnwinder.is_by_info c.args.unwinder.now) (g.W.Rows.rows c.args.rows.now g.S.UnwindContextStorage.limits)
    (is_covered (g.U.Unwinder.unwinder_view c.args.unwinder.now).modules) (g.M.WordMemory.memory c.args.memory.now) (g.M.CodeMemory.code c.args.memory.now) in
    let view = g.U.Unwinder.unwinder_view c.args.unwinder.now in
    let l = c.loop-caller in (
      λ other apart sound. c.in_ok-moved.ensures.stays_sound other apart (l.invariant.0 other apart sound),
      λ sound. one-more stack (c.args.limit - l._caller) (c.args.limit - (l._caller + 1)) (option_map frame_view l.callee) (frame_view l.frame)
          (frame_view c.next_kept_frame.new.frame) (map frame_view l.frames.items) (map frame_view c.push-in-Ok.new.self.items) _ (omega arith)
          (sym (ap (λ moved. moved_to moved c.next_kept_frame.new.frame) c.in-Ok.is) ∙ c.in_ok-moved.ensures.exact l.invariant.3 (l.invariant.0 view (λ same. refl) sound))
          (ap (map frame_view) c.in_ok-push-in-Ok.ensures.items ∙ map-append frame_view l.frames.items (c.next_kept_frame.new.frame ∷ []))
          (l.invariant.1 sound),
      c.in_ok-moved.ensures.size,
      c.in_ok-moved.ensures.kept l.invariant.3,
    )

pub returns-in-Err-clause-exact : goal.returns-in-Err-clause-exact
returns-in-Err-clause-exact g c = λ sound.
    let stack =
    stack_of g.U.BacktraceUnwinder.machine (g.U.Unwinder.step c.args.unwinder.now)
    (g.U.BacktraceUnwinder.is_by_info c.args.unwinder.now) (g.W.Rows.rows c.args.rows.now g.S.UnwindContextStorage.limits)
    (is_covered (g.U.Unwinder.unwinder_view c.args.unwinder.now).modules) (g.M.WordMemory.memory c.args.memory.now) (g.M.CodeMemory.code c.args.memory.now) in
    let view = g.U.Unwinder.unwinder_view c.args.unwinder.now in
    let l = c.loop-caller in
    ended stack (c.args.limit - l._caller) (c.args.limit - (l._caller + 1)) (option_map frame_view l.callee) (frame_view l.frame) c.in-Err.end
    (map frame_view l.frames.items) _ (omega arith)
    (sym (ap (λ moved. moved_to moved c.next_kept_frame.new.frame) c.in-Err.is) ∙ c.in_ok-moved.ensures.exact l.invariant.3 (l.invariant.0 view (λ same. refl) sound)) (l.invariant.1 sound)

pub returns-clause-exact : goal.returns-clause-exact
returns-clause-exact g c = λ sound.
    let stack =
    stack_of g.U.BacktraceUnwinder.machine (g.U.Unwinder.step c.args.unwinder.now)
    (g.U.BacktraceUnwinder.is_by_info c.args.unwinder.now) (g.W.Rows.rows c.args.rows.now g.S.UnwindContextStorage.limits)
    (is_covered (g.U.Unwinder.unwinder_view c.args.unwinder.now).modules) (g.M.WordMemory.memory c.args.memory.now) (g.M.CodeMemory.code c.args.memory.now) in
    let l = c.loop-caller in
    limited stack (c.args.limit - l._caller) (option_map frame_view l.callee) (frame_view l.frame) (map frame_view l.frames.items) _ (omega arith)
    (l.invariant.1 sound)

pub returns-then-limit-eq0-clause-library : goal.returns-then-limit-eq0-clause-library
returns-then-limit-eq0-clause-library g c = λ sound.
    let stack =
    stack_of g.U.BacktraceUnwinder.machine (g.U.Unwinder.step c.args.unwinder.now)
    (g.U.BacktraceUnwinder.is_by_info c.args.unwinder.now) (g.W.Rows.rows c.args.rows.now g.S.UnwindContextStorage.limits)
    (is_covered (g.U.Unwinder.unwinder_view c.args.unwinder.now).modules) (g.M.WordMemory.memory c.args.memory.now) (g.M.CodeMemory.code c.args.memory.now) in
    library-is stack g.U.BacktraceUnwinder.steps_on c.args.limit (frame_view c.args.first) _ (returns-then-limit-eq0-clause-exact g c sound)

pub returns-in-Err-clause-library : goal.returns-in-Err-clause-library
returns-in-Err-clause-library g c = λ sound.
    let stack =
    stack_of g.U.BacktraceUnwinder.machine (g.U.Unwinder.step c.args.unwinder.now)
    (g.U.BacktraceUnwinder.is_by_info c.args.unwinder.now) (g.W.Rows.rows c.args.rows.now g.S.UnwindContextStorage.limits)
    (is_covered (g.U.Unwinder.unwinder_view c.args.unwinder.now).modules) (g.M.WordMemory.memory c.args.memory.now) (g.M.CodeMemory.code c.args.memory.now) in
    library-is stack g.U.BacktraceUnwinder.steps_on c.args.limit (frame_view c.args.first) _ (returns-in-Err-clause-exact g c sound)

pub returns-clause-library : goal.returns-clause-library
returns-clause-library g c = λ sound.
    let stack =
    stack_of g.U.BacktraceUnwinder.machine (g.U.Unwinder.step c.args.unwinder.now)
    (g.U.BacktraceUnwinder.is_by_info c.args.unwinder.now) (g.W.Rows.rows c.args.rows.now g.S.UnwindContextStorage.limits)
    (is_covered (g.U.Unwinder.unwinder_view c.args.unwinder.now).modules) (g.M.WordMemory.memory c.args.memory.now) (g.M.CodeMemory.code c.args.memory.now) in
    library-is stack g.U.BacktraceUnwinder.steps_on c.args.limit (frame_view c.args.first) _ (returns-clause-exact g c sound)
