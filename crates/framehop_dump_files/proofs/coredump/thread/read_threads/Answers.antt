use Rattle.std.proofs.Common.{rules, ◌≡◌, ◌+◌, ◌++◌, ◌∷◌, [], map, drop, length, ap, sym, ◌∙◌}
use Rattle.std.proofs.Math.Seq.{drop-length}
use Rattle.std.proofs.lemmas.Result.{err_from_is_err_and}
use Rattle.framehop_dump_files.specs.Coredump.Note.{placed_view}
use Rattle.framehop_dump_files.specs.Coredump.Thread.{thread_view}
use Rattle.framehop_dump_files.proofs.GatherLemmas.{prepended, next-is, all-after, read-more, read-refused, refusal-due, made-all, given-up}
use Rattle.framehop_dump_files.proofs.ThreadLemmas.{threads-more, threads-refused, threads-later, threads-none}
use Rattle.framehop_dump_files.proofs.coredump.thread.read_threads.Goals as goal
use Rattle.framehop_dump_files.proofs.coredump.thread.read_threads.Goals.{then-is_thread+in_ok-thread, else-is_thread}

pub returns-in_err-thread : goal.returns-in_err-thread
returns-in_err-thread c =
    let l = c.loop-index in
    let notes = c.args.notes.now in
    let is = next-is placed_view notes l.index _ (search rules) in
    let p = err_from_is_err_and c.from_residual.result c.from_residual.ensures.1 in
    rw (p.1, p.2) (refusal-due _ c.in_err-thread.field-0.0 (read-refused _ _ _ c.in_err-thread.field-0.0 l.invariant.2
    (threads-refused (map placed_view (drop l.index notes)) (map placed_view (drop (l.index + 1) notes)) _ is c.args.machine c.in_err-thread.field-0.0 _ (ap (map placed_view) (all-after notes (l.index + 1))) (sym c.is_thread.ensures ∙ c.if-is_thread.true) c.in_err-thread.ensures.exact)))

pub loop-index-preserved : goal.loop-index-preserved
loop-index-preserved c =
    let l = c.loop-index in
    let notes = c.args.notes.now in
    let left = map placed_view (drop l.index notes) in
    let rest = map placed_view (drop (l.index + 1) notes) in
    let is = next-is placed_view notes l.index _ (search rules) in
    let before = l.invariant.0 in
    elim c.if-is_thread.branch [
      | then-is_thread+in_ok-thread w ↦
          let thread = w.in_ok-thread.thread in (
            before ++ thread ∷ [],
            rw w.threads-is (w.pushed-threads.ensures before l.invariant.1),
            read-more thread_view _ _ _ before (thread ∷ []) l.invariant.2
                (threads-more left rest _ is c.args.machine (thread_view thread) _ (ap (map placed_view) (all-after notes (l.index + 1))) (sym c.is_thread.ensures ∙ w.if-is_thread.true) w.in_ok-thread.ensures.exact),
          )
      | else-is_thread w ↦ (
        before,
        rw w.threads-is l.invariant.1,
        l.invariant.2 ∙ ap (prepended (map thread_view before)) (threads-later left rest _ is c.args.machine (sym c.is_thread.ensures ∙ w.if-is_thread.false)),
      )
    ]

pub returns-in-Some : goal.returns-in-Some
returns-in-Some c =
    let l = c.loop-index in
    let notes = c.args.notes.now in
    let over : l.index ≡ length notes = search rules in
    let none = threads-none c.args.machine (map placed_view (drop l.index notes)) (ap (map placed_view) (ap (λ i. drop i notes) over ∙ drop-length notes)) in
    made-all thread_view _ _ l.invariant.0 l.threads c.in-Some.threads l.invariant.2 none l.invariant.1 c.in-Some.is

pub returns-in-None : goal.returns-in-None
returns-in-None c =
    let l = c.loop-index in
    let notes = c.args.notes.now in
    let over : l.index ≡ length notes = search rules in
    let none = threads-none c.args.machine (map placed_view (drop l.index notes)) (ap (map placed_view) (ap (λ i. drop i notes) over ∙ drop-length notes)) in
    given-up _ _ (map thread_view l.invariant.0) l.invariant.2 none
