use Rattle.std.proofs.Common.{rules, ◌+◌, map, drop, sym, ◌∙◌}
use Rattle.framehop_dump_files.specs.Coredump.Note.{placed_view, is_of}
use Rattle.framehop_dump_files.proofs.GatherLemmas.{next-is}
use Rattle.framehop_dump_files.proofs.ThreadLemmas.{kind-first, kind-later}
use Rattle.framehop_dump_files.proofs.coredump.thread.note_in.Goals as goal

pub returns-then-is_of : goal.returns-then-is_of
returns-then-is_of c =
    let l = c.loop-index in
    let later = c.args.later.now in
    let is = next-is placed_view later l.index _ (search rules) in
    sym (l.invariant ∙ kind-first (map placed_view (drop l.index later)) (map placed_view (drop (l.index + 1) later)) _ is
    (is_of c.args.owner.now c.args.n_type) (sym c.is_thread.ensures ∙ c.if-is_thread.false) (sym c.is_of.ensures ∙ c.if-is_of.true))

pub loop-index-preserved : goal.loop-index-preserved
loop-index-preserved c =
    let l = c.loop-index in
    let later = c.args.later.now in
    let is = next-is placed_view later l.index _ (search rules) in
    l.invariant
    ∙ kind-later (map placed_view (drop l.index later)) (map placed_view (drop (l.index + 1) later)) _ is
    (is_of c.args.owner.now c.args.n_type) (sym c.is_thread.ensures ∙ c.if-is_thread.false) (sym c.is_of.ensures ∙ c.if-is_of.false)
