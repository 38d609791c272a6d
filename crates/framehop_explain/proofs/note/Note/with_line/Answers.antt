use Rattle.std.proofs.Common.{◌++◌, ◌∷◌, [], arith}
use Rattle.framehop_explain.proofs.NoteLemmas.{note-more}
use Rattle.framehop_explain.proofs.note.Note.with_line.Goals as goal

pub invariant_of-result : goal.invariant_of-result
invariant_of-result c =
    let texts = c.self.invariant.0 in
    let more = note-more c.self.inside.bytes.items c.args.text.now texts c.self.invariant.1 in
    (texts ++ c.args.text.now ∷ [], grind (arith, more))
