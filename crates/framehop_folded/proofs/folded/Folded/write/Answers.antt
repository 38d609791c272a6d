use Rattle.std.proofs.Common.{◌++◌, append_assoc, sym, ◌∙◌, ap, subst, ℕ, List}
use Rattle.std.specs.Io.KnownBytes.{Appends}
use Rattle.std.specs.Map.Iter.{deref_pair}
use Rattle.std.proofs.lemmas.Map.Iter.{rest_more}
use Rattle.std.proofs.KnownBytes.{Appends-trans}
use Rattle.std.proofs.Math.Bool.{or-false}
use Rattle.framehop_folded.specs.Folded.{folded_lines, folded_line}
use Rattle.framehop_folded.proofs.folded.Folded.write.Goals as goal

pub loop-stack-preserved : goal.loop-stack-preserved
loop-stack-preserved g c =
    let line = folded_line c.in-Some.stack.now.items c.in-Some.count.now in
    let rest = rest_more deref_pair c.loop-stack.stack-iterator c.next.new.self c.next.result (c.in-Some.stack, c.in-Some.count) c.in-Some.is c.next.ensures.steps in
    let written : Appends c.loop-stack.out.bytes c.write_line.new.out.bytes line =
    let P : List ℕ → Type 0 = λ bytes. Appends c.loop-stack.out.bytes c.write_line.new.out.bytes
    (folded_line bytes c.in-Some.count.now) in
    subst P c.as_slice.ensures.value c.in_ok-write_line.ensures.written in (
      c.loop-stack.invariant.0 ++ line,
      append_assoc c.loop-stack.invariant.0 line (folded_lines c.next.new.self) ∙ ap (λ left. c.loop-stack.invariant.0 ++ folded_lines left) (sym rest) ∙ c.loop-stack.invariant.1,
      Appends-trans c.args.out.now.bytes c.loop-stack.out.bytes c.write_line.new.out.bytes c.loop-stack.invariant.0 line c.loop-stack.invariant.2 written,
      c.in_ok-write_line.ensures.noted ∙ or-false c.loop-stack.out.has_failed ∙ c.loop-stack.invariant.3,
    )
