use Rattle.std.proofs.Common.{◌++◌, append_assoc, sym, ◌∙◌, ap, subst, ℕ, List}
use Rattle.std.specs.Io.KnownBytes.{Appends}
use Rattle.std.specs.Map.Iter.{deref_pair}
use Rattle.std.proofs.lemmas.Map.Iter.{rest_more}
use Rattle.std.proofs.KnownBytes.{Appends-trans}
use Rattle.std.proofs.Math.Bool.{or-false}
use Rattle.framehop_perf_stacks.specs.Json.{counted_line, counted_lines}
use Rattle.framehop_perf_stacks.proofs.json_report.write_counted.Goals as goal

pub loop-text-preserved : goal.loop-text-preserved
loop-text-preserved g c =
    let line = counted_line c.in-Some.count.now c.in-Some.text.now.items in
    let rest = rest_more deref_pair c.loop-text.text-iterator c.next.new.self c.next.result (c.in-Some.text, c.in-Some.count) c.in-Some.is c.next.ensures.steps in
    let written : Appends c.loop-text.out.bytes c.write_line.new.out.bytes line =
    let P : List ℕ → Type 0 = λ bytes. Appends c.loop-text.out.bytes c.write_line.new.out.bytes
    (counted_line c.in-Some.count.now bytes) in
    subst P c.as_slice.ensures.value c.in_ok-write_line.ensures.written in (
      c.loop-text.invariant.0 ++ line,
      append_assoc c.loop-text.invariant.0 line (counted_lines c.next.new.self) ∙ ap (λ left. c.loop-text.invariant.0 ++ counted_lines left) (sym rest) ∙ c.loop-text.invariant.1,
      Appends-trans c.args.out.now.bytes c.loop-text.out.bytes c.write_line.new.out.bytes c.loop-text.invariant.0 line c.loop-text.invariant.2 written,
      c.in_ok-write_line.ensures.noted ∙ or-false c.loop-text.out.has_failed ∙ c.loop-text.invariant.3,
    )
