use Rattle.std.proofs.Common.{◌≡◌, ◌+◌, ◌++◌, [], ◌∷◌, ap, ap₂, sym, ◌∙◌, get_or, drop, true, false, arith}
use Rattle.std.specs.Prelude.{slice_range}
use Rattle.framehop_disk.specs.Printed.{printed_from, is_separator}
use Rattle.framehop_disk.proofs.PrintedLemmas.{at-separator, at-other}
use Rattle.framehop_disk.proofs.printed.printed_text.Goals.{then-is_separator+in_ok-push_name+in_ok-push, else-is_separator}
use Rattle.framehop_disk.proofs.printed.printed_text.Goals as goal

pub loop-at-preserved : goal.loop-at-preserved
loop-at-preserved c =
    let text = c.args.text.now in
    let at = c.loop-at.at in
    let start = c.loop-at.start in
    let byte = get_or text at 0 in
    elim c.if-is_separator.branch [
      | then-is_separator+in_ok-push_name+in_ok-push w ↦
          let is : is_separator byte ≡ true = sym c.is_separator.ensures ∙ w.if-is_separator.true in
          let printed = ap (λ v. v.items) w.printed-is ∙ w.in_ok-push.ensures.items ∙ ap (λ bytes. bytes ++ byte ∷ []) w.in_ok-push_name.ensures in
          record {
            low = omega (arith, w.start-is);
            printed = ap₂ (λ bytes from. bytes ++ printed_from (slice_range text from (at + 1)) (drop (at + 1) text)) printed w.start-is
                ∙ at-separator text start at c.loop-at-test.true c.loop-at.printed.items is ∙ c.loop-at.invariant.printed;
          }
      | else-is_separator w ↦
          let is : is_separator byte ≡ false = sym c.is_separator.ensures ∙ w.if-is_separator.false in
          record {
            low = omega (arith, w.start-is, c.loop-at.invariant.low);
            printed = ap₂ (λ bytes from. bytes ++ printed_from (slice_range text from (at + 1)) (drop (at + 1) text)) (ap (λ v. v.items) w.printed-is) w.start-is
                ∙ ap (λ bytes. c.loop-at.printed.items ++ bytes) (at-other text start at c.loop-at-test.true c.loop-at.invariant.low is)
                ∙ c.loop-at.invariant.printed;
          }
    ]
