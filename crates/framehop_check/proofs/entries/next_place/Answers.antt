use Rattle.std.proofs.Common.{length, sym, ap, ◌∙◌, arith}
use Rattle.framehop_cfi.specs.Section.{Section}
use Rattle.framehop_check.specs.Entries.{at_end, at_mark, past_zero, cut_off, one}
use Rattle.framehop_check.proofs.entries.next_place.Goals as goal

pub returns-in_default-clause-some : goal.returns-in_default-clause-some
returns-in_default-clause-some c =
    let bytes = ap (λ (s : Section). s.bytes) c.section.view_is in
    let inside = rw bytes at c.loop-at-test.true in
    let read = rw bytes at c.in_default.ensures.exact in
    λ entries rest. c.loop-at.invariant.passed _ (cut_off inside (sym read) (rw bytes at rest))

pub returns-then-not-is_zero_length-clause-some : goal.returns-then-not-is_zero_length-clause-some
returns-then-not-is_zero_length-clause-some c =
    let bytes = ap (λ (s : Section). s.bytes) c.section.view_is in
    let read = rw bytes at c.in-Ok.ensures.exact in
    λ entries rest.
    c.loop-at.invariant.passed _
    (one (sym read) (sym c.is_zero_length.ensures ∙ c.if-not-is_zero_length.true) rest)

pub returns-in-EhFrame-clause-none : goal.returns-in-EhFrame-clause-none
returns-in-EhFrame-clause-none c =
    let bytes = ap (λ (s : Section). s.bytes) c.section.view_is in
    let kind = ap (λ (s : Section). s.kind) c.section.view_is in
    let read = rw bytes at c.in-Ok.ensures.exact in
    λ _. c.loop-at.invariant.passed _
    (at_mark (sym kind ∙ c.in-EhFrame.is) (sym read) (sym c.is_zero_length.ensures ∙ c.if-not-is_zero_length.false))

pub loop-at-preserved : goal.loop-at-preserved
loop-at-preserved c =
    let bytes = ap (λ (s : Section). s.bytes) c.section.view_is in
    let kind = ap (λ (s : Section). s.kind) c.section.view_is in
    let read = rw bytes at c.in-Ok.ensures.exact in
    let within = c.in-Ok.ensures.within in
    let behind = within.behind in
    let ordered = within.ordered in
    let before = c.loop-at.invariant.further in
    record {
      size = ap length bytes;
      further = omega (arith, behind, ordered, before);
      passed = λ entries rest.
          c.loop-at.invariant.passed _
          (past_zero (sym kind ∙ c.in-DebugFrame.is) (sym read) (sym c.is_zero_length.ensures ∙ c.if-not-is_zero_length.false) rest);
    }

pub returns-clause-none : goal.returns-clause-none
returns-clause-none c =
    let bytes = ap (λ (s : Section). s.bytes) c.section.view_is in
    let past = rw bytes at c.loop-at-test.false in
    λ _. c.loop-at.invariant.passed _ (at_end past)
