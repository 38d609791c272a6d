use Rattle.std.proofs.Common.{◌≡◌, ◌≢◌, sym, subst, ◌∙◌, List, ℕ, Some}
use Rattle.std.specs.Map.Iter.{deref_pair}
use Rattle.std.proofs.lemmas.Map.Iter.{rest_more}
use Rattle.framehop_folded.specs.Folded.{entry_of, count_in}
use Rattle.framehop_folded.proofs.AddedLemmas.{IsAddedSoFar, begun, step, all_added}
use Rattle.framehop_folded.proofs.folded.Folded.add_stacks.Goals as goal

pub loop-stack-init : goal.loop-stack-init
loop-stack-init c =
    let entries = c.into_iter-stack-iterator.ensures.into_iter_gives ∙ c.iter-stack-items.ensures.rest in
    subst (IsAddedSoFar c.args.self.now c.args.other.now c.args.self.now) (sym entries)
    (begun c.args.self.now c.args.other.now c.iter-stack-items.ensures.ordered)

pub loop-stack-preserved : goal.loop-stack-preserved
loop-stack-preserved c =
    let k = c.in-Some.stack.now in
    let now = c.loop-stack.self in
    let next = c.add_stack.new.self in
    let rest = rest_more deref_pair c.loop-stack.stack-iterator c.next.new.self c.next.result (c.in-Some.stack, c.in-Some.field-0-1) c.in-Some.is c.next.ensures.steps in
    let so = subst (IsAddedSoFar c.args.self.now c.args.other.now now) rest c.loop-stack.invariant in
    let P : List ℕ → Type 0 = λ stack. entry_of next stack ≡ Some (count_in now stack) in
    let Q : List ℕ → Type 0 = λ stack. (other : List ℕ) → other ≢ stack → entry_of next other ≡ entry_of now other in
    step c.args.self.now c.args.other.now now k c.in-Some.field-0-1.now c.next.new.self so next
    (subst P c.as_slice.ensures.value c.in_ok-add_stack.ensures.counted)
    (subst Q c.as_slice.ensures.value c.in_ok-add_stack.ensures.others)

pub returns : goal.returns
returns c =
    all_added c.args.self.now c.args.other.now c.loop-stack.self
    (subst (IsAddedSoFar c.args.self.now c.args.other.now c.loop-stack.self) c.in-None.ensures.steps.0 c.loop-stack.invariant)
