use Rattle.std.proofs.Common.{◌≡◌, ◌∙◌, ap}
use Rattle.framehop_memory.specs.Code.{code_ranges}
use Rattle.framehop_memory.proofs.CodeLemmas.{code-covered}
use Rattle.framehop_memory.proofs.code.CodeSegments.new.Goals as goal

pub invariant_of-result : goal.invariant_of-result
invariant_of-result c =
    let segments = c.args.segments.items in
    let listed : c.in_ok-code.code.listed.items ≡ code_ranges segments =
    c.in_ok-code.ensures.listed ∙ c.in_ok-ranges.ensures ∙ ap code_ranges c.as_slice.ensures.value in
    record { same = λ address. rw (listed, c.in_ok-code.ensures.size) (code-covered address segments) }
