use Rattle.std.proofs.Common.{Result, Ok, Err}
use Rattle.std.specs.Result.{IfOk}
use Rattle.framehop_check.proofs.MissingLemmas.{missing-whole}
use Rattle.framehop_check.proofs.missing.missing_ranges.Goals as goal

-- what follows from each value that there may be
if-ok : {A E : Type 0} (P Q : A → Type 0) (result : Result A E) → ((value : A) → P value → Q value) → IfOk result P → IfOk result Q
if-ok P Q (Ok value) gives said = gives value said
if-ok P Q (Err error) gives said = tt

pub returns-clause-whole : goal.returns-clause-whole
returns-clause-whole c =
    let items = c.in_ok-extend_from_slice.ensures.items in
    let value = c.deref.ensures.value in
    if-ok _ _ c.gaps-2.result
    (λ gaps said. missing-whole c.args.code.items c.args.covered.items c.in_ok-others.others.items c.in_ok-others.ensures.held
    c.in_ok-others.ensures.below c.in_ok-others.ensures.ordered gaps.items (rw (items, value) at said))
    c.gaps-2.ensures.whole
