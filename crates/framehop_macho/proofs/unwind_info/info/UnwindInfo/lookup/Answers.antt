use Rattle.std.proofs.Common.{sym}
use Rattle.framehop_macho.specs.UnwindInfo.{of_page}
use Rattle.framehop_macho.proofs.unwind_info.info.UnwindInfo.lookup.Goals as goal

pub returns-clause-outside : goal.returns-clause-outside
returns-clause-outside c = λ none.
    of_page c.in-Some.entry _ (sym c.in-Some.ensures.exact) c.in_ok-page.ensures
    (c.lookup.ensures.outside c.in-Some.ensures.outside.below_end none)
