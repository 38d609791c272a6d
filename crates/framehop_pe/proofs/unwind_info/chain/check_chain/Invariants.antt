use Rattle.framehop_pe.specs.Sections.{sections_of}
use Rattle.framehop_pe.proofs.Chains.{Leads}
use Rattle.framehop_pe.proofs.unwind_info.chain.check_chain.Given as goal

abbrev pub invariant-loop-next : goal.invariant-loop-next
invariant-loop-next g l = Leads (sections_of g.D.SectionBytes.contents l.sections) l.left l.next 32 l.fn.chained

abbrev pub decreases-loop-next : goal.decreases-loop-next
decreases-loop-next g l = l.left
