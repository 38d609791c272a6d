use Rattle.std.proofs.Common.{sym}
use Rattle.framehop_dwarf.specs.Laws.SimulationX86_64.{translated-means}
use Rattle.framehop_dwarf.specs.Laws.DirectX86_64.{direct-means}
use Rattle.framehop_core.proofs.Callback.{Answering-so}
use Rattle.framehop_dwarf.proofs.x86_64.dwarf.ArchX86_64DwarfUnwinding.unwind_frame.Goals as goal

pub returns-in-Some-clause-means : goal.returns-in-Some-clause-means
returns-in-Some-clause-means g c = λ first old new memory address e.
    translated-means c.args.section.now memory first old address new c.args.unwind_info.now _ (sym c.in-Some.ensures.exact) e

pub returns-clause-answers : goal.returns-clause-answers
returns-clause-answers g c =
    Answering-so g.F.FnMut c.in_ok-return_address.ensures.answers
    (λ memory done. (done, direct-means c.args.section.now g.E.Stack.ValueStack.limit memory c.args.unwind_info.now c.args.is_first_frame c.args.regs.now c.in_ok-return_address.return_address c.unwind_by_row.new.regs done))
