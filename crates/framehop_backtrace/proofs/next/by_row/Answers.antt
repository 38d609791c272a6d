use Rattle.framehop_backtrace.proofs.NextLemmas.{by-row-is}
use Rattle.framehop_backtrace.specs.Backtrace.{frame_view, moved_to}
use Rattle.framehop_backtrace.specs.Covers.{is_covered}
use Rattle.framehop_backtrace.proofs.next.by_row.Goals as goal

pub returns-in-Ok-clause-moved : goal.returns-in-Ok-clause-moved
returns-in-Ok-clause-moved g c =
    by-row-is g.U.BacktraceUnwinder.machine (g.M.CodeMemory.code c.args.memory.now) (g.M.WordMemory.memory c.args.memory.now)
    (is_covered (g.U.Unwinder.unwinder_view c.args.unwinder.now).modules)
    (frame_view c.args.frame.now) c.args.section.now c.args.row.now c.convention-convention.result c.in-Ok.caller.cfa
    c.in-Ok.caller.return_address c.strip-address.result c.in-Ok.caller.regs c.restored_columns-columns.result c.return_to.new.columns
    (moved_to c.returned_as.result c.returned_as.new.frame)
    c.convention-convention.ensures c.in-Ok.ensures.step c.in-Ok.ensures.whole c.in-Ok.ensures.registers
    c.strip-address.ensures c.restored_columns-columns.ensures c.return_to.ensures c.returned_as.ensures.moved
