use Rattle.framehop_dwarf.specs.Laws.Values.{branch_discards}
use Rattle.framehop_dwarf.proofs.evaluation.apply.Goals as goal

pub returns-in-Pick : goal.returns-in-Pick
returns-in-Pick g c = rw c.in-Pick.is (c.pick.ensures (g.R.DwarfUnwindRegs.column c.args.regs.now))

pub returns-in-Discard : goal.returns-in-Discard
returns-in-Discard g c = rw c.in-Discard.is (c.discard.ensures (g.R.DwarfUnwindRegs.column c.args.regs.now))

pub returns-in-Branch : goal.returns-in-Branch
returns-in-Branch g c =
    let columns = g.R.DwarfUnwindRegs.column c.args.regs.now in
    rw c.in-Branch.is (rw (branch_discards g.V.ValueStack.limit columns c.in-Branch.field-0 (g.V.ValueStack.values c.args.values.now)) (c.discard-in-Branch.ensures columns))

pub returns-in-Swap : goal.returns-in-Swap
returns-in-Swap g c = rw c.in-Swap.is (c.swap.ensures (g.R.DwarfUnwindRegs.column c.args.regs.now))

pub returns-in-Rot : goal.returns-in-Rot
returns-in-Rot g c = rw c.in-Rot.is (c.rotate.ensures (g.R.DwarfUnwindRegs.column c.args.regs.now))

pub returns-in-Unary : goal.returns-in-Unary
returns-in-Unary g c = rw c.in-Unary.is (c.apply_unary.ensures (g.R.DwarfUnwindRegs.column c.args.regs.now))

pub returns-in-Binary : goal.returns-in-Binary
returns-in-Binary g c = rw c.in-Binary.is (c.apply_binary.ensures (g.R.DwarfUnwindRegs.column c.args.regs.now))

pub returns-in-PlusConstant : goal.returns-in-PlusConstant
returns-in-PlusConstant g c = rw c.in-PlusConstant.is (c.add_constant.ensures (g.R.DwarfUnwindRegs.column c.args.regs.now))
