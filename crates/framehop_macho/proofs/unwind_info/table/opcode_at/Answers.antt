use Rattle.std.proofs.Common.{◌-◌, ◌/◌, length, arith, sym, ◌∙◌, ap, Ok}
use Rattle.framehop_macho.proofs.Rows.{opcode_by_number-common, opcode_by_number-own, opcode_by_number-beyond}
use Rattle.framehop_macho.proofs.unwind_info.table.opcode_at.Goals as goal

pub returns-then-number-common_count : goal.returns-then-number-common_count
returns-then-number-common_count c =
    ap Ok c.u32_at.ensures ∙ sym (opcode_by_number-common c.args.common.now c.args.own.now c.args.number (omega arith))

pub returns-then-number-own : goal.returns-then-number-own
returns-then-number-own c =
    let common = c.args.common.now in
    let own = c.args.own.now in
    let rest = c.args.number - length common / 4 in
    ap Ok c.u32_at-then-number-own.ensures ∙ sym (opcode_by_number-own common own c.args.number rest (omega arith) c.if-number-own.true)

pub returns : goal.returns
returns c = sym (opcode_by_number-beyond c.args.common.now c.args.own.now c.args.number (omega arith))
