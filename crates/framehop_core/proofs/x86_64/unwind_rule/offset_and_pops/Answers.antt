use Rattle.std.proofs.Common.{◌≤◌, Bool, true, false, cond, sym, ◌∙◌, arith, refl}
use Rattle.std.proofs.lemmas.Bool.Decides.{nat_tests}
use Rattle.std.proofs.lemmas.Option.{none-some}
use Rattle.framehop_core.proofs.Sequences.{Gives-pop, Gives-offset, Gives-full, Gives-end, Gives-other, continued-offset, continued-other}
use Rattle.framehop_core.proofs.x86_64.unwind_rule.offset_and_pops.Goals as goal
use Rattle.framehop_core.proofs.x86_64.unwind_rule.offset_and_pops.Goals.{in_default-operation-via-in-OffsetBy8+else-is_first, in_default-operation-via-in-Pop+else-not-is_full, in_default-operation-via-in_default-operation, in-OffsetBy8, in-Pop}

pub returns-in_default-operation-clause-given : goal.returns-in_default-operation-clause-given
returns-in_default-operation-clause-given g c = λ given yields x registers e.
    let l = c.loop-read in
    let o = c.in-Some.operation in
    let steps = g.I.Iterator.next_gives in
    elim c.in_default-operation.branch [
      | in_default-operation-via-in-OffsetBy8+else-is_first w ↦
          let none = Gives-other steps l.operations c.next_operation.new.operations l.is_first l.sp_offset_by_8 l.registers.items given o (λ others. continued-offset l.is_first l.sp_offset_by_8 w.in-OffsetBy8.offset l.registers.items o others w.if-is_first.false w.in-OffsetBy8.is) c.in-Some.ensures.given (l.invariant.3 given yields) in
          absurd (none-some (x, registers) (sym none ∙ e))
      | in_default-operation-via-in-Pop+else-not-is_full w ↦
          let full = Gives-full steps l.operations c.next_operation.new.operations l.is_first l.sp_offset_by_8 l.registers.items given w.in-Pop.register o w.in-Pop.is c.in-Some.ensures.given (l.invariant.3 given yields) x registers e in
          let is_full = w.if-not-is_full.false in
          let test = w.is_full.ensures.value in
          grind (arith, nat_tests)
      | in_default-operation-via-in_default-operation w ↦
          let none = Gives-other steps l.operations c.next_operation.new.operations l.is_first l.sp_offset_by_8 l.registers.items given o (λ others. continued-other l.is_first l.sp_offset_by_8 l.registers.items o others w.in_default-operation.not-OffsetBy8 w.in_default-operation.not-Pop) c.in-Some.ensures.given (l.invariant.3 given yields) in
          absurd (none-some (x, registers) (sym none ∙ e))
    ]

at_most_one : (b : Bool) → cond b 0 1 ≤ 1
at_most_one true = omega arith
at_most_one false = omega arith

pub loop-read-preserved : goal.loop-read-preserved
loop-read-preserved g c =
    let l = c.loop-read in
    let can = c.in-Some.ensures.can_go_on refl in
    elim c.match-operation.branch [
      | in-OffsetBy8 w ↦ (
        can,
        rw w.registers-is l.invariant.1,
        rw w.registers-is (let read = l.invariant.2 in let first = w.if-is_first.true in grind (arith, nat_tests)),
        λ given yields. rw (w.registers-is, w.sp_offset_by_8-is) (Gives-offset g.I.Iterator.next_gives l.operations c.next_operation.new.operations l.is_first l.sp_offset_by_8 l.registers.items given w.in-OffsetBy8.offset c.in-Some.operation w.if-is_first.true w.in-OffsetBy8.is c.in-Some.ensures.given (l.invariant.3 given yields)),
      )
      | in-Pop w ↦
          let test = w.is_full.ensures.value in
          let not_full = w.if-not-is_full.true in
          let len = w.push.ensures.len in (
            can,
            rw w.registers-is (grind (arith, nat_tests)),
            rw w.registers-is (omega (arith, len, l.invariant.2, at_most_one l.is_first)),
            λ given yields. rw (w.registers-is, w.sp_offset_by_8-is) (Gives-pop g.I.Iterator.next_gives l.operations c.next_operation.new.operations l.is_first l.sp_offset_by_8 l.registers.items given w.in-Pop.register c.in-Some.operation w.push.new.self.items w.in-Pop.is w.push.ensures.items c.in-Some.ensures.given (l.invariant.3 given yields)),
          )
    ]

pub returns-in_default-clause-given : goal.returns-in_default-clause-given
returns-in_default-clause-given g c = λ given yields.
    Gives-end g.I.Iterator.next_gives c.loop-read.operations c.next_operation.new.operations c.loop-read.is_first c.loop-read.sp_offset_by_8 c.loop-read.registers.items given c.in_default.ensures.given (c.loop-read.invariant.3 given yields)
