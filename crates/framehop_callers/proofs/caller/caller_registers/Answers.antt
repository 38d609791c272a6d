use Rattle.std.proofs.Common.{◌≡◌, arith, ap, ◌∙◌, ℕ, Option, length}
use Rattle.std.proofs.lemmas.List.{drop_all}
use Rattle.framehop_callers.specs.Caller.{HasColumns}
use Rattle.framehop_callers.specs.Convention.{program_counter_of, return_address_of}
use Rattle.framehop_callers.specs.RegisterFile.{word_of, with_word}
use Rattle.framehop_callers.specs.Rules.{Source}
use Rattle.framehop_callers.proofs.Columns.{keeps-length}
use Rattle.framehop_callers.proofs.ReturnAddress.{pc-below, with-return-address}
use Rattle.framehop_callers.proofs.Named.{named_by, one-before, long-named}
use Rattle.framehop_callers.proofs.caller.caller_registers.Goals as goal

pub loop-left-preserved : goal.loop-left-preserved
loop-left-preserved g c =
    let source : Source = record { bytes = c.args.section.now; words = c.args.regs.now; memory = g.M.WordMemory.memory c.args.memory.now } in
    let i = c.loop-left.invariant in
    record {
      within = omega arith;
      long = rw c.set.ensures (long-named c.loop-left.caller _ _ i.long);
      set = rw (c.set.ensures, c.value_by-word.ensures, c.get-own.ensures)
          (one-before c.args.convention source c.args.cfa _ c.registers-rules.result.now c.loop-left.left c.loop-left.caller c.loop-left-test.true i.within i.long i.set);
    }

pub loop-left-init : goal.loop-left-init
loop-left-init g c =
    let source : Source = record { bytes = c.args.section.now; words = c.args.regs.now; memory = g.M.WordMemory.memory c.args.memory.now } in
    record {
      within = omega arith;
      long = c.unnamed_registers-caller.ensures.whole;
      set = rw (drop_all (length c.registers-rules.result.now) c.registers-rules.result.now (omega arith)) c.unnamed_registers-caller.ensures.columns;
    }

pub returns : goal.returns
returns g c =
    let source : Source = record { bytes = c.args.section.now; words = c.args.regs.now; memory = g.M.WordMemory.memory c.args.memory.now } in
    let i = c.loop-left.invariant in
    let values : ℕ → Option ℕ = named_by c.args.convention source c.args.cfa c.args.row.now.rules in
    let none_left : c.loop-left.left ≡ 0 = omega arith in
    let has : HasColumns values c.loop-left.caller = rw (c.registers-rules.ensures, none_left) at i.set in
    let pc : ℕ = program_counter_of c.args.convention in
    let word : Option ℕ = word_of c.loop-left.caller (record { 0 = return_address_of c.args.convention }) in
    let set : c.set-2.new.self ≡ with_word c.loop-left.caller (record { 0 = pc }) word =
    c.set-2.ensures ∙ ap (λ register. with_word c.loop-left.caller register c.get-return_address.result) c.program_counter.ensures
    ∙ ap (with_word c.loop-left.caller (record { 0 = pc })) (c.get-return_address.ensures ∙ ap (word_of c.loop-left.caller) c.return_address.ensures) in
    record {
      columns = rw set (with-return-address c.args.convention values c.loop-left.caller i.long has);
      whole = ap length set ∙ keeps-length c.loop-left.caller pc word i.long (pc-below c.args.convention);
    }
