use Rattle.std.proofs.Common.{◌≡◌, sym, arith, pos}
use Rattle.std.proofs.lemmas.Int.{ints}
use Rattle.framehop_analysis.specs.Aarch64.Prologue.{lowered}
use Rattle.framehop_analysis.specs.Laws.Aarch64.Prologue.{too_early, rule-only}
use Rattle.framehop_analysis.proofs.Aarch64Prologue.{not-both}
use Rattle.framehop_analysis.proofs.aarch64.instruction_analysis.prologue.detect_prologue.Goals as goal
use Rattle.framehop_analysis.proofs.aarch64.instruction_analysis.prologue.detect_prologue.Goals.{
  else-sp_offset-eq0-via-then-sp_offset-eq0+else-is_plain_store,
  else-sp_offset-eq0-via-else-sp_offset-eq0,
}

pub returns-then-is_plain_store : goal.returns-then-is_plain_store
returns-then-is_plain_store c =
    let run = c.sp_offset_of_run-sp_offset.ensures in
    let unmoved : lowered run.0 ≡ pos 0 = let e = run.2 in omega (arith, ints) in
    too_early _ _ run.0 c.in_ok-next.next run.1 unmoved (sym c.in_ok-next.ensures.value) (sym (c.if-is_plain_store.ensures))

pub returns : goal.returns
returns c =
    let run = c.sp_offset_of_run-sp_offset.ensures in
    rule-only _ _ run.0 c.in_ok-next.next _ _ run.1 (let e = run.2 in omega (arith, ints)) (sym c.in_ok-next.ensures.value)
    (sym (c.if-not-is_expected_in_prologue.ensures))
    (λ plain none. elim c.else-sp_offset-eq0.branch [
      | else-sp_offset-eq0-via-then-sp_offset-eq0+else-is_plain_store w ↦ not-both _ (w.if-is_plain_store.ensures) plain
      | else-sp_offset-eq0-via-else-sp_offset-eq0 w ↦ w.if-sp_offset-eq0.false (omega (arith, ints))
    ]) c.rule_of_sp_offset.ensures
