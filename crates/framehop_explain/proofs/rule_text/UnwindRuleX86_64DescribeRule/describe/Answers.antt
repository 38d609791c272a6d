use Rattle.std.proofs.Common.{◌≡◌, to_z, of_z, rules}
use mir.Val.{SFits}
use mir.Syntax.{w16}
use Rattle.std.proofs.lemmas.Int.{to_z-of_z}
use Rattle.framehop_explain.proofs.rule_text.UnwindRuleX86_64DescribeRule.describe.Goals as goal

pub returns-in-OffsetSpAndRestoreBp : goal.returns-in-OffsetSpAndRestoreBp
returns-in-OffsetSpAndRestoreBp g c = λ plain ok.
    let arm = c.in-OffsetSpAndRestoreBp in
    let fits_y : SFits w16 arm.y = search rules in
    let same_y : to_z w16 (of_z w16 arm.y) ≡ arm.y = to_z-of_z w16 arm.y fits_y in
    rw arm.is (rw (same_y) at (c.write-in-OffsetSpAndRestoreBp.ensures.writes plain ok))

pub returns-in-UseFramePointerWithOffsets : goal.returns-in-UseFramePointerWithOffsets
returns-in-UseFramePointerWithOffsets g c = λ plain ok.
    let arm = c.in-UseFramePointerWithOffsets in
    let fits_y : SFits w16 arm.y = search rules in
    let same_y : to_z w16 (of_z w16 arm.y) ≡ arm.y = to_z-of_z w16 arm.y fits_y in
    rw arm.is (rw (same_y) at (c.write-in-UseFramePointerWithOffsets.ensures.writes plain ok))

pub returns-in-OffsetSpAndPopRegisters : goal.returns-in-OffsetSpAndPopRegisters
returns-in-OffsetSpAndPopRegisters g c = λ plain ok.
    let arm = c.in-OffsetSpAndPopRegisters in
    rw arm.is (c.write-in-OffsetSpAndPopRegisters.ensures.writes plain ok)
