use Rattle.std.proofs.Common.{◌≡◌, to_z, of_z, rules}
use mir.Val.{SFits}
use mir.Syntax.{w16}
use Rattle.std.proofs.lemmas.Int.{to_z-of_z}
use Rattle.framehop_explain.proofs.rule_text.UnwindRuleAarch64DescribeRule.describe.Goals as goal

pub returns-in-OffsetSpAndRestoreLr : goal.returns-in-OffsetSpAndRestoreLr
returns-in-OffsetSpAndRestoreLr g c = λ plain ok.
    let arm = c.in-OffsetSpAndRestoreLr in
    let fits_z : SFits w16 arm.z = search rules in
    let same_z : to_z w16 (of_z w16 arm.z) ≡ arm.z = to_z-of_z w16 arm.z fits_z in
    rw arm.is (rw (same_z) at (c.write-in-OffsetSpAndRestoreLr.ensures.writes plain ok))

pub returns-in-OffsetSpAndRestoreFpAndLr : goal.returns-in-OffsetSpAndRestoreFpAndLr
returns-in-OffsetSpAndRestoreFpAndLr g c = λ plain ok.
    let arm = c.in-OffsetSpAndRestoreFpAndLr in
    let fits_y : SFits w16 arm.y = search rules in
    let same_y : to_z w16 (of_z w16 arm.y) ≡ arm.y = to_z-of_z w16 arm.y fits_y in
    let fits_z : SFits w16 arm.z = search rules in
    let same_z : to_z w16 (of_z w16 arm.z) ≡ arm.z = to_z-of_z w16 arm.z fits_z in
    rw arm.is (rw (same_y, same_z) at (c.write-in-OffsetSpAndRestoreFpAndLr.ensures.writes plain ok))

pub returns-in-UseFramepointerWithOffsets : goal.returns-in-UseFramepointerWithOffsets
returns-in-UseFramepointerWithOffsets g c = λ plain ok.
    let arm = c.in-UseFramepointerWithOffsets in
    let fits_y : SFits w16 arm.y = search rules in
    let same_y : to_z w16 (of_z w16 arm.y) ≡ arm.y = to_z-of_z w16 arm.y fits_y in
    let fits_z : SFits w16 arm.z = search rules in
    let same_z : to_z w16 (of_z w16 arm.z) ≡ arm.z = to_z-of_z w16 arm.z fits_z in
    rw arm.is (rw (same_y, same_z) at (c.write-in-UseFramepointerWithOffsets.ensures.writes plain ok))
