use Rattle.std.proofs.Common.{◌/◌, refl}
use Rattle.framehop.proofs.Quarters.{quartered, passed}
use Rattle.framehop.proofs.module_list.count_up_to.Goals as goal

pub loop-size-preserved : goal.loop-size-preserved
loop-size-preserved c =
    let size = c.loop-size.size in
    rw (c.one_if_up_to.ensures, c.one_if_up_to-in-loop-size.ensures, c.one_if_up_to-in-loop-size-2.ensures)
    (quartered c.args.starts.now c.args.address c.requires c.loop-size.low size (size / 4) refl c.loop-size-test.true c.loop-size.invariant)

pub loop-size-2-preserved : goal.loop-size-2-preserved
loop-size-2-preserved c =
    rw c.one_if_up_to-low.ensures
    (passed c.args.starts.now c.args.address c.requires c.loop-size-2.low c.loop-size-2.size c.loop-size-2-test.true c.loop-size-2.invariant)
