use Rattle.framehop_core.proofs.Masks.{IsMaskUpTo-shifted}
use Rattle.framehop_core.proofs.aarch64.unwindregs.PtrAuthMask.from_max_known_address.Goals as goal

pub returns : goal.returns
returns c =
    let mask = IsMaskUpTo-shifted c.args.address c.checked_shr.result c.ranges.address.fits c.checked_shr.ensures in
    rw c.unwrap_or.ensures mask
