use Rattle.std.proofs.Common.{refl}
use Rattle.framehop_frames.proofs.start.aarch64_start.Goals as goal

pub returns : goal.returns
returns c = rw c.sp.ensures (rw c.set_general.ensures (rw c.columns_aarch64-columns.ensures refl))
