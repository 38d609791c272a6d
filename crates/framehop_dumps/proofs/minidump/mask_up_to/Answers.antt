use Rattle.std.proofs.Common.{rules}
use Rattle.std.proofs.lemmas.Nat.{leading_le}
use Rattle.std.proofs.lemmas.Nat.Bits.{ones_shr}
use Rattle.framehop_dumps.proofs.minidump.mask_up_to.Goals as goal

pub returns : goal.returns
returns c =
    let mask = ones_shr 64 _ (leading_le 64 c.args.address) in
    search (rules, mask)
