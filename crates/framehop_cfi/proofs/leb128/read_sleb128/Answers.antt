use Rattle.std.proofs.Common.{refl, rules}
use Rattle.std.proofs.lemmas.Int.{to_z-of_z}
use Rattle.framehop_cfi.proofs.Leb.{sleb-short}
use Rattle.framehop_cfi.proofs.leb128.read_sleb128.Goals as goal
use mir.Val.{SFits}
use mir.Syntax.{w64}

pub returns-then-bytes-at-lt128-clause-exact : goal.returns-then-bytes-at-lt128-clause-exact
returns-then-bytes-at-lt128-clause-exact c =
    let fits : SFits w64 c.short_signed.result = search rules in
    rw (to_z-of_z w64 c.short_signed.result fits)
    (sleb-short c.args.bytes.now c.args.at c.if-at-bytes.true c.if-bytes-at-lt128.true _ c.short_signed.result refl c.short_signed.ensures.signed c.short_signed.ensures.fits)
