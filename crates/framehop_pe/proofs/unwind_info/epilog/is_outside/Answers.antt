use Rattle.std.proofs.Common.{◌≡◌, pos, arith}
use Rattle.std.proofs.lemmas.Int.{ints}
use Rattle.std.specs.Int.{cast_signed, cast_unsigned, w64}
use Rattle.framehop_pe.proofs.Pops.{is_outside-at_least}
use Rattle.framehop_pe.proofs.unwind_info.epilog.is_outside.Goals as goal

pub returns-else-target-lt0 : goal.returns-else-target-lt0
returns-else-target-lt0 c =
    let same : cast_signed w64 (cast_unsigned w64 c.args.target) ≡ c.args.target = omega (arith, ints) in
    let size : cast_signed w64 (cast_unsigned w64 c.from.result) ≡ pos c.args.function_size = omega (arith, ints) in
    let within = c.if-target-lt0.false in
    rw (same, size) (is_outside-at_least c.args.function_size c.args.target (rw same at within))
