use Rattle.std.proofs.Common.{◌<◌, arith, lit<}
use Rattle.framehop_walk.proofs.Hexadecimal.{one-more-fits}
use Rattle.framehop_walk.proofs.fields.parse_hexadecimal.Goals as goal

pub overflow_mul-number : goal.overflow_mul-number
overflow_mul-number c =
    let l = c.loop-byte in
    let short : l.byte-index < 16 = omega arith in
    omega (arith, one-more-fits c.as_bytes-bytes.result.now l.byte-index l.number l.invariant 0 short (lit< tt))

pub overflow_add-number : goal.overflow_add-number
overflow_add-number c =
    let l = c.loop-byte in
    let short : l.byte-index < 16 = omega arith in
    let small : c.in_ok-number.field-0 < 16 = omega (arith, c.in_ok-number.ensures) in
    omega (arith, one-more-fits c.as_bytes-bytes.result.now l.byte-index l.number l.invariant c.in_ok-number.field-0 short small)
