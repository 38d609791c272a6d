use Rattle.std.proofs.Common.{◌≤◌, ◌^◌, arith}
use Rattle.std.proofs.Math.Nat.{pow-le-pow_right}
use Rattle.std.proofs.lemmas.Int.{ints}
use Rattle.std.proofs.lemmas.Nat.{one_shl}
use Rattle.framehop_cfi.proofs.leb128.signed.Goals as goal

pub overflow_cast-magnitude : goal.overflow_cast-magnitude
overflow_cast-magnitude c =
    let p : 2 ^ c.args.bits ≤ 2 ^ 70 = pow-le-pow_right (omega arith) c.requires.few in
    omega (arith, ints)

pub overflow_mul-sum : goal.overflow_mul-sum
overflow_mul-sum c =
    let p : 2 ^ c.args.bits ≤ 2 ^ 70 = pow-le-pow_right (omega arith) c.requires.few in
    omega arith

pub overflow_sub-value : goal.overflow_sub-value
overflow_sub-value c =
    let p : 2 ^ c.args.bits ≤ 2 ^ 70 = pow-le-pow_right (omega arith) c.requires.few in
    omega (arith, ints, one_shl c.args.bits 128 (omega arith))
