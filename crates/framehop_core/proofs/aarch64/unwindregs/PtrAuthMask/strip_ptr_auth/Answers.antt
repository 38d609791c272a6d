use Rattle.std.proofs.Common.{◌∙◌, ap, bit_and}
use Rattle.std.proofs.lemmas.Nat.{and_assoc}
use Rattle.std.specs.Int.Bits.{and_self}
use Rattle.framehop_core.proofs.aarch64.unwindregs.PtrAuthMask.strip_ptr_auth.Goals as goal

pub returns-clause-twice_is_once : goal.returns-clause-twice_is_once
returns-clause-twice_is_once c =
    and_assoc c.args.self.now.0 c.args.ptr c.args.self.now.0 ∙ ap (bit_and c.args.ptr) (and_self c.args.self.now.0)
