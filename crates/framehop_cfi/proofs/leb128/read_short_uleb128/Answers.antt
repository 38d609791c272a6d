use Rattle.std.proofs.Common.{sym}
use Rattle.framehop_cfi.proofs.Leb.{uleb-short}
use Rattle.framehop_cfi.proofs.leb128.read_short_uleb128.Goals as goal

pub returns-then-bytes-at-lt128-clause-exact : goal.returns-then-bytes-at-lt128-clause-exact
returns-then-bytes-at-lt128-clause-exact c =
    sym (uleb-short c.args.bytes.now c.args.at c.if-at-bytes.true c.if-bytes-at-lt128.true c.from.result c.from.ensures)
