use Rattle.std.proofs.Common.{sym, ◌∙◌}
use Rattle.framehop_cfi.proofs.Table.{length-starts_of}
use Rattle.framehop_cfi.proofs.header.TableStarts.count.Goals as goal

pub returns-clause-count : goal.returns-clause-count
returns-clause-count c =
    let header = c.args.self.now in
    c.count.ensures.count ∙ sym (length-starts_of header.bases header.layout header.bytes.now)
