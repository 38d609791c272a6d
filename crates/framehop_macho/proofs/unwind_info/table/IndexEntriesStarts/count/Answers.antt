use Rattle.std.proofs.Common.{sym}
use Rattle.framehop_macho.proofs.Rows.{length-index_starts}
use Rattle.framehop_macho.proofs.unwind_info.table.IndexEntriesStarts.count.Goals as goal

pub returns-clause-count : goal.returns-clause-count
returns-clause-count c = sym (length-index_starts c.args.self.now.bytes.now)
