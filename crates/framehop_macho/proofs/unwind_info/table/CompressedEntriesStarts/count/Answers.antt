use Rattle.std.proofs.Common.{sym}
use Rattle.framehop_macho.proofs.Rows.{length-compressed_starts}
use Rattle.framehop_macho.proofs.unwind_info.table.CompressedEntriesStarts.count.Goals as goal

pub returns-clause-count : goal.returns-clause-count
returns-clause-count c = sym (length-compressed_starts c.args.self.now.page_address c.args.self.now.bytes.now)
