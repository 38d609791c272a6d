use Rattle.std.proofs.Common.{sym}
use Rattle.framehop_macho.proofs.Rows.{length-regular_starts}
use Rattle.framehop_macho.proofs.unwind_info.table.RegularEntriesStarts.count.Goals as goal

pub returns-clause-count : goal.returns-clause-count
returns-clause-count c = sym (length-regular_starts c.args.self.now.bytes.now)
