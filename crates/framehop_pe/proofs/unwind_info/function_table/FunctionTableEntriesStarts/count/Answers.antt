use Rattle.std.proofs.Common.{sym}
use Rattle.framehop_pe.proofs.Starts.{length-starts_of}
use Rattle.framehop_pe.proofs.unwind_info.function_table.FunctionTableEntriesStarts.count.Goals as goal

pub returns-clause-count : goal.returns-clause-count
returns-clause-count c = sym (length-starts_of c.args.self.now.bytes.now)
