use Rattle.std.proofs.Common.{arith}
use Rattle.framehop_pe.proofs.Starts.{length-starts_of, function_of-empty}
use Rattle.framehop_pe.proofs.unwind_info.function_table.FunctionTableEntries.lookup.Goals as goal

pub entry-requires : goal.entry-requires
entry-requires c = omega (arith, c.place.ensures.law.within, length-starts_of c.args.self.now.bytes.now)

pub returns-then-count-eq0 : goal.returns-then-count-eq0
returns-then-count-eq0 c =
    function_of-empty c.args.self.now.bytes.now c.args.address (omega (arith, c.count.ensures, length-starts_of c.args.self.now.bytes.now))
