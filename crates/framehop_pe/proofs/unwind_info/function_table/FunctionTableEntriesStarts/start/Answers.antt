use Rattle.std.proofs.Common.{◌*◌, arith, sym, ◌∙◌}
use Rattle.framehop_pe.proofs.Starts.{length-starts_of, get_or-starts_of, start-entry, entry-there}
use Rattle.framehop_pe.proofs.unwind_info.function_table.FunctionTableEntriesStarts.start.Goals as goal

pub entry-requires : goal.entry-requires
entry-requires c = omega (arith, length-starts_of c.args.self.now.bytes.now)

pub returns-in-Some : goal.returns-in-Some
returns-in-Some c =
    let pdata = c.args.self.now.bytes.now in
    c.from.ensures ∙ start-entry pdata (12 * c.args.index) c.in-Some.function c.in-Some.ensures ∙ sym (get_or-starts_of pdata c.args.index (omega (arith, length-starts_of pdata)))

pub returns-in-None : goal.returns-in-None
returns-in-None c =
    let pdata = c.args.self.now.bytes.now in
    absurd (entry-there pdata c.args.index (omega (arith, length-starts_of pdata)) c.in-None.ensures)
