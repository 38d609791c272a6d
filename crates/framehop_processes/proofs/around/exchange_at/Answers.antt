use Rattle.std.proofs.Common.{false, arith}
use Rattle.framehop_processes.specs.declared.mapping.Mapping.{Mapping}
use Rattle.framehop_processes.proofs.ApartLemmas.{exchanged-up, exchanged-down}
use Rattle.framehop_processes.proofs.around.exchange_at.Goals as goal

abbrev none : Mapping
none = record { start = 0; end = 0; base_avma = 0; file = 0; has_sections = false }

pub returns-then-index-place : goal.returns-then-index-place
returns-then-index-place c =
    let first = c.split_ending_by.ensures in
    let is = exchanged-up c.args.new c.requires.address c.args.mappings.now c.split_ending_by.result.0.now c.split_ending_by.result.1.now
    first.whole first.before c.requires.ordered c.args.index c.requires.apart none c.if-index-place.true in
    rw c.put_last.ensures is

pub returns-else-index-place : goal.returns-else-index-place
returns-else-index-place c =
    let first = c.split_ending_by.ensures in
    let is = exchanged-down c.args.new c.requires.address c.args.mappings.now c.split_ending_by.result.0.now c.split_ending_by.result.1.now
    first.whole first.before c.requires.ordered c.args.index c.requires.apart none (let past = c.if-index-place.false in omega (arith, past)) c.requires.within in
    rw c.put_first.ensures is
