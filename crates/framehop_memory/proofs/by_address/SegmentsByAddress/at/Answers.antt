use Rattle.std.proofs.Common.{◌≡◌, ◌∙◌, ap, sym, arith}
use Rattle.std.specs.Prelude.{slice_get}
use Rattle.std.specs.List.{find}
use Rattle.std.specs.Option.{option_copied}
use Rattle.std.proofs.lemmas.Grind.{common_steps}
use Rattle.std.proofs.lemmas.Option.{gets}
use Rattle.framehop_memory.specs.Code.{has_address}
use Rattle.framehop_memory.proofs.ByAddressLemmas.{segment_of, looked-up}
use Rattle.framehop_memory.proofs.by_address.SegmentsByAddress.at.Goals as goal

pub returns-in_err-range : goal.returns-in_err-range
returns-in_err-range c =
    let table = c.self.inside in
    c.from_residual.ensures
    ∙ ap (segment_of table.segments.now) (sym c.in_err-range.was)
    ∙ looked-up c.args.address table.segments.now table.ranges _ c.self.invariant c.first_with.ensures.first
    ∙ ap (find (has_address c.args.address)) c.self.view_is

pub returns : goal.returns
returns c =
    let table = c.self.inside in
    let got : option_copied c.get.result ≡ slice_get table.segments.now c.in_ok-range.range.offset = grind (arith, common_steps, gets) in
    c.copied.ensures
    ∙ got
    ∙ ap (segment_of table.segments.now) (sym c.in_ok-range.was)
    ∙ looked-up c.args.address table.segments.now table.ranges _ c.self.invariant c.first_with.ensures.first
    ∙ ap (find (has_address c.args.address)) c.self.view_is
