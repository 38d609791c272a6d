use Rattle.std.proofs.Common.{◌≡◌, ◌∙◌, ap}
use Rattle.framehop_memory.specs.Stairs.{have_run, AreRising}
use Rattle.framehop_memory.proofs.StairLemmas.{have-place, starts-ordered}
use Rattle.framehop_memory.proofs.stairs.Stairs.have.Goals as goal

pub returns-then-not-is_empty : goal.returns-then-not-is_empty
returns-then-not-is_empty c =
    let runs = c.as_slice-runs.result.now in
    let same : runs ≡ c.args.self.now.runs.items = c.as_slice-runs.ensures.value in
    let rising : AreRising runs = rw same c.args.self.now.rising in
    c.has.ensures
    ∙ have-place runs c.args.address c.args.size c.place.result _ rising c.place.ensures.law (c.place.ensures.last (starts-ordered runs rising))
    ∙ ap (λ runs. have_run runs c.args.address c.args.size) same
