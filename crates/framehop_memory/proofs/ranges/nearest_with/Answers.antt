use Rattle.std.proofs.Common.{ap, sym, rules}
use Rattle.std.specs.Prelude.{is_some}
use Rattle.framehop_memory.proofs.RangeLemmas.{place-passes, place-fails, place-some}
use Rattle.framehop_memory.proofs.ranges.nearest_with.Goals as goal

pub returns-then-has-clause-first : goal.returns-then-has-clause-first
returns-then-has-clause-first c = λ some.
    let a = c.args in
    sym (place-passes a.file_size a.address a.size a.ranges.now c.place.result _ some c.requires.apart c.place.ensures.law (search rules))

pub returns-then-has-clause-some : goal.returns-then-has-clause-some
returns-then-has-clause-some c =
    let a = c.args in
    sym (place-some a.file_size a.address a.size a.ranges.now c.place.result (record { start = 0; size = 0; offset = 0 }) c.place.ensures.law (search rules))

pub returns-else-has-clause-first : goal.returns-else-has-clause-first
returns-else-has-clause-first c = λ some.
    let a = c.args in
    sym (place-fails a.file_size a.address a.size a.ranges.now c.place.result (record { start = 0; size = 0; offset = 0 }) c.requires.apart c.place.ensures.law (search rules))

pub returns-else-has-clause-some : goal.returns-else-has-clause-some
returns-else-has-clause-some c =
    let a = c.args in
    ap is_some (sym (place-fails a.file_size a.address a.size a.ranges.now c.place.result (record { start = 0; size = 0; offset = 0 }) c.requires.apart c.place.ensures.law (search rules)))
