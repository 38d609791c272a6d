use Rattle.std.proofs.Common.{◌≡◌, ◌∙◌, ap, sym}
use Rattle.std.specs.Prelude.{is_some, option_map}
use Rattle.std.specs.List.{find}
use Rattle.framehop_memory.specs.Range.{has_available}
use Rattle.framehop_memory.specs.SizedRange.{has_sized, range_in}
use Rattle.framehop_memory.proofs.RangeLemmas.{find-apart, some-reordered, find-passes}
use Rattle.framehop_memory.proofs.RangeTreeLemmas.{find-sized}
use Rattle.framehop_memory.proofs.ranges.MemoryRanges.first_with.Goals as goal

pub returns-in-Apart-clause-first : goal.returns-in-Apart-clause-first
returns-in-Apart-clause-first c = λ some.
    let self = c.args.self.now in
    let p = has_available self.file_size c.args.address c.args.size in
    let apart = self.apart c.in-Apart.ranges c.in-Apart.is in
    c.nearest_with.ensures.first some
    ∙ ap (find p) c.as_slice.ensures.value
    ∙ sym (find-apart self.file_size c.args.address c.args.size self.listed.items c.in-Apart.ranges.items some apart.0 apart.1)

pub returns-in-Apart-clause-some : goal.returns-in-Apart-clause-some
returns-in-Apart-clause-some c =
    let self = c.args.self.now in
    let p = has_available self.file_size c.args.address c.args.size in
    let apart = self.apart c.in-Apart.ranges c.in-Apart.is in
    c.nearest_with.ensures.some
    ∙ ap (λ ranges. is_some (find p ranges)) c.as_slice.ensures.value
    ∙ sym (some-reordered p self.listed.items c.in-Apart.ranges.items apart.0)

-- what the tree finds
in-tree : (c : goal.After-first_with) → c.first_with.result ≡ find (has_available c.args.self.now.file_size c.args.address c.args.size) c.args.self.now.listed.items
in-tree c =
    let self = c.args.self.now in
    c.first_with.ensures
    ∙ ap (λ ranges. option_map range_in (find (has_sized c.args.address c.args.size) ranges)) (self.overlapping c.in-Overlapping.tree c.in-Overlapping.is)
    ∙ find-sized self.file_size c.args.address c.args.size self.listed.items

pub returns-in-Overlapping-clause-first : goal.returns-in-Overlapping-clause-first
returns-in-Overlapping-clause-first c = λ some. in-tree c

pub returns-in-Overlapping-clause-some : goal.returns-in-Overlapping-clause-some
returns-in-Overlapping-clause-some c = ap is_some (in-tree c)

pub returns-in-Overlapping-clause-found : goal.returns-in-Overlapping-clause-found
returns-in-Overlapping-clause-found c =
    let self = c.args.self.now in
    let p = has_available self.file_size c.args.address c.args.size in
    rw (in-tree c) (find-passes p self.listed.items)
