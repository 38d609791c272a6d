-- Ranges of memory of which each has so many bytes, halved in their order.
use Rattle.std.specs.Prelude.{◌≡◌, ℕ, ◌<◌, List, ◌++◌, length, ⊤}
use Rattle.std.specs.List.{list_any}
use Rattle.framehop_memory.specs.SizedRange.{has_sized}
use Rattle.framehop_memory.specs.Stairs.{have_run}
use Rattle.framehop_memory.specs.declared.stairs.Stairs.{Stairs}
use Rattle.framehop_memory.specs.declared.range_tree.SizedRange.{SizedRange}
use Rattle.framehop_memory.specs.declared.range_tree.Node.{Node}
use Rattle.framehop_memory.specs.declared.range_tree.Node.TheVariants.{Few, Halves}

-- stairs tell whether one of some ranges has some bytes
abbrev pub AreStairsOf : List SizedRange → Stairs → Type 0
AreStairsOf ranges stairs = (address size : ℕ) →
    have_run stairs.runs.items address size ≡ list_any (has_sized address size) ranges

-- the ranges, in their order
abbrev pub ranges_of : Node → List SizedRange
ranges_of (Few ranges) = ranges.items
ranges_of (Halves stairs first second) = first.value ++ second.value

-- neither half is empty, and the stairs are those of the first
abbrev pub IsHalved : Node → Type 0
IsHalved (Few ranges) = ⊤
IsHalved (Halves stairs first second) =
    (0 < length first.value) × (0 < length second.value) × AreStairsOf first.value stairs
