-- Places and widths, in hundredths of a pixel, rounded down; and parts that are told, rounded to the nearest.
use Rattle.std.specs.Prelude.{ℕ, Bool, List, ◌++◌, ◌+◌, ◌-◌, ◌*◌, ◌/◌, ◌%◌, ◌&&◌, codes, nat_le}
use Rattle.std.specs.Fmt.{decimal}
use Rattle.framehop_folded.specs.FlameGraph.Boxes.{Box}

-- the part of a whole that `part` is of `total`
abbrev pub share : ℕ → ℕ → ℕ → ℕ
share part whole total = part * whole / total

-- the same, rounded to the nearest, and up from the middle
abbrev pub nearest_share : ℕ → ℕ → ℕ → ℕ
nearest_share part whole total = (2 * part * whole + total) / (2 * total)

-- Where a count lies in a picture of 1,200 pixels.
abbrev pub edge : ℕ → ℕ → ℕ
edge total count = share count 120000 total

-- how wide a box is: up to the edge where it ends
abbrev pub width_of : ℕ → Box → ℕ
width_of total box = edge total (box.left + box.count) - edge total box.left

-- A box is drawn if it is within 4,096 rows of the root's, which are 65,536 pixels, and a tenth of a pixel wide or more.
abbrev pub is_shown : ℕ → Box → Bool
is_shown total box = nat_le box.depth 4096 && nat_le 10 (width_of total box)

-- hundredths as a decimal number
abbrev pub hundredths : ℕ → List ℕ
hundredths n = decimal (n / 100) ++ codes "." ++ decimal (n / 10 % 10) ++ decimal (n % 10)
