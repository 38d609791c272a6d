-- By which names each file of a disk may be read.
use Rattle.std.specs.Prelude.{ℕ, Bool, ◌||◌, nat_lt, nat_eq, List, [], ◌∷◌, ◌++◌, length, map, if◌then◌else◌, Option, Some, None}
use Rattle.std.specs.Global.{Global}
use Rattle.std.specs.List.{list_any}
use Rattle.std.specs.BTreeMap.{get_by}
use Rattle.std.specs.Cmp.Lexicographic.{pointwise, slice_cmp}
use Rattle.std.specs.Ordering.{nat_cmp}
use Rattle.std.specs.declared.vec.Vec.{Vec}
use Rattle.framehop_disk.specs.declared.known_names.Names.{Names}

-- the names that were kept of a file, if some were
abbrev pub bytes_of : Option (Vec (Vec ℕ Global) Global) → List (List ℕ)
bytes_of (Some names) = map (λ name. name.items) names.items
bytes_of None = []

-- the names of a file, by the bytes of its path without links
abbrev pub names_of : Names → List ℕ → List (List ℕ)
names_of names file = bytes_of (get_by (λ key. slice_cmp nat_cmp file key.items) names.by_file)

-- a name is among names
abbrev pub has_name : List (List ℕ) → List ℕ → Bool
has_name names name = list_any (λ known. pointwise nat_eq known name) names

-- A file that was read by some names may be read by a name: by one of them, and by a new one where there are fewer than 8.
abbrev pub is_allowed : List (List ℕ) → List ℕ → Bool
is_allowed names name = has_name names name || nat_lt (length names) 8

-- the names by which it was read then
abbrev pub noted : List (List ℕ) → List ℕ → List (List ℕ)
noted names name =
    if has_name names name then names else if nat_lt (length names) 8 then names ++ name ∷ [] else names
