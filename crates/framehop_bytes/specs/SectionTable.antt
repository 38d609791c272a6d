-- What a module tells of its sections and segments: a finite table by name.
use Rattle.std.specs.Prelude.{ℕ, Bool, List, [], ◌∷◌, Option, Some, None, option_and_then, nat_eq, if◌then◌else◌}
use Rattle.std.specs.List.{list_any}
use Rattle.std.specs.Cmp.Lexicographic.{pointwise}
use Rattle.std.specs.declared.ops.Range.{Range}

-- one section or segment: the names that it goes by, its range, and its data while nobody has taken it
pub record Entry (D : Type 0) : Type 0 where
  pub names : List (List ℕ)
  pub range : Option (Range ℕ)
  pub contents : Option D

-- the table: the module's base, its sections and its segments
pub record SectionTable (D : Type 0) : Type 0 where
  pub base_svma : ℕ
  pub sections : List (Entry D)
  pub segments : List (Entry D)

-- the entry goes by this name
abbrev pub is_called : {D : Type 0} → List ℕ → Entry D → Bool
is_called name entry = list_any (pointwise nat_eq name) entry.names

-- the entry of a name: the first that goes by it
abbrev pub entry_of : {D : Type 0} → List ℕ → List (Entry D) → Option (Entry D)
entry_of name [] = None
entry_of name (entry ∷ entries) = if is_called name entry then Some entry else entry_of name entries

-- the range under a name
abbrev pub range_of : {D : Type 0} → List ℕ → List (Entry D) → Option (Range ℕ)
range_of name entries = option_and_then (λ entry. entry.range) (entry_of name entries)

-- the data under a name
abbrev pub data_of : {D : Type 0} → List ℕ → List (Entry D) → Option D
data_of name entries = option_and_then (λ entry. entry.contents) (entry_of name entries)

-- the table after the data under a name was taken: the entry stays, without data
abbrev pub without_data : {D : Type 0} → List ℕ → List (Entry D) → List (Entry D)
without_data name [] = []
without_data name (entry ∷ entries) =
    if is_called name entry then record entry { contents = None } ∷ entries else entry ∷ without_data name entries
