-- The FDE of an address, among all FDEs of a section: each has a pair of its start, relative to the module's base,
-- and its offset.
use Rattle.std.specs.Prelude.{ℕ, ◌-◌, ◌/◌, ◌%◌, ◌^◌, ◌<◌, ◌≤◌, ◌≡◌, true, length, slice_index_or, List, [], ◌∷◌, Option, Some, None, option_map, Result, Ok, Err, nat_le, nat_lt, if◌then◌else◌, IsPermutation}
use Rattle.framehop_dwarf.specs.Tree.{not_after, IsSearchTree}
use Rattle.framehop_cfi.specs.Section.{Section}
use Rattle.framehop_cfi.specs.Entry.{fde_at}
use Rattle.framehop_cfi.specs.Entries.{cut, AreOffsets}
use Rattle.framehop_cfi.specs.EntryMeaning.{IsFde}
use Rattle.framehop_cfi.specs.declared.entry.FrameDescriptionEntry.{FrameDescriptionEntry}
use Rattle.framehop_cfi.specs.declared.read_error.ReadError.{ReadError}
use Rattle.framehop_cfi.specs.declared.read_error.ReadError.TheVariants.{BadLength, Eof, OutOfMemory}
use Rattle.framehop_dwarf.specs.declared.index.DwarfCfiIndexError.{DwarfCfiIndexError}
use Rattle.framehop_dwarf.specs.declared.index.DwarfCfiIndexError.TheVariants.{Gimli}

-- the pair of an FDE at an offset, if both its numbers fit 32 bits
abbrev pub pair_of : ℕ → ℕ → FrameDescriptionEntry → Option (ℕ × ℕ)
pair_of base at fde =
    if nat_lt fde.initial_address base then None
    else (if nat_le (2 ^ 32) (fde.initial_address - base) then None
    else (if nat_le (2 ^ 32) at then None
    else Some (fde.initial_address - base, at)))

-- the same of one that is read there, if one is
abbrev pub pair_if_read : ℕ → ℕ → Result FrameDescriptionEntry ReadError → Option (ℕ × ℕ)
pair_if_read base at (Ok fde) = pair_of base at fde
pair_if_read base at (Err error) = None

-- the pair of the entry at an offset: a CIE has none, nor has what can't be read
unfoldable pub pair_at : Section → ℕ → ℕ → Option (ℕ × ℕ)
pair_at section base at = pair_if_read base at (fde_at section at)

-- a pair, if there is one, before others
abbrev pub before_others : Option (ℕ × ℕ) → List (ℕ × ℕ) → List (ℕ × ℕ)
before_others None others = others
before_others (Some pair) others = pair ∷ others

-- the pairs of the entries at these offsets
abbrev pub pairs_at : Section → ℕ → List ℕ → List (ℕ × ℕ)
pairs_at section base [] = []
pairs_at section base (at ∷ offsets) = before_others (pair_at section base at) (pairs_at section base offsets)

-- pairs, unless a length can't be read
abbrev pub unless_refused : Option ReadError → List (ℕ × ℕ) → Result (List (ℕ × ℕ)) DwarfCfiIndexError
unless_refused None pairs = Ok pairs
unless_refused (Some error) pairs = Err (Gimli error)

-- the pairs of all the FDEs of a section, in its order
unfoldable pub pairs_of : Section → ℕ → Result (List (ℕ × ℕ)) DwarfCfiIndexError
pairs_of section base = unless_refused (cut section).refusal (pairs_at section base (cut section).offsets)

-- an FDE stands at an offset, and this is its pair
abbrev pub HasPair : Section → ℕ → ℕ → ℕ × ℕ → Type 0
HasPair section base at pair =
    (fde : FrameDescriptionEntry) × IsFde section at fde × (pair_of base at fde ≡ Some pair)

-- these are the pairs of what stands at these offsets: what has none is passed over
pub data ArePairsAt (section : Section) (base : ℕ) : List ℕ → List (ℕ × ℕ) → Type 0 where
  no_more : ArePairsAt section base [] []
  one : {at : ℕ} {pair : ℕ × ℕ} {offsets : List ℕ} {pairs : List (ℕ × ℕ)} → HasPair section base at pair
      → ArePairsAt section base offsets pairs → ArePairsAt section base (at ∷ offsets) (pair ∷ pairs)
  passed : {at : ℕ} {offsets : List ℕ} {pairs : List (ℕ × ℕ)}
      → ((pair : ℕ × ℕ) → HasPair section base at pair → ⊥) → ArePairsAt section base offsets pairs
      → ArePairsAt section base (at ∷ offsets) pairs

-- of two pairs that one which the other does not come after
abbrev pub later : ℕ × ℕ → Option (ℕ × ℕ) → ℕ × ℕ
later pair None = pair
later pair (Some other) = if not_after pair other then other else pair

-- The pair of an address: among those that start at or below it the one with the greatest start, and among equal
-- starts the last.
abbrev pub pair_for : List (ℕ × ℕ) → ℕ → Option (ℕ × ℕ)
pair_for [] address = None
pair_for (pair ∷ pairs) address =
    if nat_le pair.0 address then Some (later pair (pair_for pairs address)) else pair_for pairs address

-- the offset of its FDE
abbrev pub fde_offset_for : List (ℕ × ℕ) → ℕ → Option ℕ
fde_offset_for pairs address = option_map (λ pair. pair.1) (pair_for pairs address)

-- no pair before the address is after that one, or none is before the address
abbrev pub Greatest : List (ℕ × ℕ) → ℕ → Option (ℕ × ℕ) → Type 0
Greatest pairs address None = (k : ℕ) (d : ℕ × ℕ) → k < length pairs → address < (slice_index_or pairs k d).0
Greatest pairs address (Some pair) =
    (k : ℕ) (d : ℕ × ℕ) → k < length pairs → (slice_index_or pairs k d).0 ≤ address
    → not_after (slice_index_or pairs k d) pair ≡ true

-- the pair is one of them, and starts at or below the address
abbrev pub Among : List (ℕ × ℕ) → ℕ → Option (ℕ × ℕ) → Type 0
Among pairs address None = Unit {0}
Among pairs address (Some pair) =
    (k : ℕ) × (k < length pairs) × (slice_index_or pairs k pair ≡ pair) × (pair.0 ≤ address)

-- the FDE of an address by what it is: that of a pair that is one of them, and the greatest that starts at or below
-- the address
abbrev pub IsFdeFor : List (ℕ × ℕ) → ℕ → Option ℕ → Type 0
IsFdeFor pairs address offset =
    (pair : Option (ℕ × ℕ)) × (option_map (λ (p : ℕ × ℕ). p.1) pair ≡ offset) × Greatest pairs address pair
    × Among pairs address pair

-- a pair, by the number that it is sorted by
abbrev pub pair_of_key : ℕ → ℕ × ℕ
pair_of_key key = (key / 2 ^ 32, key % 2 ^ 32)

-- An index of a section: the pairs of its entries as a search tree. For each address it has the FDE that they have.
pub record IsIndexOf (section : Section) (base : ℕ) (index : List (ℕ × ℕ)) : Type 0 where
  pub offsets : List ℕ
  pub pairs : List (ℕ × ℕ)
  pub are_all : AreOffsets section 0 offsets
  pub have : ArePairsAt section base offsets pairs
  pub only : IsPermutation pairs index
  pub tree : IsSearchTree index
  pub same : (address : ℕ) → fde_offset_for index address ≡ fde_offset_for pairs address

-- the same, by the pairs of all the FDEs
pub record IsIndexOfAll (section : Section) (base : ℕ) (index : List (ℕ × ℕ)) : Type 0 where
  pub pairs : List (ℕ × ℕ)
  pub are_all : pairs_of section base ≡ Ok pairs
  pub same : (address : ℕ) → fde_offset_for index address ≡ fde_offset_for pairs address

-- why there is no index: the length of an entry is reserved, is cut off or reaches past the section, or an allocation
-- failed
pub data IsIndexRefusal : DwarfCfiIndexError → Type 0 where
  reserved_length : IsIndexRefusal (Gimli BadLength)
  cut_off : IsIndexRefusal (Gimli Eof)
  no_memory : IsIndexRefusal (Gimli OutOfMemory)

-- the lengths do not cut the section to its end
abbrev pub HasNoIndex : Section → Type 0
HasNoIndex section = (offsets : List ℕ) → AreOffsets section 0 offsets → ⊥
