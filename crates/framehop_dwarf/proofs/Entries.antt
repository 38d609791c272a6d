-- An index of a section is one of the FDEs at the offsets that its lengths tell.
use Rattle.std.proofs.Common.{◌≡◌, ◌≢◌, ℕ, List, [], ◌∷◌, Option, Some, None, Result, Ok, Err, refl, ap}
use Rattle.framehop_cfi.specs.Section.{Section}
use Rattle.framehop_cfi.specs.Entry.{fde_at}
use Rattle.framehop_cfi.specs.Entries.{Cut, cut, AreOffsets}
use Rattle.framehop_cfi.specs.declared.entry.FrameDescriptionEntry.{FrameDescriptionEntry}
use Rattle.framehop_cfi.proofs.Cut.{cut-offsets, offsets-cut}
use Rattle.framehop_cfi.proofs.EntryMeaning.{fde_at-means, means-fde_at}
use Rattle.framehop_cfi.specs.declared.read_error.ReadError.{ReadError}
use Rattle.framehop_cfi.specs.declared.read_error.ReadError.TheVariants.{OutOfMemory}
use Rattle.framehop_dwarf.specs.declared.index.DwarfCfiIndexError.{DwarfCfiIndexError}
use Rattle.framehop_dwarf.specs.declared.index.DwarfCfiIndexError.TheVariants.{Gimli}
use Rattle.framehop_dwarf.specs.Index.{pair_if_read, pair_at, before_others, pairs_at, unless_refused, pairs_of, HasPair, ArePairsAt, no_more, one, passed, HasNoIndex}

module _ (section : Section) (base : ℕ) where
  has : (at : ℕ) (pair : ℕ × ℕ) (read : Result FrameDescriptionEntry ReadError) → fde_at section at ≡ read → pair_if_read base at read ≡ Some pair → HasPair section base at pair
  has at pair (Ok fde) is some = (fde, fde_at-means section at fde is, some)
  has at pair (Err error) is some = absurd cc

  has-pair : (at : ℕ) (pair : ℕ × ℕ) → pair_at section base at ≡ Some pair → HasPair section base at pair
  unfolding pair_at
  has-pair at pair is = has at pair (fde_at section at) refl is

  pair-had : (at : ℕ) (pair : ℕ × ℕ) → HasPair section base at pair → pair_at section base at ≡ Some pair
  unfolding pair_at
  pair-had at pair (fde, stands, is) = rw (means-fde_at section at fde stands) is

  none-had : (at : ℕ) (pair : ℕ × ℕ) → pair_at section base at ≡ None → HasPair section base at pair → ⊥
  none-had at pair none there = let some = pair-had at pair there in cc

  with-one : (at : ℕ) (offsets : List ℕ) (pairs : List (ℕ × ℕ)) (pair : Option (ℕ × ℕ)) → pair_at section base at ≡ pair → ArePairsAt section base offsets pairs → ArePairsAt section base (at ∷ offsets) (before_others pair pairs)
  with-one at offsets pairs (Some pair) is rest = one (has-pair at pair is) rest
  with-one at offsets pairs None is rest = passed (λ pair there. none-had at pair is there) rest

  are-pairs : (offsets : List ℕ) → ArePairsAt section base offsets (pairs_at section base offsets)
  are-pairs [] = no_more
  are-pairs (at ∷ offsets) = with-one at offsets (pairs_at section base offsets) (pair_at section base at) refl (are-pairs offsets)

  no-refusal : (refusal : Option ReadError) (all pairs : List (ℕ × ℕ)) → unless_refused refusal all ≡ Ok pairs → (refusal ≡ None) × (all ≡ pairs)
  no-refusal None all pairs is = (refl, cc)
  no-refusal (Some error) all pairs is = absurd cc

  pub pairs-entries : (pairs : List (ℕ × ℕ)) → pairs_of section base ≡ Ok pairs → (offsets : List ℕ) × AreOffsets section 0 offsets × ArePairsAt section base offsets pairs
  unfolding pairs_of
  pairs-entries pairs is =
      let all = pairs_at section base (cut section).offsets in
      let whole = no-refusal (cut section).refusal all pairs is in
      ((cut section).offsets, cut-offsets section whole.0, rw whole.1 at (are-pairs (cut section).offsets))

  -- what is refused has no index
  pub refused : (error : DwarfCfiIndexError) → (error ≢ Gimli OutOfMemory → pairs_of section base ≡ Err error) → error ≢ Gimli OutOfMemory → HasNoIndex section
  unfolding pairs_of
  refused error is kept offsets are =
      let first = is kept in
      let whole = ap (λ (c : Cut). unless_refused c.refusal (pairs_at section base c.offsets)) (offsets-cut section offsets are) in
      cc
