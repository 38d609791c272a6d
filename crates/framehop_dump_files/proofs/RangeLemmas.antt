-- Ranges of memory that are read one by one.
use Rattle.std.proofs.Common.{◌≡◌, ℕ, suc, ◌+◌, ◌^◌, ◌<◌, Bool, true, false, List, [], ◌∷◌, ◌++◌, drop, length, Option, Some, None, Result, Ok, Err, Vec, refl, ap, sym, ◌∙◌, get_or, nat_lt, if◌then◌else◌, arith}
use Rattle.std.proofs.Math.Seq.{drop-cons}
use Rattle.std.specs.declared.alloc.Global.{Global}
use Rattle.framehop_bytes.specs.Bytes.{◌>>=◌, le8}
use Rattle.framehop_dump_files.specs.declared.minidump.error.MinidumpError.{MinidumpError}
use Rattle.framehop_dump_files.specs.declared.minidump.error.MinidumpError.TheVariants.{OffsetTooBig}
use Rattle.framehop_memory.specs.declared.memory.MemoryRange.{MemoryRange}
use Rattle.framehop_bytes.specs.Gathered.{IsGathered}
use Rattle.framehop_dump_files.specs.Minidump.Memory.{ranges_from}

-- what was read before, with what comes after it
abbrev pub prepended : {B : Type 0} → List B → Result (List B) MinidumpError → Result (List B) MinidumpError
prepended before (Ok others) = Ok (before ++ others)
prepended before (Err error) = Err error

append-none : {A : Type 0} (before : List A) → before ++ [] ≡ before
append-none [] = refl
append-none (x ∷ before) = ap (λ rest. x ∷ rest) (append-none before)

pub append-assoc : {A : Type 0} (a b c : List A) → a ++ (b ++ c) ≡ (a ++ b) ++ c
append-assoc [] b c = refl
append-assoc (x ∷ a) b c = ap (λ rest. x ∷ rest) (append-assoc a b c)

prepended-more : {B : Type 0} (before : List B) (one : B) (rest : Result (List B) MinidumpError) → prepended before (rest >>= (λ others. Ok (one ∷ others))) ≡ prepended (before ++ one ∷ []) rest
prepended-more before one (Ok others) = ap (λ list. Ok list) (append-assoc before (one ∷ []) others)
prepended-more before one (Err error) = refl

-- nothing was read before
pub nothing-before : {B : Type 0} (all : Result (List B) MinidumpError) → all ≡ prepended [] all
nothing-before (Ok others) = refl
nothing-before (Err error) = refl

-- the item at an index, and those after it
pub items-are : {A : Type 0} (items : List A) (i : ℕ) (default : A) → i < length items → drop i items ≡ get_or items i default ∷ drop (i + 1) items
items-are items i default below =
    drop-cons items i default below
    ∙ ap (λ j. get_or items i default ∷ drop j items) (let more : suc i ≡ i + 1 = omega arith in more)

-- the range of an entry whose bytes are at an offset of the file
abbrev pub range_of : ℕ → List ℕ → MemoryRange
range_of offset entry = record { start = le8 entry 0; size = le8 entry 8; offset = offset }

module _ (all : Result (List MemoryRange) MinidumpError) (before : List MemoryRange) (offset : ℕ)
    (left entries : List (List ℕ)) (so_far : all ≡ prepended before (ranges_from offset left)) where
  module _ (entry : List ℕ) (is : left ≡ entry ∷ entries) where
    abbrev next : Bool → Result (List MemoryRange) MinidumpError
    next fits = if fits then (ranges_from (offset + le8 entry 8) entries >>= (λ others. Ok (range_of offset entry ∷ others))) else Err (OffsetTooBig offset)

    module _ (start size : ℕ) (first : start ≡ le8 entry 0) (same : size ≡ le8 entry 8) where
      -- a range is read, and others come after it
      pub ranges-more : (end : ℕ) → nat_lt (offset + size) (2 ^ 64) ≡ true → end ≡ offset + size → all ≡ prepended (before ++ record { start = start; size = size; offset = offset } ∷ []) (ranges_from end entries)
      unfolding ranges_from
      ranges-more end fits ends =
          let read : range_of offset entry ≡ record { start = start; size = size; offset = offset } = rw (first, same) refl in
          so_far ∙ ap (λ list. prepended before (ranges_from offset list)) is
          ∙ ap (λ (b : Bool). prepended before (next b)) (ap (λ n. nat_lt (offset + n) (2 ^ 64)) (sym same) ∙ fits)
          ∙ prepended-more before (range_of offset entry) (ranges_from (offset + le8 entry 8) entries)
          ∙ ap (λ n. prepended (before ++ range_of offset entry ∷ []) (ranges_from (offset + n) entries)) (sym same)
          ∙ ap (λ n. prepended (before ++ range_of offset entry ∷ []) (ranges_from n entries)) (sym ends)
          ∙ ap (λ range. prepended (before ++ range ∷ []) (ranges_from end entries)) read

      -- the next is refused
      pub ranges-refused : nat_lt (offset + size) (2 ^ 64) ≡ false → all ≡ Err (OffsetTooBig offset)
      unfolding ranges_from
      ranges-refused fits =
          so_far ∙ ap (λ list. prepended before (ranges_from offset list)) is
          ∙ ap (λ (b : Bool). prepended before (next b)) (ap (λ n. nat_lt (offset + n) (2 ^ 64)) (sym same) ∙ fits)

  -- none is left
  pub ranges-none : left ≡ [] → all ≡ Ok before
  unfolding ranges_from
  ranges-none is =
      so_far ∙ ap (λ list. prepended before (ranges_from offset list)) is ∙ ap (λ list. Ok list) (append-none before)

-- the list was made
pub made : {A : Type 0} (list : List A) (gathered : Option (Vec A Global)) (items : Vec A Global) → IsGathered list gathered → gathered ≡ Some items → list ≡ items.items
made list (Some whole) items all is = let same : whole ≡ items = cc in sym all ∙ ap (λ (vec : Vec _ Global). vec.items) same
made list None items all is = cc
