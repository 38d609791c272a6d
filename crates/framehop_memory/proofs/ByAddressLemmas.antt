-- The first segment that has an address, found by the number of the first range that has it.
use Rattle.std.proofs.Common.{◌≡◌, None, ℕ, suc, ◌+◌, ◌<◌, true, false, inl, inr, List, [], ◌∷◌, refl, ◌∙◌, ap, arith}
use Rattle.std.specs.Prelude.{Option, option_and_then, slice_get, map}
use Rattle.std.specs.List.{find, enumerate_from}
use Rattle.std.proofs.lemmas.Bool.{cases_Bool}
use Rattle.framehop_memory.specs.declared.memory.MemoryRange.{MemoryRange}
use Rattle.framehop_memory.specs.declared.ranges.MemoryRanges.{MemoryRanges}
use Rattle.framehop_memory.specs.declared.segment.Segment.{Segment}
use Rattle.framehop_memory.specs.Range.{has_available}
use Rattle.framehop_memory.specs.Code.{has_address}
use Rattle.framehop_memory.specs.ByAddress.{numbered_range, numbered_ranges, AreNumbered}
use Rattle.framehop_memory.proofs.CodeLemmas.{covered-same}

-- the segment of a range's number
abbrev pub segment_of : List Segment → Option MemoryRange → Option Segment
segment_of segments found = option_and_then (λ range. slice_get segments range.offset) found

-- of segments that are the last of a list, numbered as they are in it
find-last : (all : List Segment) (address number : ℕ) (segments : List Segment) → ((k : ℕ) → slice_get all (number + k) ≡ slice_get segments k)
    → segment_of all (find (has_available None address 1) (map numbered_range (enumerate_from number segments))) ≡ find (has_address address) segments
find-last all address number [] same = refl
find-last all address number (s ∷ segments) same = elim (cases_Bool (has_address address s)) [
  | inl inside ↦
      let there : has_available None address 1 (numbered_range (number, s)) ≡ true = covered-same address s number ∙ inside in
      rw (there, inside) (ap (slice_get all) (omega arith) ∙ same 0)
  | inr outside ↦
      let there : has_available None address 1 (numbered_range (number, s)) ≡ false = covered-same address s number ∙ outside in
      rw (there, outside)
      (find-last all address (number + 1) segments (λ k. ap (slice_get all) (omega arith) ∙ same (suc k)))
]

find-numbered : (address : ℕ) (segments : List Segment) → segment_of segments (find (has_available None address 1) (numbered_ranges segments)) ≡ find (has_address address) segments
find-numbered address segments = find-last segments address 0 segments (λ k. ap (slice_get segments) (omega arith))

pub looked-up : (address : ℕ) (segments : List Segment) (ranges : MemoryRanges) (found : Option MemoryRange) → AreNumbered segments ranges
    → (0 < 1 → found ≡ find (has_available ranges.file_size address 1) ranges.listed.items)
    → segment_of segments found ≡ find (has_address address) segments
looked-up address segments ranges found numbered first =
    let all = first (omega arith) in
    let same : found ≡ find (has_available None address 1) (numbered_ranges segments) = rw (← numbered.0, ← numbered.1) all in
    ap (segment_of segments) same ∙ find-numbered address segments
