-- The first of ranges that has some bytes, in the first half of them or else in the second.
use Rattle.std.proofs.Common.{◌≡◌, ℕ, Bool, true, false, inl, inr, List, [], ◌∷◌, ◌++◌, map, refl}
use Rattle.std.specs.Prelude.{Option, option_map}
use Rattle.std.specs.List.{find, list_any}
use Rattle.std.proofs.lemmas.Bool.{cases_Bool}
use Rattle.framehop_memory.specs.declared.range_tree.SizedRange.{SizedRange}
use Rattle.framehop_memory.specs.declared.memory.MemoryRange.{MemoryRange}
use Rattle.framehop_memory.specs.Range.{has_available}
use Rattle.framehop_memory.specs.SizedRange.{has_sized, range_in, run_of, sized}
use Rattle.framehop_memory.specs.Stairs.{have_run}

-- one of the first half passes, so the first that passes is there
pub find-in-first : (p : SizedRange → Bool) (first second : List SizedRange) → list_any p first ≡ true → find p (first ++ second) ≡ find p first
find-in-first p [] second some = absurd (cc)
find-in-first p (r ∷ first) second some = elim (cases_Bool (p r)) [
  | inl passes ↦ rw passes refl
  | inr fails ↦ rw fails (find-in-first p first second (rw fails at some))
]

-- none of the first half passes
pub find-in-second : (p : SizedRange → Bool) (first second : List SizedRange) → list_any p first ≡ false → find p (first ++ second) ≡ find p second
find-in-second p [] second none = refl
find-in-second p (r ∷ first) second none = elim (cases_Bool (p r)) [
  | inl passes ↦ absurd (let h = rw passes at none in cc)
  | inr fails ↦ rw fails (find-in-second p first second (rw fails at none))
]

-- ranges have the bytes that their runs have
pub have-runs-of : (address size : ℕ) (ranges : List SizedRange) → have_run (map run_of ranges) address size ≡ list_any (has_sized address size) ranges
have-runs-of address size [] = refl
have-runs-of address size (r ∷ ranges) = elim (cases_Bool (has_sized address size r)) [
  | inl passes ↦ rw passes refl
  | inr fails ↦ rw fails (have-runs-of address size ranges)
]

-- a range with the number of its bytes passes if it does
pub find-sized : (file_size : Option ℕ) (address size : ℕ) (ranges : List MemoryRange) → option_map range_in (find (has_sized address size) (map (sized file_size) ranges)) ≡ find (has_available file_size address size) ranges
find-sized file_size address size [] = refl
find-sized file_size address size (r ∷ ranges) = elim (cases_Bool (has_available file_size address size r)) [
  | inl passes ↦ rw passes refl
  | inr fails ↦ rw fails (find-sized file_size address size ranges)
]
