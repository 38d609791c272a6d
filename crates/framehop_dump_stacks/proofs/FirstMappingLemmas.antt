-- The first mapping of each file, while mappings are kept from the last to the first.
use Rattle.std.proofs.Common.{◌≡◌, ℕ, true, false, inl, inr, List, [], ◌∷◌, Some, None, refl, sym, subst, ◌∙◌, arith}
use Rattle.std.specs.Prelude.{nat_eq}
use Rattle.std.specs.BTreeMap.{BTreeMap, get}
use Rattle.std.specs.List.{find}
use Rattle.std.specs.Ordering.{nat_cmp, is_eq}
use Rattle.std.proofs.lemmas.Bool.{cases_Bool}
use Rattle.std.proofs.lemmas.Bool.Decides.{nat_tests}
use Rattle.framehop_processes.specs.declared.mapping.Mapping.{Mapping}
use Rattle.framehop_dump_stacks.specs.Problems.{is_of_file, HasFirstMappings}

-- no mapping is of a file without a number
pub none-numbered : (mappings : List Mapping) → None ≡ find (is_of_file None) mappings
none-numbered [] = refl
none-numbered (mapping ∷ mappings) = none-numbered mappings

other-key : (k q : ℕ) → nat_eq k q ≡ false → is_eq (nat_cmp k q) ≡ false
other-key k q other = grind (arith, nat_tests)

-- one more that has its unwind data
pub entered : (old new : BTreeMap ℕ Mapping) (m : Mapping) (others : List Mapping) → m.has_sections ≡ true
    → get nat_cmp new m.file ≡ Some m → ((q : ℕ) → is_eq (nat_cmp m.file q) ≡ false → get nat_cmp new q ≡ get nat_cmp old q)
    → HasFirstMappings others old → HasFirstMappings (m ∷ others) new
entered old new m others has here elsewhere before = λ number. elim (cases_Bool (nat_eq m.file number)) [
  | inl same ↦
      let e : m.file ≡ number = grind (arith, nat_tests) in
      let found : find (is_of_file (Some number)) (m ∷ others) ≡ Some m = rw (same, has) refl in
      subst (λ n. get nat_cmp new n ≡ Some m) e here ∙ sym found
  | inr other ↦
      let passed : find (is_of_file (Some number)) (m ∷ others) ≡ find (is_of_file (Some number)) others = rw other refl in
      elsewhere number (other-key m.file number other) ∙ before number ∙ sym passed
]
