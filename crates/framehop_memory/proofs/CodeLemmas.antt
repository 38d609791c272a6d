-- An address in a segment that may be executed, and in a range of those.
use Rattle.std.proofs.Common.{◌≡◌, None, ℕ, true, false, inl, inr, List, [], ◌∷◌, refl, ◌∙◌, arith}
use Rattle.std.specs.Prelude.{is_some}
use Rattle.std.specs.List.{find}
use Rattle.std.proofs.lemmas.Bool.{cases_Bool}
use Rattle.std.proofs.lemmas.Bool.Decides.{nat_tests}
use Rattle.framehop_memory.specs.declared.segment.Segment.{Segment}
use Rattle.framehop_memory.specs.Range.{has_available}
use Rattle.framehop_memory.specs.Code.{has_address, range_of, is_code_in, code_ranges}

-- a range has an address where the segment has it, wherever a file has its bytes
pub covered-same : (address : ℕ) (segment : Segment) (offset : ℕ) → has_available None address 1 (record { start = segment.address; size = segment.size; offset = offset }) ≡ has_address address segment
covered-same address segment offset = grind (arith, nat_tests)

pub code-covered : (address : ℕ) (segments : List Segment) → is_some (find (has_available None address 1) (code_ranges segments)) ≡ is_code_in segments address
code-covered address [] = refl
code-covered address (s ∷ segments) =
    elim (cases_Bool s.is_code) [
      | inl code ↦ elim (cases_Bool (has_address address s)) [
        | inl inside ↦
            let there : has_available None address 1 (range_of s) ≡ true = covered-same address s 0 ∙ inside in
            rw (code, there, inside) refl
        | inr outside ↦
            let there : has_available None address 1 (range_of s) ≡ false = covered-same address s 0 ∙ outside in
            rw (code, there, outside) (code-covered address segments)
      ]
      | inr data_only ↦ rw data_only (code-covered address segments)
    ]
