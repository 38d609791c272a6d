-- The caller's columns, of which the program counter's is the return address.
use Rattle.std.proofs.Common.{◌≡◌, ◌≢◌, ℕ, ◌<◌, List, length, Option, ap, ◌∙◌, arith, inl, inr, ◌==◌}
use Rattle.std.proofs.lemmas.Bool.{cases_Bool}
use Rattle.std.proofs.lemmas.Bool.Decides.{nat_tests}
use Rattle.framehop_callers.specs.Caller.{source_of, HasColumns}
use Rattle.framehop_callers.specs.Convention.{program_counter_of, return_address_of}
use Rattle.framehop_callers.specs.RegisterFile.{word_of, with_word}
use Rattle.framehop_callers.specs.declared.convention.Convention.{Convention}
use Rattle.framehop_callers.specs.declared.convention.Convention.TheVariants.{X86_64, Aarch64}
use Rattle.framehop_callers.proofs.Columns.{set-here, set-elsewhere}

pub pc-below : (convention : Convention) → program_counter_of convention < 33
pc-below X86_64 = omega arith
pc-below Aarch64 = omega arith

ra-below : (convention : Convention) → return_address_of convention < 33
ra-below X86_64 = omega arith
ra-below Aarch64 = omega arith

-- the return address in the place of the program counter
pub with-return-address : (convention : Convention) (values : ℕ → Option ℕ) (words : List (Option ℕ)) → length words ≡ 33
    → HasColumns values words
    → HasColumns (λ column. values (source_of convention column))
    (with_word words (record { 0 = program_counter_of convention })
    (word_of words (record { 0 = return_address_of convention })))
with-return-address convention values words long has k below =
    let pc : ℕ = program_counter_of convention in
    let word : Option ℕ = word_of words (record { 0 = return_address_of convention }) in
    elim (cases_Bool (k == pc)) as (λ _. word_of (with_word words (record { 0 = pc }) word) (record { 0 = k }) ≡ values (source_of convention k)) [
      | inl here ↦
          let same : k ≡ pc = grind (arith, nat_tests) in
          rw here
          (ap (λ i. word_of (with_word words (record { 0 = pc }) word) (record { 0 = i })) same
          ∙ set-here words pc word long (pc-below convention) ∙ has (return_address_of convention) (ra-below convention))
      | inr elsewhere ↦
          let apart : k ≢ pc = λ same. grind (arith, nat_tests) in
          rw elsewhere (set-elsewhere words pc k word (pc-below convention) apart ∙ has k below)
    ]
