-- What is told of a frame decides the outcome of the step.
use Rattle.std.proofs.Common.{◌≡◌, ℕ, ◌+◌, ◌-◌, Bool, List, Option, Some, None, Result, Ok, Err, refl, sym, ap, ◌∙◌, subst, MatchOption}
use Rattle.std.specs.Prelude.{unwrap_or, option_and_then, option_map, IfSome}
use Rattle.framehop_core.specs.Memory.{Memory}
use Rattle.framehop_core.specs.Outcome.{Outcome, answer_of, registers_after}
use Rattle.framehop_core.specs.CodeAddress.{FrameLocation, lookup_address, is_first_frame}
use Rattle.framehop_core.specs.declared.error.Error.{Error}
use Rattle.framehop_cfi.specs.declared.storage.StorageLimits.{StorageLimits}
use Rattle.framehop_dwarf.specs.Unwinder.{found_by, direct_by, reading_of}
use Rattle.framehop.specs.Policy.{Policy}
use Rattle.framehop.specs.Answer.{Fresh, by_rule, fresh_of}
use Rattle.framehop.specs.CallFrames.{fde_answer}
use Rattle.framehop.specs.Fresh.{fresh, step, outcome_of}
use Rattle.framehop.specs.Lookup.{EntryAt, fde_entry, rule_entry, pe_entry, entry_at}
use Rattle.framehop.specs.Modules.{ModuleView, covering}
use Rattle.framehop.specs.Unwinding.{Unwinding, Readers, entry_answer, answer_by}
use Rattle.framehop.specs.declared.lookup.SectionFde.{SectionFde}
use Rattle.framehop.specs.declared.modules.UnwinderError.{UnwinderError}
use Rattle.framehop.specs.declared.modules.UnwinderError.TheVariants as reason
use Rattle.framehop_explain.specs.Decided.{IsOutcomeBy, IsDecidedBy}
use Rattle.framehop_explain.specs.Explain.{Values, entry_told, IsTold}
use Rattle.framehop_explain.specs.Told.{told_by, pe_reason, fde_told}
use Rattle.framehop_explain.specs.declared.told.Told.{Told}

-- what readers give, from registers over a memory
abbrev pub values_by : {R S : Type 0} → Readers R S → Option ℕ → Bool → S → Memory → Values R S
values_by r limit first regs memory = record {
  translated = r.rows.translated;
  uncovered = r.rows.uncovered;
  direct = λ bytes row. r.rows.direct bytes limit memory row first regs;
  found = r.pe_found;
  computed = λ sections relative kind. r.pe_computed sections relative kind memory regs;
  compact = r.compact;
}

module _ {R S : Type 0} (u : Unwinding R S) (first : Bool) (regs : S) (memory : Memory) where
  -- the outcome by what is found, else by the fallback rule
  abbrev outcome_by : Option (Fresh R S) → Outcome S
  outcome_by found = outcome_of u (unwrap_or found (by_rule u.fallback)) first regs memory

  abbrev Decides : Told R → Option (Fresh R S) → Type 0
  Decides told found = IsOutcomeBy u.outcome u.fallback first regs memory (Some told) (outcome_by found)

  -- by what a reader finds in the bytes, and by the values
  by-found : {E : Type 0} (refuse : E → UnwinderError) (found : Result (Option R) E) (compute : S → Memory → Result (ℕ × S) E) (values : Result (ℕ × S) E) → compute regs memory ≡ values → Decides (told_by refuse found values) (fresh_of found compute)
  by-found refuse (Err error) compute values is = refl
  by-found refuse (Ok (Some rule)) compute values is = refl
  by-found refuse (Ok None) compute (Ok values) is = (values.1, rw is refl)
  by-found refuse (Ok None) compute (Err error) is = rw is refl

  module _ (r : Readers R S) (policy : Policy) (relative : ℕ) where
    by-fde : (fde : SectionFde) → Decides (fde_told r.rows.translated r.rows.uncovered (λ row. r.rows.direct fde.section.bytes policy.values memory row first regs) policy.rows relative fde) (fde_answer r.rows policy fde.section (fde.base_svma + relative) first fde.offset)
    unfolding fde_answer
    by-fde fde =
        let reading = reading_of policy.rows fde.section (fde.base_svma + relative) fde.offset in
        by-found reason.Dwarf (found_by r.rows.translated r.rows.uncovered reading) (λ old words. direct_by (λ row. r.rows.direct fde.section.bytes policy.values words row first old) reading) _ refl

    -- by what a frame is unwound by
    by-entry : (entry : Result (EntryAt R) UnwinderError) → Decides (entry_told (values_by r policy.values first regs memory) policy.rows relative first entry) (entry_answer r policy relative first entry)
    by-entry (Ok (fde_entry fde)) = by-fde fde
    by-entry (Ok (rule_entry rule)) = refl
    by-entry (Ok (pe_entry sections)) = by-found pe_reason (r.pe_found sections relative first) (λ old words. r.pe_computed sections relative first words old) _ refl
    by-entry (Err error) = refl

  -- by the module that covers an address
  by-module : (r : Readers R S) (policy : Policy) (m : ModuleView) (relative : ℕ) (told : Told R) → u.module_answer ≡ answer_by r policy → IsTold (values_by r policy.values first regs memory) policy.rows m.unwind_data relative first told → Decides told (u.module_answer m relative first)
  unfolding answer_by
  by-module r policy m relative told is tells =
      rw (is, tells) (by-entry r policy relative (entry_at r.compact m.unwind_data relative first))

-- a step of a frame that a module covers, and of one that none covers
step-covered : {R S : Type 0} (u : Unwinding R S) (modules : List ModuleView) (location : FrameLocation) (regs : S) (memory : Memory) (m : ModuleView) → covering modules (lookup_address location) ≡ Some m → step u modules location regs memory ≡ outcome_by u (is_first_frame location) regs memory (u.module_answer m (lookup_address location - m.base_avma) (is_first_frame location))
unfolding step fresh
step-covered u modules location regs memory m is =
    ap (λ found. outcome_by u (is_first_frame location) regs memory (option_and_then (λ (x : ModuleView). u.module_answer x (lookup_address location - x.base_avma) (is_first_frame location)) found)) is

step-uncovered : {R S : Type 0} (u : Unwinding R S) (modules : List ModuleView) (location : FrameLocation) (regs : S) (memory : Memory) → covering modules (lookup_address location) ≡ None → step u modules location regs memory ≡ u.outcome u.fallback (is_first_frame location) regs memory
unfolding step fresh
step-uncovered u modules location regs memory is =
    ap (λ found. outcome_by u (is_first_frame location) regs memory (option_and_then (λ (x : ModuleView). u.module_answer x (lookup_address location - x.base_avma) (is_first_frame location)) found)) is

module _ {R S : Type 0} (u : Unwinding R S) (modules : List ModuleView) (location : FrameLocation) (regs : S) (memory : Memory) (answer : Result (Option ℕ) Error) (new : S) where
  -- without a covering module
  pub decided-uncovered : covering modules (lookup_address location) ≡ None → answer ≡ answer_of (step u modules location regs memory) → new ≡ registers_after regs (step u modules location regs memory) → IsDecidedBy u.outcome u.fallback (is_first_frame location) regs memory None answer new
  decided-uncovered none is after =
      (step u modules location regs memory, step-uncovered u modules location regs memory none, is, after)

  -- with one
  pub decided-covered : (r : Readers R S) (policy : Policy) (m : ModuleView) (relative : ℕ) (told : Told R) → u.module_answer ≡ answer_by r policy → covering modules (lookup_address location) ≡ Some m → relative ≡ lookup_address location - m.base_avma → IsTold (values_by r policy.values (is_first_frame location) regs memory) policy.rows m.unwind_data relative (is_first_frame location) told → answer ≡ answer_of (step u modules location regs memory) → new ≡ registers_after regs (step u modules location regs memory) → IsDecidedBy u.outcome u.fallback (is_first_frame location) regs memory (Some told) answer new
  decided-covered r policy m relative told reads some at tells is after =
      (step u modules location regs memory, rw (step-covered u modules location regs memory m some) (subst (λ place. Decides u (is_first_frame location) regs memory told (u.module_answer m place (is_first_frame location))) at (by-module u (is_first_frame location) regs memory r policy m relative told reads tells)), is, after)

-- readers by their parts, but for that of compact unwind info
pub readers-by : {R S : Type 0} (x r : Readers R S) → x ≡ r → x ≡ record { rows = r.rows; pe_found = r.pe_found; pe_computed = r.pe_computed; compact = x.compact }
readers-by x r is = is ∙ ap (λ c. record { rows = r.rows; pe_found = r.pe_found; pe_computed = r.pe_computed; compact = c }) (ap (λ (y : Readers _ _). y.compact) (sym is))

-- by the rules and the fallback rule under other names
renamed : {R S : Type 0} (u : Unwinding R S) (rules : R → Bool → S → Memory → Outcome S) (fallback : R) (first : Bool) (regs : S) (memory : Memory) (told : Option (Told R)) (answer : Result (Option ℕ) Error) (new : S) → u.outcome ≡ rules → u.fallback ≡ fallback → IsDecidedBy u.outcome u.fallback first regs memory told answer new → IsDecidedBy rules fallback first regs memory told answer new
renamed {R} {S} u rules fallback first regs memory told answer new rules-are fallback-is by =
    subst (λ (x : R → Bool → S → Memory → Outcome S). IsDecidedBy x fallback first regs memory told answer new) rules-are
    (subst (λ (x : R). IsDecidedBy u.outcome x first regs memory told answer new) fallback-is by)

-- by a finding, if there is one
pub decided : {R S T : Type 0} (u : Unwinding R S) (modules : List ModuleView) (location : FrameLocation) (regs : S) (memory : Memory) (answer : Result (Option ℕ) Error) (new : S) (r : Readers R S) (policy : Policy) (rows : Option StorageLimits) (values : Option ℕ) (rules : R → Bool → S → Memory → Outcome S) (fallback : R) (told_of : T → Told R) (view_of : T → ModuleView) (relative_of : T → ℕ) (Source : T → Type 0) (finding : Option T) → u.module_answer ≡ answer_by r policy → policy.rows ≡ rows → policy.values ≡ values → u.outcome ≡ rules → u.fallback ≡ fallback → MatchOption finding (covering modules (lookup_address location) ≡ None) (λ f. (covering modules (lookup_address location) ≡ Some (view_of f)) × (relative_of f ≡ lookup_address location - (view_of f).base_avma) × Source f) → IfSome finding (λ f. IsTold (values_by r values (is_first_frame location) regs memory) rows (view_of f).unwind_data (relative_of f) (is_first_frame location) (told_of f)) → answer ≡ answer_of (step u modules location regs memory) → new ≡ registers_after regs (step u modules location regs memory) → IsDecidedBy rules fallback (is_first_frame location) regs memory (option_map told_of finding) answer new
decided u modules location regs memory answer new r policy rows values rules fallback told_of view_of relative_of Source None reads rows-are values-are rules-are fallback-is covers tells is after =
    renamed u rules fallback (is_first_frame location) regs memory None answer new rules-are fallback-is (decided-uncovered u modules location regs memory answer new covers is after)
decided u modules location regs memory answer new r policy rows values rules fallback told_of view_of relative_of Source (Some f) reads rows-are values-are rules-are fallback-is covers tells is after =
    let kept = subst (λ l. IsTold (values_by r policy.values (is_first_frame location) regs memory) l (view_of f).unwind_data (relative_of f) (is_first_frame location) (told_of f)) (sym rows-are) (subst (λ l. IsTold (values_by r l (is_first_frame location) regs memory) rows (view_of f).unwind_data (relative_of f) (is_first_frame location) (told_of f)) (sym values-are) tells) in
    renamed u rules fallback (is_first_frame location) regs memory (Some (told_of f)) answer new rules-are fallback-is (decided-covered u modules location regs memory answer new r policy (view_of f) (relative_of f) (told_of f) reads covers.0 covers.1 kept is after)
