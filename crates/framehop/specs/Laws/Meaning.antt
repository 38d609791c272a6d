-- A step that answers an address does what the source of its rule means, by the laws of the readers.
use Rattle.std.proofs.Common.{◌≡◌, ℕ, ◌+◌, ◌-◌, ◌==◌, Bool, true, false, List, Option, Some, None, Result, Ok, Err, IfOk, IfSome, MatchOption, inl, inr, refl, sym, ap, ◌∙◌, subst}
use Rattle.std.specs.Option.{option_map, unwrap_or}
use Rattle.std.proofs.lemmas.Bool.{cases_Bool}
use Rattle.framehop_core.specs.Memory.{Memory}
use Rattle.framehop_core.specs.CodeAddress.{FrameLocation, is_first_frame, lookup_address}
use Rattle.framehop_core.specs.Outcome.{Outcome, answered}
use Rattle.framehop_core.specs.Laws.Basics.{option_map-some}
use Rattle.framehop_cfi.specs.Row.{Row}
use Rattle.framehop_cfi.specs.Section.{Section}
use Rattle.framehop_dwarf.specs.Unwinder.{Reading, unread, uncovered, by_row, reading_of, OfRow}
use Rattle.framehop_cfi.specs.declared.dwarf_error.DwarfUnwinderError.{DwarfUnwinderError}
use Rattle.framehop_pe.specs.Answer.{Simulates}
use Rattle.framehop_pe.specs.Sections.{Sections}
use Rattle.framehop_pe.specs.declared.pe.PeUnwinderError.{PeUnwinderError}
use Rattle.framehop_macho.specs.Answer.{Answer}
use Rattle.framehop_macho.specs.Unwinder.{Module, is_in, code_of, unwound_by, unwound}
use Rattle.framehop_macho.specs.UnwindInfo.{function_of}
use Rattle.framehop_macho.specs.declared.macho.CuiUnwindResult.TheVariants.{ExecRule, NeedDwarf}
use Rattle.framehop_macho.specs.declared.unwind_info.error.CompactReadError.{CompactReadError}
use Rattle.framehop_macho.specs.declared.unwind_info.info.Function.{Function}
use Rattle.framehop.specs.Answer.{Fresh, by_rule, direct, values_of, fresh_of}
use Rattle.framehop.specs.CallFrames.{CallFrames, answer_of_reading, fde_answer, fde_offset_of}
use Rattle.framehop.specs.Compact.{CompactData}
use Rattle.framehop.specs.Fresh.{fresh, outcome_of, step}
use Rattle.framehop.specs.Lookup.{DataAt, fde_data, EntryAt, fde_in, no_fde, fde_or, data_at, compact_entry, entry_by}
use Rattle.framehop.specs.Meaning.{Meanings, Step, Place, place_in, code_place, MeansRow, MeansFde, MeansCode, MeansNamed, MeansData, MeansStep, MeansAt}
use Rattle.framehop.specs.Modules.{ModuleView, UnwindData, no_unwind_data, call_frames, pe_sections, compact_info, covering}
use Rattle.framehop.specs.Policy.{Policy}
use Rattle.framehop.specs.Unwinding.{Unwinding, Readers, entry_answer, answer_by}
use Rattle.framehop.specs.declared.modules.UnwinderError.{UnwinderError}

-- what the covering module gives
pub fresh-covered : {R Regs : Type 0} (unwinding : Unwinding R Regs) (modules : List ModuleView) (address : ℕ)
    (first : Bool) (m : ModuleView) → covering modules address ≡ Some m
    → fresh unwinding modules address first
    ≡ unwrap_or (unwinding.module_answer m (address - m.base_avma) first) (by_rule unwinding.fallback)
unfolding fresh
fresh-covered unwinding modules address first m covers = rw covers refl

-- what the readers of an architecture promise
pub record Laws {Rule Regs : Type 0} (readers : Readers Rule Regs) (meanings : Meanings Rule Regs)
    (outcome : Rule → Bool → Regs → Memory → Outcome Regs) : Type 0 where
  pub rule_means : (section : List ℕ) (memory : Memory) (row : Row) (rule : Rule) (first : Bool) (old new : Regs)
      (address : ℕ) → readers.rows.translated row ≡ Some rule → outcome rule first old memory ≡ answered address new
      → meanings.row section memory row first old address new
  pub values_mean : (section : List ℕ) (limit : Option ℕ) (memory : Memory) (row : Row) (first : Bool)
      (old new : Regs) (address : ℕ) → readers.rows.direct section limit memory row first old ≡ Ok (address, new)
      → meanings.columns section limit memory row first old address new
  pub rule_simulates : (sections : Sections) (address : ℕ) (first : Bool) (rule : Rule)
      → readers.pe_found sections address first ≡ Ok (Some rule)
      → Simulates outcome (readers.pe_computed sections address first) rule
  pub says_by_code : (function : Function) (code : List ℕ) (offset : ℕ) (rule : Rule)
      → meanings.by_code function code offset ≡ Some rule
      → readers.compact.says function true offset (Some code) ≡ Ok (ExecRule rule)
  pub code_means : (function : Function) (code : List ℕ) (offset : ℕ) (rule : Rule)
      → meanings.by_code function code offset ≡ Some rule → meanings.does_code code offset rule

answered-same : {Regs : Type 0} (values : ℕ × Regs) (address : ℕ) (new : Regs)
    → answered values.0 values.1 ≡ answered address new → values ≡ (address, new)
answered-same (a, r) address new e = cc

module _ {Rule Regs : Type 0} (readers : Readers Rule Regs) where
  coded : (m : Module) (address : ℕ) (function : Function) (code : List ℕ)
      → (address == function.start_address) ≡ false → code_of m.text function ≡ Some code
      → unwound_by readers.compact m address true (Ok (Some function)) ≡ readers.compact.says function true
      (address - function.start_address) (Some code)
  coded m address function code past is = rw past
      (ap (readers.compact.says function true (address - function.start_address)) is)

  -- in a first frame past a function's start its code comes first
  placed-in : (m : Module) (address : ℕ) (told : Result (Option Function) CompactReadError) (place : Place)
      → place_in m.text address told ≡ Some place
      → unwound_by readers.compact m address true told ≡ readers.compact.says place.function true place.offset
      (Some place.code)
  placed-in m address (Err error) place is = cc
  placed-in m address (Ok None) place is = cc
  placed-in m address (Ok (Some function)) place is =
      elim (cases_Bool (address == function.start_address)) [
        | inl begins ↦ (let e = rw begins at is in cc)
        | inr past ↦
            let e = rw past at is in
            let c = option_map-some (λ code. record {
              function = function;
              code = code;
              offset = address -
                  function.start_address;
            }) (code_of m.text function) place e in
            subst (λ (p : Place). unwound_by readers.compact m address true (Ok (Some function)) ≡ readers.compact.says
            p.function true p.offset (Some p.code)) c.2 (coded m address function c.0 past c.1)
      ]

  placed : (m : Module) (address : ℕ) (first : Bool) (place : Place) → code_place m address first ≡ Some place
      → (first ≡ true)
      × (unwound readers.compact m address first ≡ readers.compact.says place.function true place.offset (Some place.code))
  placed m address false place is = cc
  placed m address true place is =
      elim (cases_Bool (is_in m.stubs address)) [
        | inl inside ↦ (let e = rw inside at is in cc)
        | inr out ↦
            elim (cases_Bool (is_in m.stub_helper address)) [
              | inl inside ↦ (let e = rw out at is in (let f = rw inside at e in cc))
              | inr beside ↦
                  let e = rw out at is in
                  let f = rw beside at e in
                  (refl, rw out (rw beside (placed-in m address (function_of m.unwind_info address) place f)))
            ]
      ]

module _ {Rule Regs : Type 0} (readers : Readers Rule Regs) (meanings : Meanings Rule Regs)
    (outcome : Rule → Bool → Regs → Memory → Outcome Regs) (policy : Policy) (laws : Laws readers meanings outcome)
    (s : Step Regs) where
  -- what is found answers the step: a rule by its outcome, or values where there are any
  abbrev Answers : Option (Fresh Rule Regs) → Type 0
  Answers None = Unit {0}
  Answers (Some (by_rule rule)) = outcome rule s.first s.old s.memory ≡ answered s.address s.new
  Answers (Some (direct compute)) = (values : ℕ × Regs) → compute s.old s.memory ≡ Some values
      → values ≡ (s.address, s.new)

  columns-mean : (bytes : List ℕ) (row : Row) (computed : Result (ℕ × Regs) DwarfUnwinderError)
      → readers.rows.direct bytes policy.values s.memory row s.first s.old ≡ computed
      → ((values : ℕ × Regs) → values_of computed ≡ Some values → values ≡ (s.address, s.new))
      → IfOk computed (λ _. meanings.columns bytes policy.values s.memory row s.first s.old s.address s.new)
  columns-mean bytes row (Ok values) is same = laws.values_mean bytes policy.values s.memory row s.first s.old s.new
      s.address (is ∙ ap Ok (same values refl))
  columns-mean bytes row (Err error) is same = tt

  row-means : (bytes : List ℕ) (row : Row) (found : Option Rule) → readers.rows.translated row ≡ found
      → Answers (fresh_of {E = DwarfUnwinderError} (Ok found)
      (λ regs memory. readers.rows.direct bytes policy.values memory row s.first regs))
      → MatchOption found (IfOk (readers.rows.direct bytes policy.values s.memory row s.first s.old)
      (λ _. meanings.columns bytes policy.values s.memory row s.first s.old s.address s.new))
      (λ _. meanings.row bytes s.memory row s.first s.old s.address s.new)
  row-means bytes row (Some rule) is e = laws.rule_means bytes s.memory row rule s.first s.old s.new s.address is e
  row-means bytes row None is e = columns-mean bytes row
      (readers.rows.direct bytes policy.values s.memory row s.first s.old) refl e

  reading-means : (bytes : List ℕ) (reading : Reading)
      → Answers (answer_of_reading readers.rows policy bytes s.first reading)
      → OfRow (MeansRow readers meanings outcome policy s bytes) reading
  reading-means bytes (unread error) e = tt
  reading-means bytes uncovered e = tt
  reading-means bytes (by_row row) e = row-means bytes row (readers.rows.translated row) refl e

  fde-means : (section : Section) (address offset : ℕ)
      → Answers (fde_answer readers.rows policy section address s.first offset)
      → MeansFde readers meanings outcome policy s section address offset
  unfolding fde_answer
  fde-means section address offset e = reading-means section.bytes (reading_of policy.rows section address offset) e

  -- so does what a frame is unwound by
  abbrev EntryAnswers : ℕ → Result (EntryAt Rule) UnwinderError → Type 0
  EntryAnswers relative entry = Answers (entry_answer readers policy relative s.first entry)

  abbrev Gives : ℕ → Result DataAt UnwinderError → Type 0
  Gives relative found = EntryAnswers relative (entry_by readers.compact relative s.first found)

  frames-mean : (frames : CallFrames) (relative : ℕ) (offset : Option ℕ)
      → Gives relative (fde_or fde_data (no_fde frames.header) (option_map (fde_in frames) offset))
      → IfSome offset (MeansFde readers meanings outcome policy s frames.section (frames.base_svma + relative))
  frames-mean frames relative None e = tt
  frames-mean frames relative (Some offset) e = fde-means frames.section (frames.base_svma + relative) offset e

  pe-means : (sections : Sections) (relative : ℕ) (found : Result (Option Rule) PeUnwinderError)
      → readers.pe_found sections relative s.first ≡ found
      → Answers (fresh_of found (λ regs memory. readers.pe_computed sections relative s.first memory regs))
      → IfOk found (λ o. IfSome o (λ _. readers.pe_computed sections relative s.first s.memory s.old ≡ Ok
      (s.address, s.new)))
  pe-means sections relative (Err error) is e = tt
  pe-means sections relative (Ok None) is e = tt
  pe-means sections relative (Ok (Some rule)) is e = laws.rule_simulates sections relative s.first rule is s.first
      s.old s.new s.memory s.address e

  named-means : (frames : Option CallFrames) (relative : ℕ) (told : Answer Rule)
      → EntryAnswers relative (compact_entry frames told) → MeansNamed readers meanings outcome policy s frames relative told
  named-means frames relative (Ok (ExecRule rule)) e = tt
  named-means None relative (Ok (NeedDwarf offset)) e = tt
  named-means (Some frames) relative (Ok (NeedDwarf offset)) e = fde-means frames.section
      (frames.base_svma + relative) offset e
  named-means frames relative (Err error) e = tt

  code-means : (d : CompactData) (relative : ℕ) (place : Place) → code_place d.info relative s.first ≡ Some place
      → EntryAnswers relative (compact_entry d.frames (unwound readers.compact d.info relative s.first))
      → (found : Option Rule) → meanings.by_code place.function place.code place.offset ≡ found
      → IfSome found (λ rule. meanings.does_code place.code place.offset rule ×
      (outcome rule true s.old s.memory ≡ answered s.address s.new))
  code-means d relative place is e None code = tt
  code-means d relative place is e (Some rule) code =
      let at_code = placed readers d.info relative s.first place is in
      let says = at_code.1 ∙ laws.says_by_code place.function place.code place.offset rule code in
      let runs = subst (λ told. EntryAnswers relative (compact_entry d.frames told)) says e in (
        laws.code_means place.function place.code place.offset rule code,
        subst (λ first. outcome rule first s.old s.memory ≡ answered s.address s.new) at_code.0 runs,
      )

  places-mean : (d : CompactData) (relative : ℕ)
      → EntryAnswers relative (compact_entry d.frames (unwound readers.compact d.info relative s.first))
      → (found : Option Place) → code_place d.info relative s.first ≡ found
      → IfSome found (MeansCode readers meanings outcome policy s)
  places-mean d relative e None is = tt
  places-mean d relative e (Some place) is = code-means d relative place is e
      (meanings.by_code place.function place.code place.offset) refl

  data-means : (known : UnwindData) (relative : ℕ) → Gives relative (data_at known relative)
      → MeansData readers meanings outcome policy s known relative
  data-means (no_unwind_data refusal) relative e = tt
  data-means (call_frames frames) relative e = frames-mean frames relative (fde_offset_of frames relative) e
  data-means (pe_sections sections) relative e = pe-means sections relative (readers.pe_found sections relative s.first)
      refl e
  data-means (compact_info d) relative e = (
    places-mean d relative e (code_place d.info relative s.first) refl,
    named-means d.frames relative (unwound readers.compact d.info relative s.first) e,
  )

  -- an answered step, whatever the fallback rule is
  module _ (unwinding : Unwinding Rule Regs) (outcome-is : unwinding.outcome ≡ outcome) where
    answers-given : (answer : Option (Fresh Rule Regs))
        → outcome_of unwinding (unwrap_or answer (by_rule unwinding.fallback)) s.first s.old s.memory ≡ answered
        s.address s.new → Answers answer
    answers-given None e = tt
    answers-given (Some (by_rule rule)) e = ap (λ run. run rule s.first s.old s.memory) (sym outcome-is) ∙ e
    answers-given (Some (direct compute)) e = λ values is. answered-same values s.address s.new (rw is at e)

    step-means : unwinding.module_answer ≡ answer_by readers policy → (modules : List ModuleView) (address : ℕ)
        → outcome_of unwinding (fresh unwinding modules address s.first) s.first s.old s.memory ≡ answered s.address
        s.new → MeansStep readers meanings outcome policy s modules address
    unfolding MeansStep answer_by
    step-means answers modules address e = covered (covering modules address) refl where
      covered : (found : Option ModuleView) → covering modules address ≡ found
          → IfSome found (λ m. MeansData readers meanings outcome policy s m.unwind_data (address - m.base_avma))
      covered None is = tt
      covered (Some m) is =
          let given = ap (λ answer. answer m (address - m.base_avma) s.first) (sym answers) in
          data-means m.unwind_data (address - m.base_avma)
          (subst Answers (sym given)
          (answers-given (unwinding.module_answer m (address - m.base_avma) s.first)
          (ap (λ told. outcome_of unwinding told s.first s.old s.memory)
          (sym (fresh-covered unwinding modules address s.first m is)) ∙ e)))

-- a step at a location
pub step-means-by : {Rule Regs : Type 0} (readers : Readers Rule Regs) (meanings : Meanings Rule Regs)
    (outcome : Rule → Bool → Regs → Memory → Outcome Regs) (policy : Policy) → Laws readers meanings outcome
    → (unwinding : Unwinding Rule Regs) → unwinding.outcome ≡ outcome
    → unwinding.module_answer ≡ answer_by readers policy
    → (modules : List ModuleView) (location : FrameLocation) (old new : Regs) (memory : Memory) (address : ℕ)
    → step unwinding modules location old memory ≡ answered address new
    → MeansAt readers meanings outcome policy modules location old memory address new
unfolding step
step-means-by readers meanings outcome policy laws unwinding outcome-is answers modules location old new memory address
    e =
    step-means readers meanings outcome policy laws
    (record { first = is_first_frame location; old = old; memory = memory; address = address; new = new })
    unwinding outcome-is answers modules (lookup_address location) e
