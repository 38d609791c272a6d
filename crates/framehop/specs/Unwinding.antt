-- What an architecture makes of rules and modules: the one record by which steps, walks, caches and sessions are
-- defined.
-- (framehop 0.16.0, `Unwinding`.)
use Rattle.std.specs.Prelude.{◌≡◌, ℕ, ◌+◌, ◌<◌, Bool, true, false, Option, Some, None, Result, Ok, Err}
use Rattle.framehop_core.specs.Memory.{Memory}
use Rattle.framehop_core.specs.Outcome.{Outcome, answered}
use Rattle.framehop_pe.specs.Sections.{Sections}
use Rattle.framehop_pe.specs.declared.pe.PeUnwinderError.{PeUnwinderError}
use Rattle.framehop_macho.specs.Unwinder.{CompactReader}
use Rattle.framehop_dwarf.specs.MayTakeMemory.{may_take_memory}
use Rattle.framehop.specs.Policy.{Policy}
use Rattle.framehop.specs.Answer.{Fresh, by_rule, direct, fresh_of}
use Rattle.framehop.specs.CallFrames.{RowReader, fde_answer}
use Rattle.framehop.specs.Lookup.{EntryAt, fde_entry, rule_entry, pe_entry, entry_at}
use Rattle.framehop.specs.Modules.{ModuleView}
use Rattle.framehop.specs.declared.modules.UnwinderError.{UnwinderError}

-- `outcome`: what a rule does to a frame, a first one (`true`) or another. `fallback`: the rule where nothing is known.
-- `module_answer`: what the unwind data of a module gives for a relative address in a frame of this kind, if anything.
-- `may_take_memory`: whether finding that out for a relative address may take memory. `stack_pointer`: that of
-- registers. `always_rises`: whether each step that leaves a frame other than the first raises the stack pointer.
pub record Unwinding (Rule Regs : Type 0) : Type 0 where
  pub outcome : Rule → Bool → Regs → Memory → Outcome Regs
  pub fallback : Rule
  pub module_answer : ModuleView → ℕ → Bool → Option (Fresh Rule Regs)
  pub may_take_memory : ModuleView → ℕ → Bool → Bool
  pub stack_pointer : Regs → ℕ
  pub always_rises : Bool

-- what the readers of unwind data give on an architecture
pub record Readers (Rule Regs : Type 0) : Type 0 where
  pub rows : RowReader Rule Regs
  pub pe_found : Sections → ℕ → Bool → Result (Option Rule) PeUnwinderError
  pub pe_computed : Sections → ℕ → Bool → Memory → Regs → Result (ℕ × Regs) PeUnwinderError
  pub compact : CompactReader Rule

-- what the unwind info of a PE module gives for a relative address in a frame of this kind, if anything
abbrev pub pe_answer : {Rule Regs : Type 0} → Readers Rule Regs → Sections → ℕ → Bool → Option (Fresh Rule Regs)
pe_answer readers sections relative first =
    fresh_of (readers.pe_found sections relative first)
    (λ regs memory. readers.pe_computed sections relative first memory regs)

-- what a frame of this kind is unwound by gives for a relative address, if anything
abbrev pub entry_answer : {Rule Regs : Type 0} → Readers Rule Regs → Policy → ℕ → Bool
    → Result (EntryAt Rule) UnwinderError → Option (Fresh Rule Regs)
entry_answer readers policy relative first (Ok (fde_entry fde)) =
    fde_answer readers.rows policy fde.section (fde.base_svma + relative) first fde.offset
entry_answer readers policy relative first (Ok (rule_entry rule)) = Some (by_rule rule)
entry_answer readers policy relative first (Ok (pe_entry sections)) = pe_answer readers sections relative first
entry_answer readers policy relative first (Err error) = None

-- finding that out may take memory: by the row of an FDE only
abbrev pub entry_may_take_memory : {Rule : Type 0} → Policy → ℕ → Result (EntryAt Rule) UnwinderError → Bool
entry_may_take_memory policy relative (Ok (fde_entry fde)) =
    may_take_memory policy.rows policy.values fde.section (fde.base_svma + relative) fde.offset
entry_may_take_memory policy relative (Ok (rule_entry rule)) = false
entry_may_take_memory policy relative (Ok (pe_entry sections)) = false
entry_may_take_memory policy relative (Err error) = false

-- what the unwind data of a module gives
unfoldable pub answer_by : {Rule Regs : Type 0} → Readers Rule Regs → Policy → ModuleView → ℕ → Bool
    → Option (Fresh Rule Regs)
answer_by readers policy m relative first =
    entry_answer readers policy relative first (entry_at readers.compact m.unwind_data relative first)

-- whether reading it may take memory
unfoldable pub may_take_memory_by : {Rule Regs : Type 0} → Readers Rule Regs → Policy → ModuleView → ℕ → Bool → Bool
may_take_memory_by readers policy m relative first =
    entry_may_take_memory policy relative (entry_at readers.compact m.unwind_data relative first)

-- that is so where it is said: a rule's step, and computed values, raise the stack pointer
pub record RisesAsSaid {Rule Regs : Type 0} (unwinding : Unwinding Rule Regs) : Type 0 where
  pub rules : unwinding.always_rises ≡ true → (rule : Rule) (old new : Regs) (memory : Memory) (address : ℕ)
      → unwinding.outcome rule false old memory ≡ answered address new
      → unwinding.stack_pointer old < unwinding.stack_pointer new
  pub values : unwinding.always_rises ≡ true
      → (m : ModuleView) (relative : ℕ) (compute : Regs → Memory → Option (ℕ × Regs))
      → unwinding.module_answer m relative false ≡ Some (direct compute)
      → (old : Regs) (memory : Memory) (values : ℕ × Regs) → compute old memory ≡ Some values
      → unwinding.stack_pointer old < unwinding.stack_pointer values.1
