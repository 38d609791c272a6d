-- What unwinding gives where nothing is cached: the bytes of the loaded modules, read afresh.
-- (framehop 0.16.0, `Unwinder::unwind_frame` without its cache.)
use Rattle.std.specs.Prelude.{ℕ, ◌-◌, Bool, List, Option, Some, None, option_and_then, unwrap_or}
use Rattle.framehop_core.specs.Memory.{Memory}
use Rattle.framehop_core.specs.Outcome.{Outcome, answered}
use Rattle.framehop_core.specs.CodeAddress.{FrameLocation, lookup_address, is_first_frame}
use Rattle.framehop.specs.Modules.{ModuleView, covering}
use Rattle.framehop.specs.Answer.{Fresh, by_rule, direct}
use Rattle.framehop.specs.Unwinding.{Unwinding}

-- the answer of the modules for a lookup address: what the covering module's data gives, else the fallback rule
unfoldable pub fresh : {Rule Regs : Type 0} → Unwinding Rule Regs → List ModuleView → ℕ → Bool → Fresh Rule Regs
fresh unwinding modules address first =
    unwrap_or
    (option_and_then (λ m. unwinding.module_answer m (address - m.base_avma) first) (covering modules address))
    (by_rule unwinding.fallback)

-- the computed values, or where there are none another outcome
abbrev pub values_or : {Regs : Type 0} → Option (ℕ × Regs) → Outcome Regs → Outcome Regs
values_or (Some values) other = answered values.0 values.1
values_or None other = other

-- What an answer does to a frame of this kind: a rule has its outcome; where values can't be computed, the fallback
-- rule has the unchanged registers.
abbrev pub outcome_of : {Rule Regs : Type 0} → Unwinding Rule Regs → Fresh Rule Regs → Bool → Regs → Memory
    → Outcome Regs
outcome_of unwinding (by_rule rule) first regs memory = unwinding.outcome rule first regs memory
outcome_of unwinding (direct values) first regs memory =
    values_or (values regs memory) (unwinding.outcome unwinding.fallback first regs memory)

-- one step: the frame at a location is unwound by what the modules give for its lookup address and its kind
unfoldable pub step : {Rule Regs : Type 0} → Unwinding Rule Regs → List ModuleView → FrameLocation → Regs → Memory
    → Outcome Regs
step unwinding modules location regs memory =
    let first = is_first_frame location in
    outcome_of unwinding (fresh unwinding modules (lookup_address location) first) first regs memory
