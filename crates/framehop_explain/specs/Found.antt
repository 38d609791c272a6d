-- What is found of a frame: the module that covers it, and what its unwind data tells.
use Rattle.std.specs.Prelude.{◌≡◌, ℕ, ◌-◌, Bool, List, Option, Some, None}
use Rattle.framehop_core.specs.CodeAddress.{FrameLocation, lookup_address, is_first_frame}
use Rattle.framehop_core.specs.Memory.{Memory}
use Rattle.framehop_cfi.specs.declared.storage.StorageLimits.{StorageLimits}
use Rattle.framehop_pe.specs.Sections.{Sections}
use Rattle.framehop.specs.Modules.{ModuleView, covering}
use Rattle.framehop.specs.Policy.{Policy}
use Rattle.framehop.specs.Unwinding.{Readers}
use Rattle.framehop_explain.specs.declared.explain.Finding.{Finding}
use Rattle.framehop_explain.specs.declared.source.PeSource.{PeSource}
use Rattle.framehop_explain.specs.declared.source.Source.{Source}
use Rattle.framehop_explain.specs.declared.told.Told.{Told}
use Rattle.framehop_explain.specs.CompactSource.{CodeReader}
use Rattle.framehop_explain.specs.Explain.{Places, Values, IsSource, IsTold}

-- what the module that covers a frame tells of it
pub record FrameFinding (R : Type 0) : Type 0 where
  pub «module» : ModuleView
  pub relative_address : ℕ
  pub source : Source
  pub told : Told R

abbrev pub finding_of : {D R : Type 0} → Finding D R → FrameFinding R
finding_of found = record {
  «module» = found.«module».now;
  relative_address = found.relative_address;
  source = found.source;
  told = found.told;
}

-- how an architecture under a policy explains a frame: the places of its unwind data, what they tell from registers over
-- a memory in a frame of this kind (`true`: the first), the limits of rows, and its rules as text, with the fallback rule
pub record Explaining (R S : Type 0) : Type 1 where
  pub places : Places R
  pub values : Memory → Bool → S → Values R S
  pub limits : Option StorageLimits
  pub text : R → List ℕ
  pub fallback : R

-- the same by what the readers of unwind data give, the places of PE unwind info, and what is made of code
abbrev pub explaining_by : {R S : Type 0} → Readers R S → (Sections → ℕ → Bool → PeSource) → CodeReader R → (R → List ℕ)
    → R → Policy → Explaining R S
explaining_by readers pe code text fallback policy = record {
  places = record { pe = pe; code = code; compact = readers.compact };
  values = λ memory first old. record {
    translated = readers.rows.translated;
    uncovered = readers.rows.uncovered;
    direct = λ bytes row. readers.rows.direct bytes policy.values memory row first old;
    found = readers.pe_found;
    computed = λ sections relative frame. readers.pe_computed sections relative frame memory old;
    compact = readers.compact;
  };
  limits = policy.rows;
  text = text;
  fallback = fallback;
}

-- What is found of a frame at a location, from registers over a memory: nothing where no module covers its lookup
-- address, else the module that does, the address relative to its base, the source of its rule, and what that tells.
abbrev pub IsFinding : {R S : Type 0} → Explaining R S → List ModuleView → Memory → FrameLocation → S
    → Option (FrameFinding R) → Type 0
IsFinding explaining modules memory location regs None = covering modules (lookup_address location) ≡ None
IsFinding explaining modules memory location regs (Some found) =
    (covering modules (lookup_address location) ≡ Some found.«module»)
    × (found.relative_address ≡ lookup_address location - found.«module».base_avma)
    × IsSource explaining.places explaining.limits found.«module».unwind_data found.relative_address
    (is_first_frame location) found.source
    × IsTold (explaining.values memory (is_first_frame location) regs) explaining.limits found.«module».unwind_data
    found.relative_address (is_first_frame location) found.told
