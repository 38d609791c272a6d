-- The modules of an unwinder, in order of start (framehop 0.16.0, `Module` and `Unwinder::add_module`).
-- Which module covers an address: `find_module_for_address`; the greatest end: `max_known_code_address`.
use Rattle.std.specs.Prelude.{◌≡◌, ℕ, ◌+◌, ◌-◌, ◌^◌, ◌<◌, Bool, not, ◌&&◌, ◌||◌, ◌==◌, nat_le, nat_lt, if◌then◌else◌, max, List, [], ◌∷◌, ◌++◌, map, length, filter, slice_get, Option, Some, None, option_and_then, Result, Ok, Err}
use Rattle.std.specs.List.{list_any}
use Rattle.framehop_pe.specs.Sections.{Sections}
use Rattle.framehop.specs.CallFrames.{CallFrames}
use Rattle.framehop.specs.Compact.{CompactData}
use Rattle.framehop.specs.declared.unwind_data.IndexRefusal.{IndexRefusal}
use Rattle.framehop.specs.declared.modules.ModuleListError.{ModuleListError}
use Rattle.framehop.specs.declared.modules.ModuleListError.TheVariants.{GenerationsExhausted}
use Rattle.std.specs.List.Sorted.{IsNonDecreasingBy}

-- what unwind data a module has: none, or an index that was refused; or this
pub data UnwindData : Type 0 where
  no_unwind_data : Option IndexRefusal → UnwindData
  call_frames : CallFrames → UnwindData
  pe_sections : Sections → UnwindData
  compact_info : CompactData → UnwindData

-- a module: its name, its addresses from start to below end, its base (all AVMAs), and its unwind data
pub record ModuleView : Type 0 where
  pub name : List ℕ
  pub start : ℕ
  pub end : ℕ
  pub base_avma : ℕ
  pub unwind_data : UnwindData

-- the modules of an unwinder, and their generation: a number that no other list of modules has
pub record UnwinderView : Type 0 where
  pub modules : List ModuleView
  pub generation : ℕ

-- What a call that makes an unwinder has returned, over the counter of generations before and after it: an unwinder
-- without modules, of the generation that it has drawn, or at the counter's end a refusal, and nothing is drawn.
abbrev pub IsMade : Result UnwinderView ModuleListError → ℕ → ℕ → Type 0
IsMade (Ok unwinder) old new =
    (unwinder ≡ record { modules = []; generation = old }) × (new ≡ old + 1) × (old < 2 ^ 64 - 1)
IsMade (Err error) old new = (error ≡ GenerationsExhausted) × (old ≡ 2 ^ 64 - 1) × (new ≡ old)

-- the module starts at or below the address
abbrev pub starts_by : ℕ → ModuleView → Bool
starts_by address m = nat_le m.start address

-- the modules that start at or below the address, and the others
abbrev pub starting_by : ℕ → List ModuleView → List ModuleView
starting_by address modules = filter (starts_by address) modules

abbrev pub starting_above : ℕ → List ModuleView → List ModuleView
starting_above address modules = filter (λ m. not (starts_by address m)) modules

-- the list with one more module, after those of equal start
abbrev pub with_module : ModuleView → List ModuleView → List ModuleView
with_module m modules = starting_by m.start modules ++ m ∷ starting_above m.start modules

-- whether a module has this start
abbrev pub has_start : ℕ → List ModuleView → Bool
has_start start modules = list_any (λ m. m.start == start) modules

-- the list without the last module of this start, if there is one
abbrev pub without_module : ℕ → List ModuleView → List ModuleView
without_module start [] = []
without_module start (m ∷ modules) =
    if has_start start modules then m ∷ without_module start modules
    else (if m.start == start then modules else m ∷ modules)

-- the starts of the modules, in their order
abbrev pub starts_of : List ModuleView → List ℕ
starts_of modules = map (λ m. m.start) modules

-- the modules are in order of start
abbrev pub AreInOrder : List ModuleView → Type 0
AreInOrder modules = IsNonDecreasingBy (λ m. m.start) modules

-- the last of a list
abbrev pub last_of : {A : Type 0} → List A → Option A
last_of xs = slice_get xs (length xs - 1)

-- the address is the module's start or lies below its end, and is at most 2^32 - 1 bytes above its base
abbrev pub covers : ℕ → ModuleView → Bool
covers address m =
    ((address == m.start) || nat_lt address m.end) && nat_le m.base_avma address
    && nat_lt (address - m.base_avma) (2 ^ 32)

-- the value, if it passes the test
abbrev pub passing : {A : Type 0} → (A → Bool) → A → Option A
passing test x = if test x then Some x else None

-- the covering module of an address: the last one that starts at or below it, if that covers it
abbrev pub covering : List ModuleView → ℕ → Option ModuleView
covering modules address = option_and_then (passing (covers address)) (last_of (starting_by address modules))

-- the greatest end, or 0 where there is no module
abbrev pub greatest_end : List ModuleView → ℕ
greatest_end [] = 0
greatest_end (m ∷ modules) = max m.end (greatest_end modules)
