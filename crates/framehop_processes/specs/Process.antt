-- A process: its mappings, and the unwinder that has their modules.
use Rattle.std.specs.Prelude.{◌≡◌, ℕ, ◌≤◌, ◌<◌, List, map}
use Rattle.framehop.specs.Modules.{ModuleView, UnwinderView}
use Rattle.framehop_processes.specs.declared.mapping.Mapping.{Mapping}

-- the mappings of a process, and its unwinder
pub record ProcessView : Type 0 where
  pub mappings : List Mapping
  pub unwinder : UnwinderView

-- the unwinder has exactly the modules of the mappings
abbrev pub HasModules : (Mapping → ModuleView) → ProcessView → Type 0
HasModules module_of process = process.unwinder.modules ≡ map module_of process.mappings

-- each module starts where its mapping does
abbrev pub StartsAt : (Mapping → ModuleView) → Type 0
StartsAt module_of = (mapping : Mapping) → (module_of mapping).start ≡ mapping.start

-- each module ends where its mapping does
abbrev pub EndsAt : (Mapping → ModuleView) → Type 0
EndsAt module_of = (mapping : Mapping) → (module_of mapping).end ≡ mapping.end

-- a generation that was drawn between two states of the counter
abbrev pub IsDrawn : ℕ → ℕ → ℕ → Type 0
IsDrawn old generation new = (old ≤ generation) × (generation < new)
