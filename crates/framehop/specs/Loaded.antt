-- Unwinders that begin with modules: those of a process when it is met.
use Rattle.std.specs.Prelude.{◌≡◌, ◌↔◌, ℕ, ◌+◌, ◌-◌, ◌^◌, ◌<◌, List, [], ◌∷◌, Result, Ok, Err}
use Rattle.framehop.specs.Modules.{ModuleView, UnwinderView, with_module}
use Rattle.framehop.specs.declared.modules.ModuleListError.{ModuleListError}
use Rattle.framehop.specs.declared.modules.ModuleListError.TheVariants.{GenerationsExhausted}

-- the list with more modules, added one after another
abbrev pub with_modules : List ModuleView → List ModuleView → List ModuleView
with_modules [] modules = modules
with_modules (m ∷ added) modules = with_modules added (with_module m modules)

-- What a call that makes an unwinder of modules has returned, over the counter of generations before and after it: an
-- unwinder of the generation that it has drawn, or nothing is drawn; at the counter's end, and only there, it is refused
-- for that.
abbrev pub IsMadeWith : List ModuleView → Result UnwinderView ModuleListError → ℕ → ℕ → Type 0
IsMadeWith added (Ok unwinder) old new =
    (unwinder ≡ record { modules = with_modules added []; generation = old }) × (new ≡ old + 1) × (old < 2 ^ 64 - 1)
IsMadeWith added (Err error) old new = (new ≡ old) × ((error ≡ GenerationsExhausted) ↔ (old ≡ 2 ^ 64 - 1))
