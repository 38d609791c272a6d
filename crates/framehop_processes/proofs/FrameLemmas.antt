-- What a module has by a choice of bytes.
use Rattle.std.proofs.Common.{◌≡◌, ℕ, Bool, true, false, List, Option, if◌then◌else◌, refl}
use Rattle.framehop.specs.Modules.{ModuleView}

pub chosen : (choice : Bool) (made : Option (List ℕ) → ModuleView) (first second : Option (List ℕ)) → choice ≡ true
    → made first ≡ made (if choice then first else second)
chosen true made first second e = refl
chosen false made first second e = cc

pub not-chosen : (choice : Bool) (made : Option (List ℕ) → ModuleView) (first second : Option (List ℕ)) → choice ≡ false
    → made second ≡ made (if choice then first else second)
not-chosen true made first second e = cc
not-chosen false made first second e = refl
