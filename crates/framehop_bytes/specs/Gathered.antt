-- Lists that are made item by item.
use Rattle.std.specs.Prelude.{◌≡◌, List, Option, Some, None, Vec}
use Rattle.std.specs.declared.alloc.Global.{Global}

-- what was gathered of a list: all of it, or nothing where an allocation failed
abbrev pub IsGathered : {A : Type 0} → List A → Option (Vec A Global) → Type 0
IsGathered list (Some items) = items.items ≡ list
IsGathered list None = Unit
