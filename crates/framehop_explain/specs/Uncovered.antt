-- Why no module covers an address.
use Rattle.std.specs.Prelude.{ℕ, not, ◌&&◌, ◌==◌, nat_le, nat_lt, if◌then◌else◌, Option, Some, None}
use Rattle.framehop.specs.Modules.{ModuleView}
use Rattle.framehop_explain.specs.declared.uncovered.Uncovered.{Uncovered}
use Rattle.framehop_explain.specs.declared.uncovered.Uncovered.TheVariants.{NoModule, PastEnd, BelowBase, FarAboveBase}

-- by the last module that starts at or below the address, if there is one: a module covers its start and what lies below
-- its end, as far as it is at or above its base and less than 2^32 bytes above it
abbrev pub uncovered_by : Option ModuleView → ℕ → Uncovered
uncovered_by None address = NoModule
uncovered_by (Some m) address =
    if not (address == m.start) && nat_le m.end address then PastEnd
    else (if nat_lt address m.base_avma then BelowBase else FarAboveBase)
