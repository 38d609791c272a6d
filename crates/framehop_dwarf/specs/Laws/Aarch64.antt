-- aarch64: what the steps by a row mean.
use Rattle.std.specs.Prelude.{◌≡◌, ℕ, Bool, List, Option, Some, Ok}
use Rattle.framehop_core.specs.Memory.{Memory}
use Rattle.framehop_core.specs.Outcome.{answered}
use Rattle.framehop_core.specs.Aarch64.Registers.{Registers}
use Rattle.framehop_core.specs.Aarch64.Rules.{outcome}
use Rattle.framehop_core.specs.declared.aarch64.unwind_rule.UnwindRuleAarch64.{UnwindRuleAarch64}
use Rattle.framehop_cfi.specs.Row.{Row}
use Rattle.framehop_dwarf.specs.Aarch64.{translated, direct_of, RowMeans, ColumnsMean}
use Rattle.framehop_dwarf.specs.Laws.SimulationAarch64.{translated-means}
use Rattle.framehop_dwarf.specs.Laws.DirectAarch64.{direct-means}

-- where the rule of a row answers an address, the step is what the row means
pub rule-means : (section : List ℕ) (memory : Memory) (row : Row) (rule : UnwindRuleAarch64) (first : Bool)
    (old new : Registers) (address : ℕ)
    → translated row ≡ Some rule → outcome rule first old memory ≡ answered address new
    → RowMeans section memory row first old address new
rule-means section memory row rule first old new address =
    translated-means section memory first old address new row rule

-- the values of a row without a rule are those of its columns
pub values-mean : (section : List ℕ) (limit : Option ℕ) (memory : Memory) (row : Row) (first : Bool)
    (old new : Registers) (address : ℕ)
    → direct_of section limit memory row first old ≡ Ok (address, new)
    → ColumnsMean section limit memory row first old address new
values-mean section limit memory row first old new address = direct-means section limit memory row first old address new
