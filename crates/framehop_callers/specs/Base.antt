-- What a canonical frame address counts from (DWARF 5 sections 2.5.1.2, 2.5.1.3 and 6.4.1).
use Rattle.std.specs.Prelude.{ℕ, ℤ, List, Option, Some, None, option_and_then, Ok, Err}
use Rattle.framehop_cfi.specs.Numbers.{Parsed}
use Rattle.framehop_cfi.specs.declared.rule.CfaRule.{CfaRule}
use Rattle.framehop_cfi.specs.declared.rule.CfaRule.TheVariants as cfa
use Rattle.framehop_cfi.specs.declared.rule.Register.{Register}
use Rattle.framehop_dwarf.specs.Evaluation.{code_of}
use Rattle.framehop_dwarf.specs.Operation.{operation_at}
use Rattle.framehop_dwarf.specs.declared.operation.Operation.{Operation}
use Rattle.framehop_dwarf.specs.declared.operation.Operation.TheVariants.{RegisterOffset}
use Rattle.framehop_callers.specs.Load.{load_at}
use Rattle.framehop_callers.specs.declared.base.CfaBase.{CfaBase}
use Rattle.framehop_callers.specs.declared.base.CfaBase.TheVariants as base
use Rattle.framehop_callers.specs.declared.load.Width.{Width}

-- a register, or the word at a distance from it, if the operation after it reads one
abbrev pub base_by : Register → ℤ → Option (Width × ℕ) → CfaBase
base_by register offset (Some load) = base.Word register offset
base_by register offset None = base.Register register

-- by an expression's first operation and the place after it
abbrev pub base_after : List ℕ → Operation → ℕ → Option CfaBase
base_after code (RegisterOffset register offset) next = Some (base_by register offset (load_at code next))
base_after code operation next = None

abbrev pub base_at : List ℕ → Parsed Operation → Option CfaBase
base_at code (Ok read) = base_after code read.0 read.1
base_at code (Err error) = None

-- the register of the rule, or what the expression begins with
abbrev pub base_of : List ℕ → CfaRule → Option CfaBase
base_of bytes (cfa.RegisterAndOffset register offset) = Some (base.Register register)
base_of bytes (cfa.Expression expression) = option_and_then (λ code. base_at code (operation_at code 0)) (code_of bytes expression)
