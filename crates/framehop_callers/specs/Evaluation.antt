-- The value of a DWARF expression that may read memory (DWARF 5 section 2.5.1): a list of states leads from position 0
-- to its end. A step is one of `framehop_dwarf`, or reads memory.
use Rattle.std.specs.Prelude.{ℕ, zero, suc, ◌≤◌, ◌≡◌, true, List, [], ◌∷◌, length, slice_get, slice_range, Option, Some, None, option_map, option_and_then, option_to_list, ◌==◌, if◌then◌else◌}
use Rattle.framehop_core.specs.Memory.{Memory}
use Rattle.framehop_cfi.specs.declared.rule.Register.{Register}
use Rattle.framehop_cfi.specs.declared.rule.Expression.{Expression}
use Rattle.framehop_dwarf.specs.Evaluation.{Evaluation, State, fits, pushed, step, code_of}
use Rattle.framehop_callers.specs.Load.{load_at, loaded}
use Rattle.framehop_callers.specs.declared.load.Width.{Width}

-- the stack after the address on top has been read from; an empty one has none
abbrev pub stack_loaded : Memory → Option ℕ → Width → List ℕ → Option (List ℕ)
stack_loaded memory limit width (address ∷ rest) =
    option_and_then (λ value. pushed limit value rest) (loaded memory width address)
stack_loaded memory limit width [] = None

-- the state after an operation that reads memory, or after another
abbrev pub step_by : Evaluation → Memory → State → Option (Width × ℕ) → Option State
step_by e memory s (Some load) =
    option_map (λ stack. record { position = load.1; stack = stack }) (stack_loaded memory e.limit load.0 s.stack)
step_by e memory s None = step e s

-- the state after the operation at a state's position
unfoldable pub step_over : Evaluation → Memory → State → Option State
step_over e memory s = step_by e memory s (load_at e.code s.position)

-- the states lead from one to another, an operation each
abbrev pub Leads : Evaluation → Memory → State → List State → State → Type 0
Leads e memory s [] last = s ≡ last
Leads e memory s (next ∷ states) last = (step_over e memory s ≡ Some next) × Leads e memory next states last

-- v is the value of the expression from an initial stack: at most 4,096 operations lead to the end, with v on top
pub record IsValue (e : Evaluation) (memory : Memory) (initial : List ℕ) (v : ℕ) : Type 0 where
  pub room : fits e.limit (length initial) ≡ true
  pub states : List State
  pub few : length states ≤ 4096
  pub last : State
  pub leads : Leads e memory (record { position = 0; stack = initial }) states last
  pub ends : last.position ≡ length e.code
  pub top : slice_get last.stack 0 ≡ Some v

-- the same, operation by operation, in at most n of them
unfoldable pub value_from : Evaluation → Memory → ℕ → State → Option ℕ
value_from e memory zero s = if s.position == length e.code then slice_get s.stack 0 else None
value_from e memory (suc n) s =
    if s.position == length e.code then slice_get s.stack 0
    else option_and_then (value_from e memory n) (step_over e memory s)

-- what an expression gives that starts with this stack, which must fit: at most 4,096 operations
unfoldable pub value_of : Evaluation → Memory → List ℕ → Option ℕ
value_of e memory initial =
    if fits e.limit (length initial) then value_from e memory 4096 (record { position = 0; stack = initial }) else None

-- the value of an expression of a section, from a first value or an empty stack of at most 64 values
abbrev pub value_in : List ℕ → (Register → Option ℕ) → Memory → Expression → Option ℕ → Option ℕ
value_in bytes columns memory expression first =
    option_and_then (λ code. value_of (record { code = code; columns = columns; limit = Some 64 }) memory
    (option_to_list first)) (code_of bytes expression)

-- the same, by a list of states
pub record IsValueIn (bytes : List ℕ) (columns : Register → Option ℕ) (memory : Memory) (expression : Expression)
    (first : Option ℕ) (v : ℕ) : Type 0 where
  pub ordered : expression.start ≤ expression.end
  pub inside : expression.end ≤ length bytes
  pub is_value : IsValue
      (record { code = slice_range bytes expression.start expression.end; columns = columns; limit = Some 64 }) memory
      (option_to_list first) v
