-- The value of a DWARF expression (DWARF 5 sections 2.5.1 and 7.7.1): a list of states leads from position 0 to its
-- end.
use Rattle.std.specs.Prelude.{ℕ, zero, suc, ◌+◌, ◌%◌, ◌^◌, ◌≤◌, ◌≡◌, Bool, true, List, [], ◌∷◌, length, slice_get, slice_range, Option, Some, None, option_map, option_and_then, option_to_list, Ok, Err, ℤ, pos, negsuc, ◌+ℤ◌, ◌==◌, nat_le, if◌then◌else◌}
use Rattle.std.specs.Int.{cast_unsigned, w64}
use Rattle.framehop_cfi.specs.Numbers.{Parsed}
use Rattle.framehop_cfi.specs.declared.rule.Register.{Register}
use Rattle.framehop_cfi.specs.declared.rule.Expression.{Expression}
use Rattle.framehop_dwarf.specs.Operation.{operation_at, changed, combined}
use Rattle.framehop_dwarf.specs.declared.operation.Operation.{Operation}
use Rattle.framehop_dwarf.specs.declared.operation.Operation.TheVariants.{Nop, Constant, RegisterOffset, Pick, Discard, Swap, Rot, Unary, Binary, PlusConstant, Skip, Branch}

-- what an expression is evaluated over: its bytes, the registers, and the most values that fit the stack
pub record Evaluation : Type 0 where
  pub code : List ℕ
  pub columns : Register → Option ℕ
  pub limit : Option ℕ

-- a position in the bytes, and the stack, its top first
pub record State : Type 0 where
  pub position : ℕ
  pub stack : List ℕ

-- so many values fit
abbrev pub fits : Option ℕ → ℕ → Bool
fits None count = true
fits (Some limit) count = nat_le count limit

-- a value on top of others, if it fits
abbrev pub pushed : Option ℕ → ℕ → List ℕ → Option (List ℕ)
pushed limit value stack = if fits limit (suc (length stack)) then Some (value ∷ stack) else None

-- the stack after an operation; one that needs more values than there are has none
abbrev pub stack_after : Option ℕ → (Register → Option ℕ) → Operation → List ℕ → Option (List ℕ)
stack_after limit columns Nop stack = Some stack
stack_after limit columns (Constant value) stack = pushed limit value stack
stack_after limit columns (RegisterOffset register offset) stack =
    option_and_then (λ value. pushed limit ((value + cast_unsigned w64 offset) % 2 ^ 64) stack) (columns register)
stack_after limit columns (Pick depth) stack =
    option_and_then (λ value. pushed limit value stack) (slice_get stack depth)
stack_after limit columns Discard (top ∷ rest) = Some rest
stack_after limit columns Swap (top ∷ second ∷ rest) = option_and_then (pushed limit second) (pushed limit top rest)
stack_after limit columns Rot (top ∷ second ∷ third ∷ rest) =
    option_and_then (pushed limit second) (option_and_then (pushed limit third) (pushed limit top rest))
stack_after limit columns (Unary operation) (top ∷ rest) = pushed limit (changed operation top) rest
stack_after limit columns (Binary operation) (top ∷ second ∷ rest) =
    option_and_then (λ value. pushed limit value rest) (combined operation second top)
stack_after limit columns (PlusConstant value) (top ∷ rest) = pushed limit ((top + value) % 2 ^ 64) rest
stack_after limit columns (Skip distance) stack = Some stack
stack_after limit columns (Branch distance) (top ∷ rest) = Some rest
stack_after limit columns operation stack = None

-- a place that is not beyond the end
abbrev pub within : ℕ → ℤ → Option ℕ
within end (pos place) = if nat_le place end then Some place else None
within end (negsuc place) = None

-- the position after an operation, by the place after it and the stack's top
abbrev pub position_after : ℕ → Operation → ℕ → Option ℕ → Option ℕ
position_after end (Skip distance) next top = within end (pos next +ℤ distance)
position_after end (Branch distance) next (Some top) = if top == 0 then Some next else within end (pos next +ℤ distance)
position_after end (Branch distance) next None = None
position_after end operation next top = Some next

-- the state after an operation, by the place after it
abbrev pub state_after : Evaluation → Operation → ℕ → List ℕ → Option State
state_after e operation next stack =
    option_and_then (λ position. option_map (λ new. record { position = position; stack = new })
    (stack_after e.limit e.columns operation stack))
    (position_after (length e.code) operation next (slice_get stack 0))

abbrev pub state_by : Evaluation → List ℕ → Parsed Operation → Option State
state_by e stack (Ok read) = state_after e read.0 read.1 stack
state_by e stack (Err error) = None

-- the state after the operation at a state's position
unfoldable pub step : Evaluation → State → Option State
step e s = state_by e s.stack (operation_at e.code s.position)

-- the states lead from one to another, an operation each
abbrev pub Leads : Evaluation → State → List State → State → Type 0
Leads e s [] last = s ≡ last
Leads e s (next ∷ states) last = (step e s ≡ Some next) × Leads e next states last

-- v is the value of the expression from an initial stack: at most 4,096 operations lead to the end, with v on top
pub record IsValue (e : Evaluation) (initial : List ℕ) (v : ℕ) : Type 0 where
  pub room : fits e.limit (length initial) ≡ true
  pub states : List State
  pub few : length states ≤ 4096
  pub last : State
  pub leads : Leads e (record { position = 0; stack = initial }) states last
  pub ends : last.position ≡ length e.code
  pub top : slice_get last.stack 0 ≡ Some v

-- the same, operation by operation, in at most n of them
unfoldable pub value_from : Evaluation → ℕ → State → Option ℕ
value_from e zero s = if s.position == length e.code then slice_get s.stack 0 else None
value_from e (suc n) s =
    if s.position == length e.code then slice_get s.stack 0 else option_and_then (value_from e n) (step e s)

-- what an expression gives that starts with this stack, which must fit: at most 4,096 operations
unfoldable pub value_of : Evaluation → List ℕ → Option ℕ
value_of e initial =
    if fits e.limit (length initial) then value_from e 4096 (record { position = 0; stack = initial }) else None

-- an expression's bytes, where they lie in the section
abbrev pub code_of : List ℕ → Expression → Option (List ℕ)
code_of bytes expression =
    if nat_le expression.start expression.end
    then (if nat_le expression.end (length bytes) then Some (slice_range bytes expression.start expression.end)
    else None)
    else None

-- the value of an expression of a section, from a first value or an empty stack
abbrev pub value_in : List ℕ → (Register → Option ℕ) → Option ℕ → Expression → Option ℕ → Option ℕ
value_in bytes columns limit expression first =
    option_and_then (λ code. value_of (record { code = code; columns = columns; limit = limit })
    (option_to_list first)) (code_of bytes expression)

-- the same, by a list of states
pub record IsValueIn (bytes : List ℕ) (columns : Register → Option ℕ) (limit : Option ℕ) (expression : Expression)
    (first : Option ℕ) (v : ℕ) : Type 0 where
  pub ordered : expression.start ≤ expression.end
  pub inside : expression.end ≤ length bytes
  pub is_value : IsValue
      (record { code = slice_range bytes expression.start expression.end; columns = columns; limit = limit })
      (option_to_list first) v
