-- What an instruction does to the stack pointer and the frame pointer.
use Rattle.std.specs.Prelude.{◌≡◌, ℕ, ℤ, pos, ◌+ℤ◌, Bool, true, false, Option, Some, None}
use Rattle.framehop_code.specs.declared.effect.Base.{Base}
use Rattle.framehop_code.specs.declared.effect.Base.TheVariants.{Sp, Fp}
use Rattle.framehop_code.specs.declared.effect.Change.{Change}
use Rattle.framehop_code.specs.declared.effect.Change.TheVariants.{Sum, Unknown}
use Rattle.framehop_code.specs.declared.effect.Flow.{Flow}
use Rattle.framehop_code.specs.declared.effect.Flow.TheVariants.{Next, Padding, Call, Branch, Jump, Return, Leaves}
use Rattle.framehop_code.specs.declared.effect.Effect.{Effect}

-- a register keeps its value
abbrev pub kept : Base → Change
kept base = Sum base (pos 0)

-- an instruction of so many bytes that changes neither register
abbrev pub plain : ℕ → Effect
plain size = record { size = size; sp = kept Sp; fp = kept Fp; flow = Next }

-- the effect with another change of a register, where the register is one of the two
abbrev pub with_register : Effect → Option Base → Change → Effect
with_register effect (Some Sp) change = record effect { sp = change }
with_register effect (Some Fp) change = record effect { fp = change }
with_register effect None change = effect

-- it does not lead to the next instruction
abbrev pub is_away : Flow → Bool
is_away (Jump distance) = true
is_away Return = true
is_away Leaves = true
is_away Next = false
is_away Padding = false
is_away Call = false
is_away (Branch distance) = false

-- ---- what an effect means. Registers are whole numbers here: no sum wraps.

-- the stack pointer and the frame pointer
pub record State : Type 0 where
  pub sp : ℤ
  pub fp : ℤ

-- the value of one of them
abbrev pub value_of : State → Base → ℤ
value_of s Sp = s.sp
value_of s Fp = s.fp

-- a register has a value after a change, by the registers before it
abbrev pub Becomes : Change → State → ℤ → Type 0
Becomes (Sum base offset) s value = value ≡ value_of s base +ℤ offset
Becomes Unknown s value = Unit {0}

-- an instruction with that effect leads from registers to registers
pub record Does (e : Effect) (s t : State) : Type 0 where
  pub sp : Becomes e.sp s t.sp
  pub fp : Becomes e.fp s t.fp
