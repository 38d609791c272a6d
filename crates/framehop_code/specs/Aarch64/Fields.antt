-- Registers, numbers and addresses by the fields of an aarch64 instruction (Arm Architecture Reference Manual for A-profile,
-- "A64 base instruction descriptions").
use Rattle.std.specs.Prelude.{ℕ, ℤ, ◌%◌, ◌^◌, Bool, true, false, ◌==◌, ◌&&◌, if◌then◌else◌, [], ◌∷◌, Option, Some, None}
use Rattle.std.specs.Int.{cast_unsigned, w64}
use Rattle.framehop_core.specs.Bits.{bits_at}
use Rattle.framehop_bytes.specs.ByCode.{by_code}
use Rattle.framehop_cfi.specs.declared.rule.Register.{Register}
use Rattle.framehop_code.specs.declared.action.Address.{Address}
use Rattle.framehop_code.specs.declared.action.Operand.TheVariants as operand
use Rattle.framehop_code.specs.declared.action.Source.{Source}
use Rattle.framehop_code.specs.declared.action.Source.TheVariants as source
use Rattle.framehop_code.specs.declared.action.Width.{Width}
use Rattle.framehop_code.specs.declared.action.Width.TheVariants.{Four, Eight}

-- ---- registers. Their DWARF numbers are those of instructions, and 31 is sp

-- the register whose number is in five bits
abbrev pub register_at : ℕ → ℕ → Register
register_at word low = record { 0 = bits_at word low 5 }

-- Rd, which is Rt too; Rn, the base register; Rt2; and Rm, which is Rs too
abbrev pub rd : ℕ → Register
rd word = register_at word 0

abbrev pub rn : ℕ → Register
rn word = register_at word 5

abbrev pub rt2 : ℕ → Register
rt2 word = register_at word 10

abbrev pub rm : ℕ → Register
rm word = register_at word 16

-- the value of a register, of which 31 is the zero register
abbrev pub value_of : Register → Source
value_of register = if register.0 == 31 then source.Immediate 0 else source.Operand (operand.Register register)

-- it as part of a sum
abbrev pub named : Register → Option Register
named register = if register.0 == 31 then None else Some register

-- the set of one register, of which 31 is sp
abbrev pub set_of : Register → ℕ
set_of register = 2 ^ (register.0 % 32)

-- and of which 31 is the zero register
abbrev pub general_set : Register → ℕ
general_set register = if register.0 == 31 then 0 else set_of register

-- ---- numbers

abbrev pub is_set : ℕ → ℕ → Bool
is_set word place = bits_at word place 1 == 1

-- sf
abbrev pub width_of : ℕ → Width
width_of word = if is_set word 31 then Eight else Four

-- how many bytes are accessed, by size
abbrev pub size_of : ℕ → ℕ
size_of word = by_code (bits_at word 30 2) ((0, 1) ∷ (1, 2) ∷ (2, 4) ∷ []) 8

-- those of a pair, by its low bit
abbrev pub pair_size : ℕ → ℕ
pair_size word = if is_set word 30 then 16 else 8

-- a vector register of 16 bytes is accessed, by V and opc
abbrev pub is_quad : ℕ → Bool
is_quad word = is_set word 26 && is_set word 23

abbrev pub access_size : ℕ → ℕ
access_size word = if is_quad word then 16 else size_of word

-- ---- addresses

-- a number of any sign as the 64 bits that are added
abbrev pub word_of : ℤ → ℕ
word_of number = cast_unsigned w64 number

-- so many bytes above a register
abbrev pub above : Register → ℤ → Address
above register bytes = record { base = Some register; index = None; displacement = word_of bytes; from_next = false }

-- so many bytes after the next instruction
abbrev pub ahead : ℤ → Address
ahead bytes = record { base = None; index = None; displacement = word_of bytes; from_next = true }
