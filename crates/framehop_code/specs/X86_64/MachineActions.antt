-- The action of an instruction is that of the machine by which the analysis of prologues and epilogues is judged. They share
-- no word: the machine has rows of bytes of its own, an action comes by the parts of an instruction and the opcode maps.
use Rattle.std.specs.Prelude.{◌≡◌, ℕ, ◌+◌, true, false, List, [], ◌∷◌, slice_get, slice_index, nat_lt, if◌then◌else◌, Option, Some, None, ℤ}
use Rattle.std.specs.Int.{cast_signed, cast_unsigned, w8, w64}
use Rattle.framehop_analysis.specs.X86_64.Machine as machine
use Rattle.framehop_code.specs.declared.action.Action.{Action}
use Rattle.framehop_code.specs.declared.action.Action.TheVariants.{Call, Compute, Jump, Leave, Move, Pop, Push, Return}
use Rattle.framehop_code.specs.declared.action.Address.{Address}
use Rattle.framehop_code.specs.declared.action.Computation.{Computation}
use Rattle.framehop_code.specs.declared.action.Computation.TheVariants.{Add, Subtract}
use Rattle.framehop_code.specs.declared.action.Instruction.{Instruction}
use Rattle.framehop_code.specs.declared.action.Operand.{Operand}
use Rattle.framehop_code.specs.declared.action.Operand.TheVariants as operand
use Rattle.framehop_code.specs.declared.action.Source.TheVariants as source
use Rattle.framehop_code.specs.declared.action.Width.TheVariants.{Eight}
use Rattle.framehop_code.specs.X86_64.Machine.{AreAt, signed_of}

-- the DWARF number of a register of the machine: rax, rcx, rdx, rbx, rsp, rbp, rsi and rdi, then r8 to r15 as they are
-- (System V ABI for AMD64, figure 3.36)
abbrev pub dwarf_number : ℕ → ℕ
dwarf_number register =
    if nat_lt register 8 then slice_index (0 ∷ 2 ∷ 1 ∷ 3 ∷ 7 ∷ 6 ∷ 4 ∷ 5 ∷ []) register else register

-- that register as an operand
abbrev pub register_of : ℕ → Operand
register_of register = operand.Register (record { 0 = dwarf_number register })

-- the instruction that was found ends at an offset and has an action
pub record IsAction (found : Option Instruction) (at next : ℕ) (action : Action) : Type 0 where
  pub size : ℕ
  pub is : found ≡ Some (record { size = size; action = action })
  pub ends : next ≡ at + size

-- ---- forms that the machine lacks, as the manual writes them

-- a number of any sign as the 64 bits that are added
abbrev pub word_of : ℤ → ℕ
word_of number = cast_unsigned w64 number

-- the address so many bytes above rsp, and so many after the next instruction
abbrev pub above_rsp : ℤ → Address
above_rsp bytes =
    record { base = Some (record { 0 = dwarf_number 4 }); index = None; displacement = word_of bytes; from_next = false }

abbrev pub after_next : ℤ → Address
after_next bytes = record { base = None; index = None; displacement = word_of bytes; from_next = true }

abbrev pub Computes : Computation → ℤ → Action
Computes computation number = Compute computation (register_of 4) (source.Immediate (word_of number)) Eight

abbrev pub Loads : ℤ → Action
Loads bytes = Move (register_of 4) (source.Address (above_rsp bytes)) Eight

-- Each push, pop, move and return of the machine that is at an offset has its action, and so have LEAVE, C9; ADD and SUB of
-- rsp and a number of one or four bytes, LEA of rsp from such a number above it; and direct jumps and calls.
pub record IsActionAsMachine (text : List ℕ) (at : ℕ) (found : Option Instruction) : Type 0 where
  pub pushes : (next register : ℕ) → machine.IsPush text at next register
      → IsAction found at next (Push (source.Operand (register_of register)))
  pub pops : (next register : ℕ) → machine.IsPop text at next register
      → IsAction found at next (Pop (register_of register))
  pub moves : (next from to : ℕ) → machine.IsMove text at next from to
      → IsAction found at next (Move (register_of to) (source.Operand (register_of from)) Eight)
  pub returns : slice_get text at ≡ Some 0xC3 → IsAction found at (at + 1) (Return 0)
  pub leave : slice_get text at ≡ Some 0xC9 → IsAction found at (at + 1) Leave
  pub add_byte : (a : ℕ) → AreAt text at (0x48 ∷ 0x83 ∷ 0xC4 ∷ a ∷ [])
      → IsAction found at (at + 4) (Computes Add (cast_signed w8 a))
  pub sub_byte : (a : ℕ) → AreAt text at (0x48 ∷ 0x83 ∷ 0xEC ∷ a ∷ [])
      → IsAction found at (at + 4) (Computes Subtract (cast_signed w8 a))
  pub lea_byte : (a : ℕ) → AreAt text at (0x48 ∷ 0x8D ∷ 0x64 ∷ 0x24 ∷ a ∷ [])
      → IsAction found at (at + 5) (Loads (cast_signed w8 a))
  pub add_long : (a b c d : ℕ) → AreAt text at (0x48 ∷ 0x81 ∷ 0xC4 ∷ a ∷ b ∷ c ∷ d ∷ [])
      → IsAction found at (at + 7) (Computes Add (signed_of a b c d))
  pub sub_long : (a b c d : ℕ) → AreAt text at (0x48 ∷ 0x81 ∷ 0xEC ∷ a ∷ b ∷ c ∷ d ∷ [])
      → IsAction found at (at + 7) (Computes Subtract (signed_of a b c d))
  pub lea_long : (a b c d : ℕ) → AreAt text at (0x48 ∷ 0x8D ∷ 0xA4 ∷ 0x24 ∷ a ∷ b ∷ c ∷ d ∷ [])
      → IsAction found at (at + 8) (Loads (signed_of a b c d))
  pub jump_byte : (a : ℕ) → AreAt text at (0xEB ∷ a ∷ [])
      → IsAction found at (at + 2) (Jump (source.Address (after_next (cast_signed w8 a))))
  pub jump_long : (a b c d : ℕ) → AreAt text at (0xE9 ∷ a ∷ b ∷ c ∷ d ∷ [])
      → IsAction found at (at + 5) (Jump (source.Address (after_next (signed_of a b c d))))
  pub call_long : (a b c d : ℕ) → AreAt text at (0xE8 ∷ a ∷ b ∷ c ∷ d ∷ [])
      → IsAction found at (at + 5) (Call (source.Address (after_next (signed_of a b c d))))
