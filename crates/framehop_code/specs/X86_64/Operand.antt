-- The operands of an instruction: general registers and places in memory (Intel 64 and IA-32 Architectures Software
-- Developer's Manual, volume 2, section 2.1.5, "Addressing-Mode Encoding of ModR/M and SIB Bytes", and tables 2-2 and
-- 3-1).
use Rattle.std.specs.Prelude.{ℕ, ◌+◌, ◌*◌, ◌/◌, ◌%◌, ◌^◌, Bool, true, false, not, ◌==◌, ◌&&◌, ◌||◌, if◌then◌else◌, [], ◌∷◌, Option, Some, None, ℤ}
use Rattle.std.specs.Int.{cast_unsigned, w64}
use Rattle.framehop_bytes.specs.ByCode.{by_code}
use Rattle.framehop_cfi.specs.declared.rule.Register.{Register}
use Rattle.framehop_code.specs.declared.action.Address.{Address}
use Rattle.framehop_code.specs.declared.action.Index.{Index}
use Rattle.framehop_code.specs.declared.action.Operand.{Operand}
use Rattle.framehop_code.specs.declared.action.Operand.TheVariants as operand
use Rattle.framehop_code.specs.declared.action.Place.{Place}
use Rattle.framehop_code.specs.declared.action.Place.TheVariants.{At, Elsewhere}
use Rattle.framehop_code.specs.declared.action.Width.{Width}
use Rattle.framehop_code.specs.declared.action.Width.TheVariants.{Four, Eight}
use Rattle.framehop_code.specs.declared.x86_64.instruction.Map.{Map}
use Rattle.framehop_code.specs.declared.x86_64.instruction.Map.TheVariants as map
use Rattle.framehop_code.specs.declared.x86_64.instruction.Opcode.{Opcode}
use Rattle.framehop_code.specs.declared.x86_64.instruction.Parts.{Parts}
use Rattle.framehop_code.specs.declared.x86_64.instruction.Prefixes.{Prefixes}

-- ---- registers

-- the DWARF number of a register by its number in instructions: rcx is 1, rdx 2, rsp 4, rbp 5, rsi 6 and rdi 7 (System
-- V ABI for AMD64, figure 3.36)
abbrev pub column_of : ℕ → Register
column_of number =
    record { 0 = by_code number ((1, 2) ∷ (2, 1) ∷ (4, 7) ∷ (5, 6) ∷ (6, 4) ∷ (7, 5) ∷ []) number }

-- the register of a number's low three bits and its fourth one
abbrev pub numbered : ℕ → Bool → Register
numbered number high = column_of (if high then number % 8 + 8 else number % 8)

-- r/m is a register where mod is 3
abbrev pub is_register : Parts → Bool
is_register parts = parts.address.modrm / 64 == 3

-- reg of a ModRM byte
abbrev pub reg_of : Parts → ℕ
reg_of parts = parts.address.modrm / 8 % 8

-- the registers of reg with REX.R, of r/m with REX.B, and of the opcode's low bits with REX.B
abbrev pub reg_register : Parts → Register
reg_register parts = numbered (parts.address.modrm / 8) parts.opcode.prefixes.rex.r

abbrev pub rm_register : Parts → Register
rm_register parts = numbered parts.address.modrm parts.opcode.prefixes.rex.b

abbrev pub opcode_register : Opcode → Register
opcode_register opcode = numbered opcode.byte opcode.prefixes.rex.b

-- ---- sizes

-- REX.W says 64 bits, else 66 says 16, else an operand has 32
abbrev pub is_word : Prefixes → Bool
is_word prefixes = prefixes.operand_size && not prefixes.rex.w

-- in bytes
abbrev pub operand_size : Prefixes → ℕ
operand_size prefixes = if prefixes.rex.w then 8 else (if prefixes.operand_size then 2 else 4)

abbrev pub width_of : Prefixes → Option Width
width_of prefixes = if prefixes.rex.w then Some Eight else (if prefixes.operand_size then None else Some Four)

-- a number with its sign extended to eight bytes
abbrev pub extended : ℤ → ℕ
extended number = cast_unsigned w64 number

-- ---- addresses

-- number 5 is no register with mod 0
abbrev pub base_of : ℕ → Bool → Bool → Option Register
base_of byte is_sum high = if (byte % 8 == 5) && not is_sum then None else Some (numbered byte high)

-- what an index register is multiplied by
abbrev pub scale_of : ℕ → ℕ
scale_of bits = by_code bits ((0, 1) ∷ (1, 2) ∷ (2, 4) ∷ []) 8

-- index 4 without REX.X is none
abbrev pub index_of : ℕ → Bool → Option Index
index_of sib high =
    if (sib / 8 % 8 == 4) && not high then None
    else Some (record { register = numbered (sib / 8) high; scale = scale_of (sib / 64) })

abbrev pub is_none : Option Register → Bool
is_none None = true
is_none (Some register) = false

-- a SIB byte follows where r/m is 4, and has the base and the index. Else r/m is the base, or with number 5 and mod 0
-- the address counts from the next instruction
abbrev pub address_of : Parts → Address
address_of parts =
    let is_sum = not (parts.address.modrm / 64 == 0) in
    if parts.address.modrm % 8 == 4
    then record {
      base = base_of parts.address.sib is_sum parts.opcode.prefixes.rex.b;
      index = index_of parts.address.sib parts.opcode.prefixes.rex.x;
      displacement = extended parts.address.displacement;
      from_next = false;
    }
    else (let base = base_of parts.address.modrm is_sum parts.opcode.prefixes.rex.b in
    record { base = base; index = None; displacement = extended parts.address.displacement; from_next = is_none base })

-- by EVEX a displacement of one byte, which mod 1 has, counts units (volume 2, section 2.7.5, "Compressed
-- Displacement")
abbrev pub is_compressed : Map → Parts → Bool
is_compressed (map.Vector fields) parts = fields.is_evex && (parts.address.modrm / 64 == 1)
is_compressed _ parts = false

abbrev pub scaled_by : Address → Parts → ℕ → Address
scaled_by address parts unit =
    if is_compressed parts.opcode.map parts then record address { displacement = address.displacement * unit % 2 ^ 64 }
    else address

-- the place of a memory operand: not by FS or GS, and not in 32 bits
abbrev pub place_of : Parts → ℕ → Place
place_of parts unit =
    if parts.opcode.prefixes.segment || parts.opcode.prefixes.address_size then Elsewhere
    else At (scaled_by (address_of parts) parts unit)

-- the operand that r/m names
abbrev pub rm_operand : Parts → Operand
rm_operand parts =
    if is_register parts then operand.Register (rm_register parts) else operand.Memory (place_of parts 1)

-- the target of a direct jump or call
abbrev pub target_of : Parts → Address
target_of parts = record { base = None; index = None; displacement = extended parts.immediate; from_next = true }
