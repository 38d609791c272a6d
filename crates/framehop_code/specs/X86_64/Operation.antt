-- What an x86_64 instruction does to rsp and rbp, and where it leads, by its parts (Intel 64 and IA-32 Architectures
-- Software Developer's Manual, volume 2, "Instruction Set Reference", and appendix A.4, "Opcode extensions").
use Rattle.std.specs.Prelude.{ℕ, ◌/◌, ◌%◌, Bool, true, false, not, ◌==◌, ◌&&◌, ◌||◌, nat_le, nat_lt, if◌then◌else◌, Option, Some, None, ℤ, pos, ◌-ℤ◌}
use Rattle.framehop_bytes.specs.Minus.{minus}
use Rattle.framehop_code.specs.declared.effect.Base.{Base}
use Rattle.framehop_code.specs.declared.effect.Base.TheVariants.{Sp, Fp}
use Rattle.framehop_code.specs.declared.effect.Change.{Change}
use Rattle.framehop_code.specs.declared.effect.Change.TheVariants.{Sum, Unknown}
use Rattle.framehop_code.specs.declared.effect.Flow.{Flow}
use Rattle.framehop_code.specs.declared.effect.Flow.TheVariants as flow
use Rattle.framehop_code.specs.declared.effect.Effect.{Effect}
use Rattle.framehop_code.specs.declared.x86_64.opcode.Operand.{Operand}
use Rattle.framehop_code.specs.declared.x86_64.opcode.Operand.TheVariants.{Nothing, OpcodeRegister, Reg, RegAndVvvv, Rm, RmAndReg, Vvvv}
use Rattle.framehop_code.specs.declared.x86_64.opcode.Operation.{Operation}
use Rattle.framehop_code.specs.declared.x86_64.opcode.Operation.TheVariants.{Branch, Call, Enter, ExchangeOrNop, Group1, Group1Byte, Group3, Group3Byte, Group5, Group6, Group7, Group8, Group15, Jump, Keep, Leave, LoadAddress, MoveToReg, MoveToRm, Nop, Pop, Push, ReadShadowStack, Return, Stop, Write, WriteByte, WriteIfPrefixed, WriteIfRepeated, WriteUnlessRepeated}
use Rattle.framehop_code.specs.declared.x86_64.instruction.Opcode.{Opcode}
use Rattle.framehop_code.specs.declared.x86_64.instruction.Address.{Address}
use Rattle.framehop_code.specs.declared.x86_64.instruction.Parts.{Parts}
use Rattle.framehop_code.specs.Effect.{plain, with_register, kept}

-- ---- registers

-- 4 is rsp and 5 is rbp, where the number's fourth bit is not set
abbrev pub base_of : ℕ → Bool → Option Base
base_of number true = None
base_of number false = if number % 8 == 4 then Some Sp else (if number % 8 == 5 then Some Fp else None)

-- reg of a ModRM byte
abbrev pub reg_of : Address → ℕ
reg_of address = address.modrm / 8 % 8

-- the register that reg names, with REX.R
abbrev pub reg_register : Parts → Option Base
reg_register parts = base_of (reg_of parts.address) parts.opcode.prefixes.rex.r

-- r/m is a register where mod is 3
abbrev pub is_register : Parts → Bool
is_register parts = parts.address.modrm / 64 == 3

-- the register that r/m names, with REX.B, that of the opcode's low bits, and that of vvvv
abbrev pub rm_register : Parts → Option Base
rm_register parts = if is_register parts then base_of parts.address.modrm parts.opcode.prefixes.rex.b else None

abbrev pub opcode_register : Opcode → Option Base
opcode_register opcode = base_of opcode.byte opcode.prefixes.rex.b

abbrev pub vvvv_register : Opcode → Option Base
vvvv_register opcode = base_of opcode.vvvv (nat_le 8 opcode.vvvv)

-- ---- addresses

-- with a SIB byte its base is the register, and index 4 without REX.X is none
abbrev pub has_sib : Parts → Bool
has_sib parts = parts.address.modrm % 8 == 4

-- the number of the base, and whether there is an index
abbrev pub base_number : Parts → ℕ
base_number parts = if has_sib parts then parts.address.sib % 8 else parts.address.modrm % 8

abbrev pub is_indexed : Parts → Bool
is_indexed parts = has_sib parts && (not (parts.address.sib / 8 % 8 == 4) || parts.opcode.prefixes.rex.x)

-- with mod 0 number 5 is no register: the address counts from rip, or from 0
abbrev pub has_no_base : Parts → Bool
has_no_base parts = (base_number parts == 5) && (parts.address.modrm / 64 == 0)

-- an address by a base and a displacement; by another register it is not known
abbrev pub sum_with : ℤ → Option Base → Change
sum_with offset (Some base) = Sum base offset
sum_with offset None = Unknown

-- the address of a memory operand of 64 bits, where it is one of the two registers plus a displacement
abbrev pub address_of : Parts → Change
address_of parts =
    if ((is_register parts || parts.opcode.prefixes.address_size) || is_indexed parts) || has_no_base parts then Unknown
    else sum_with parts.address.displacement (base_of (base_number parts) parts.opcode.prefixes.rex.b)

-- ---- effects

-- the registers of an operand overwritten by any value
abbrev pub overwriting : Parts → Operand → Effect → Effect
overwriting parts Nothing effect = effect
overwriting parts Rm effect = with_register effect (rm_register parts) Unknown
overwriting parts Reg effect = with_register effect (reg_register parts) Unknown
overwriting parts RmAndReg effect = with_register (with_register effect (rm_register parts) Unknown) (reg_register parts) Unknown
overwriting parts OpcodeRegister effect = with_register effect (opcode_register parts.opcode) Unknown
overwriting parts Vvvv effect = with_register effect (vvvv_register parts.opcode) Unknown
overwriting parts RegAndVvvv effect = with_register (with_register effect (vvvv_register parts.opcode) Unknown) (reg_register parts) Unknown

-- an operand overwritten, always or under a condition
abbrev pub written : Parts → Operand → Effect
written parts operand = overwriting parts operand (plain parts.size)

abbrev pub written_if : Parts → Operand → Bool → Effect
written_if parts operand condition = if condition then written parts operand else plain parts.size

-- of 8 bits: without REX the numbers 4 to 7 are AH, CH, DH and BH
abbrev pub byte_written : Parts → Operand → Effect
byte_written parts operand = written_if parts operand parts.opcode.prefixes.rex.present

-- rsp moved by so many bytes; with a prefix 66 the operand has 16 bits
abbrev pub moving_stack : Parts → ℤ → Effect
moving_stack parts bytes =
    record (plain parts.size) { sp = if parts.opcode.prefixes.operand_size then Unknown else Sum Sp bytes }

-- nothing is written, and the next instruction is another
abbrev pub leading : Parts → Flow → Effect
leading parts to = record (plain parts.size) { flow = to }

-- a number added to the register of r/m
abbrev pub added_to : Effect → Option Base → ℤ → Effect
added_to effect (Some base) bytes = with_register effect (Some base) (Sum base bytes)
added_to effect None bytes = effect

abbrev pub added : Parts → ℤ → Effect
added parts bytes = added_to (plain parts.size) (rm_register parts) bytes

-- group 1: ADD is 0, SUB is 5 and CMP is 7
abbrev pub group1 : Parts → Effect
group1 parts =
    let reg = reg_of parts.address in
    let wide = parts.opcode.prefixes.rex.w in
    if (reg == 0) && wide then added parts parts.immediate
    else (if (reg == 5) && wide then added parts (pos 0 -ℤ parts.immediate)
    else (if reg == 7 then plain parts.size
    else written parts Rm))

-- a move of all 64 bits from one of the two registers to a register; else the destination gets any value
abbrev pub copied : Parts → Option Base → Operand → Option Base → Effect
copied parts (Some base) to destination =
    if parts.opcode.prefixes.rex.w && is_register parts then with_register (plain parts.size) destination (kept base)
    else written parts to
copied parts None to destination = written parts to

-- LEA: the address of a memory operand to a register
abbrev pub loaded_address : Parts → Effect
loaded_address parts =
    if parts.opcode.prefixes.rex.w then with_register (plain parts.size) (reg_register parts) (address_of parts)
    else written parts Reg

-- group 5: CALL is 2 and 3, JMP is 4 and 5, PUSH is 6
abbrev pub group5 : Parts → Effect
group5 parts =
    let reg = reg_of parts.address in
    if (reg == 2) || (reg == 3) then leading parts flow.Call
    else (if (reg == 4) || (reg == 5) then leading parts flow.Leaves
    else (if reg == 6 then moving_stack parts (minus 8)
    else written parts Rm))

-- LEAVE is `mov rsp, rbp` and `pop rbp`; ENTER is not told
abbrev pub framed : Parts → Bool → Effect
framed parts leaves =
    record (plain parts.size) {
      sp = if leaves && not parts.opcode.prefixes.operand_size then Sum Fp (pos 8) else Unknown;
      fp = Unknown;
    }

-- 90 is NOP, or with REX.B XCHG of r8 and rax
abbrev pub exchanged_or_nop : Parts → Effect
exchanged_or_nop parts = if parts.opcode.prefixes.rex.b then plain parts.size else leading parts flow.Padding

-- a jump, with a condition or without
abbrev pub jumping : Parts → Bool → Effect
jumping parts true = leading parts (flow.Branch parts.immediate)
jumping parts false = leading parts (flow.Jump parts.immediate)

-- groups of which some members write the register of r/m: all of group 1 but CMP, NOT and NEG of group 3, SLDT and STR
-- of group 6, SMSW of group 7, all of group 8 but BT, RDFSBASE and RDGSBASE of group 15, and RDSSP
abbrev pub grouped_as : Operation → Parts → Effect
grouped_as Group1Byte parts = if reg_of parts.address == 7 then plain parts.size else byte_written parts Rm
grouped_as Group3 parts = written_if parts Rm ((reg_of parts.address == 2) || (reg_of parts.address == 3))
grouped_as Group3Byte parts =
    if (reg_of parts.address == 2) || (reg_of parts.address == 3) then byte_written parts Rm else plain parts.size
grouped_as Group6 parts = written_if parts Rm (nat_lt (reg_of parts.address) 2)
grouped_as Group7 parts = written_if parts Rm (reg_of parts.address == 4)
grouped_as Group8 parts = written_if parts Rm (not (reg_of parts.address == 4))
grouped_as Group15 parts = written_if parts Rm (parts.opcode.prefixes.repeated && nat_lt (reg_of parts.address) 2)
grouped_as ReadShadowStack parts = written_if parts Rm (parts.opcode.prefixes.repeated && (reg_of parts.address == 1))
grouped_as _ parts = plain parts.size

-- the same by the operation of the opcode
abbrev pub grouped : Parts → Effect
grouped parts = grouped_as parts.opcode.operation parts

-- the effect of each operation
abbrev pub effect_as : Operation → Parts → Effect
effect_as Keep parts = plain parts.size
effect_as (Write operand) parts = written parts operand
effect_as (WriteByte operand) parts = byte_written parts operand
effect_as (WriteIfRepeated operand) parts = written_if parts operand parts.opcode.prefixes.repeated
effect_as (WriteIfPrefixed operand) parts = written_if parts operand (parts.opcode.prefixes.repeated || parts.opcode.prefixes.operand_size)
effect_as (WriteUnlessRepeated operand) parts = written_if parts operand (not parts.opcode.prefixes.repeated)
effect_as Push parts = moving_stack parts (minus 8)
effect_as (Pop operand) parts = overwriting parts operand (moving_stack parts (pos 8))
effect_as Branch parts = jumping parts true
effect_as Jump parts = jumping parts false
effect_as Call parts = leading parts flow.Call
effect_as Return parts = leading parts flow.Return
effect_as Stop parts = leading parts flow.Leaves
effect_as Nop parts = leading parts flow.Padding
effect_as ExchangeOrNop parts = exchanged_or_nop parts
effect_as MoveToRm parts = copied parts (reg_register parts) Rm (rm_register parts)
effect_as MoveToReg parts = copied parts (rm_register parts) Reg (reg_register parts)
effect_as LoadAddress parts = loaded_address parts
effect_as Enter parts = framed parts false
effect_as Leave parts = framed parts true
effect_as Group1 parts = group1 parts
effect_as Group5 parts = group5 parts
effect_as _ parts = grouped parts

unfoldable pub effect_of : Parts → Effect
effect_of parts = effect_as parts.opcode.operation parts
