-- The instruction at an offset of code: prefixes, opcode, ModRM byte, SIB byte, displacement and immediate operand (Intel 64
-- and IA-32 Architectures Software Developer's Manual, volume 2, chapter 2, "Instruction format").
use Rattle.std.specs.Prelude.{ℕ, ◌+◌, ◌-◌, ◌*◌, ◌/◌, ◌%◌, ◌^◌, Bool, true, false, not, ◌==◌, ◌&&◌, ◌||◌, nat_le, nat_lt, if◌then◌else◌, List, [], ◌∷◌, length, codes, take, drop, position, slice_get, Option, Some, None, Result, Ok, Err, ℤ, pos}
use Rattle.std.specs.List.{list_any}
use Rattle.std.specs.Int.{cast_signed, w8, w16, w32}
use Rattle.framehop_bytes.specs.Bytes.{◌>>=◌}
use Rattle.framehop_cfi.specs.Numbers.{Parsed, u8_at, u16_at, u32_at}
use Rattle.framehop_cfi.specs.X86_64.{RBP, RSP}
use Rattle.framehop_cfi.specs.declared.read_error.ReadError.{ReadError}
use Rattle.framehop_cfi.specs.declared.read_error.ReadError.TheVariants.{Eof, UnknownInstruction}
use Rattle.framehop_code.specs.declared.effect.Base.{Base}
use Rattle.framehop_code.specs.declared.effect.Base.TheVariants.{Sp, Fp}
use Rattle.framehop_code.specs.declared.effect.Effect.{Effect}
use Rattle.framehop_code.specs.declared.x86_64.opcode.Immediate.{Immediate}
use Rattle.framehop_code.specs.declared.x86_64.opcode.Immediate.TheVariants as immediate
use Rattle.framehop_code.specs.declared.x86_64.opcode.Operands.{Operands}
use Rattle.framehop_code.specs.declared.x86_64.opcode.Operands.TheVariants.{Bare, ModRm, ModRmThen, Then}
use Rattle.framehop_code.specs.declared.x86_64.opcode.Opcodes.{Opcodes}
use Rattle.framehop_code.specs.declared.x86_64.instruction.Rex.{Rex}
use Rattle.framehop_code.specs.declared.x86_64.instruction.Prefixes.{Prefixes}
use Rattle.framehop_code.specs.declared.x86_64.instruction.Map.{Map}
use Rattle.framehop_code.specs.declared.x86_64.instruction.Map.TheVariants as map
use Rattle.framehop_code.specs.declared.x86_64.instruction.Vector.{Vector}
use Rattle.framehop_code.specs.declared.x86_64.instruction.Opcode.{Opcode}
use Rattle.framehop_code.specs.declared.x86_64.instruction.Address.{Address}
use Rattle.framehop_code.specs.declared.x86_64.instruction.Parts.{Parts}
use Rattle.framehop_code.specs.X86_64.Opcodes.{one_byte, two_byte, three_byte_38, three_byte_3a, vector}
use Rattle.framehop_code.specs.X86_64.Operation.{effect_of}

-- the register that a number names in DWARF
abbrev pub base_numbered : ℕ → Option Base
base_numbered number = if number == RSP then Some Sp else (if number == RBP then Some Fp else None)

-- its name in assembly
abbrev pub base_name : Base → List ℕ
base_name Sp = codes "rsp"
base_name Fp = codes "rbp"

-- ---- prefixes

-- a bit of a byte
abbrev pub bit : ℕ → ℕ → Bool
bit byte place = byte / 2 ^ place % 2 == 1

-- 26, 2E, 36, 3E, 64 and 65 override a segment, 66 and 67 change the size of operands and of addresses, F0 is LOCK, F2
-- REPNE and F3 REP
abbrev pub is_legacy_prefix : ℕ → Bool
is_legacy_prefix byte =
    list_any (λ prefix. byte == prefix)
    (0x26 ∷ 0x2E ∷ 0x36 ∷ 0x3E ∷ 0x64 ∷ 0x65 ∷ 0x66 ∷ 0x67 ∷ 0xF0 ∷ 0xF2 ∷ 0xF3 ∷ [])

-- REX is 40 to 4F; any other byte has none of its bits
abbrev pub rex_of : ℕ → Rex
rex_of byte =
    let present = byte / 16 == 4 in
    record {
      present = present;
      w = present && bit byte 3;
      r = present && bit byte 2;
      x = present && bit byte 1;
      b = present && bit byte 0;
    }

-- the legacy prefixes before the byte that is none, and REX if it is that byte
abbrev pub prefixes_of : List ℕ → ℕ → Prefixes
prefixes_of legacy first =
    record {
      operand_size = list_any (λ byte. byte == 0x66) legacy;
      address_size = list_any (λ byte. byte == 0x67) legacy;
      repeated = list_any (λ byte. byte == 0xF2) legacy || list_any (λ byte. byte == 0xF3) legacy;
      repeated_unequal = list_any (λ byte. byte == 0xF2) legacy;
      segment = list_any (λ byte. byte == 0x64) legacy || list_any (λ byte. byte == 0x65) legacy;
      rex = rex_of first;
    }

abbrev pub prefixes_before : List ℕ → Option ℕ → Parsed Prefixes
prefixes_before bytes None = Err Eof
prefixes_before bytes (Some count) =
    u8_at bytes count >>= λ first.
    let prefixes = prefixes_of (take count bytes) first.0 in
    Ok (prefixes, if prefixes.rex.present then first.1 else count)

unfoldable pub prefixes_at : List ℕ → Parsed Prefixes
prefixes_at bytes = prefixes_before bytes (position (λ byte. not (is_legacy_prefix byte)) bytes)

-- ---- opcodes

-- an opcode with its row
abbrev pub opcode_of_row : Prefixes → Map → ℕ → ℕ → Option Opcodes → Result Opcode ReadError
opcode_of_row prefixes map byte vvvv None = Err UnknownInstruction
opcode_of_row prefixes map byte vvvv (Some row) =
    Ok (record { prefixes = prefixes; map = map; byte = byte; vvvv = vvvv; operands = row.2; operation = row.3 })

-- a byte, and the opcode that it is with its row
abbrev pub opcode_in : Prefixes → Map → ℕ → (ℕ → Option Opcodes) → ℕ × ℕ → Parsed Opcode
opcode_in prefixes map vvvv rows byte =
    opcode_of_row prefixes map byte.0 vvvv (rows byte.0) >>= λ opcode. Ok (opcode, byte.1)

-- the prefixes that VEX, EVEX or XOP has: its first byte has R, X and B inverted, its second one W and pp, which is 1 for
-- 66, 2 for F3 and 3 for F2
abbrev pub vector_prefixes : Prefixes → ℕ → ℕ → Prefixes
vector_prefixes prefixes high low =
    record {
      operand_size = low % 4 == 1;
      address_size = prefixes.address_size;
      repeated = nat_le 2 (low % 4);
      repeated_unequal = low % 4 == 3;
      segment = prefixes.segment;
      rex = record {
        present = true;
        w = bit low 7;
        r = not (bit high 7);
        x = not (bit high 6);
        b = not (bit high 5);
      };
    }

-- the map and the vector's size of VEX or XOP: L is 1 for 32 bytes
abbrev pub vex_vector : ℕ → ℕ → Vector
vex_vector map low = record { map = map; size = if bit low 2 then 32 else 16; is_evex = false; is_extended = false }

-- the vector's size by L'L of EVEX
abbrev pub evex_size : ℕ → ℕ
evex_size length = if length == 0 then 16 else (if length == 1 then 32 else 64)

-- those of EVEX, by its three bytes. Bit 3 of the first, and bit 2 of the second inverted, name registers from 16 on
abbrev pub evex_vector : ℕ → ℕ → ℕ → Vector
evex_vector high low mask =
    record {
      map = high % 8;
      size = evex_size (mask / 32 % 4);
      is_evex = true;
      is_extended = bit high 3 || not (bit low 2);
    }

-- the inverted number of vvvv
abbrev pub vvvv_of : ℕ → ℕ
vvvv_of low = 15 - low / 8 % 16

-- the opcode after a prefix VEX, EVEX or XOP
unfoldable pub vector_opcode_at : Prefixes → Vector → ℕ → List ℕ → ℕ → Parsed Opcode
vector_opcode_at prefixes fields vvvv bytes at =
    u8_at bytes at >>= opcode_in prefixes (map.Vector fields) vvvv (vector fields.map)

-- after C4, VEX of three bytes, or 8F, XOP
unfoldable pub long_vector_at : Prefixes → List ℕ → ℕ → Parsed Opcode
long_vector_at prefixes bytes at = do
  high ← u8_at bytes at
  low ← u8_at bytes high.1
  vector_opcode_at (vector_prefixes prefixes high.0 low.0) (vex_vector (high.0 % 32) low.0) (vvvv_of low.0) bytes low.1

-- after C5, VEX of two bytes: X, B and W are 0, and the map is 1
unfoldable pub short_vector_at : Prefixes → List ℕ → ℕ → Parsed Opcode
short_vector_at prefixes bytes at = do
  low ← u8_at bytes at
  vector_opcode_at (vector_prefixes prefixes (low.0 / 128 * 128 + 0x7F) (low.0 % 128)) (vex_vector 1 low.0) (vvvv_of low.0) bytes low.1

-- after 62, EVEX
unfoldable pub evex_at : Prefixes → List ℕ → ℕ → Parsed Opcode
evex_at prefixes bytes at = do
  high ← u8_at bytes at
  low ← u8_at bytes high.1
  mask ← u8_at bytes low.1
  vector_opcode_at (vector_prefixes prefixes high.0 low.0) (evex_vector high.0 low.0 mask.0) (vvvv_of low.0) bytes mask.1

-- 8F begins XOP where a map from 8 on follows; else it is POP
abbrev pub is_map_of_xop : Option ℕ → Bool
is_map_of_xop None = false
is_map_of_xop (Some byte) = nat_le 8 (byte % 32)

abbrev pub is_xop : List ℕ → ℕ → Bool
is_xop bytes at = is_map_of_xop (slice_get bytes at)

-- after 0F: 38 and 3A lead to maps of their own
abbrev pub escaped_by : Prefixes → List ℕ → ℕ × ℕ → Parsed Opcode
escaped_by prefixes bytes byte =
    if byte.0 == 0x38 then (u8_at bytes byte.1 >>= opcode_in prefixes map.ThreeByte38 0 three_byte_38)
    else (if byte.0 == 0x3A then (u8_at bytes byte.1 >>= opcode_in prefixes map.ThreeByte3a 0 three_byte_3a)
    else opcode_in prefixes map.TwoByte 0 two_byte byte)

unfoldable pub escaped_at : Prefixes → List ℕ → ℕ → Parsed Opcode
escaped_at prefixes bytes at = do
  byte ← u8_at bytes at
  escaped_by prefixes bytes byte

-- the opcode whose first byte is there: 0F, or a prefix VEX, EVEX or XOP, or an opcode of one byte
abbrev pub opcode_by : Prefixes → List ℕ → ℕ × ℕ → Parsed Opcode
opcode_by prefixes bytes byte =
    if byte.0 == 0x0F then escaped_at prefixes bytes byte.1
    else (if byte.0 == 0xC5 then short_vector_at prefixes bytes byte.1
    else (if byte.0 == 0x62 then evex_at prefixes bytes byte.1
    else (if (byte.0 == 0xC4) || ((byte.0 == 0x8F) && is_xop bytes byte.1) then long_vector_at prefixes bytes byte.1
    else opcode_in prefixes map.OneByte 0 one_byte byte)))

unfoldable pub opcode_at : Prefixes → List ℕ → ℕ → Parsed Opcode
opcode_at prefixes bytes at = do
  byte ← u8_at bytes at
  opcode_by prefixes bytes byte

-- ---- operands

-- so many bytes, whose value does not matter
abbrev pub skipped : List ℕ → ℕ → ℕ → Parsed ℤ
skipped bytes at size = if nat_le (at + size) (length bytes) then Ok (pos 0, at + size) else Err Eof

-- a number that was read, taken with its sign
abbrev pub signed_as : (ℕ → ℤ) → Parsed ℕ → Parsed ℤ
signed_as f read = read >>= λ number. Ok (f number.0, number.1)

-- a signed number of one, two or four bytes; of others the value does not matter
unfoldable pub signed_at : List ℕ → ℕ → ℕ → Parsed ℤ
signed_at bytes at size =
    if size == 1 then signed_as (cast_signed w8) (u8_at bytes at)
    else (if size == 2 then signed_as (cast_signed w16) (u16_at bytes at)
    else (if size == 4 then signed_as (cast_signed w32) (u32_at bytes at)
    else skipped bytes at size))

-- a SIB byte follows a ModRM byte whose mod is not 3 and whose r/m is 4
abbrev pub has_sib : ℕ → Bool
has_sib modrm = not (modrm / 64 == 3) && (modrm % 8 == 4)

-- that byte, if there is one
unfoldable pub sib_at : ℕ → List ℕ → ℕ → Parsed ℕ
sib_at modrm bytes at = if has_sib modrm then u8_at bytes at else Ok (0, at)

-- a displacement by mod: 1 has one byte, 2 has four; 0 has four where r/m is 5, or where it is 4 and the SIB byte's base 5
abbrev pub displacement_size : ℕ → ℕ → ℕ
displacement_size modrm sib =
    if modrm / 64 == 0
    then (if (modrm % 8 == 5) || ((modrm % 8 == 4) && (sib % 8 == 5)) then 4 else 0)
    else (if modrm / 64 == 1 then 1 else (if modrm / 64 == 2 then 4 else 0))

-- a ModRM byte with what it asks for
unfoldable pub memory_at : List ℕ → ℕ → Parsed Address
memory_at bytes at = do
  modrm ← u8_at bytes at
  sib ← sib_at modrm.0 bytes modrm.1
  displacement ← signed_at bytes sib.1 (displacement_size modrm.0 sib.0)
  Ok (record { modrm = modrm.0; sib = sib.0; displacement = displacement.0 }, displacement.1)

-- what follows the opcode: nothing, or a ModRM byte and what it asks for
abbrev pub address_at : Operands → List ℕ → ℕ → Parsed Address
address_at Bare bytes at = Ok (record { modrm = 0; sib = 0; displacement = pos 0 }, at)
address_at ModRm bytes at = memory_at bytes at
address_at (Then immediate) bytes at = Ok (record { modrm = 0; sib = 0; displacement = pos 0 }, at)
address_at (ModRmThen immediate) bytes at = memory_at bytes at

-- four bytes, or two where the operand has 16 bits; REX.W says 64
abbrev pub long_size : Prefixes → ℕ
long_size prefixes = if prefixes.operand_size && not prefixes.rex.w then 2 else 4

-- of group 3 only TEST, which is 0 and 1, has an immediate operand
abbrev pub is_test : ℕ → Bool
is_test modrm = nat_lt (modrm / 8 % 8) 2

-- how many bytes an immediate operand has, by the prefixes and, in group 3, by reg
abbrev pub immediate_size : Immediate → Prefixes → ℕ → ℕ
immediate_size immediate.Byte prefixes modrm = 1
immediate_size immediate.Word prefixes modrm = 2
immediate_size immediate.WordAndByte prefixes modrm = 3
immediate_size immediate.Long prefixes modrm = long_size prefixes
immediate_size immediate.Near prefixes modrm = 4
immediate_size immediate.Full prefixes modrm = if prefixes.rex.w then 8 else long_size prefixes
immediate_size immediate.Address prefixes modrm = if prefixes.address_size then 4 else 8
immediate_size immediate.ByteOfTest prefixes modrm = if is_test modrm then 1 else 0
immediate_size immediate.LongOfTest prefixes modrm = if is_test modrm then long_size prefixes else 0

-- the immediate operand at an offset
abbrev pub immediate_of : Operands → Prefixes → ℕ → List ℕ → ℕ → Parsed ℤ
immediate_of Bare prefixes modrm bytes at = Ok (pos 0, at)
immediate_of ModRm prefixes modrm bytes at = Ok (pos 0, at)
immediate_of (Then immediate) prefixes modrm bytes at = signed_at bytes at (immediate_size immediate prefixes modrm)
immediate_of (ModRmThen immediate) prefixes modrm bytes at = signed_at bytes at (immediate_size immediate prefixes modrm)

abbrev pub immediate_at : Opcode → ℕ → List ℕ → ℕ → Parsed ℤ
immediate_at opcode modrm bytes at = immediate_of opcode.operands opcode.prefixes modrm bytes at

-- ---- instructions

-- the parts of the instruction at the front of bytes
unfoldable pub parts_at : List ℕ → Result Parts ReadError
parts_at bytes = do
  prefixes ← prefixes_at bytes
  opcode ← opcode_at prefixes.0 bytes prefixes.1
  address ← address_at opcode.0.operands bytes opcode.1
  operand ← immediate_at opcode.0 address.0.modrm bytes address.1
  Ok (record { opcode = opcode.0; address = address.0; immediate = operand.0; size = operand.1 })

-- an instruction has at most 15 bytes
abbrev pub effect_in : Result Parts ReadError → Option Effect
effect_in (Ok parts) = Some (effect_of parts)
effect_in (Err error) = None

unfoldable pub instruction_at : List ℕ → ℕ → Option Effect
instruction_at code at =
    if nat_le at (length code) then effect_in (parts_at (take 15 (drop at code))) else None
