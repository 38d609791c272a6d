-- What instructions write besides what their actions tell: registers that no operand names, and memory (Intel 64 and
-- IA-32 Architectures Software Developer's Manual, volume 2, "Instruction Set Reference").
use Rattle.std.specs.Prelude.{ℕ, ◌-◌, ◌*◌, ◌/◌, ◌%◌, ◌^◌, Bool, true, false, not, ◌==◌, ◌&&◌, ◌||◌, nat_le, nat_lt, if◌then◌else◌, bit_or, find, List, [], ◌∷◌, Option, Some, None}
use Rattle.framehop_bytes.specs.ByCode.{by_code}
use Rattle.framehop_cfi.specs.declared.rule.Register.{Register}
use Rattle.framehop_code.specs.declared.action.Action.{Action}
use Rattle.framehop_code.specs.declared.action.Action.TheVariants as action
use Rattle.framehop_code.specs.declared.action.Stored.{Stored}
use Rattle.framehop_code.specs.declared.action.Place.TheVariants as place
use Rattle.framehop_code.specs.declared.x86_64.written.Amount.{Amount}
use Rattle.framehop_code.specs.declared.x86_64.written.Amount.TheVariants.{Around, Bytes, DoubleLong, Elements, Elsewhere, General, GeneralUnlessRepeated, HalfVector, Long, LongUnlessRepeated, Mask, Narrowed, Nothing, Undescribed, Vector, VectorOrEight, VectorOrScalar}
use Rattle.framehop_code.specs.declared.x86_64.written.Writes.{Writes}
use Rattle.framehop_code.specs.declared.x86_64.opcode.Operand.{Operand}
use Rattle.framehop_code.specs.declared.x86_64.opcode.Operand.TheVariants as operand
use Rattle.framehop_code.specs.declared.x86_64.opcode.Operation.{Operation}
use Rattle.framehop_code.specs.declared.x86_64.opcode.Operation.TheVariants as operation
use Rattle.framehop_code.specs.declared.x86_64.instruction.Map.{Map}
use Rattle.framehop_code.specs.declared.x86_64.instruction.Map.TheVariants as map
use Rattle.framehop_code.specs.declared.x86_64.instruction.Opcode.{Opcode}
use Rattle.framehop_code.specs.declared.x86_64.instruction.Parts.{Parts}
use Rattle.framehop_code.specs.X86_64.Operand.{is_register, numbered, operand_size, place_of, reg_of}

-- ---- tables

-- the opcodes from a first to a last one, of a group only the members whose bits are set; the registers that they
-- write, and how much memory
abbrev pub writes : ℕ → ℕ → ℕ → ℕ → Amount → Writes
writes first last members registers amount =
    record { 0 = first; 1 = last; 2 = members; 3 = registers; 4 = amount }

abbrev pub has_member : ℕ → ℕ → Bool
has_member members reg = members / 2 ^ (reg % 8) % 2 == 1

-- the first row that has an opcode, with reg of the ModRM byte
unfoldable pub row_of : List Writes → ℕ → ℕ → Option Writes
row_of rows opcode reg = find (λ row. (nat_le row.0 opcode && nat_le opcode row.1) && has_member row.2 reg) rows

-- opcodes of one byte
abbrev pub one_byte_writes : List Writes
one_byte_writes =
    -- ADD, OR, ADC, SBB, AND, SUB and XOR of AL
    writes 0x04 0x04 0xFF 0x0001 Nothing
    ∷ writes 0x0C 0x0C 0xFF 0x0001 Nothing
    ∷ writes 0x14 0x14 0xFF 0x0001 Nothing
    ∷ writes 0x1C 0x1C 0xFF 0x0001 Nothing
    ∷ writes 0x24 0x24 0xFF 0x0001 Nothing
    ∷ writes 0x2C 0x2C 0xFF 0x0001 Nothing
    ∷ writes 0x34 0x34 0xFF 0x0001 Nothing
    -- INS, OUTS; all string instructions with the rcx of REP
    ∷ writes 0x6C 0x6D 0xFF 0x0024 Elsewhere
    ∷ writes 0x6E 0x6F 0xFF 0x0014 Nothing
    -- MOV of a segment register
    ∷ writes 0x8C 0x8C 0xFF 0x0000 (Bytes 2)
    -- only the first member is POP
    ∷ writes 0x8F 0x8F 0xFE 0x0000 Undescribed
    -- XCHG with rax
    ∷ writes 0x91 0x97 0xFF 0x0001 Nothing
    -- CBW and CWD with their kin, LAHF
    ∷ writes 0x98 0x98 0xFF 0x0001 Nothing
    ∷ writes 0x99 0x99 0xFF 0x0002 Nothing
    ∷ writes 0x9F 0x9F 0xFF 0x0001 Nothing
    -- MOV of rax and an address
    ∷ writes 0xA0 0xA1 0xFF 0x0001 Nothing
    ∷ writes 0xA2 0xA3 0xFF 0x0000 Elsewhere
    -- MOVS, CMPS, STOS, LODS, SCAS
    ∷ writes 0xA4 0xA5 0xFF 0x0034 Elsewhere
    ∷ writes 0xA6 0xA7 0xFF 0x0034 Nothing
    ∷ writes 0xAA 0xAB 0xFF 0x0024 Elsewhere
    ∷ writes 0xAC 0xAD 0xFF 0x0015 Nothing
    ∷ writes 0xAE 0xAF 0xFF 0x0024 Nothing
    -- XABORT, XBEGIN
    ∷ writes 0xC6 0xC7 0xFE 0x0000 Undescribed
    -- INT
    ∷ writes 0xCD 0xCD 0xFF 0x0000 Undescribed
    -- XLAT
    ∷ writes 0xD7 0xD7 0xFF 0x0001 Nothing
    -- FST and FSTP of single precision, FNSTENV, FNSTCW
    ∷ writes 0xD9 0xD9 0x0C 0x0000 (Bytes 4)
    ∷ writes 0xD9 0xD9 0x40 0x0000 (Bytes 28)
    ∷ writes 0xD9 0xD9 0x80 0x0000 (Bytes 2)
    -- FISTTP, FIST and FISTP of 32 bits, FSTP of extended precision
    ∷ writes 0xDB 0xDB 0x0E 0x0000 (Bytes 4)
    ∷ writes 0xDB 0xDB 0x80 0x0000 (Bytes 10)
    -- FISTTP of 64 bits, FST and FSTP of double precision, FNSAVE, FNSTSW
    ∷ writes 0xDD 0xDD 0x0E 0x0000 (Bytes 8)
    ∷ writes 0xDD 0xDD 0x40 0x0000 (Bytes 108)
    ∷ writes 0xDD 0xDD 0x80 0x0000 (Bytes 2)
    -- FISTTP, FIST and FISTP of 16 bits, FNSTSW of AX, FBSTP, FISTP of 64 bits
    ∷ writes 0xDF 0xDF 0x0E 0x0000 (Bytes 2)
    ∷ writes 0xDF 0xDF 0x10 0x0001 Nothing
    ∷ writes 0xDF 0xDF 0x40 0x0000 (Bytes 10)
    ∷ writes 0xDF 0xDF 0x80 0x0000 (Bytes 8)
    -- IN
    ∷ writes 0xE4 0xE5 0xFF 0x0001 Nothing
    ∷ writes 0xEC 0xED 0xFF 0x0001 Nothing
    -- INT1
    ∷ writes 0xF1 0xF1 0xFF 0x0000 Undescribed
    -- MUL, IMUL, DIV, IDIV
    ∷ writes 0xF6 0xF6 0xF0 0x0001 Nothing
    ∷ writes 0xF7 0xF7 0xF0 0x0003 Nothing
    -- only the first two members are INC and DEC
    ∷ writes 0xFE 0xFE 0xFC 0x0000 Undescribed
    ∷ []

-- opcodes after 0F
abbrev pub two_byte_writes : List Writes
two_byte_writes =
    -- SLDT, STR; SGDT, SIDT, SMSW
    writes 0x00 0x00 0x03 0x0000 (Bytes 2)
    ∷ writes 0x01 0x01 0x03 0x0000 (Bytes 10)
    ∷ writes 0x01 0x01 0x10 0x0000 (Bytes 2)
    -- SYSCALL
    ∷ writes 0x05 0x05 0xFF 0x0805 Elsewhere
    -- MOVUPS and MOVSS, MOVLPS, MOVHPS, BNDMOV, MOVAPS, MOVNTPS
    ∷ writes 0x11 0x11 0xFF 0x0000 VectorOrScalar
    ∷ writes 0x13 0x13 0xFF 0x0000 (Bytes 8)
    ∷ writes 0x17 0x17 0xFF 0x0000 (Bytes 8)
    ∷ writes 0x1B 0x1B 0xFF 0x0000 (Bytes 16)
    ∷ writes 0x29 0x29 0xFF 0x0000 Vector
    ∷ writes 0x2B 0x2B 0xFF 0x0000 VectorOrScalar
    -- RDTSC, RDMSR, RDPMC, SYSENTER, GETSEC
    ∷ writes 0x31 0x33 0xFF 0x0003 Nothing
    ∷ writes 0x34 0x34 0xFF 0x0000 Undescribed
    ∷ writes 0x37 0x37 0xFF 0x0000 Undescribed
    -- MOVD and MOVQ, MOVDQA
    ∷ writes 0x7E 0x7E 0xFF 0x0000 LongUnlessRepeated
    ∷ writes 0x7F 0x7F 0xFF 0x0000 VectorOrEight
    -- CPUID
    ∷ writes 0xA2 0xA2 0xFF 0x000F Nothing
    -- the instructions of VIA PadLock
    ∷ writes 0xA6 0xA7 0xFF 0x0037 Elsewhere
    -- BTS, BTR and BTC by a register
    ∷ writes 0xAB 0xAB 0xFF 0x0000 Around
    ∷ writes 0xB3 0xB3 0xFF 0x0000 Around
    ∷ writes 0xBB 0xBB 0xFF 0x0000 Around
    -- FXSAVE, STMXCSR, XSAVE, XSAVEOPT
    ∷ writes 0xAE 0xAE 0x01 0x0000 (Bytes 512)
    ∷ writes 0xAE 0xAE 0x08 0x0000 (Bytes 4)
    ∷ writes 0xAE 0xAE 0x50 0x0000 Around
    -- CMPXCHG
    ∷ writes 0xB0 0xB0 0xFF 0x0001 (Bytes 1)
    ∷ writes 0xB1 0xB1 0xFF 0x0001 General
    -- group 8 has four members
    ∷ writes 0xBA 0xBA 0x0F 0x0000 Undescribed
    -- MOVNTI
    ∷ writes 0xC3 0xC3 0xFF 0x0000 Long
    -- CMPXCHG8B, XSAVEC, XSAVES, VMPTRST
    ∷ writes 0xC7 0xC7 0x02 0x0003 DoubleLong
    ∷ writes 0xC7 0xC7 0x30 0x0000 Around
    ∷ writes 0xC7 0xC7 0x80 0x0000 (Bytes 8)
    -- MOVQ, MOVNTQ, MASKMOVQ
    ∷ writes 0xD6 0xD6 0xFF 0x0000 (Bytes 8)
    ∷ writes 0xE7 0xE7 0xFF 0x0000 VectorOrEight
    ∷ writes 0xF7 0xF7 0xFF 0x0000 Elsewhere
    ∷ []

-- opcodes after 0F 38
abbrev pub three_byte_38_writes : List Writes
three_byte_38_writes =
    -- MOVBE
    writes 0xF1 0xF1 0xFF 0x0000 GeneralUnlessRepeated
    -- MOVDIR64B, ENQCMD, MOVDIRI, AADD and its kin
    ∷ writes 0xF8 0xF8 0xFF 0x0000 Elsewhere
    ∷ writes 0xF9 0xF9 0xFF 0x0000 Long
    ∷ writes 0xFC 0xFC 0xFF 0x0000 Long
    ∷ []

-- opcodes after 0F 3A
abbrev pub three_byte_3a_writes : List Writes
three_byte_3a_writes =
    -- PEXTRB, PEXTRW, PEXTRD, EXTRACTPS
    writes 0x14 0x14 0xFF 0x0000 (Bytes 1)
    ∷ writes 0x15 0x15 0xFF 0x0000 (Bytes 2)
    ∷ writes 0x16 0x16 0xFF 0x0000 Long
    ∷ writes 0x17 0x17 0xFF 0x0000 (Bytes 4)
    -- PCMPESTRI, PCMPISTRI
    ∷ writes 0x61 0x61 0xFF 0x0004 Nothing
    ∷ writes 0x63 0x63 0xFF 0x0004 Nothing
    ∷ []

-- opcodes of map 1 of VEX and EVEX
abbrev pub vector_1_writes : List Writes
vector_1_writes =
    -- VMOVUPS and VMOVSS, VMOVLPS, VMOVHPS, VMOVAPS, VMOVNTPS
    writes 0x11 0x11 0xFF 0x0000 VectorOrScalar
    ∷ writes 0x13 0x13 0xFF 0x0000 (Bytes 8)
    ∷ writes 0x17 0x17 0xFF 0x0000 (Bytes 8)
    ∷ writes 0x29 0x29 0xFF 0x0000 Vector
    ∷ writes 0x2B 0x2B 0xFF 0x0000 Vector
    -- VMOVD and VMOVQ, VMOVDQA
    ∷ writes 0x7E 0x7E 0xFF 0x0000 LongUnlessRepeated
    ∷ writes 0x7F 0x7F 0xFF 0x0000 Vector
    -- KMOV, VSTMXCSR, VMOVQ, VMOVNTDQ, VMASKMOVDQU
    ∷ writes 0x91 0x91 0xFF 0x0000 Mask
    ∷ writes 0xAE 0xAE 0x08 0x0000 (Bytes 4)
    ∷ writes 0xD6 0xD6 0xFF 0x0000 (Bytes 8)
    ∷ writes 0xE7 0xE7 0xFF 0x0000 Vector
    ∷ writes 0xF7 0xF7 0xFF 0x0000 Elsewhere
    ∷ []

-- opcodes of map 2 of VEX and EVEX
abbrev pub vector_2_writes : List Writes
vector_2_writes =
    -- VPMOVWB and its kin
    writes 0x10 0x15 0xFF 0x0000 Narrowed
    ∷ writes 0x20 0x25 0xFF 0x0000 Narrowed
    ∷ writes 0x30 0x35 0xFF 0x0000 Narrowed
    -- VMASKMOVPS, VMASKMOVPD, STTILECFG, TILESTORED, VPCOMPRESSB, VCOMPRESSPS, VPCOMPRESSD, VPMASKMOVD
    ∷ writes 0x2E 0x2F 0xFF 0x0000 Vector
    ∷ writes 0x49 0x49 0xFF 0x0000 Around
    ∷ writes 0x4B 0x4B 0xFF 0x0000 Around
    ∷ writes 0x63 0x63 0xFF 0x0000 (Elements 1)
    ∷ writes 0x8A 0x8B 0xFF 0x0000 (Elements 4)
    ∷ writes 0x8E 0x8E 0xFF 0x0000 Vector
    -- scattered elements, CMPccXADD
    ∷ writes 0xA0 0xA3 0xFF 0x0000 Around
    ∷ writes 0xE0 0xEF 0xFF 0x0000 Long
    ∷ []

-- opcodes of map 3 of VEX and EVEX
abbrev pub vector_3_writes : List Writes
vector_3_writes =
    -- VPEXTRB, VPEXTRW, VPEXTRD, VEXTRACTPS
    writes 0x14 0x14 0xFF 0x0000 (Bytes 1)
    ∷ writes 0x15 0x15 0xFF 0x0000 (Bytes 2)
    ∷ writes 0x16 0x16 0xFF 0x0000 Long
    ∷ writes 0x17 0x17 0xFF 0x0000 (Bytes 4)
    -- VEXTRACTF128, VEXTRACTF32X8, VCVTPS2PH, VEXTRACTI128, VEXTRACTI32X8
    ∷ writes 0x19 0x19 0xFF 0x0000 (Bytes 16)
    ∷ writes 0x1B 0x1B 0xFF 0x0000 (Bytes 32)
    ∷ writes 0x1D 0x1D 0xFF 0x0000 HalfVector
    ∷ writes 0x39 0x39 0xFF 0x0000 (Bytes 16)
    ∷ writes 0x3B 0x3B 0xFF 0x0000 (Bytes 32)
    -- VPCMPESTRI, VPCMPISTRI
    ∷ writes 0x61 0x61 0xFF 0x0004 Nothing
    ∷ writes 0x63 0x63 0xFF 0x0004 Nothing
    ∷ []

-- opcodes of map 5 of EVEX
abbrev pub vector_5_writes : List Writes
vector_5_writes =
    -- VMOVSH, VMOVW
    writes 0x11 0x11 0xFF 0x0000 (Bytes 2)
    ∷ writes 0x7E 0x7E 0xFF 0x0000 (Bytes 2)
    ∷ []

-- opcodes of map 9 of XOP
abbrev pub xop_9_writes : List Writes
xop_9_writes =
    -- LLWPCB, SLWPCB
    writes 0x12 0x12 0xFF 0x0000 Undescribed
    ∷ []

-- the row of an opcode after a prefix VEX, EVEX or XOP, by the prefix's map
unfoldable pub vector_row : ℕ → ℕ → ℕ → Option Writes
vector_row map opcode reg =
    by_code map (
    (1, row_of vector_1_writes opcode reg)
    ∷ (2, row_of vector_2_writes opcode reg)
    ∷ (3, row_of vector_3_writes opcode reg)
    ∷ (5, row_of vector_5_writes opcode reg)
    ∷ (9, row_of xop_9_writes opcode reg)
    ∷ []) None

-- the row of an opcode, by its map
abbrev pub row_by_map : Map → ℕ → ℕ → Option Writes
row_by_map map.OneByte opcode reg = row_of one_byte_writes opcode reg
row_by_map map.TwoByte opcode reg = row_of two_byte_writes opcode reg
row_by_map map.ThreeByte38 opcode reg = row_of three_byte_38_writes opcode reg
row_by_map map.ThreeByte3a opcode reg = row_of three_byte_3a_writes opcode reg
row_by_map (map.Vector fields) opcode reg = vector_row fields.map opcode reg

unfoldable pub writes_of : Parts → Option Writes
writes_of parts = row_by_map parts.opcode.map parts.opcode.byte (reg_of parts)

-- ---- memory

-- r/m is among the operands
abbrev pub names_rm : Operand → Bool
names_rm operand.Rm = true
names_rm operand.RmAndReg = true
names_rm _ = false

-- without a row, memory is written where the register of r/m would be: all of group 1 but CMP, NOT and NEG of group 3,
-- all of group 8 but BT; and by WRSS, which is ADCX and ADOX after a prefix
abbrev pub amount_as : Operation → Parts → Amount
amount_as (operation.Write operand) parts = if names_rm operand then General else Nothing
amount_as (operation.WriteByte operand) parts = if names_rm operand then Bytes 1 else Nothing
amount_as (operation.WriteIfPrefixed operand) parts =
    if not parts.opcode.prefixes.repeated && not parts.opcode.prefixes.operand_size then Around else Nothing
amount_as operation.Group1Byte parts = if reg_of parts == 7 then Nothing else Bytes 1
amount_as operation.Group3 parts = if (reg_of parts == 2) || (reg_of parts == 3) then General else Nothing
amount_as operation.Group3Byte parts = if (reg_of parts == 2) || (reg_of parts == 3) then Bytes 1 else Nothing
amount_as operation.Group8 parts = if reg_of parts == 4 then Nothing else General
amount_as _ parts = Nothing

abbrev pub amount_by_operation : Parts → Amount
amount_by_operation parts = amount_as parts.opcode.operation parts

-- how much memory an instruction writes, by its row or without one
abbrev pub amount_in : Option Writes → Parts → Amount
amount_in (Some row) parts = row.4
amount_in None parts = amount_by_operation parts

abbrev pub amount_of : Parts → Amount
amount_of parts = amount_in (writes_of parts) parts

-- four bytes, or eight with W
abbrev pub amount_long : Parts → ℕ
amount_long parts = if parts.opcode.prefixes.rex.w then 8 else 4

-- the size of a vector: 16 bytes without a prefix VEX or EVEX
abbrev pub size_of_vector : Map → ℕ
size_of_vector (map.Vector fields) = fields.size
size_of_vector _ = 16

abbrev pub vector_size : Parts → ℕ
vector_size parts = size_of_vector parts.opcode.map

-- F2 says a double, F3 a single
abbrev pub scalar_or : Parts → ℕ → ℕ
scalar_or parts vector =
    if parts.opcode.prefixes.repeated_unequal then 8 else (if parts.opcode.prefixes.repeated then 4 else vector)

-- VPMOVWB, VPMOVDB, VPMOVQB, VPMOVDW, VPMOVQW and VPMOVQD, by the opcode's low bits
abbrev pub narrowed : ℕ → ℕ
narrowed opcode = by_code (opcode % 8) ((1, 4) ∷ (2, 8) ∷ (4, 4) ∷ []) 2

-- KMOVW, KMOVQ, KMOVB and KMOVD
abbrev pub mask_size : Bool → Bool → ℕ
mask_size false false = 2
mask_size false true = 8
mask_size true false = 1
mask_size true true = 4

-- how many bytes an amount is
abbrev pub bytes_of : Parts → Amount → ℕ
bytes_of parts Nothing = 0
bytes_of parts Around = 0
bytes_of parts Elsewhere = 0
bytes_of parts Undescribed = 0
bytes_of parts (Bytes bytes) = bytes
bytes_of parts General = operand_size parts.opcode.prefixes
bytes_of parts GeneralUnlessRepeated = if parts.opcode.prefixes.repeated then 0 else operand_size parts.opcode.prefixes
bytes_of parts Long = amount_long parts
bytes_of parts LongUnlessRepeated = if parts.opcode.prefixes.repeated then 0 else amount_long parts
bytes_of parts DoubleLong = 2 * amount_long parts
bytes_of parts Vector = vector_size parts
bytes_of parts (Elements bytes) = vector_size parts
bytes_of parts HalfVector = vector_size parts / 2
bytes_of parts VectorOrScalar = scalar_or parts (vector_size parts)
bytes_of parts VectorOrEight =
    if parts.opcode.prefixes.operand_size || parts.opcode.prefixes.repeated then vector_size parts else 8
bytes_of parts Narrowed = if parts.opcode.prefixes.repeated then vector_size parts / narrowed parts.opcode.byte else 0
bytes_of parts Mask = mask_size parts.opcode.prefixes.operand_size parts.opcode.prefixes.rex.w

-- what a displacement of one byte counts by EVEX: as many bytes as are written, or those of an element (volume 2, table
-- 2-35)
abbrev pub unit_of : Parts → Amount → ℕ
unit_of parts (Elements bytes) = bytes * (amount_long parts / 4)
unit_of parts amount = bytes_of parts amount

-- the place of a memory operand is described where the amount is
abbrev pub elsewhere : Option Stored
elsewhere = Some (record { at = place.Elsewhere; bytes = 0 })

abbrev pub stored_at : Parts → Amount → Option Stored
stored_at parts amount =
    if bytes_of parts amount == 0 then None
    else Some (record { at = place_of parts (unit_of parts amount); bytes = bytes_of parts amount })

abbrev pub stored : Parts → Amount → Option Stored
stored parts Elsewhere = elsewhere
stored parts Around = if is_register parts then None else elsewhere
stored parts amount = if is_register parts then None else stored_at parts amount

-- ---- registers

-- the set of one register
abbrev pub set_of : Register → ℕ
set_of register = 2 ^ (register.0 % 16)

-- of a register by its number. Of those of 8 bits, without REX the numbers 4 to 7 are AH, CH, DH and BH
abbrev pub set_numbered : ℕ → Bool → Bool → ℕ
set_numbered number high is_second =
    if is_second && nat_le 4 (number % 8) then set_of (numbered (number % 8 - 4) false)
    else set_of (numbered number high)

abbrev pub rm_set : Parts → Bool → ℕ
rm_set parts is_second =
    if is_register parts then set_numbered parts.address.modrm parts.opcode.prefixes.rex.b is_second else 0

abbrev pub vvvv_set : Opcode → ℕ
vvvv_set opcode = set_numbered opcode.vvvv (nat_le 8 opcode.vvvv) false

abbrev pub reg_set : Parts → Bool → ℕ
reg_set parts is_second = set_numbered (parts.address.modrm / 8) parts.opcode.prefixes.rex.r is_second

-- the registers of an operand, or those that its 8 bits are in
abbrev pub set_as : Parts → Operand → Bool → ℕ
set_as parts operand.Nothing is_second = 0
set_as parts operand.Rm is_second = rm_set parts is_second
set_as parts operand.Reg is_second = reg_set parts is_second
set_as parts operand.RmAndReg is_second = bit_or (rm_set parts is_second) (reg_set parts is_second)
set_as parts operand.OpcodeRegister is_second = set_numbered parts.opcode.byte parts.opcode.prefixes.rex.b is_second
set_as parts operand.Vvvv is_second = vvvv_set parts.opcode
set_as parts operand.RegAndVvvv is_second = bit_or (vvvv_set parts.opcode) (reg_set parts is_second)

abbrev pub registers_of : Parts → Operand → Bool → ℕ
registers_of parts operand is_byte = set_as parts operand (is_byte && not parts.opcode.prefixes.rex.present)

abbrev pub registers_if : Parts → Operand → Bool → ℕ
registers_if parts operand condition = if condition then registers_of parts operand false else 0

-- members of groups that write the register of r/m: all of group 1 but CMP, NOT and NEG of group 3, SLDT and STR of
-- group 6, SMSW of group 7, all of group 8 but BT, RDFSBASE and RDGSBASE of group 15, and RDSSP
abbrev pub registers_by : Operation → Parts → ℕ
registers_by operation.Group1Byte parts = if reg_of parts == 7 then 0 else registers_of parts operand.Rm true
registers_by operation.Group3Byte parts =
    if (reg_of parts == 2) || (reg_of parts == 3) then registers_of parts operand.Rm true else 0
registers_by operation.Group3 parts = registers_if parts operand.Rm ((reg_of parts == 2) || (reg_of parts == 3))
registers_by operation.Group6 parts = registers_if parts operand.Rm (nat_lt (reg_of parts) 2)
registers_by operation.Group7 parts = registers_if parts operand.Rm (reg_of parts == 4)
registers_by operation.Group8 parts = registers_if parts operand.Rm (not (reg_of parts == 4))
registers_by operation.Group15 parts =
    registers_if parts operand.Rm (parts.opcode.prefixes.repeated && nat_lt (reg_of parts) 2)
registers_by operation.ReadShadowStack parts =
    registers_if parts operand.Rm (parts.opcode.prefixes.repeated && (reg_of parts == 1))
registers_by _ parts = 0

abbrev pub registers_by_group : Parts → ℕ
registers_by_group parts = registers_by parts.opcode.operation parts

-- the registers that operands name; those of 90 with REX.B are r8 and rax
abbrev pub registers_as : Operation → Parts → ℕ
registers_as (operation.Write operand) parts = registers_of parts operand false
registers_as (operation.WriteByte operand) parts = registers_of parts operand true
registers_as (operation.WriteIfRepeated operand) parts = registers_if parts operand parts.opcode.prefixes.repeated
registers_as (operation.WriteIfPrefixed operand) parts =
    registers_if parts operand (parts.opcode.prefixes.repeated || parts.opcode.prefixes.operand_size)
registers_as (operation.WriteUnlessRepeated operand) parts =
    registers_if parts operand (not parts.opcode.prefixes.repeated)
registers_as operation.ExchangeOrNop parts = if parts.opcode.prefixes.rex.b then 0x0101 else 0
registers_as _ parts = registers_by_group parts

abbrev pub operand_registers : Parts → ℕ
operand_registers parts = registers_as parts.opcode.operation parts

-- those that no operand names
abbrev pub registers_in : Option Writes → ℕ
registers_in (Some row) = row.3
registers_in None = 0

abbrev pub implied_registers : Parts → ℕ
implied_registers parts = registers_in (writes_of parts)

-- the action of an instruction that is only described by what it writes
unfoldable pub forgotten : Parts → Action
forgotten parts =
    let registers = bit_or (operand_registers parts) (implied_registers parts) in
    action.Forget (record { 0 = registers }) (stored parts (amount_of parts))
