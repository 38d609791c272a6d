-- The opcode maps of x86_64 as tables: what follows an opcode, and what the instruction does to registers (Intel 64 and
-- IA-32 Architectures Software Developer's Manual, volume 2, appendix A, "Opcode map"; for XOP the AMD64 Architecture
-- Programmer's Manual, volume 6).
use Rattle.std.specs.Prelude.{ℕ, ◌%◌, ◌&&◌, nat_le, nat_lt, if◌then◌else◌, find, List, [], ◌∷◌, Option, None}
use Rattle.framehop_bytes.specs.ByCode.{by_code}
use Rattle.framehop_code.specs.declared.x86_64.opcode.Immediate.TheVariants.{Address, Byte, ByteOfTest, Full, Long, LongOfTest, Near, Word, WordAndByte}
use Rattle.framehop_code.specs.declared.x86_64.opcode.Operand.TheVariants.{Nothing, OpcodeRegister, Reg, RegAndVvvv, Rm, RmAndReg, Vvvv}
use Rattle.framehop_code.specs.declared.x86_64.opcode.Operands.{Operands}
use Rattle.framehop_code.specs.declared.x86_64.opcode.Operands.TheVariants.{Bare, ModRm, ModRmThen, Then}
use Rattle.framehop_code.specs.declared.x86_64.opcode.Operation.{Operation}
use Rattle.framehop_code.specs.declared.x86_64.opcode.Operation.TheVariants.{Branch, Call, Enter, ExchangeOrNop, Group1, Group1Byte, Group3, Group3Byte, Group5, Group6, Group7, Group8, Group15, Jump, Keep, Leave, LoadAddress, MoveToReg, MoveToRm, Nop, Pop, Push, ReadShadowStack, Return, Stop, Write, WriteByte, WriteIfPrefixed, WriteIfRepeated, WriteUnlessRepeated}
use Rattle.framehop_code.specs.declared.x86_64.opcode.Opcodes.{Opcodes}

-- the opcodes from a first to a last one
abbrev pub opcodes : ℕ → ℕ → Operands → Operation → Opcodes
opcodes first last operands operation = record { 0 = first; 1 = last; 2 = operands; 3 = operation }

-- the first row that has an opcode
unfoldable pub row_of : List Opcodes → ℕ → Option Opcodes
row_of rows opcode = find (λ row. nat_le row.0 opcode && nat_le opcode row.1) rows

-- each six opcodes below 38 with one operation, by their low three bits: ADD, OR, ADC, SBB, AND, SUB and XOR
abbrev pub arithmetic_rows : List Opcodes
arithmetic_rows =
    opcodes 0x00 0x00 ModRm (WriteByte Rm)
    ∷ opcodes 0x01 0x01 ModRm (Write Rm)
    ∷ opcodes 0x02 0x02 ModRm (WriteByte Reg)
    ∷ opcodes 0x03 0x03 ModRm (Write Reg)
    ∷ opcodes 0x04 0x04 (Then Byte) Keep
    ∷ opcodes 0x05 0x05 (Then Long) Keep
    ∷ []

-- opcodes of one byte, from 38 on
abbrev pub one_byte_rows : List Opcodes
one_byte_rows =
    -- CMP
    opcodes 0x38 0x3B ModRm Keep
    ∷ opcodes 0x3C 0x3C (Then Byte) Keep
    ∷ opcodes 0x3D 0x3D (Then Long) Keep
    -- PUSH r64, POP r64
    ∷ opcodes 0x50 0x57 Bare Push
    ∷ opcodes 0x58 0x5F Bare (Pop OpcodeRegister)
    -- MOVSXD
    ∷ opcodes 0x63 0x63 ModRm (Write Reg)
    -- PUSH imm, IMUL with an immediate
    ∷ opcodes 0x68 0x68 (Then Long) Push
    ∷ opcodes 0x69 0x69 (ModRmThen Long) (Write Reg)
    ∷ opcodes 0x6A 0x6A (Then Byte) Push
    ∷ opcodes 0x6B 0x6B (ModRmThen Byte) (Write Reg)
    -- INS, OUTS
    ∷ opcodes 0x6C 0x6F Bare Keep
    -- Jcc rel8
    ∷ opcodes 0x70 0x7F (Then Byte) Branch
    -- group 1
    ∷ opcodes 0x80 0x80 (ModRmThen Byte) Group1Byte
    ∷ opcodes 0x81 0x81 (ModRmThen Long) Group1
    ∷ opcodes 0x83 0x83 (ModRmThen Byte) Group1
    -- TEST, XCHG
    ∷ opcodes 0x84 0x85 ModRm Keep
    ∷ opcodes 0x86 0x86 ModRm (WriteByte RmAndReg)
    ∷ opcodes 0x87 0x87 ModRm (Write RmAndReg)
    -- MOV, LEA
    ∷ opcodes 0x88 0x88 ModRm (WriteByte Rm)
    ∷ opcodes 0x89 0x89 ModRm MoveToRm
    ∷ opcodes 0x8A 0x8A ModRm (WriteByte Reg)
    ∷ opcodes 0x8B 0x8B ModRm MoveToReg
    ∷ opcodes 0x8C 0x8C ModRm (Write Rm)
    ∷ opcodes 0x8D 0x8D ModRm LoadAddress
    ∷ opcodes 0x8E 0x8E ModRm Keep
    -- POP r/m64
    ∷ opcodes 0x8F 0x8F ModRm (Pop Rm)
    -- NOP, XCHG with rax
    ∷ opcodes 0x90 0x90 Bare ExchangeOrNop
    ∷ opcodes 0x91 0x97 Bare (Write OpcodeRegister)
    -- CBW, CWD and their kin, FWAIT
    ∷ opcodes 0x98 0x99 Bare Keep
    ∷ opcodes 0x9B 0x9B Bare Keep
    -- PUSHF, POPF, SAHF, LAHF
    ∷ opcodes 0x9C 0x9C Bare Push
    ∷ opcodes 0x9D 0x9D Bare (Pop Nothing)
    ∷ opcodes 0x9E 0x9F Bare Keep
    -- MOV of rax and an address, MOVS, CMPS, TEST, STOS, LODS, SCAS
    ∷ opcodes 0xA0 0xA3 (Then Address) Keep
    ∷ opcodes 0xA4 0xA7 Bare Keep
    ∷ opcodes 0xA8 0xA8 (Then Byte) Keep
    ∷ opcodes 0xA9 0xA9 (Then Long) Keep
    ∷ opcodes 0xAA 0xAF Bare Keep
    -- MOV of an immediate
    ∷ opcodes 0xB0 0xB7 (Then Byte) (WriteByte OpcodeRegister)
    ∷ opcodes 0xB8 0xBF (Then Full) (Write OpcodeRegister)
    -- shifts by an immediate: group 2
    ∷ opcodes 0xC0 0xC0 (ModRmThen Byte) (WriteByte Rm)
    ∷ opcodes 0xC1 0xC1 (ModRmThen Byte) (Write Rm)
    -- RET
    ∷ opcodes 0xC2 0xC2 (Then Word) Return
    ∷ opcodes 0xC3 0xC3 Bare Return
    -- MOV of an immediate: group 11
    ∷ opcodes 0xC6 0xC6 (ModRmThen Byte) (WriteByte Rm)
    ∷ opcodes 0xC7 0xC7 (ModRmThen Long) (Write Rm)
    ∷ opcodes 0xC8 0xC8 (Then WordAndByte) Enter
    ∷ opcodes 0xC9 0xC9 Bare Leave
    -- far RET, INT3, INT, IRET
    ∷ opcodes 0xCA 0xCA (Then Word) Stop
    ∷ opcodes 0xCB 0xCC Bare Stop
    ∷ opcodes 0xCD 0xCD (Then Byte) Keep
    ∷ opcodes 0xCF 0xCF Bare Stop
    -- shifts by 1 and by cl: group 2
    ∷ opcodes 0xD0 0xD0 ModRm (WriteByte Rm)
    ∷ opcodes 0xD1 0xD1 ModRm (Write Rm)
    ∷ opcodes 0xD2 0xD2 ModRm (WriteByte Rm)
    ∷ opcodes 0xD3 0xD3 ModRm (Write Rm)
    -- XLAT, x87
    ∷ opcodes 0xD7 0xD7 Bare Keep
    ∷ opcodes 0xD8 0xDF ModRm Keep
    -- LOOP, JrCXZ, IN, OUT
    ∷ opcodes 0xE0 0xE3 (Then Byte) Branch
    ∷ opcodes 0xE4 0xE7 (Then Byte) Keep
    ∷ opcodes 0xE8 0xE8 (Then Near) Call
    ∷ opcodes 0xE9 0xE9 (Then Near) Jump
    ∷ opcodes 0xEB 0xEB (Then Byte) Jump
    ∷ opcodes 0xEC 0xEF Bare Keep
    -- INT1, HLT, CMC
    ∷ opcodes 0xF1 0xF1 Bare Keep
    ∷ opcodes 0xF4 0xF4 Bare Stop
    ∷ opcodes 0xF5 0xF5 Bare Keep
    ∷ opcodes 0xF6 0xF6 (ModRmThen ByteOfTest) Group3Byte
    ∷ opcodes 0xF7 0xF7 (ModRmThen LongOfTest) Group3
    -- CLC, STC, CLI, STI, CLD, STD
    ∷ opcodes 0xF8 0xFD Bare Keep
    -- INC and DEC of 8 bits: group 4
    ∷ opcodes 0xFE 0xFE ModRm (WriteByte Rm)
    ∷ opcodes 0xFF 0xFF ModRm Group5
    ∷ []

-- opcodes after 0F
abbrev pub two_byte_rows : List Opcodes
two_byte_rows =
    opcodes 0x00 0x00 ModRm Group6
    ∷ opcodes 0x01 0x01 ModRm Group7
    -- LAR, LSL
    ∷ opcodes 0x02 0x03 ModRm (Write Reg)
    -- SYSCALL, CLTS, SYSRET, INVD, WBINVD, UD2
    ∷ opcodes 0x05 0x06 Bare Keep
    ∷ opcodes 0x07 0x07 Bare Stop
    ∷ opcodes 0x08 0x09 Bare Keep
    ∷ opcodes 0x0B 0x0B Bare Stop
    -- PREFETCHW, FEMMS, 3DNow!
    ∷ opcodes 0x0D 0x0D ModRm Keep
    ∷ opcodes 0x0E 0x0E Bare Keep
    ∷ opcodes 0x0F 0x0F (ModRmThen Byte) Keep
    -- moves of vectors, hints
    ∷ opcodes 0x10 0x1D ModRm Keep
    ∷ opcodes 0x1E 0x1E ModRm ReadShadowStack
    ∷ opcodes 0x1F 0x1F ModRm Nop
    -- MOV of control and debug registers
    ∷ opcodes 0x20 0x21 ModRm (Write Rm)
    ∷ opcodes 0x22 0x23 ModRm Keep
    ∷ opcodes 0x28 0x2B ModRm Keep
    -- CVTTSS2SI, CVTSS2SI and their kin
    ∷ opcodes 0x2C 0x2D ModRm (WriteIfRepeated Reg)
    ∷ opcodes 0x2E 0x2F ModRm Keep
    -- WRMSR, RDTSC, RDMSR, RDPMC, SYSENTER, SYSEXIT, GETSEC
    ∷ opcodes 0x30 0x34 Bare Keep
    ∷ opcodes 0x35 0x35 Bare Stop
    ∷ opcodes 0x37 0x37 Bare Keep
    -- CMOVcc, MOVMSKPS
    ∷ opcodes 0x40 0x50 ModRm (Write Reg)
    ∷ opcodes 0x51 0x6F ModRm Keep
    -- PSHUFW and shifts of vectors
    ∷ opcodes 0x70 0x73 (ModRmThen Byte) Keep
    ∷ opcodes 0x74 0x76 ModRm Keep
    -- EMMS, VMWRITE, HADDPD, HSUBPD
    ∷ opcodes 0x77 0x77 Bare Keep
    ∷ opcodes 0x79 0x79 ModRm Keep
    ∷ opcodes 0x7C 0x7D ModRm Keep
    -- MOVD and MOVQ from a vector register; after F3 to one
    ∷ opcodes 0x7E 0x7E ModRm (WriteUnlessRepeated Rm)
    ∷ opcodes 0x7F 0x7F ModRm Keep
    -- Jcc rel32, SETcc
    ∷ opcodes 0x80 0x8F (Then Near) Branch
    ∷ opcodes 0x90 0x9F ModRm (WriteByte Rm)
    -- PUSH FS, POP FS, CPUID, BT
    ∷ opcodes 0xA0 0xA0 Bare Push
    ∷ opcodes 0xA1 0xA1 Bare (Pop Nothing)
    ∷ opcodes 0xA2 0xA2 Bare Keep
    ∷ opcodes 0xA3 0xA3 ModRm Keep
    -- SHLD, the instructions of VIA PadLock
    ∷ opcodes 0xA4 0xA4 (ModRmThen Byte) (Write Rm)
    ∷ opcodes 0xA5 0xA5 ModRm (Write Rm)
    ∷ opcodes 0xA6 0xA7 ModRm Keep
    -- PUSH GS, POP GS, RSM, BTS, SHRD
    ∷ opcodes 0xA8 0xA8 Bare Push
    ∷ opcodes 0xA9 0xA9 Bare (Pop Nothing)
    ∷ opcodes 0xAA 0xAA Bare Stop
    ∷ opcodes 0xAB 0xAB ModRm (Write Rm)
    ∷ opcodes 0xAC 0xAC (ModRmThen Byte) (Write Rm)
    ∷ opcodes 0xAD 0xAD ModRm (Write Rm)
    ∷ opcodes 0xAE 0xAE ModRm Group15
    -- IMUL, CMPXCHG, LSS, BTR, LFS, LGS, MOVZX, POPCNT, UD1
    ∷ opcodes 0xAF 0xAF ModRm (Write Reg)
    ∷ opcodes 0xB0 0xB0 ModRm (WriteByte Rm)
    ∷ opcodes 0xB1 0xB1 ModRm (Write Rm)
    ∷ opcodes 0xB2 0xB2 ModRm (Write Reg)
    ∷ opcodes 0xB3 0xB3 ModRm (Write Rm)
    ∷ opcodes 0xB4 0xB8 ModRm (Write Reg)
    ∷ opcodes 0xB9 0xB9 ModRm Stop
    -- group 8, BTC, BSF, BSR, MOVSX
    ∷ opcodes 0xBA 0xBA (ModRmThen Byte) Group8
    ∷ opcodes 0xBB 0xBB ModRm (Write Rm)
    ∷ opcodes 0xBC 0xBF ModRm (Write Reg)
    -- XADD, CMPPS, MOVNTI, PINSRW, PEXTRW, SHUFPS
    ∷ opcodes 0xC0 0xC0 ModRm (WriteByte RmAndReg)
    ∷ opcodes 0xC1 0xC1 ModRm (Write RmAndReg)
    ∷ opcodes 0xC2 0xC2 (ModRmThen Byte) Keep
    ∷ opcodes 0xC3 0xC3 ModRm Keep
    ∷ opcodes 0xC4 0xC4 (ModRmThen Byte) Keep
    ∷ opcodes 0xC5 0xC5 (ModRmThen Byte) (Write Reg)
    ∷ opcodes 0xC6 0xC6 (ModRmThen Byte) Keep
    -- CMPXCHG8B, RDRAND, RDSEED, RDPID: group 9
    ∷ opcodes 0xC7 0xC7 ModRm (Write Rm)
    -- BSWAP
    ∷ opcodes 0xC8 0xCF Bare (Write OpcodeRegister)
    -- operations on vectors, PMOVMSKB, UD0
    ∷ opcodes 0xD0 0xD6 ModRm Keep
    ∷ opcodes 0xD7 0xD7 ModRm (Write Reg)
    ∷ opcodes 0xD8 0xFE ModRm Keep
    ∷ opcodes 0xFF 0xFF ModRm Stop
    ∷ []

-- opcodes after 0F 38
abbrev pub three_byte_38_rows : List Opcodes
three_byte_38_rows =
    -- MOVBE and CRC32; MOVBE to memory
    opcodes 0xF0 0xF0 ModRm (Write Reg)
    ∷ opcodes 0xF1 0xF1 ModRm (WriteIfRepeated Reg)
    -- WRSS; ADCX after 66, ADOX after F3
    ∷ opcodes 0xF6 0xF6 ModRm (WriteIfPrefixed Reg)
    -- ENCODEKEY
    ∷ opcodes 0xFA 0xFB ModRm (Write Reg)
    ∷ opcodes 0x00 0xFF ModRm Keep
    ∷ []

-- opcodes after 0F 3A
abbrev pub three_byte_3a_rows : List Opcodes
three_byte_3a_rows =
    -- PEXTRB, PEXTRW, PEXTRD, EXTRACTPS
    opcodes 0x14 0x17 (ModRmThen Byte) (Write Rm)
    ∷ opcodes 0x00 0xFF (ModRmThen Byte) Keep
    ∷ []

-- opcodes of map 1 of VEX and EVEX, which is that of 0F
abbrev pub vector_1_rows : List Opcodes
vector_1_rows =
    -- VCVTTSS2SI, VCVTSS2SI and their kin
    opcodes 0x2C 0x2D ModRm (WriteIfRepeated Reg)
    -- VMOVMSKPS
    ∷ opcodes 0x50 0x50 ModRm (Write Reg)
    ∷ opcodes 0x70 0x73 (ModRmThen Byte) Keep
    -- VZEROUPPER, VZEROALL
    ∷ opcodes 0x77 0x77 Bare Keep
    -- VCVTTSS2USI, VCVTSS2USI and their kin
    ∷ opcodes 0x78 0x79 ModRm (WriteIfRepeated Reg)
    -- VMOVD and VMOVQ from a vector register; after F3 to one
    ∷ opcodes 0x7E 0x7E ModRm (WriteUnlessRepeated Rm)
    -- KMOV to a general register
    ∷ opcodes 0x93 0x93 ModRm (Write Reg)
    ∷ opcodes 0xC2 0xC2 (ModRmThen Byte) Keep
    ∷ opcodes 0xC4 0xC4 (ModRmThen Byte) Keep
    -- VPEXTRW
    ∷ opcodes 0xC5 0xC5 (ModRmThen Byte) (Write Reg)
    ∷ opcodes 0xC6 0xC6 (ModRmThen Byte) Keep
    -- VPMOVMSKB
    ∷ opcodes 0xD7 0xD7 ModRm (Write Reg)
    ∷ opcodes 0x00 0xFF ModRm Keep
    ∷ []

-- opcodes of map 2 of VEX and EVEX, which is that of 0F 38
abbrev pub vector_2_rows : List Opcodes
vector_2_rows =
    -- CMPccXADD
    opcodes 0xE0 0xEF ModRm (Write Reg)
    -- ANDN; BLSR, BLSMSK, BLSI; BZHI, PDEP, PEXT; MULX; BEXTR, SARX, SHLX, SHRX
    ∷ opcodes 0xF2 0xF2 ModRm (Write Reg)
    ∷ opcodes 0xF3 0xF3 ModRm (Write Vvvv)
    ∷ opcodes 0xF5 0xF5 ModRm (Write Reg)
    ∷ opcodes 0xF6 0xF6 ModRm (Write RegAndVvvv)
    ∷ opcodes 0xF7 0xF7 ModRm (Write Reg)
    ∷ opcodes 0x00 0xFF ModRm Keep
    ∷ []

-- opcodes of map 3 of VEX and EVEX, which is that of 0F 3A
abbrev pub vector_3_rows : List Opcodes
vector_3_rows =
    -- VPEXTRB, VPEXTRW, VPEXTRD, VEXTRACTPS
    opcodes 0x14 0x17 (ModRmThen Byte) (Write Rm)
    -- RORX
    ∷ opcodes 0xF0 0xF0 (ModRmThen Byte) (Write Reg)
    ∷ opcodes 0x00 0xFF (ModRmThen Byte) Keep
    ∷ []

-- opcodes of map 5 of EVEX: half precision
abbrev pub vector_5_rows : List Opcodes
vector_5_rows =
    -- VCVTTSH2SI, VCVTSH2SI, VCVTTSH2USI, VCVTSH2USI
    opcodes 0x2C 0x2D ModRm (WriteIfRepeated Reg)
    ∷ opcodes 0x78 0x79 ModRm (WriteIfRepeated Reg)
    -- VMOVW from a vector register
    ∷ opcodes 0x7E 0x7E ModRm (WriteUnlessRepeated Rm)
    ∷ opcodes 0x00 0xFF ModRm Keep
    ∷ []

-- opcodes of map 6 of EVEX: half precision
abbrev pub vector_6_rows : List Opcodes
vector_6_rows =
    opcodes 0x00 0xFF ModRm Keep
    ∷ []

-- opcodes of map 8 of XOP
abbrev pub xop_8_rows : List Opcodes
xop_8_rows =
    opcodes 0x00 0xFF (ModRmThen Byte) Keep
    ∷ []

-- opcodes of map 9 of XOP
abbrev pub xop_9_rows : List Opcodes
xop_9_rows =
    -- BLCFILL, BLSFILL, BLCI and their kin
    opcodes 0x01 0x02 ModRm (Write Vvvv)
    ∷ opcodes 0x00 0xFF ModRm Keep
    ∷ []

-- opcodes of map 10 of XOP
abbrev pub xop_10_rows : List Opcodes
xop_10_rows =
    -- BEXTR, LWPINS, LWPVAL
    opcodes 0x10 0x10 (ModRmThen Near) (Write Reg)
    ∷ opcodes 0x12 0x12 (ModRmThen Near) Keep
    ∷ []

-- the row of an opcode of one byte
unfoldable pub one_byte : ℕ → Option Opcodes
one_byte opcode = if nat_lt opcode 0x38 then row_of arithmetic_rows (opcode % 8) else row_of one_byte_rows opcode

-- the row of an opcode after 0F
unfoldable pub two_byte : ℕ → Option Opcodes
two_byte opcode = row_of two_byte_rows opcode

-- the row of an opcode after 0F 38, and after 0F 3A
unfoldable pub three_byte_38 : ℕ → Option Opcodes
three_byte_38 opcode = row_of three_byte_38_rows opcode

unfoldable pub three_byte_3a : ℕ → Option Opcodes
three_byte_3a opcode = row_of three_byte_3a_rows opcode

-- the row of an opcode after a prefix VEX, EVEX or XOP, by the prefix's map
unfoldable pub vector : ℕ → ℕ → Option Opcodes
vector map opcode =
    by_code map (
    (1, row_of vector_1_rows opcode)
    ∷ (2, row_of vector_2_rows opcode)
    ∷ (3, row_of vector_3_rows opcode)
    ∷ (5, row_of vector_5_rows opcode)
    ∷ (6, row_of vector_6_rows opcode)
    ∷ (8, row_of xop_8_rows opcode)
    ∷ (9, row_of xop_9_rows opcode)
    ∷ (10, row_of xop_10_rows opcode)
    ∷ []) None
