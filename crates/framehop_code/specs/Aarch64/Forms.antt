-- The encodings of aarch64 instructions, by what they do to general registers and memory and where they lead (Arm
-- Architecture Reference Manual for A-profile, "A64 instruction set encoding").
use Rattle.std.specs.Prelude.{ℕ, ◌==◌, bit_and, find, List, [], ◌∷◌, Option, Some, None}
use Rattle.framehop_code.specs.declared.aarch64.form.Addressing.TheVariants.{Indexed, Offset, PostIndexed, PreIndexed, Unscaled}
use Rattle.framehop_code.specs.declared.aarch64.form.Bytes.TheVariants.{AtBase, AtOffset, Elsewhere, PairAtBase, Zero}
use Rattle.framehop_code.specs.declared.aarch64.form.Form.{Form}
use Rattle.framehop_code.specs.declared.aarch64.form.Form.TheVariants.{Access, AddImmediate, AddShifted, AddsImmediate, Adr, Branch, Call, CallRegister, Forget, Jump, JumpRegister, Literal, MoveInverted, MoveRegister, MoveWide, Pair, Return, ReturnByLink, Structure, Structures, Tag, TestBranch, Undescribed}
use Rattle.framehop_code.specs.declared.aarch64.form.Row.{Row}
use Rattle.framehop_code.specs.declared.aarch64.form.Written.TheVariants.{Nothing, Rd, RdAndRn, RdAndRt2, RdOrSp, RdRnAndRs, Rs, RsPair, X16}

-- the words that have these bits of a mask
abbrev pub row : ℕ → ℕ → Form → Row
row mask bits form = record { 0 = mask; 1 = bits; 2 = form }

-- the encodings; of several that fit the first one counts
abbrev pub rows : List Row
rows =
    -- ---- SME and SVE
    -- SME
    row 0x9E000000 0x80000000 (Forget Rd Elsewhere)
    -- ADDVL, ADDPL, RDVL, ADDSVL, ADDSPL
    ∷ row 0xFF20F000 0x04205000 (Forget RdOrSp Zero)
    -- stores; loads and prefetches; others
    ∷ row 0xFE000000 0xE4000000 (Forget Nothing Elsewhere)
    ∷ row 0x9E000000 0x84000000 (Forget Nothing Zero)
    ∷ row 0x1E000000 0x04000000 (Forget Rd Zero)
    -- ---- data processing (immediate)
    -- ADR, ADRP
    ∷ row 0x9F000000 0x10000000 Adr
    ∷ row 0x9F000000 0x90000000 (Forget Rd Zero)
    -- ADD and SUB; ADDS and SUBS
    ∷ row 0x3F800000 0x11000000 AddImmediate
    ∷ row 0x3F800000 0x31000000 AddsImmediate
    -- ADDG and SUBG; SMAX, UMAX, SMIN and UMIN
    ∷ row 0xBFC00000 0x91800000 (Forget RdOrSp Zero)
    ∷ row 0x7FC00000 0x11C00000 (Forget Rd Zero)
    -- ANDS; AND, ORR and EOR
    ∷ row 0x7F800000 0x72000000 (Forget Rd Zero)
    ∷ row 0x1F800000 0x12000000 (Forget RdOrSp Zero)
    -- of 32 bits none has an upper half; MOVN, MOVZ, MOVK
    ∷ row 0x9FC00000 0x12C00000 Undescribed
    ∷ row 0x7F800000 0x12800000 MoveInverted
    ∷ row 0x7F800000 0x52800000 MoveWide
    ∷ row 0x7F800000 0x72800000 (Forget Rd Zero)
    -- bit fields, EXTR
    ∷ row 0x1F000000 0x13000000 (Forget Rd Zero)
    -- ---- branches and system instructions
    ∷ row 0xFC000000 0x14000000 Jump
    ∷ row 0xFC000000 0x94000000 Call
    ∷ row 0xFF000000 0x54000000 Branch
    ∷ row 0x7E000000 0x34000000 Branch
    ∷ row 0x7E000000 0x36000000 TestBranch
    -- BR; BRAAZ and BRABZ; BRAA and BRAB
    ∷ row 0xFFFFFC1F 0xD61F0000 JumpRegister
    ∷ row 0xFFFFF81F 0xD61F081F JumpRegister
    ∷ row 0xFFFFF800 0xD71F0800 JumpRegister
    -- BLR; BLRAAZ and BLRABZ; BLRAA and BLRAB
    ∷ row 0xFFFFFC1F 0xD63F0000 CallRegister
    ∷ row 0xFFFFF81F 0xD63F081F CallRegister
    ∷ row 0xFFFFF800 0xD73F0800 CallRegister
    -- RET; RETAA and RETAB
    ∷ row 0xFFFFFC1F 0xD65F0000 Return
    ∷ row 0xFFFFFBE0 0xD65F0BE0 ReturnByLink
    -- CHKFEAT; DC ZVA and DC GZVA; MSR SPSel
    ∷ row 0xFFFFFFFF 0xD503251F (Forget X16 Zero)
    ∷ row 0xFFFFFFE0 0xD50B7420 (Forget Nothing Elsewhere)
    ∷ row 0xFFFFFFE0 0xD50B7480 (Forget Nothing Elsewhere)
    ∷ row 0xFFFFF0FF 0xD50040BF Undescribed
    ∷ row 0xFFFFFFE0 0xD5184200 Undescribed
    -- hints, barriers, MSR and SYS; MRS and SYSL
    ∷ row 0xFFE00000 0xD5000000 (Forget Nothing Zero)
    ∷ row 0xFFE00000 0xD5200000 (Forget Rd Zero)
    -- ---- data processing (register)
    ∷ row 0x5FE0F000 0x0B000000 AddShifted
    ∷ row 0x7FE0FFE0 0x2A0003E0 MoveRegister
    -- ADD and SUB (extended register) without flags
    ∷ row 0x3FE00000 0x0B200000 (Forget RdOrSp Zero)
    -- CCMN and CCMP, which have flags in place of Rd
    ∷ row 0x3FE00000 0x3A400000 (Forget Nothing Zero)
    -- IRG; ADDPT and SUBPT
    ∷ row 0xFFE0FC00 0x9AC01000 (Forget RdOrSp Zero)
    ∷ row 0xBFE0E000 0x9A002000 (Forget RdOrSp Zero)
    ∷ row 0x0E000000 0x0A000000 (Forget Rd Zero)
    -- ---- floating point and vectors
    -- SCVTF, UCVTF and FMOV to a vector register
    ∷ row 0x5F26FC00 0x1E220000 (Forget Nothing Zero)
    ∷ row 0x5F27FC00 0x1E270000 (Forget Nothing Zero)
    -- FCVT and FMOV to a general register, FCVTZS and FCVTZU (fixed-point)
    ∷ row 0x5F20FC00 0x1E200000 (Forget Rd Zero)
    ∷ row 0x5F260000 0x1E000000 (Forget Rd Zero)
    -- SMOV, UMOV
    ∷ row 0xBFE0FC00 0x0E002C00 (Forget Rd Zero)
    ∷ row 0xBFE0FC00 0x0E003C00 (Forget Rd Zero)
    ∷ row 0x0E000000 0x0E000000 (Forget Nothing Zero)
    -- ---- exclusive and ordered accesses
    -- LDXR, STXR, LDXP, STXP and their kin
    ∷ row 0x3FE00000 0x08400000 (Forget Rd Zero)
    ∷ row 0x3FE00000 0x08000000 (Forget Rs AtBase)
    ∷ row 0xBFE00000 0x88600000 (Forget RdAndRt2 Zero)
    ∷ row 0xBFE00000 0x88200000 (Forget Rs PairAtBase)
    -- CASP; LDAR and LDLAR; STLR and STLLR; CAS
    ∷ row 0xBFA07C00 0x08207C00 (Forget RsPair PairAtBase)
    ∷ row 0x3FE00000 0x08C00000 (Forget Rd Zero)
    ∷ row 0x3FE00000 0x08800000 (Forget Nothing AtBase)
    ∷ row 0x3FA07C00 0x08A07C00 (Forget Rs AtBase)
    -- ---- vectors of structures
    ∷ row 0xBFBF0000 0x0C000000 (Structures Offset)
    ∷ row 0xBFA00000 0x0C800000 (Structures PostIndexed)
    ∷ row 0xBF9F0000 0x0D000000 (Structure Offset)
    ∷ row 0xBF800000 0x0D800000 (Structure PostIndexed)
    -- ---- literals
    -- PRFM; LDR and LDRSW; LDR of a vector register
    ∷ row 0xFF000000 0xD8000000 (Forget Nothing Zero)
    ∷ row 0x3F000000 0x18000000 Literal
    ∷ row 0xFF000000 0xDC000000 Undescribed
    ∷ row 0x3F000000 0x1C000000 (Forget Nothing Zero)
    -- ---- pairs
    ∷ row 0xFA000000 0xE8000000 Undescribed
    ∷ row 0xFF800000 0x68000000 Undescribed
    -- LDNP and STNP; with an offset; post-indexed; pre-indexed
    ∷ row 0x3B800000 0x28000000 (Pair Offset)
    ∷ row 0x3B800000 0x29000000 (Pair Offset)
    ∷ row 0x3B800000 0x28800000 (Pair PostIndexed)
    ∷ row 0x3B800000 0x29800000 (Pair PreIndexed)
    -- ---- loads and stores of one register
    -- STLUR; LDAPUR and its kin
    ∷ row 0x3FE00C00 0x19000000 (Forget Nothing AtOffset)
    ∷ row 0x3F200C00 0x19000000 (Forget Rd Zero)
    -- CPY, SET
    ∷ row 0xFB200C00 0x19000400 (Forget RdRnAndRs Elsewhere)
    -- STG and its kin; LDG
    ∷ row 0xFF200C00 0xD9200400 (Tag PostIndexed)
    ∷ row 0xFF200C00 0xD9200800 (Tag Offset)
    ∷ row 0xFF200C00 0xD9200C00 (Tag PreIndexed)
    ∷ row 0xFFE00C00 0xD9600000 (Forget Rd Zero)
    -- PRFM, PRFUM
    ∷ row 0xFFC00000 0xF9800000 (Forget Nothing Zero)
    ∷ row 0xFFE00C00 0xF8800000 (Forget Nothing Zero)
    ∷ row 0xFFE04C00 0xF8A04800 (Forget Nothing Zero)
    ∷ row 0x3B000000 0x39000000 (Access Offset)
    -- LDRAA and LDRAB, with write-back and without
    ∷ row 0xFF200C00 0xF8200C00 (Forget RdAndRn Zero)
    ∷ row 0xFF200C00 0xF8200400 (Forget Rd Zero)
    -- LDAPR; atomic operations; SWP
    ∷ row 0x3FFFFC00 0x38BFC000 (Forget Rd Zero)
    ∷ row 0x3F208C00 0x38200000 (Forget Rd AtBase)
    ∷ row 0x3F20FC00 0x38208000 (Forget Rd AtBase)
    ∷ row 0x3B204C00 0x38204800 (Access Indexed)
    -- unscaled and unprivileged
    ∷ row 0x3B200C00 0x38000000 (Access Unscaled)
    ∷ row 0x3F200C00 0x38000800 (Access Unscaled)
    ∷ row 0x3B200C00 0x38000400 (Access PostIndexed)
    ∷ row 0x3B200C00 0x38000C00 (Access PreIndexed)
    ∷ []

-- a word of no encoding here is not described
abbrev pub form_in : Option Row → Form
form_in (Some row) = row.2
form_in None = Undescribed

-- the first encoding that a word has
unfoldable pub row_in : List Row → ℕ → Option Row
row_in table word = find (λ row. bit_and word row.0 == row.1) table

unfoldable pub form_of : ℕ → Form
form_of word = form_in (row_in rows word)
