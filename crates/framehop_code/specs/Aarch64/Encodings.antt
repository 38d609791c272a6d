-- The encodings of aarch64 instructions, as far as they can write sp or x29 or lead elsewhere (Arm Architecture Reference
-- Manual for A-profile, "A64 instruction set encoding").
use Rattle.std.specs.Prelude.{ℕ, ◌==◌, bit_and, find, List, [], ◌∷◌, Option, Some, None}
use Rattle.framehop_code.specs.declared.aarch64.encoding.Class.{Class}
use Rattle.framehop_code.specs.declared.aarch64.encoding.Class.TheVariants.{Keep, Padding, Stop, Jump, Call, Branch, TestBranch, BranchRegister, WriteRd, SetRd, AddImmediate, WriteRt2, Indexed, LoadIndexed, TagIndexed, PairIndexed, LoadPairIndexed, VectorPairIndexed, WriteBack, WriteRtAndBack, Exclusive, ComparePair, MemoryCopy}
use Rattle.framehop_code.specs.declared.aarch64.encoding.Encoding.{Encoding}

-- the words that have these bits of a mask
abbrev pub encoding : ℕ → ℕ → Class → Encoding
encoding mask bits class = record { 0 = mask; 1 = bits; 2 = class }

-- the encodings; of several that fit the first one counts
abbrev pub encodings : List Encoding
encodings =
    -- UDF
    encoding 0xFFFF0000 0x00000000 Stop
    -- ---- data processing (immediate)
    -- ADDS and SUBS, ADD and SUB of 64 and of 32 bits
    ∷ encoding 0x3F800000 0x31000000 WriteRd
    ∷ encoding 0xBF800000 0x91000000 AddImmediate
    ∷ encoding 0xBF800000 0x11000000 SetRd
    -- ADDG and SUBG; SMAX, UMAX, SMIN and UMIN
    ∷ encoding 0x1FC00000 0x11800000 SetRd
    ∷ encoding 0x1FC00000 0x11C00000 WriteRd
    -- ANDS; AND, ORR and EOR
    ∷ encoding 0x7F800000 0x72000000 WriteRd
    ∷ encoding 0x1F800000 0x12000000 SetRd
    -- ADR, MOVZ, MOVN, MOVK, bit fields, EXTR
    ∷ encoding 0x1C000000 0x10000000 WriteRd
    -- ---- branches, exceptions and system instructions
    ∷ encoding 0xFC000000 0x14000000 Jump
    ∷ encoding 0xFC000000 0x94000000 Call
    ∷ encoding 0xFF000000 0x54000000 Branch
    ∷ encoding 0x7E000000 0x34000000 Branch
    ∷ encoding 0x7E000000 0x36000000 TestBranch
    ∷ encoding 0xFE000000 0xD6000000 BranchRegister
    -- NOP, BRK
    ∷ encoding 0xFFFFFFFF 0xD503201F Padding
    ∷ encoding 0xFFE00000 0xD4200000 Stop
    -- MRS, SYSL
    ∷ encoding 0xFFF00000 0xD5300000 WriteRd
    ∷ encoding 0xFFF80000 0xD5280000 WriteRd
    ∷ encoding 0x1C000000 0x14000000 Keep
    -- ---- data processing (register)
    -- ADD and SUB (extended register) without flags
    ∷ encoding 0x3F200000 0x0B200000 SetRd
    -- CCMN and CCMP, which have flags in place of Rd
    ∷ encoding 0x1FE00000 0x1A400000 Keep
    -- IRG
    ∷ encoding 0xFFE0FC00 0x9AC01000 SetRd
    ∷ encoding 0x0E000000 0x0A000000 WriteRd
    -- ---- pairs
    -- STP and STGP; LDP and LDPSW
    ∷ encoding 0x3EC00000 0x28000000 Keep
    ∷ encoding 0x3EC00000 0x28400000 WriteRt2
    ∷ encoding 0x3EC00000 0x28800000 PairIndexed
    ∷ encoding 0x3EC00000 0x28C00000 LoadPairIndexed
    ∷ encoding 0x3E800000 0x2C000000 Keep
    ∷ encoding 0x3E800000 0x2C800000 VectorPairIndexed
    -- ---- loads and stores of one register
    -- PRFM
    ∷ encoding 0xFFC00000 0xF9800000 Keep
    ∷ encoding 0xFFE00C00 0xF8800000 Keep
    ∷ encoding 0xFFE00C00 0xF8A00800 Keep
    -- unsigned offset: stores, loads
    ∷ encoding 0x3FC00000 0x39000000 Keep
    ∷ encoding 0x3F000000 0x39000000 WriteRd
    -- LDRAA and LDRAB, with write-back and without
    ∷ encoding 0xFF200C00 0xF8200C00 WriteRtAndBack
    ∷ encoding 0xFF200C00 0xF8200400 WriteRd
    -- atomic operations
    ∷ encoding 0x3F200C00 0x38200000 WriteRd
    -- register offset: stores, loads
    ∷ encoding 0x3FE00C00 0x38200800 Keep
    ∷ encoding 0x3F200C00 0x38200800 WriteRd
    -- post-indexed and pre-indexed: stores, loads, vectors
    ∷ encoding 0x3FE00400 0x38000400 Indexed
    ∷ encoding 0x3F200400 0x38000400 LoadIndexed
    ∷ encoding 0x3F200400 0x3C000400 Indexed
    -- unscaled and unprivileged: stores, loads
    ∷ encoding 0x3FE00400 0x38000000 Keep
    ∷ encoding 0x3F200400 0x38000000 WriteRd
    ∷ encoding 0x3A000000 0x38000000 Keep
    -- ---- other loads and stores
    -- PRFM (literal), LDR (literal)
    ∷ encoding 0xFF000000 0xD8000000 Keep
    ∷ encoding 0x3F000000 0x18000000 WriteRd
    -- STLUR, LDAPUR; LDIAPP, STILP and their kin
    ∷ encoding 0x3FE00C00 0x19000000 Keep
    ∷ encoding 0x3F200C00 0x19000000 WriteRd
    ∷ encoding 0x3F200C00 0x19000800 WriteRtAndBack
    -- STG and its kin with write-back, LDG
    ∷ encoding 0xFF200400 0xD9200400 TagIndexed
    ∷ encoding 0xFF600C00 0xD9600000 WriteRd
    -- CPY, SET
    ∷ encoding 0x3B200C00 0x19000400 MemoryCopy
    ∷ encoding 0x3A000000 0x18000000 Keep
    -- CASP; exclusive and ordered accesses, CAS
    ∷ encoding 0xBFA07C00 0x08207C00 ComparePair
    ∷ encoding 0x3F000000 0x08000000 Exclusive
    -- vectors of structures, post-indexed
    ∷ encoding 0xBE800000 0x0C800000 WriteBack
    -- ---- SVE and vectors
    -- ADDVL, ADDPL, RDVL, ADDSVL, ADDSPL
    ∷ encoding 0xFF20F000 0x04205000 SetRd
    -- SCVTF, UCVTF and FMOV to a vector register
    ∷ encoding 0x5F26FC00 0x1E220000 Keep
    ∷ encoding 0x5F27FC00 0x1E270000 Keep
    -- FCVT and FMOV to a general register, FCVTZS and FCVTZU (fixed-point)
    ∷ encoding 0x5F20FC00 0x1E200000 WriteRd
    ∷ encoding 0x5F260000 0x1E000000 WriteRd
    -- SMOV, UMOV
    ∷ encoding 0xBFE0FC00 0x0E002C00 WriteRd
    ∷ encoding 0xBFE0FC00 0x0E003C00 WriteRd
    ∷ []

-- a word of no encoding here writes neither sp nor x29
abbrev pub class_in : Option Encoding → Class
class_in (Some encoding) = encoding.2
class_in None = Keep

-- the first encoding that a word has
unfoldable pub encoding_in : List Encoding → ℕ → Option Encoding
encoding_in table word = find (λ encoding. bit_and word encoding.0 == encoding.1) table

unfoldable pub class_of : ℕ → Class
class_of word = class_in (encoding_in encodings word)
