-- The numbers of the format, under the names of the System V gABI, chapters 4 and 5.
use Rattle.std.specs.Prelude.{ℕ}

-- e_ident: ELFMAG0 to ELFMAG3 as a little-endian number, and the values of EI_CLASS, EI_DATA and EI_VERSION
abbrev pub ELFMAG : ℕ
ELFMAG = 0x464c457f

abbrev pub ELFCLASS64 : ℕ
ELFCLASS64 = 2

abbrev pub ELFDATA2LSB : ℕ
ELFDATA2LSB = 1

abbrev pub EV_CURRENT : ℕ
EV_CURRENT = 1

-- e_phnum, where it does not hold the number
abbrev pub PN_XNUM : ℕ
PN_XNUM = 0xffff

-- special indices of sections
abbrev pub SHN_UNDEF : ℕ
SHN_UNDEF = 0

abbrev pub SHN_XINDEX : ℕ
SHN_XINDEX = 0xffff

-- sh_type and sh_flags
abbrev pub SHT_NOTE : ℕ
SHT_NOTE = 7

abbrev pub SHT_NOBITS : ℕ
SHT_NOBITS = 8

abbrev pub SHF_EXECINSTR : ℕ
SHF_EXECINSTR = 4

abbrev pub SHF_COMPRESSED : ℕ
SHF_COMPRESSED = 0x800

-- ch_type of a compressed section
abbrev pub ELFCOMPRESS_ZLIB : ℕ
ELFCOMPRESS_ZLIB = 1

abbrev pub ELFCOMPRESS_ZSTD : ℕ
ELFCOMPRESS_ZSTD = 2

-- the types of symbols: the lower four bits of st_info
abbrev pub STT_NOTYPE : ℕ
STT_NOTYPE = 0

abbrev pub STT_FUNC : ℕ
STT_FUNC = 2

abbrev pub STT_GNU_IFUNC : ℕ
STT_GNU_IFUNC = 10

-- p_type and p_flags
abbrev pub PT_LOAD : ℕ
PT_LOAD = 1

abbrev pub PT_NOTE : ℕ
PT_NOTE = 4

abbrev pub PF_X : ℕ
PF_X = 0x1

-- the build id among the notes of "GNU"
abbrev pub NT_GNU_BUILD_ID : ℕ
NT_GNU_BUILD_ID = 3
