-- The operations of DWARF expressions that read memory (DWARF 5 sections 2.5.1.3 and 7.7.1).
use Rattle.std.specs.Prelude.{ℕ, ◌%◌, ◌^◌, List, [], ◌∷◌, Option, Some, None, option_map, Ok, Err}
use Rattle.framehop_cfi.specs.Numbers.{Parsed, u8_at}
use Rattle.framehop_bytes.specs.ByCode.{by_code}
use Rattle.framehop_core.specs.Memory.{Memory}
use Rattle.framehop_callers.specs.declared.load.Width.{Width}
use Rattle.framehop_callers.specs.declared.load.Width.TheVariants.{One, Two, Four, Eight}

-- the codes of the two operations
abbrev pub DW_OP_deref : ℕ
DW_OP_deref = 0x06

abbrev pub DW_OP_deref_size : ℕ
DW_OP_deref_size = 0x94

-- the widths that DW_OP_deref_size may have, by their bytes
abbrev pub width_of : ℕ → Option Width
width_of size = by_code size ((1, Some One) ∷ (2, Some Two) ∷ (4, Some Four) ∷ (8, Some Eight) ∷ []) None

-- a width that is read, with the place after it
abbrev pub width_by : Parsed ℕ → Option (Width × ℕ)
width_by (Ok read) = option_map (λ width. (width, read.1)) (width_of read.0)
width_by (Err error) = None

abbrev pub width_at : List ℕ → ℕ → Option (Width × ℕ)
width_at code at = width_by (u8_at code at)

-- the width of an operation that reads memory, with the place after it: DW_OP_deref 06, DW_OP_deref_size 94
abbrev pub load_by : List ℕ → Parsed ℕ → Option (Width × ℕ)
load_by code (Ok read) =
    by_code read.0 (
    (DW_OP_deref, Some (Eight, read.1))
    ∷ (DW_OP_deref_size, width_at code read.1)
    ∷ []) None
load_by code (Err error) = None

-- An operation that reads memory, and the place after it: DW_OP_deref reads a word, DW_OP_deref_size as many bytes as
-- the byte after it says.
unfoldable pub load_at : List ℕ → ℕ → Option (Width × ℕ)
load_at code at = load_by code (u8_at code at)

-- a little-endian word's first bytes
abbrev pub low_part : Width → ℕ → ℕ
low_part One word = word % 2 ^ 8
low_part Two word = word % 2 ^ 16
low_part Four word = word % 2 ^ 32
low_part Eight word = word

-- the number at an address: the first bytes of the word there, if it can be read
abbrev pub loaded : Memory → Width → ℕ → Option ℕ
loaded memory width address = option_map (low_part width) (memory address)
