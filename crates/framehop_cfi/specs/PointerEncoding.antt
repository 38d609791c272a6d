-- How a pointer is encoded (LSB, "DWARF Exception Header Encoding"): a format in the low four bits, what it counts from
-- in the three above them, and whether the place of the pointer stands in the place of the pointer.
use Rattle.std.specs.Prelude.{ℕ}

-- formats
abbrev pub DW_EH_PE_absptr : ℕ
DW_EH_PE_absptr = 0x00

abbrev pub DW_EH_PE_uleb128 : ℕ
DW_EH_PE_uleb128 = 0x01

abbrev pub DW_EH_PE_udata2 : ℕ
DW_EH_PE_udata2 = 0x02

abbrev pub DW_EH_PE_udata4 : ℕ
DW_EH_PE_udata4 = 0x03

abbrev pub DW_EH_PE_udata8 : ℕ
DW_EH_PE_udata8 = 0x04

abbrev pub DW_EH_PE_sleb128 : ℕ
DW_EH_PE_sleb128 = 0x09

abbrev pub DW_EH_PE_sdata2 : ℕ
DW_EH_PE_sdata2 = 0x0A

abbrev pub DW_EH_PE_sdata4 : ℕ
DW_EH_PE_sdata4 = 0x0B

abbrev pub DW_EH_PE_sdata8 : ℕ
DW_EH_PE_sdata8 = 0x0C

-- what a pointer counts from: its own address, the text, the data, its function
abbrev pub DW_EH_PE_pcrel : ℕ
DW_EH_PE_pcrel = 0x10

abbrev pub DW_EH_PE_textrel : ℕ
DW_EH_PE_textrel = 0x20

abbrev pub DW_EH_PE_datarel : ℕ
DW_EH_PE_datarel = 0x30

abbrev pub DW_EH_PE_funcrel : ℕ
DW_EH_PE_funcrel = 0x40

-- from this encoding on, it is the place of the pointer
abbrev pub DW_EH_PE_indirect : ℕ
DW_EH_PE_indirect = 0x80

-- there is no pointer
abbrev pub DW_EH_PE_omit : ℕ
DW_EH_PE_omit = 0xFF
