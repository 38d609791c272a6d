-- The codes of call frame instructions (DWARF 5 section 7.24; DWARF for the Arm 64-bit Architecture; LSB, "DWARF
-- extensions"). The last three have their first operand in the low six bits of their byte.
use Rattle.std.specs.Prelude.{ℕ}

abbrev pub DW_CFA_nop : ℕ
DW_CFA_nop = 0x00

abbrev pub DW_CFA_set_loc : ℕ
DW_CFA_set_loc = 0x01

abbrev pub DW_CFA_advance_loc1 : ℕ
DW_CFA_advance_loc1 = 0x02

abbrev pub DW_CFA_advance_loc2 : ℕ
DW_CFA_advance_loc2 = 0x03

abbrev pub DW_CFA_advance_loc4 : ℕ
DW_CFA_advance_loc4 = 0x04

abbrev pub DW_CFA_offset_extended : ℕ
DW_CFA_offset_extended = 0x05

abbrev pub DW_CFA_restore_extended : ℕ
DW_CFA_restore_extended = 0x06

abbrev pub DW_CFA_undefined : ℕ
DW_CFA_undefined = 0x07

abbrev pub DW_CFA_same_value : ℕ
DW_CFA_same_value = 0x08

abbrev pub DW_CFA_register : ℕ
DW_CFA_register = 0x09

abbrev pub DW_CFA_remember_state : ℕ
DW_CFA_remember_state = 0x0A

abbrev pub DW_CFA_restore_state : ℕ
DW_CFA_restore_state = 0x0B

abbrev pub DW_CFA_def_cfa : ℕ
DW_CFA_def_cfa = 0x0C

abbrev pub DW_CFA_def_cfa_register : ℕ
DW_CFA_def_cfa_register = 0x0D

abbrev pub DW_CFA_def_cfa_offset : ℕ
DW_CFA_def_cfa_offset = 0x0E

abbrev pub DW_CFA_def_cfa_expression : ℕ
DW_CFA_def_cfa_expression = 0x0F

abbrev pub DW_CFA_expression : ℕ
DW_CFA_expression = 0x10

abbrev pub DW_CFA_offset_extended_sf : ℕ
DW_CFA_offset_extended_sf = 0x11

abbrev pub DW_CFA_def_cfa_sf : ℕ
DW_CFA_def_cfa_sf = 0x12

abbrev pub DW_CFA_def_cfa_offset_sf : ℕ
DW_CFA_def_cfa_offset_sf = 0x13

abbrev pub DW_CFA_val_offset : ℕ
DW_CFA_val_offset = 0x14

abbrev pub DW_CFA_val_offset_sf : ℕ
DW_CFA_val_offset_sf = 0x15

abbrev pub DW_CFA_val_expression : ℕ
DW_CFA_val_expression = 0x16

abbrev pub DW_CFA_AARCH64_negate_ra_state : ℕ
DW_CFA_AARCH64_negate_ra_state = 0x2D

abbrev pub DW_CFA_GNU_args_size : ℕ
DW_CFA_GNU_args_size = 0x2E

abbrev pub DW_CFA_advance_loc : ℕ
DW_CFA_advance_loc = 0x40

abbrev pub DW_CFA_offset : ℕ
DW_CFA_offset = 0x80

abbrev pub DW_CFA_restore : ℕ
DW_CFA_restore = 0xC0
