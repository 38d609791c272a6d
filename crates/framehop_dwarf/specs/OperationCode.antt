-- The codes of the operations of DWARF expressions (DWARF 5 section 7.7.1).
use Rattle.std.specs.Prelude.{ℕ}

abbrev pub DW_OP_const1u : ℕ
DW_OP_const1u = 0x08

abbrev pub DW_OP_const1s : ℕ
DW_OP_const1s = 0x09

abbrev pub DW_OP_const2u : ℕ
DW_OP_const2u = 0x0A

abbrev pub DW_OP_const2s : ℕ
DW_OP_const2s = 0x0B

abbrev pub DW_OP_const4u : ℕ
DW_OP_const4u = 0x0C

abbrev pub DW_OP_const4s : ℕ
DW_OP_const4s = 0x0D

abbrev pub DW_OP_const8u : ℕ
DW_OP_const8u = 0x0E

abbrev pub DW_OP_const8s : ℕ
DW_OP_const8s = 0x0F

abbrev pub DW_OP_constu : ℕ
DW_OP_constu = 0x10

abbrev pub DW_OP_consts : ℕ
DW_OP_consts = 0x11

abbrev pub DW_OP_dup : ℕ
DW_OP_dup = 0x12

abbrev pub DW_OP_drop : ℕ
DW_OP_drop = 0x13

abbrev pub DW_OP_over : ℕ
DW_OP_over = 0x14

abbrev pub DW_OP_pick : ℕ
DW_OP_pick = 0x15

abbrev pub DW_OP_swap : ℕ
DW_OP_swap = 0x16

abbrev pub DW_OP_rot : ℕ
DW_OP_rot = 0x17

abbrev pub DW_OP_abs : ℕ
DW_OP_abs = 0x19

abbrev pub DW_OP_and : ℕ
DW_OP_and = 0x1A

abbrev pub DW_OP_div : ℕ
DW_OP_div = 0x1B

abbrev pub DW_OP_minus : ℕ
DW_OP_minus = 0x1C

abbrev pub DW_OP_mod : ℕ
DW_OP_mod = 0x1D

abbrev pub DW_OP_mul : ℕ
DW_OP_mul = 0x1E

abbrev pub DW_OP_neg : ℕ
DW_OP_neg = 0x1F

abbrev pub DW_OP_not : ℕ
DW_OP_not = 0x20

abbrev pub DW_OP_or : ℕ
DW_OP_or = 0x21

abbrev pub DW_OP_plus : ℕ
DW_OP_plus = 0x22

abbrev pub DW_OP_plus_uconst : ℕ
DW_OP_plus_uconst = 0x23

abbrev pub DW_OP_shl : ℕ
DW_OP_shl = 0x24

abbrev pub DW_OP_shr : ℕ
DW_OP_shr = 0x25

abbrev pub DW_OP_shra : ℕ
DW_OP_shra = 0x26

abbrev pub DW_OP_xor : ℕ
DW_OP_xor = 0x27

abbrev pub DW_OP_bra : ℕ
DW_OP_bra = 0x28

abbrev pub DW_OP_eq : ℕ
DW_OP_eq = 0x29

abbrev pub DW_OP_ge : ℕ
DW_OP_ge = 0x2A

abbrev pub DW_OP_gt : ℕ
DW_OP_gt = 0x2B

abbrev pub DW_OP_le : ℕ
DW_OP_le = 0x2C

abbrev pub DW_OP_lt : ℕ
DW_OP_lt = 0x2D

abbrev pub DW_OP_ne : ℕ
DW_OP_ne = 0x2E

abbrev pub DW_OP_skip : ℕ
DW_OP_skip = 0x2F

abbrev pub DW_OP_lit0 : ℕ
DW_OP_lit0 = 0x30

abbrev pub DW_OP_lit31 : ℕ
DW_OP_lit31 = 0x4F

abbrev pub DW_OP_breg0 : ℕ
DW_OP_breg0 = 0x70

abbrev pub DW_OP_breg31 : ℕ
DW_OP_breg31 = 0x8F

abbrev pub DW_OP_bregx : ℕ
DW_OP_bregx = 0x92

abbrev pub DW_OP_nop : ℕ
DW_OP_nop = 0x96
