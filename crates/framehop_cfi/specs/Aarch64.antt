-- Registers of aarch64 by their DWARF numbers (DWARF for the Arm 64-bit Architecture, "DWARF register names").
use Rattle.std.specs.Prelude.{ℕ}

abbrev pub X19 : ℕ
X19 = 19

-- the frame pointer, and the link register
abbrev pub X29 : ℕ
X29 = 29

abbrev pub X30 : ℕ
X30 = 30

abbrev pub SP : ℕ
SP = 31

abbrev pub PC : ℕ
PC = 32
