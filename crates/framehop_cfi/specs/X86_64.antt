-- Registers of x86_64 by their DWARF numbers (System V ABI for AMD64, figure 3.36).
use Rattle.std.specs.Prelude.{ℕ}

abbrev pub RBX : ℕ
RBX = 3

abbrev pub RBP : ℕ
RBP = 6

abbrev pub RSP : ℕ
RSP = 7

abbrev pub R12 : ℕ
R12 = 12

abbrev pub R15 : ℕ
R15 = 15

-- the column of the return address
abbrev pub RA : ℕ
RA = 16
