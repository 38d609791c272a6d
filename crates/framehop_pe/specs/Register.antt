-- The numbers of the registers (Intel's manual, volume 2, table 2-2; Microsoft's unwind info has the same).
use Rattle.std.specs.Prelude.{ℕ, List, [], ◌∷◌, slice_index_or}
use Rattle.framehop_core.specs.declared.x86_64.unwindregs.Reg.{Reg}
use Rattle.framehop_core.specs.declared.x86_64.unwindregs.Reg.TheVariants.{RAX, RCX, RDX, RBX, RSP, RBP, RSI, RDI, R8, R9, R10, R11, R12, R13, R14, R15}

-- the registers in the order of their numbers
abbrev pub registers : List Reg
registers = RAX ∷ RCX ∷ RDX ∷ RBX ∷ RSP ∷ RBP ∷ RSI ∷ RDI ∷ R8 ∷ R9 ∷ R10 ∷ R11 ∷ R12 ∷ R13 ∷ R14 ∷ R15 ∷ []

-- the register of a number below 16
unfoldable pub register_of : ℕ → Reg
register_of number = slice_index_or registers number RAX
