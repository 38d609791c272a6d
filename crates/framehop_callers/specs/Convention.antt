-- What a calling convention says of columns that a row doesn't name.
use Rattle.std.specs.Prelude.{ℕ, Bool, ◌==◌, ◌&&◌, ◌||◌, nat_le}
use Rattle.framehop_cfi.specs.X86_64.{RBX, RBP, RSP, R12, R15, RA}
use Rattle.framehop_cfi.specs.Aarch64.{X19, X30, SP, PC}
use Rattle.framehop_callers.specs.declared.convention.Convention.{Convention}
use Rattle.framehop_callers.specs.declared.convention.Convention.TheVariants.{X86_64, Aarch64}

-- the stack pointer
abbrev pub stack_pointer_of : Convention → ℕ
stack_pointer_of X86_64 = RSP
stack_pointer_of Aarch64 = SP

-- the return address' own column, which is rip's; pc
abbrev pub program_counter_of : Convention → ℕ
program_counter_of X86_64 = RA
program_counter_of Aarch64 = PC

-- the return address; x30, the link register
abbrev pub return_address_of : Convention → ℕ
return_address_of X86_64 = RA
return_address_of Aarch64 = X30

-- the registers that a function need not keep, a bit for each by its column: rax, rcx, rdx, rsi, rdi and r8 to r11 (System
-- V ABI, figure 3.4); x0 to x18 and x30 (Procedure Call Standard, section 6.1.1)
abbrev pub scratch_of : Convention → ℕ
scratch_of X86_64 = 0x0F37
scratch_of Aarch64 = 0x4007FFFF

-- a function that doesn't save it leaves the register as it was: rbx, rbp, r12 to r15 (System V ABI, figure 3.4); x19
-- to x29 (Procedure Call Standard, section 6.1.1), and x30, by which a function returns that has not saved it
abbrev pub keeps : Convention → ℕ → Bool
keeps X86_64 column = (column == RBX) || (column == RBP) || (nat_le R12 column && nat_le column R15)
keeps Aarch64 column = nat_le X19 column && nat_le column X30
