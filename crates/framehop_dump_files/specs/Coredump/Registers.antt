-- The registers of a thread, in the order in which the kernel keeps them.
-- The signatures of return addresses: Linux, pointer-authentication.rst.
use Rattle.std.specs.Prelude.{ℕ, ◌-◌, ◌^◌, List, length, Option, Some, None, nat_le, if◌then◌else◌}
use Rattle.framehop_bytes.specs.Bytes.{le8}
use Rattle.framehop_core.specs.X86_64.Registers.{Registers as RegistersX86_64}
use Rattle.framehop_core.specs.Aarch64.Registers.{Registers as RegistersAarch64, strip_ptr_auth}

-- `struct user_regs_struct` of arch/x86/include/asm/user_64.h, 27 words
unfoldable pub general_of : List ℕ → RegistersX86_64
general_of values = record {
  ip = le8 values 128;
  rax = le8 values 80;
  rdx = le8 values 96;
  rcx = le8 values 88;
  rbx = le8 values 40;
  rsi = le8 values 104;
  rdi = le8 values 112;
  rbp = le8 values 32;
  rsp = le8 values 152;
  r8 = le8 values 72;
  r9 = le8 values 64;
  r10 = le8 values 56;
  r11 = le8 values 48;
  r12 = le8 values 24;
  r13 = le8 values 16;
  r14 = le8 values 8;
  r15 = le8 values 0;
}

abbrev pub x86_64_registers : List ℕ → Option RegistersX86_64
x86_64_registers values = if nat_le 216 (length values) then Some (general_of values) else None

-- `struct user_pt_regs` of arch/arm64/include/uapi/asm/ptrace.h, 34 words: x0 to x30, sp, pc and pstate; pc, and of the
-- others x29, x30 and sp
abbrev pub aarch64_registers : ℕ → List ℕ → Option (ℕ × RegistersAarch64)
aarch64_registers lr_mask values =
    if nat_le 272 (length values) then Some (
      le8 values 256,
      record {
        lr_mask = lr_mask;
        lr = strip_ptr_auth lr_mask (le8 values 240);
        sp = le8 values 248;
        fp = le8 values 232;
      },
    ) else None

-- the bits of an address of code that are no signature: all, where there is no mask of the signature
abbrev pub code_mask_of : Option ℕ → ℕ
code_mask_of None = 2 ^ 64 - 1
code_mask_of (Some pac_mask) = 2 ^ 64 - 1 - pac_mask
