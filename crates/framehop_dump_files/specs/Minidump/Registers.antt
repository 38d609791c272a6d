-- The registers of a thread: CONTEXT of x64 and ARM64_NT_CONTEXT of winnt.h, and Breakpad's contexts of the same forms.
-- Of aarch64 that is MDRawContextARM64_Old.
use Rattle.std.specs.Prelude.{ℕ, List, length, Bool, Option, Some, None, bit_and, nat_le, ◌&&◌, ◌||◌, ◌==◌, if◌then◌else◌}
use Rattle.framehop_bytes.specs.Bytes.{le4, le8}
use Rattle.framehop_core.specs.X86_64.Registers.{Registers as RegistersX86_64}
use Rattle.framehop_core.specs.Aarch64.Registers.{Registers as RegistersAarch64, strip_ptr_auth}
use Rattle.framehop_dump_files.specs.Minidump.Numbers.{CONTEXT_AMD64_FLAGS, CONTEXT_ARM64_CONTROL, MD_CONTEXT_ARM64_INTEGER_OLD}

-- a number has all bits of a mask
abbrev pub has_bits : ℕ → ℕ → Bool
has_bits number mask = bit_and number mask == mask

-- CONTEXT of x64
unfoldable pub general_of : List ℕ → RegistersX86_64
general_of context = record {
  ip = le8 context 0xf8;
  rax = le8 context 0x78;
  rdx = le8 context 0x88;
  rcx = le8 context 0x80;
  rbx = le8 context 0x90;
  rsi = le8 context 0xa8;
  rdi = le8 context 0xb0;
  rbp = le8 context 0xa0;
  rsp = le8 context 0x98;
  r8 = le8 context 0xb8;
  r9 = le8 context 0xc0;
  r10 = le8 context 0xc8;
  r11 = le8 context 0xd0;
  r12 = le8 context 0xd8;
  r13 = le8 context 0xe0;
  r14 = le8 context 0xe8;
  r15 = le8 context 0xf0;
}

-- it is there up to Rip, and ContextFlags, at 0x30, say that it has these registers
abbrev pub has_x86_64 : List ℕ → Bool
has_x86_64 context = nat_le 0x100 (length context) && has_bits (le4 context 0x30) CONTEXT_AMD64_FLAGS

abbrev pub x86_64_registers : List ℕ → Option RegistersX86_64
x86_64_registers context = if has_x86_64 context then Some (general_of context) else None

-- ARM64_NT_CONTEXT is there up to Pc, and ContextFlags, at 0, say that it has Fp, Lr, Sp and Pc. Breakpad's older form
-- has its flags in eight bytes, and the registers at the same places.
abbrev pub has_aarch64 : List ℕ → Bool
has_aarch64 context =
    nat_le 0x110 (length context) && (has_bits (le4 context 0) CONTEXT_ARM64_CONTROL
    || has_bits (le4 context 0) MD_CONTEXT_ARM64_INTEGER_OLD)

-- pc, and of the others x29, x30 and sp: x0 is at 8
abbrev pub aarch64_registers : ℕ → List ℕ → Option (ℕ × RegistersAarch64)
aarch64_registers lr_mask context =
    if has_aarch64 context then Some (
      le8 context 0x108,
      record {
        lr_mask = lr_mask;
        lr = strip_ptr_auth lr_mask (le8 context 0xf8);
        sp = le8 context 0x100;
        fp = le8 context 0xf0;
      },
    ) else None
