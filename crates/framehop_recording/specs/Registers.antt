-- The user registers of a sample: a value for each bit of a mask, in the order of the bits. Which register a bit is,
-- `perf_event_x86_regs` and `perf_event_arm_regs` of perf_regs.h say.
use Rattle.std.specs.Prelude.{ℕ, ◌-◌, ◌*◌, ◌^◌, List, Option, None, unwrap_or, option_map, option_and_then, bit_and, count_ones, if◌then◌else◌}
use Rattle.framehop_core.specs.X86_64.Registers.{Registers as RegistersX86_64}
use Rattle.framehop_core.specs.Aarch64.Registers.{Registers as RegistersAarch64, strip_ptr_auth}
use Rattle.framehop_recording.specs.Numbers.{PERF_REG_X86_AX, PERF_REG_X86_BX, PERF_REG_X86_CX, PERF_REG_X86_DX, PERF_REG_X86_SI, PERF_REG_X86_DI, PERF_REG_X86_BP, PERF_REG_X86_SP, PERF_REG_X86_IP, PERF_REG_X86_R8, PERF_REG_X86_R9, PERF_REG_X86_R10, PERF_REG_X86_R11, PERF_REG_X86_R12, PERF_REG_X86_R13, PERF_REG_X86_R14, PERF_REG_X86_R15, PERF_REG_ARM64_X29, PERF_REG_ARM64_LR, PERF_REG_ARM64_SP, PERF_REG_ARM64_PC}
use Rattle.framehop_recording.specs.Bytes.{word_at, has_bit}

-- the value of the register of a bit, given as a mask: as many values are before it as the mask has lower bits
abbrev pub register_at : ℕ → List ℕ → ℕ → Option ℕ
register_at mask values bit =
    if has_bit mask bit then word_at values (8 * count_ones (bit_and mask (bit - 1))) else None

-- that of a register, by its number in the source
abbrev pub register_of : ℕ → List ℕ → ℕ → Option ℕ
register_of mask values register = register_at mask values (2 ^ register)

-- the same, or 0 where it was not recorded
abbrev pub value_of : ℕ → List ℕ → ℕ → ℕ
value_of mask values register = unwrap_or (register_of mask values register) 0

-- the registers of x86_64, by rip, rsp and rbp
unfoldable pub with_general : ℕ → List ℕ → ℕ → ℕ → ℕ → RegistersX86_64
with_general mask values ip sp bp = record {
  ip = ip;
  rax = value_of mask values PERF_REG_X86_AX;
  rdx = value_of mask values PERF_REG_X86_DX;
  rcx = value_of mask values PERF_REG_X86_CX;
  rbx = value_of mask values PERF_REG_X86_BX;
  rsi = value_of mask values PERF_REG_X86_SI;
  rdi = value_of mask values PERF_REG_X86_DI;
  rbp = bp;
  rsp = sp;
  r8 = value_of mask values PERF_REG_X86_R8;
  r9 = value_of mask values PERF_REG_X86_R9;
  r10 = value_of mask values PERF_REG_X86_R10;
  r11 = value_of mask values PERF_REG_X86_R11;
  r12 = value_of mask values PERF_REG_X86_R12;
  r13 = value_of mask values PERF_REG_X86_R13;
  r14 = value_of mask values PERF_REG_X86_R14;
  r15 = value_of mask values PERF_REG_X86_R15;
}

-- they are there where rip, rsp and rbp were recorded
abbrev pub x86_64_registers : ℕ → List ℕ → Option RegistersX86_64
x86_64_registers mask values =
    option_and_then (λ ip. option_and_then (λ sp. option_map (λ bp. with_general mask values ip sp bp)
    (register_of mask values PERF_REG_X86_BP)) (register_of mask values PERF_REG_X86_SP))
    (register_of mask values PERF_REG_X86_IP)

-- pc, and the registers of aarch64, of which lr, sp and x29 must have been recorded
abbrev pub aarch64_registers : ℕ → ℕ → List ℕ → Option (ℕ × RegistersAarch64)
aarch64_registers lr_mask mask values =
    option_and_then (λ pc. option_and_then (λ lr. option_and_then (λ sp. option_map (λ fp. (
      pc,
      record {
        lr_mask = lr_mask;
        lr = strip_ptr_auth lr_mask lr;
        sp = sp;
        fp = fp;
      },
    )) (register_of mask values PERF_REG_ARM64_X29)) (register_of mask values PERF_REG_ARM64_SP))
    (register_of mask values PERF_REG_ARM64_LR)) (register_of mask values PERF_REG_ARM64_PC)
