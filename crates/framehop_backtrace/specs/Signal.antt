-- Signal frames of Linux: the code of trampolines, to which the handlers of signals return, and what the kernel saves of
-- the code that a signal interrupts, from the stack pointer on that the trampoline finds.
use Rattle.std.specs.Prelude.{ℕ, ◌+◌, ◌*◌, Bool, nat_eq, nat_le, ◌||◌, if◌then◌else◌, List, [], ◌∷◌, length, Option, Some, None}
use Rattle.std.specs.List.{starts_with}
use Rattle.framehop_bytes.specs.Bytes.{le8}
use Rattle.framehop_core.specs.X86_64.Registers.{Registers as RegistersX86_64}
use Rattle.framehop_backtrace.specs.Columns.{columns_by}

-- x86_64 (`__restore_rt` of C libraries): mov $15, %rax; syscall. 15 is `__NR_rt_sigreturn`.
abbrev pub restore_rt : List ℕ
restore_rt = 0x48 ∷ 0xc7 ∷ 0xc0 ∷ 0x0f ∷ 0x00 ∷ 0x00 ∷ 0x00 ∷ 0x0f ∷ 0x05 ∷ []

-- aarch64 (`__kernel_rt_sigreturn` of the vdso): mov x8, #139; svc #0. 139 is `__NR_rt_sigreturn`.
abbrev pub kernel_rt_sigreturn : List ℕ
kernel_rt_sigreturn = 0x68 ∷ 0x11 ∷ 0x80 ∷ 0xd2 ∷ 0x01 ∷ 0x00 ∷ 0x00 ∷ 0xd4 ∷ []

-- code begins with a trampoline
unfoldable pub is_trampoline : List ℕ → Bool
is_trampoline code = starts_with nat_eq code restore_rt || starts_with nat_eq code kernel_rt_sigreturn

-- x86_64: `struct ucontext` of include/uapi/asm-generic/ucontext.h. uc_flags and uc_link have a word each and uc_stack
-- has three; then comes uc_mcontext, `struct sigcontext` of arch/x86/include/uapi/asm/sigcontext.h.
unfoldable pub saved_x86_64 : List ℕ → RegistersX86_64
saved_x86_64 frame = record {
  ip = le8 frame 168;
  rax = le8 frame 144;
  rdx = le8 frame 136;
  rcx = le8 frame 152;
  rbx = le8 frame 128;
  rsi = le8 frame 112;
  rdi = le8 frame 104;
  rbp = le8 frame 120;
  rsp = le8 frame 160;
  r8 = le8 frame 40;
  r9 = le8 frame 48;
  r10 = le8 frame 56;
  r11 = le8 frame 64;
  r12 = le8 frame 72;
  r13 = le8 frame 80;
  r14 = le8 frame 88;
  r15 = le8 frame 96;
}

-- so many bytes are read of it: up to rip
abbrev pub interrupted_x86_64 : List ℕ → Option RegistersX86_64
interrupted_x86_64 frame = if nat_le 176 (length frame) then Some (saved_x86_64 frame) else None

-- aarch64: pc, and x0 to x30, sp and pc as columns 0 to 32. `struct rt_sigframe` of arch/arm64/kernel/signal.c: `struct
-- siginfo` has 128 bytes, and the parts of `struct ucontext` before uc_mcontext have 176: uc_flags, uc_link, uc_stack,
-- and uc_sigmask with what is kept free for it. Of `struct sigcontext` (arch/arm64/include/uapi/asm/sigcontext.h),
-- fault_address comes first, then a word for each of the columns. So many bytes are read of it: up to pc.
abbrev pub interrupted_aarch64 : List ℕ → Option (ℕ × List (Option ℕ))
interrupted_aarch64 frame =
    if nat_le 576 (length frame) then Some (le8 frame 568, columns_by (λ at. Some (le8 frame (312 + at * 8)))) else None
