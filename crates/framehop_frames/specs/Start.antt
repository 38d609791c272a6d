-- The registers with which a walk begins.
use Rattle.std.specs.Prelude.{ℕ, zero, suc, ◌*◌, nat_le, if◌then◌else◌, List, length, Option, Some}
use Rattle.framehop_bytes.specs.Bytes.{le8}
use Rattle.framehop_core.specs.Aarch64.Registers.{Registers as RegistersAarch64}
use Rattle.framehop_core.specs.X86_64.Registers.{Registers as RegistersX86_64}
use Rattle.framehop_callers.specs.RegisterFile.{with_word}
use Rattle.framehop_backtrace.specs.Machine.{all_columns, columns_aarch64}
use Rattle.framehop_frames.specs.declared.machine.Start.{Start}

-- by the registers of x86_64, which all have columns
abbrev pub x86_64_start : RegistersX86_64 → Start RegistersX86_64
x86_64_start regs = record { pc = regs.ip; sp = regs.rsp; regs = regs; columns = all_columns regs }

-- x0 and so on up to the one before n, as the words of bytes
unfoldable pub with_words : List ℕ → ℕ → List (Option ℕ) → List (Option ℕ)
with_words general zero words = words
with_words general (suc n) words = with_words general n (with_word words (record { 0 = n }) (Some (le8 general (n * 8))))

-- x0 to x28, where the bytes have as many words
abbrev pub with_general : List ℕ → List (Option ℕ) → List (Option ℕ)
with_general general words = if nat_le 232 (length general) then with_words general 29 words else words

-- by the registers of aarch64 with their pc, and bytes that may have x0 to x28
abbrev pub aarch64_start : List ℕ → ℕ × RegistersAarch64 → Start RegistersAarch64
aarch64_start general found = record {
  pc = found.0;
  sp = found.1.sp;
  regs = found.1;
  columns = with_general general (columns_aarch64 found.0 found.1);
}
