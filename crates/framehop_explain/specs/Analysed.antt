-- Whose code is looked at on aarch64: functions with an opcode of compact unwind info whose mode, its bits 24 to 27, isn't
-- null (Apple, compact_unwind_encoding.h, UNWIND_ARM64_MODE_MASK).
use Rattle.std.specs.Prelude.{ℕ, ◌==◌, not, Bool}
use Rattle.framehop_core.specs.Bits.{bits_at}

-- the opcode of such a function
unfoldable pub is_analysed : ℕ → Bool
is_analysed opcode = not (bits_at opcode 24 4 == 0)
