-- Instruction bytes of x86_64 (Intel 64 and IA-32 Architectures Software Developer's Manual, volume 2, PUSH, POP and
-- "REX prefixes"): the register of a push or pop is in the opcode's low three bits.
use Rattle.std.specs.Prelude.{ℕ, ◌/◌, Bool, ◌==◌}

-- REX without its bits W, R and X: 40 or 41
abbrev pub is_prefix : ℕ → Bool
is_prefix byte = byte / 2 == 0x20

-- PUSH r64: 50 to 57
abbrev pub is_push : ℕ → Bool
is_push byte = byte / 8 == 0x0A

-- POP r64: 58 to 5F
abbrev pub is_pop_opcode : ℕ → Bool
is_pop_opcode byte = byte / 8 == 0x0B
