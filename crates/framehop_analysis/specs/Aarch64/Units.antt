-- Offsets in bytes as the rules' fields hold them: scaled, and exact (framehop 0.16.0, `UnwindRuleAarch64`).
use Rattle.std.specs.Prelude.{◌≡◌, ℕ, ◌*◌, ◌^◌, ◌<◌, ℤ, pos, negsuc, ◌*ℤ◌, ◌≤ℤ◌}

-- so many bytes are x units of 16 bytes, where x has 16 bits
abbrev pub IsUnitsOf16 : ℤ → ℕ → Type 0
IsUnitsOf16 bytes x = (bytes ≡ pos (x * 16)) × (x < 2 ^ 16)

-- so many bytes are y words of 8 bytes, where y has 16 bits with its sign
abbrev pub IsUnitsOf8 : ℤ → ℤ → Type 0
IsUnitsOf8 bytes y = (bytes ≡ y *ℤ pos 8) × (negsuc 32767 ≤ℤ y) × (y ≤ℤ pos 32767)
