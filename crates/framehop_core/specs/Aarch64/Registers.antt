-- The registers that unwinding on aarch64 needs, and the stripping of pointer authentication bits.
-- (framehop 0.16.0, `UnwindRegsAarch64` and `PtrAuthMask`.)
use Rattle.std.specs.Prelude.{◌≡◌, ℕ, ◌-◌, ◌^◌, ◌<◌, ◌≤◌, bit_and}

-- lr (x30), sp (x31) and fp (x29), with the mask of the bits of lr that are an address
pub record Registers : Type 0 where
  pub lr_mask : ℕ
  pub lr : ℕ
  pub sp : ℕ
  pub fp : ℕ

-- a pointer without its pointer authentication bits: the bits that the mask has too
abbrev pub strip_ptr_auth : ℕ → ℕ → ℕ
strip_ptr_auth mask pointer = bit_and pointer mask

-- the pointer has no bit outside the mask
abbrev pub IsStripped : ℕ → ℕ → Type 0
IsStripped mask pointer = strip_ptr_auth mask pointer ≡ pointer

-- lr is always stored stripped
abbrev pub StandsStripped : Registers → Type 0
StandsStripped registers = IsStripped registers.lr_mask registers.lr

-- the mask has ones from bit 0 to the highest one of the address, and is 0 for the address 0
-- (framehop 0.16.0, `PtrAuthMask::from_max_known_address`)
pub record IsMaskUpTo (address mask : ℕ) : Type 0 where
  pub bits : ℕ
  pub ones : mask ≡ 2 ^ bits - 1
  pub enough : address < 2 ^ bits
  pub least : (fewer : ℕ) → address < 2 ^ fewer → bits ≤ fewer
