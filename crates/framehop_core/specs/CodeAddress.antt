-- The code address of a frame: which one it is, and where unwind information for it is looked up.
use Rattle.std.specs.Prelude.{ℕ, ◌-◌, Bool, true, false, not}
use Rattle.std.specs.Int.NonZero.{non_zero_u64_get}
use Rattle.framehop_core.specs.declared.code_address.FrameAddress.{FrameAddress}
use Rattle.framehop_core.specs.declared.code_address.FrameAddress.TheVariants.{InstructionPointer, ReturnAddress}

-- where a frame is: at its instruction pointer, or at the address to which its callee returns (AVMAs)
pub data FrameLocation : Type 0 where
  at_instruction_pointer : ℕ → FrameLocation
  at_return_address : ℕ → FrameLocation

-- the location of a frame address
abbrev pub location_of : FrameAddress → FrameLocation
location_of (InstructionPointer address) = at_instruction_pointer address
location_of (ReturnAddress address) = at_return_address (non_zero_u64_get address)

-- the raw address of a location
abbrev pub address_of : FrameLocation → ℕ
address_of (at_instruction_pointer address) = address
address_of (at_return_address address) = address

-- The address to look up: of a return address the byte before it, which lies inside the call instruction
-- (framehop 0.16.0, `FrameAddress::address_for_lookup`).
abbrev pub lookup_address : FrameLocation → ℕ
lookup_address (at_instruction_pointer address) = address
lookup_address (at_return_address address) = address - 1

-- whether the address is a return address
abbrev pub is_return_address : FrameLocation → Bool
is_return_address (at_instruction_pointer _) = false
is_return_address (at_return_address _) = true

-- the kind of a frame: only a frame at its instruction pointer is a first frame
abbrev pub is_first_frame : FrameLocation → Bool
is_first_frame location = not (is_return_address location)
