-- The code of a process, and which of it a frame is in.
use Rattle.std.specs.Prelude.{ℕ, ◌-◌, Bool, false, not, ◌&&◌, ◌||◌, List, Option, is_none}
use Rattle.framehop_core.specs.CodeAddress.{FrameLocation, at_instruction_pointer, at_return_address}

-- so many bytes at an address, if they are known; the code from an address on, of which as many bytes are known as an
-- instruction has at most (15 on x86_64), or as there are; the word at an address that no process changes, if it is known;
-- whether an address lies in executable memory; whether a trampoline, to which the handlers of signals return, begins there;
-- where the function begins that has an address, if a symbol or an FDE tells that; and whether a process begins a few
-- instructions before it (Intel 64 and IA-32 Architectures Software Developer's Manual, volume 2, section 2.3.11)
pub record Code : Type 0 where
  pub bytes : ℕ → ℕ → Option (List ℕ)
  pub instruction : ℕ → List ℕ
  pub constant : ℕ → Option ℕ
  pub is_executable : ℕ → Bool
  pub is_trampoline : ℕ → Bool
  pub start_of : ℕ → Option ℕ
  pub is_entry : ℕ → Bool

-- A frame is in a trampoline: a handler returns to the first of its two instructions. An instruction pointer can also
-- be after either, four and eight bytes on (aarch64) or seven and nine (x86_64).
abbrev pub is_in_trampoline : Code → FrameLocation → Bool
is_in_trampoline code (at_return_address address) = code.is_trampoline address
is_in_trampoline code (at_instruction_pointer address) =
    code.is_trampoline address || code.is_trampoline (address - 4) || code.is_trampoline (address - 7)
    || code.is_trampoline (address - 8) || code.is_trampoline (address - 9)

-- a return address is in code: the call before it is, or else, as the first instruction of a trampoline, it itself
abbrev pub is_in_code : Code → ℕ → Bool
is_in_code code address = code.is_executable (address - 1) || code.is_executable address

-- nobody has the code before an address: it is executable, and its bytes are not known
abbrev pub is_unread : Code → ℕ → Bool
is_unread code address = code.is_executable (address - 1) && is_none (code.bytes (address - 1) 1)

-- an instruction pointer lies in no code: a call has just led there
abbrev pub is_outside_code : Code → FrameLocation → Bool
is_outside_code code (at_instruction_pointer address) = not (code.is_executable address)
is_outside_code code (at_return_address address) = false
