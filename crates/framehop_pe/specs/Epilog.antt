-- Epilogs (Microsoft, "x64 exception handling", "Epilog code"; encodings from Intel's manual, volume 2).
use Rattle.std.specs.Prelude.{ℕ, zero, suc, ◌+◌, ◌-◌, ◌/◌, ◌%◌, ℤ, pos, negsuc, ◌+ℤ◌, Bool, true, false, ◌==◌, ◌&&◌, nat_le, nat_lt, if◌then◌else◌, List, [], ◌∷◌, ◌++◌, length, drop, map, slice_index, option_to_list, Option, Some, None}
use Rattle.std.specs.Int.{cast_signed, w8, w32}
use Rattle.std.specs.Option.{option_or}
use Rattle.framehop_bytes.specs.Bytes.{le4}
use Rattle.framehop_core.specs.declared.x86_64.unwindregs.Reg.{Reg}
use Rattle.framehop_core.specs.X86_64.RuleOfOperations.{register_eq}
use Rattle.framehop_pe.specs.Register.{register_of}
use Rattle.framehop_pe.specs.declared.unwind_info.epilog.FunctionEpilogInstruction.{FunctionEpilogInstruction}
use Rattle.framehop_pe.specs.declared.unwind_info.epilog.FunctionEpilogInstruction.TheVariants.{AddSP, AddSPFromFP, Pop}

-- an instruction, and its size in bytes
abbrev pub Sized : Type 0
Sized = FunctionEpilogInstruction × ℕ

-- a byte
abbrev pub byte : List ℕ → ℕ → ℕ
byte bytes at = slice_index bytes at

-- ---- the release of the stack

-- `add rsp, imm8` and `add rsp, imm32`, from the number on, which is not negative
abbrev pub short_add_at : List ℕ → Option Sized
short_add_at number =
    if nat_le 1 (length number) && nat_lt (byte number 0) 0x80 then Some (AddSP (byte number 0), 4) else None

abbrev pub long_add_at : List ℕ → Option Sized
long_add_at number =
    if nat_le 4 (length number) && nat_lt (le4 number 0) 0x8000_0000 then Some (AddSP (le4 number 0), 7) else None

-- `48 83 C4 ib` and `48 81 C4 id`
unfoldable pub add_at : List ℕ → Option Sized
add_at bytes =
    if nat_le 3 (length bytes) && (byte bytes 0 == 0x48) && (byte bytes 2 == 0xC4) then
    (if byte bytes 1 == 0x83 then short_add_at (drop 3 bytes)
    else (if byte bytes 1 == 0x81 then long_add_at (drop 3 bytes)
    else None))
    else None

-- this register is the frame register
abbrev pub is_register : Option Reg → Reg → Bool
is_register None register = false
is_register (Some frame) register = register_eq frame register

-- the displacement of `lea rsp`, by the high five bits of the ModRM byte: rsp is set, and one byte or four follow
abbrev pub displaced_at : ℕ → List ℕ → ℕ → Option Sized
displaced_at mode bytes size =
    if mode == 0x0C then
    (if nat_le 1 (length bytes) then Some (AddSPFromFP (cast_signed w8 (byte bytes 0)), size + 1) else None)
    else (if mode == 0x14 then
    (if nat_le 4 (length bytes) then Some (AddSPFromFP (cast_signed w32 (le4 bytes 0)), size + 4) else None)
    else None)

-- `lea rsp` from the register of a number, whose low three bits the ModRM byte has; where they are 4 a SIB byte follows
abbrev pub lea_from : Option Reg → ℕ → ℕ → List ℕ → Option Sized
lea_from frame number modrm bytes =
    if is_register frame (register_of number) then
    (if modrm % 8 == 4 then
    (if nat_le 1 (length bytes) && (byte bytes 0 == 0x24) then displaced_at (modrm / 8) (drop 1 bytes) 4 else None)
    else displaced_at (modrm / 8) bytes 3)
    else None

-- `48 8D` and `49 8D`, of the low and the high registers
unfoldable pub lea_at : Option Reg → List ℕ → Option Sized
lea_at frame bytes =
    if nat_le 3 (length bytes) && (byte bytes 1 == 0x8D) then
    (if byte bytes 0 == 0x48 then lea_from frame (byte bytes 2 % 8) (byte bytes 2) (drop 3 bytes)
    else (if byte bytes 0 == 0x49 then lea_from frame (byte bytes 2 % 8 + 8) (byte bytes 2) (drop 3 bytes)
    else None))
    else None

-- an instruction that releases the stack, at the front of bytes
abbrev pub instruction_at : Option Reg → List ℕ → Option Sized
instruction_at frame bytes = option_or (add_at bytes) (lea_at frame bytes)

-- what is read of it, and the bytes after it
abbrev pub after_read : Option Sized → List ℕ → Option FunctionEpilogInstruction × List ℕ
after_read None bytes = (None, bytes)
after_read (Some (instruction, size)) bytes = (Some instruction, drop size bytes)

abbrev pub release_at : Option Reg → List ℕ → Option FunctionEpilogInstruction × List ℕ
release_at frame bytes = after_read (instruction_at frame bytes) bytes

-- ---- pops

-- the opcode of a pop
abbrev pub is_pop : ℕ → Bool
is_pop opcode = nat_le 0x58 opcode && nat_le opcode 0x5F

-- a pop of r8 to r15, after the prefix 41
abbrev pub high_pop_at : List ℕ → Option (Reg × ℕ)
high_pop_at bytes =
    if nat_le 1 (length bytes) && is_pop (byte bytes 0)
    then Some (register_of (byte bytes 0 - 0x50), 2) else None

-- `58` to `5F` but `5C`, which is rsp, and `41 58` to `41 5F`: the register and the size
unfoldable pub pop_at : List ℕ → Option (Reg × ℕ)
pop_at bytes =
    if nat_le 1 (length bytes) then
    (if byte bytes 0 == 0x5C then None
    else (if nat_le 0x58 (byte bytes 0) && nat_le (byte bytes 0) 0x5F then Some (register_of (byte bytes 0 - 0x58), 1)
    else (if byte bytes 0 == 0x41 then high_pop_at (drop 1 bytes)
    else None)))
    else None

-- what reading one pop gives, before what follows it
abbrev pub and_pops : List ℕ → Option (Reg × ℕ) → (ℕ → List Reg × List ℕ) → List Reg × List ℕ
and_pops bytes None next = ([], bytes)
and_pops bytes (Some (register, size)) next = (register ∷ (next size).0, (next size).1)

-- The registers popped at the front of bytes, and the bytes after the pops. The number is that of bytes which belong to
-- a pop that has been read.
unfoldable pub pops_in : ℕ → List ℕ → List Reg × List ℕ
pops_in skipped [] = ([], [])
pops_in (suc skipped) (byte ∷ bytes) = pops_in skipped bytes
pops_in zero (byte ∷ bytes) = and_pops (byte ∷ bytes) (pop_at (byte ∷ bytes)) (λ size. pops_in (size - 1) bytes)

-- ---- the end

-- the target of a jump of this size and displacement, counted from the function's begin: so many bytes are left from
-- the jump to the function's end
abbrev pub target_of : ℕ → ℕ → ℤ → ℤ → ℤ
target_of function_size left size displacement = (pos (function_size - left) +ℤ size) +ℤ displacement

-- below the function's begin, or from its end on
abbrev pub is_outside : ℕ → ℤ → Bool
is_outside function_size (negsuc _) = true
is_outside function_size (pos target) = nat_le function_size target

-- a jump by 32 bits, and one by 8 bits, to outside of the function
abbrev pub is_near_jump_outside : ℕ → ℕ → List ℕ → Bool
is_near_jump_outside function_size left bytes =
    nat_le 4 (length bytes)
    && is_outside function_size (target_of function_size left (pos 5) (cast_signed w32 (le4 bytes 0)))

abbrev pub is_short_jump_outside : ℕ → ℕ → List ℕ → Bool
is_short_jump_outside function_size left bytes =
    nat_le 1 (length bytes)
    && is_outside function_size (target_of function_size left (pos 2) (cast_signed w8 (byte bytes 0)))

-- ret after its prefix
abbrev pub is_return : List ℕ → Bool
is_return bytes = nat_le 1 (length bytes) && (byte bytes 0 == 0xC3)

-- the ModRM byte of a jump through memory: mod 0 and reg 4
abbrev pub is_indirect_jump : List ℕ → Bool
is_indirect_jump bytes = nat_le 1 (length bytes) && (byte bytes 0 / 8 == 4)

-- the same after REX.W
abbrev pub is_wide_indirect_jump : List ℕ → Bool
is_wide_indirect_jump bytes = nat_le 1 (length bytes) && (byte bytes 0 == 0xFF) && is_indirect_jump (drop 1 bytes)

-- An instruction that leaves the function, at the front of the bytes up to the function's end: `C3`, `F3 C3`; `FF` or
-- `48 FF` with a ModRM byte of a jump; `E9 cd` and `EB cb` to a target outside the function.
unfoldable pub is_end : ℕ → List ℕ → Bool
is_end function_size bytes =
    if nat_le 1 (length bytes) then
    (if byte bytes 0 == 0xC3 then true
    else (if byte bytes 0 == 0xF3 then is_return (drop 1 bytes)
    else (if byte bytes 0 == 0xFF then is_indirect_jump (drop 1 bytes)
    else (if byte bytes 0 == 0x48 then is_wide_indirect_jump (drop 1 bytes)
    else (if byte bytes 0 == 0xE9 then is_near_jump_outside function_size (length bytes) (drop 1 bytes)
    else (if byte bytes 0 == 0xEB then is_short_jump_outside function_size (length bytes) (drop 1 bytes)
    else false))))))
    else false

-- ---- what is left of an epilog

-- the instructions of a release and of pops
abbrev pub instructions_of : Option FunctionEpilogInstruction → List Reg → List FunctionEpilogInstruction
instructions_of release pops = option_to_list release ++ map Pop pops

-- A front of the bytes up to the function's end: a release of the stack or none, pops, and an instruction that leaves
-- the function. The instructions but for the last one, or none where the bytes are no epilog.
unfoldable pub epilog_of : Option Reg → ℕ → List ℕ → Option (List FunctionEpilogInstruction)
epilog_of frame function_size bytes =
    let release = release_at frame bytes in
    let pops = pops_in 0 release.1 in
    if is_end function_size pops.1 then Some (instructions_of release.0 pops.0) else None
