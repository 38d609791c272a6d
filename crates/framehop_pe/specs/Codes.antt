-- The codes of unwind info (Microsoft, "x64 exception handling", struct UNWIND_CODE), and what undoes them.
use Rattle.std.specs.Prelude.{ℕ, zero, suc, ◌+◌, ◌-◌, ◌*◌, ◌/◌, ◌%◌, Bool, true, false, ◌==◌, nat_le, if◌then◌else◌, List, [], ◌∷◌, length, slice_index, Option, Some, None, option_map, option_and_then}
use Rattle.framehop_bytes.specs.ByCode.{by_code}
use Rattle.framehop_bytes.specs.Bytes.{le2, le4}
use Rattle.framehop_core.specs.declared.x86_64.unwindregs.Reg.{Reg}
use Rattle.framehop_core.specs.declared.x86_64.unwindregs.Reg.TheVariants.{RSP}
use Rattle.framehop_pe.specs.Register.{register_of}
use Rattle.framehop_pe.specs.declared.unwind_info.operation.UnwindCode.{UnwindCode}
use Rattle.framehop_pe.specs.declared.unwind_info.operation.UnwindOperation.{UnwindOperation}
use Rattle.framehop_pe.specs.declared.unwind_info.operation.UnwindOperation.TheVariants.{UnStackAlloc, PopNonVolatile, RestoreSp, Read, Skip, MachineFrame}

-- a code is one slot of two bytes; its number, if it has one, is in one or two slots more
abbrev pub slots : ℕ → ℕ
slots n = 2 * n

-- the operation of a code without a number, and the size of the code
abbrev pub plain : UnwindOperation → Option (UnwindOperation × ℕ)
plain operation = Some (operation, slots 1)

-- the number of a code, in one slot more or in two, if the bytes reach that far
abbrev pub short_at : List ℕ → Option ℕ
short_at bytes = if nat_le (slots 2) (length bytes) then Some (le2 bytes 2) else None

abbrev pub long_at : List ℕ → Option ℕ
long_at bytes = if nat_le (slots 3) (length bytes) then Some (le4 bytes 2) else None

-- an operation by that number, with how many bytes it takes
abbrev pub with_short : List ℕ → (ℕ → UnwindOperation) → Option (UnwindOperation × ℕ)
with_short bytes operation = option_map (λ number. (operation number, slots 2)) (short_at bytes)

abbrev pub with_long : List ℕ → (ℕ → UnwindOperation) → Option (UnwindOperation × ℕ)
with_long bytes operation = option_map (λ number. (operation number, slots 3)) (long_at bytes)

-- a register that a prolog may push or save: any but rsp
abbrev pub but_rsp : Reg → Option Reg
but_rsp RSP = None
but_rsp register = Some register

abbrev pub saved_register : ℕ → Option Reg
saved_register number = but_rsp (register_of number)

abbrev pub with_saved : ℕ → (Reg → Option (UnwindOperation × ℕ)) → Option (UnwindOperation × ℕ)
with_saved number operation = option_and_then operation (saved_register number)

-- UWOP_ALLOC_LARGE, by its info
abbrev pub large_allocation : ℕ → List ℕ → Option (UnwindOperation × ℕ)
large_allocation info bytes =
    if info == 0 then with_short bytes (λ number. UnStackAlloc (number * 8))
    else (if info == 1 then with_long bytes UnStackAlloc else None)

-- UWOP_PUSH_MACHFRAME, by its info: with an error code, or without one
abbrev pub machine_frame : ℕ → Option (UnwindOperation × ℕ)
machine_frame info =
    if info == 0 then plain (MachineFrame false) else (if info == 1 then plain (MachineFrame true) else None)

-- The table, by the code's number (UWOP_..) and its info, in unwind info with a frame register (`true`) or without one:
-- the operation, and the size of the code in bytes.
unfoldable pub operation_at : Bool → ℕ → ℕ → List ℕ → Option (UnwindOperation × ℕ)
operation_at has_frame code info bytes =
    by_code code (
    (0, with_saved info (λ register. plain (PopNonVolatile register)))
    ∷ (1, large_allocation info bytes)
    ∷ (2, plain (UnStackAlloc (info * 8 + 8)))
    ∷ (3, if has_frame then plain RestoreSp else None)
    ∷ (4, with_saved info (λ register. with_short bytes (λ number. Read register (number * 8))))
    ∷ (5, with_saved info (λ register. with_long bytes (Read register)))
    ∷ (8, with_short bytes (λ _. Skip))
    ∷ (9, with_long bytes (λ _. Skip))
    ∷ (10, machine_frame info)
    ∷ []) None

-- the code at the front of bytes, and its size: an offset, and a byte of number and info
unfoldable pub unwind_code_at : Bool → List ℕ → Option (UnwindCode × ℕ)
unwind_code_at has_frame bytes =
    if nat_le (slots 1) (length bytes) then
    option_map (λ found. (record { offset_in_prolog = slice_index bytes 0; operation = found.0 }, found.1))
    (operation_at has_frame (slice_index bytes 1 % 16) (slice_index bytes 1 / 16) bytes)
    else None

-- what reading one code gives, before what follows it: its list ends where no code is read, and then it is not whole
abbrev pub and_codes : Option (UnwindCode × ℕ) → (ℕ → List UnwindCode × Bool) → List UnwindCode × Bool
and_codes None next = ([], false)
and_codes (Some (code, size)) next = (code ∷ (next size).0, (next size).1)

-- The codes at the front of bytes, and whether they are all that the bytes hold. The number is that of bytes which
-- belong to a code that has been read.
unfoldable pub read_codes : Bool → ℕ → List ℕ → List UnwindCode × Bool
read_codes has_frame skipped [] = ([], true)
read_codes has_frame (suc skipped) (byte ∷ bytes) = read_codes has_frame skipped bytes
read_codes has_frame zero (byte ∷ bytes) =
    and_codes (unwind_code_at has_frame (byte ∷ bytes)) (λ size. read_codes has_frame (size - 1) bytes)
