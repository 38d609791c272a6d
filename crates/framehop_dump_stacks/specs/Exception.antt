-- The exceptions of Windows (winnt.h, ntstatus.h; EXCEPTION_RECORD of winnt.h says what ExceptionInformation has).
use Rattle.std.specs.Prelude.{ℕ, List, [], ◌∷◌, ◌++◌, codes, ◌==◌, Option, Some, None, if◌then◌else◌}
use Rattle.std.specs.Fmt.{decimal}
use Rattle.framehop_frames.specs.Line.{hexadecimal}
use Rattle.framehop_dump_stacks.specs.Signal.{name_in, named}
use Rattle.framehop_dumps.specs.declared.dump.Access.{Access}
use Rattle.framehop_dumps.specs.declared.dump.Exception.{Exception}

-- their names
abbrev pub exceptions : List (ℕ × List ℕ)
exceptions =
    (0x40010005, codes "DBG_CONTROL_C") ∷
    (0x40010008, codes "DBG_CONTROL_BREAK") ∷
    (0x80000001, codes "EXCEPTION_GUARD_PAGE") ∷
    (0x80000002, codes "EXCEPTION_DATATYPE_MISALIGNMENT") ∷
    (0x80000003, codes "EXCEPTION_BREAKPOINT") ∷
    (0x80000004, codes "EXCEPTION_SINGLE_STEP") ∷
    (0xc0000005, codes "EXCEPTION_ACCESS_VIOLATION") ∷
    (0xc0000006, codes "EXCEPTION_IN_PAGE_ERROR") ∷
    (0xc0000008, codes "EXCEPTION_INVALID_HANDLE") ∷
    (0xc000001d, codes "EXCEPTION_ILLEGAL_INSTRUCTION") ∷
    (0xc0000025, codes "EXCEPTION_NONCONTINUABLE_EXCEPTION") ∷
    (0xc0000026, codes "EXCEPTION_INVALID_DISPOSITION") ∷
    (0xc000008c, codes "EXCEPTION_ARRAY_BOUNDS_EXCEEDED") ∷
    (0xc000008d, codes "EXCEPTION_FLT_DENORMAL_OPERAND") ∷
    (0xc000008e, codes "EXCEPTION_FLT_DIVIDE_BY_ZERO") ∷
    (0xc000008f, codes "EXCEPTION_FLT_INEXACT_RESULT") ∷
    (0xc0000090, codes "EXCEPTION_FLT_INVALID_OPERATION") ∷
    (0xc0000091, codes "EXCEPTION_FLT_OVERFLOW") ∷
    (0xc0000092, codes "EXCEPTION_FLT_STACK_CHECK") ∷
    (0xc0000093, codes "EXCEPTION_FLT_UNDERFLOW") ∷
    (0xc0000094, codes "EXCEPTION_INT_DIVIDE_BY_ZERO") ∷
    (0xc0000095, codes "EXCEPTION_INT_OVERFLOW") ∷
    (0xc0000096, codes "EXCEPTION_PRIV_INSTRUCTION") ∷
    (0xc00000fd, codes "EXCEPTION_STACK_OVERFLOW") ∷
    (0xc0000135, codes "STATUS_DLL_NOT_FOUND") ∷
    (0xc0000194, codes "EXCEPTION_POSSIBLE_DEADLOCK") ∷
    (0xc0000374, codes "STATUS_HEAP_CORRUPTION") ∷
    (0xc0000409, codes "STATUS_STACK_BUFFER_OVERRUN") ∷
    (0xc0000420, codes "STATUS_ASSERTION_FAILURE") ∷
    (0xc0000602, codes "STATUS_FAIL_FAST_EXCEPTION") ∷ []

abbrev pub exception_name : ℕ → Option (List ℕ)
exception_name code = name_in exceptions code

-- one without a name
abbrev pub unnamed_exception : ℕ → List ℕ
unnamed_exception code = codes "exception 0x" ++ hexadecimal code

-- which access to memory failed
abbrev pub access_kind : ℕ → List ℕ
access_kind kind =
    if kind == 0 then codes "read"
    else if kind == 1 then codes "write"
    else if kind == 8 then codes "execution"
    else (codes "access " ++ decimal kind)

-- the access with its address
abbrev pub access_text : Access → List ℕ
access_text access = access_kind access.kind ++ codes " of 0x" ++ hexadecimal access.address

-- the same, or else the address of the instruction
abbrev pub where_text : ℕ → Option Access → List ℕ
where_text address None = codes " (at 0x" ++ hexadecimal address ++ codes ")"
where_text address (Some access) = codes " (" ++ access_text access ++ codes ")"

abbrev pub exception_text : Exception → List ℕ
exception_text exception =
    named (exception_name exception.code) (unnamed_exception exception.code) ++ where_text exception.address exception.access
