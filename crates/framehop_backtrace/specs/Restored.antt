-- Registers of x86_64 that a function has restored before it returns.
-- (System V ABI for AMD64, figure 3.4: rbx, rbp and r12 to r15 belong to the calling function.)
use Rattle.std.specs.Prelude.{ℕ, Bool, ◌&&◌, is_some, if◌then◌else◌, List, Option, Some, None}
use Rattle.framehop_cfi.specs.X86_64.{RBX, RBP, RSP, R12, R15, RA}
use Rattle.framehop_callers.specs.Caller.{is_same}
use Rattle.framehop_callers.specs.Run.{caller_by_runs}
use Rattle.framehop_callers.specs.Step.{Source as RunSource}
use Rattle.framehop_callers.specs.declared.run.RunCaller.{RunCaller}
use Rattle.framehop_backtrace.specs.Columns.{column, with_column}

-- the first of two words that is known
abbrev pub known_first : Option ℕ → Option ℕ → Option ℕ
known_first (Some word) other = Some word
known_first None other = other

-- the registers are known that a function restores
abbrev pub knows_kept : List (Option ℕ) → Bool
knows_kept columns =
    is_some (column columns RBX) && (is_some (column columns RBP) && (is_some (column columns R12)
    && (is_some (column columns 13) && (is_some (column columns 14) && is_some (column columns R15)))))

-- a caller's registers with what a run knows of one of them, where that isn't known
abbrev pub with_kept : List (Option ℕ) → ℕ → List (Option ℕ) → List (Option ℕ)
with_kept run at columns = with_column columns at (known_first (column columns at) (column run at))

-- the same of all that a function restores
abbrev pub restored_by : List (Option ℕ) → List (Option ℕ) → List (Option ℕ)
restored_by run columns =
    with_kept run R15 (with_kept run 14 (with_kept run 13 (with_kept run R12 (with_kept run RBP (with_kept run RBX columns)))))

-- a run comes to a caller: to its return address and its stack pointer
abbrev pub comes_to : List (Option ℕ) → List (Option ℕ) → Bool
comes_to columns run = is_same (column columns RA) (column run RA) && is_same (column columns RSP) (column run RSP)

abbrev pub restored_in : List (Option ℕ) → Option RunCaller → List (Option ℕ)
restored_in columns (Some caller) = if comes_to columns caller.registers then restored_by caller.registers columns else columns
restored_in columns None = columns

-- A caller's registers by a row, with those that the row leaves unknown although a function restores them: as the
-- frame's code, run from an address on over its registers, leaves them at its return. After a `pop` a row still has the
-- register in the word below the stack pointer, where there may be no memory.
abbrev pub with_restored : RunSource → ℕ → List (Option ℕ) → List (Option ℕ) → List (Option ℕ)
with_restored source address registers columns =
    if knows_kept columns then columns else restored_in columns (caller_by_runs source address registers)

-- ---- all that a run knows

-- a caller's registers with what a run knows of those that are unknown
abbrev pub completed_by : List (Option ℕ) → List (Option ℕ) → List (Option ℕ)
completed_by run columns =
    with_kept run 11 (with_kept run 10 (with_kept run 9 (with_kept run 8 (with_kept run 5 (with_kept run 4 (with_kept run 2
    (with_kept run 1 (with_kept run 0 (restored_by run columns)))))))))

abbrev pub completed_in : List (Option ℕ) → Option RunCaller → List (Option ℕ)
completed_in columns (Some caller) = if comes_to columns caller.registers then completed_by caller.registers columns else columns
completed_in columns None = columns

-- A caller's registers, with all that is known of them where the frame's code, run from an address on over its
-- registers, comes to this caller.
abbrev pub with_completed : RunSource → ℕ → List (Option ℕ) → List (Option ℕ) → List (Option ℕ)
with_completed source address registers columns = completed_in columns (caller_by_runs source address registers)
