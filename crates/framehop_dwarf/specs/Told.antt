-- What a row's unwinding has answered, against what it was to be.
use Rattle.std.specs.Prelude.{ℕ, ◌≡◌, ◌≢◌, Result, Ok, Err}
use Rattle.framehop_core.specs.declared.unwind_result.UnwindResult.{UnwindResult}
use Rattle.framehop_core.specs.declared.unwind_result.UnwindResult.TheVariants.{ExecRule, Uncacheable}
use Rattle.framehop_cfi.specs.declared.read_error.ReadError.TheVariants.{OutOfMemory}
use Rattle.framehop_cfi.specs.declared.dwarf_error.DwarfUnwinderError.{DwarfUnwinderError}
use Rattle.framehop_cfi.specs.declared.dwarf_error.DwarfUnwinderError.TheVariants.{FdeFromOffsetFailed, UnwindInfoForAddressFailed, StackPointerMovedBackwards, DidNotAdvance, CouldNotRecoverCfa, CouldNotRecoverReturnAddress, CouldNotRecoverFramePointer}

-- out of memory
abbrev pub out_of_memory : DwarfUnwinderError
out_of_memory = UnwindInfoForAddressFailed OutOfMemory

-- the refusals of values that are computed on the spot: one can't be had, or memory ran out
abbrev pub IsOfValues : DwarfUnwinderError → Type 0
IsOfValues (FdeFromOffsetFailed error) = ⊥
IsOfValues (UnwindInfoForAddressFailed error) = error ≡ OutOfMemory
IsOfValues StackPointerMovedBackwards = Unit {0}
IsOfValues DidNotAdvance = Unit {0}
IsOfValues CouldNotRecoverCfa = Unit {0}
IsOfValues CouldNotRecoverReturnAddress = Unit {0}
IsOfValues CouldNotRecoverFramePointer = Unit {0}

-- the refusals that come before the stack is read
abbrev pub NeedsNoStack : DwarfUnwinderError → Type 0
NeedsNoStack (FdeFromOffsetFailed error) = Unit {0}
NeedsNoStack (UnwindInfoForAddressFailed error) = ⊥
NeedsNoStack StackPointerMovedBackwards = ⊥
NeedsNoStack DidNotAdvance = ⊥
NeedsNoStack CouldNotRecoverCfa = Unit {0}
NeedsNoStack CouldNotRecoverReturnAddress = ⊥
NeedsNoStack CouldNotRecoverFramePointer = ⊥

-- an address and the registers are the direct result; a refusal is that of the direct result, unless memory ran out
abbrev pub TellsDirect : {R S : Type 0} → Result (ℕ × S) DwarfUnwinderError
    → Result (UnwindResult R) DwarfUnwinderError → S → Type 0
TellsDirect wanted (Ok (ExecRule rule)) new = Unit {0}
TellsDirect wanted (Ok (Uncacheable address)) new = wanted ≡ Ok (address, new)
TellsDirect wanted (Err error) new = error ≢ out_of_memory → wanted ≡ Err error

-- the same for the direct path by itself
abbrev pub Has : {S : Type 0} → Result (ℕ × S) DwarfUnwinderError → Result ℕ DwarfUnwinderError → S → Type 0
Has wanted (Ok address) new = wanted ≡ Ok (address, new)
Has wanted (Err error) new = error ≢ out_of_memory → wanted ≡ Err error
