-- What the trait `Sources` asks for: on aarch64 the code of a function with info gives what its analysis finds.
use Rattle.std.specs.Prelude.{◌≡◌, ℕ, ◌==◌, Bool, true, false, not, List, None, if◌then◌else◌}
use Rattle.std.proofs.Common.{refl}
use Rattle.framehop_core.specs.Bits.{bits_at}
use Rattle.framehop_analysis.specs.Aarch64.Analysed.{analysed}
use Rattle.framehop_macho.specs.Aarch64.{analysed_with, by_code, opcode_of}
use Rattle.framehop_macho.specs.declared.aarch64.opcode.OpcodeArm64.TheVariants.{Null, Frameless, Dwarf, FrameBased, UnrecognizedKind}
use Rattle.framehop_macho.specs.declared.unwind_info.info.Function.{Function}
use Rattle.framehop_explain.specs.Analysed.{is_analysed}

-- by the tests of the mode
by-tests : (null two three four : Bool) (size fde kind : ℕ) (code : List ℕ) (offset : ℕ)
    → analysed_with (if null then Null
    else (if two then Frameless size
    else (if three then Dwarf fde
    else (if four then FrameBased
    else UnrecognizedKind kind)))) code offset
    ≡ (if not null then analysed code offset else None)
by-tests true two three four size fde kind code offset = refl
by-tests false true three four size fde kind code offset = refl
by-tests false false true four size fde kind code offset = refl
by-tests false false false true size fde kind code offset = refl
by-tests false false false false size fde kind code offset = refl

pub by_code-is : (function : Function) (code : List ℕ) (offset : ℕ)
    → by_code function code offset ≡ (if is_analysed function.opcode then analysed code offset else None)
unfolding is_analysed opcode_of
by_code-is function code offset =
    let mode = bits_at function.opcode 24 4 in
    by-tests (mode == 0) (mode == 2) (mode == 3) (mode == 4) (bits_at function.opcode 12 12) (bits_at function.opcode 0 24) mode code offset
