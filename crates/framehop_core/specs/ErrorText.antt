-- The text of an error (framehop 0.16.0, `Display` of `Error`).
use Rattle.std.specs.Prelude.{ℕ, false, List, ◌++◌, codes}
use Rattle.std.specs.Fmt.{digits}
use Rattle.framehop_core.specs.declared.error.Error.{Error}
use Rattle.framehop_core.specs.declared.error.Error.TheVariants.{CouldNotReadStack, FramepointerUnwindingMovedBackwards, DidNotAdvance, IntegerOverflow, ReturnAddressIsNull, OutOfMemory}

-- what an error prints, byte by byte; the address in lower-case hexadecimal (framehop 0.16.0, `Display` of `Error`)
abbrev pub error_text : Error → List ℕ
error_text (CouldNotReadStack address) = codes "Could not read stack memory at 0x" ++ digits 16 false address
error_text FramepointerUnwindingMovedBackwards = codes "Frame pointer unwinding moved backwards"
error_text DidNotAdvance = codes "Neither the code address nor the stack pointer changed, would loop"
error_text IntegerOverflow = codes "Unwinding caused integer overflow"
error_text ReturnAddressIsNull = codes "Return address is null"
error_text OutOfMemory = codes "Out of memory"
