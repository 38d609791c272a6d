-- Which refusals a reader of numbers and pointers answers.
use Rattle.framehop_cfi.specs.declared.read_error.ReadError.{ReadError}
use Rattle.framehop_cfi.specs.declared.read_error.ReadError.TheVariants.{Eof, BadLeb, BadEncoding, BadLength, NotCie, NotFde, UnknownVersion, UnknownAugmentation, UnknownInstruction, InvalidContext, NumberTooBig, NoRow, TooManyRules, TooManyRows, NothingRemembered, OutOfMemory}

-- the bytes end, a LEB128 number is too long or too big, or an encoding is not known
abbrev pub IsSliceRefusal : ReadError → Type 0
IsSliceRefusal Eof = Unit {0}
IsSliceRefusal BadLeb = Unit {0}
IsSliceRefusal BadEncoding = Unit {0}
IsSliceRefusal BadLength = ⊥
IsSliceRefusal NotCie = ⊥
IsSliceRefusal NotFde = ⊥
IsSliceRefusal UnknownVersion = ⊥
IsSliceRefusal UnknownAugmentation = ⊥
IsSliceRefusal UnknownInstruction = ⊥
IsSliceRefusal InvalidContext = ⊥
IsSliceRefusal NumberTooBig = ⊥
IsSliceRefusal NoRow = ⊥
IsSliceRefusal TooManyRules = ⊥
IsSliceRefusal TooManyRows = ⊥
IsSliceRefusal NothingRemembered = ⊥
IsSliceRefusal OutOfMemory = ⊥
