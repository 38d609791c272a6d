-- What is printed of why a PE file can't be read.
use Rattle.std.specs.Prelude.{ℕ, List, ◌++◌, codes}
use Rattle.std.specs.Fmt.{decimal}
use Rattle.framehop_object.specs.declared.pe.error.PeError.{PeError}
use Rattle.framehop_object.specs.declared.pe.error.PeError.TheVariants.{Eof, NotPe, NotPe32Plus, ShortOptionalHeader, NotInSection, OutOfMemory}

-- offsets, in bytes from the start of the file, and addresses are decimal
unfoldable pub pe_error_text : PeError → List ℕ
pe_error_text (Eof offset) = codes "the file ends before what is to be read at offset " ++ decimal offset
pe_error_text (NotPe offset) = codes "not a PE file: offset " ++ decimal offset
pe_error_text (NotPe32Plus offset) = codes "not a 64-bit PE file: offset " ++ decimal offset
pe_error_text (ShortOptionalHeader offset) = codes "an optional header of an unknown size: offset " ++ decimal offset
pe_error_text (NotInSection rva) = codes "no section has the bytes at the RVA " ++ decimal rva
pe_error_text OutOfMemory = codes "out of memory"
