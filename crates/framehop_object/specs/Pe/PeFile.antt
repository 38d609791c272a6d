-- A PE file with its sections ("PE Format").
use Rattle.std.specs.Prelude.{ℕ, List, Result, Ok}
use Rattle.framehop_bytes.specs.Bytes.{◌>>=◌}
use Rattle.framehop_object.specs.Pe.Header.{file_header_of}
use Rattle.framehop_object.specs.Pe.SectionHeader.{section_headers_of}
use Rattle.framehop_object.specs.declared.pe.error.PeError.{PeError}
use Rattle.framehop_object.specs.declared.pe.header.FileHeader.{FileHeader}
use Rattle.framehop_object.specs.declared.pe.section_header.SectionHeader.{SectionHeader}

-- the bytes of a file, its header, and its sections
pub record PeFile : Type 0 where
  pub bytes : List ℕ
  pub header : FileHeader
  pub sections : List SectionHeader

-- the file of these bytes, or the first refusal
unfoldable pub pe_file_of : List ℕ → Result PeFile PeError
pe_file_of bytes = do
  header ← file_header_of bytes
  sections ← section_headers_of bytes header
  Ok (record { bytes = bytes; header = header; sections = sections })
