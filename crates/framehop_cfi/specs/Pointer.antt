-- Encoded pointers of the exception frame sections (LSB, "DWARF Exception Header Encoding").
use Rattle.std.specs.Prelude.{ℕ, ◌+◌, ◌/◌, ◌%◌, ◌^◌, List, Result, Ok, Err, ◌==◌, if◌then◌else◌}
use Rattle.framehop_bytes.specs.Bytes.{◌>>=◌}
use Rattle.framehop_cfi.specs.Numbers.{Parsed}
use Rattle.framehop_cfi.specs.Raw.{raw_at, format_of}
use Rattle.framehop_cfi.specs.PointerEncoding.{DW_EH_PE_absptr, DW_EH_PE_pcrel, DW_EH_PE_textrel, DW_EH_PE_datarel}
use Rattle.framehop_cfi.specs.declared.pointer.SectionBaseAddresses.{SectionBaseAddresses}
use Rattle.framehop_cfi.specs.declared.read_error.ReadError.{ReadError}
use Rattle.framehop_cfi.specs.declared.read_error.ReadError.TheVariants.{BadEncoding}

-- what a pointer at an offset counts from, by its application: nothing, its own address, the text, the data
abbrev pub base_of : SectionBaseAddresses → ℕ → ℕ → Result ℕ ReadError
base_of bases at application =
    if application == DW_EH_PE_absptr / 16 then Ok 0
    else (if application == DW_EH_PE_pcrel / 16 then Ok ((bases.section + at) % 2 ^ 64)
    else (if application == DW_EH_PE_textrel / 16 then Ok bases.text
    else (if application == DW_EH_PE_datarel / 16 then Ok bases.data
    else Err BadEncoding)))

-- an encoding's three bits above the format
abbrev pub application_of : ℕ → ℕ
application_of encoding = encoding / 16 % 8

-- an encoded pointer; sums are modulo 2^64
unfoldable pub pointer_at : SectionBaseAddresses → ℕ → List ℕ → ℕ → Parsed ℕ
pointer_at bases encoding bytes at = do
  base ← base_of bases at (application_of encoding)
  raw ← raw_at (format_of encoding) bytes at
  Ok ((base + raw.0) % 2 ^ 64, raw.1)
