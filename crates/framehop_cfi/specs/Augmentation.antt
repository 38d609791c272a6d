-- The augmentation of a CIE (LSB, ".eh_frame"; DWARF 5 section 6.4.1).
use Rattle.std.specs.Prelude.{ℕ, ◌+◌, List, [], ◌∷◌, length, take, drop, position, true, false, Option, Some, None, Result, Ok, Err, ◌==◌, ◌||◌, nat_le, if◌then◌else◌}
use Rattle.framehop_bytes.specs.Bytes.{◌>>=◌}
use Rattle.framehop_cfi.specs.Numbers.{Parsed, u8_at}
use Rattle.framehop_cfi.specs.Leb128.{uleb_at}
use Rattle.framehop_cfi.specs.Pointer.{pointer_at}
use Rattle.framehop_cfi.specs.PointerEncoding.{DW_EH_PE_omit}
use Rattle.framehop_cfi.specs.declared.augmentation.Augmentation.{Augmentation}
use Rattle.framehop_cfi.specs.declared.pointer.SectionBaseAddresses.{SectionBaseAddresses}
use Rattle.framehop_cfi.specs.declared.read_error.ReadError.{ReadError}
use Rattle.framehop_cfi.specs.declared.read_error.ReadError.TheVariants.{Eof, UnknownAugmentation}

-- where the zero byte stands that ends a text
abbrev pub found_at : ℕ → Option ℕ → Result ℕ ReadError
found_at at (Some n) = Ok (at + n)
found_at at None = Err Eof

unfoldable pub terminator_at : List ℕ → ℕ → Result ℕ ReadError
terminator_at bytes at = found_at at (position (λ byte. byte == 0) (drop at bytes))

-- the place after so many bytes of data, whose count stands before them
unfoldable pub counted_at : List ℕ → ℕ → Parsed ℕ
counted_at bytes at = do
  count ← uleb_at bytes at
  if nat_le (count.1 + count.0) (length bytes) then Ok (count.1, count.1 + count.0) else Err Eof

-- this value, with the place after something that is read past
abbrev pub unchanged_after : {A : Type 0} → ℕ → Parsed A → Parsed ℕ
unchanged_after value reading = reading >>= λ read. Ok (value, read.1)

-- a personality routine's encoding and pointer; encoding FF has no pointer
unfoldable pub personality_at : SectionBaseAddresses → List ℕ → ℕ → Parsed ℕ
personality_at bases bytes at = do
  encoding ← u8_at bytes at
  if encoding.0 == DW_EH_PE_omit then Ok (0, encoding.1) else pointer_at bases encoding.0 bytes encoding.1

-- one letter of an augmentation text: the pointer encoding of the FDEs after it, and the place after its data
abbrev pub letter_at : SectionBaseAddresses → ℕ → List ℕ → ℕ → ℕ → Parsed ℕ
letter_at bases letter bytes at encoding =
    if letter == 82 then u8_at bytes at
    else (if letter == 76 then unchanged_after encoding (u8_at bytes at)
    else (if letter == 80 then unchanged_after encoding (personality_at bases bytes at)
    else (if (letter == 83) || (letter == 66) || (letter == 71) then Ok (encoding, at)
    else Err UnknownAugmentation)))

-- the letters one after another: the pointer encoding that they leave
abbrev pub letters_at : SectionBaseAddresses → List ℕ → List ℕ → ℕ → ℕ → Result ℕ ReadError
letters_at bases [] bytes at encoding = Ok encoding
letters_at bases (letter ∷ letters) bytes at encoding =
    letter_at bases letter bytes at encoding >>= λ read. letters_at bases letters bytes read.1 read.0

-- an empty text has no data; another begins with `z`, and its data has a count
unfoldable pub augmentation_data : SectionBaseAddresses → List ℕ → List ℕ → ℕ → Result Augmentation ReadError
augmentation_data bases letters bytes at = do
  place ← counted_at bytes at
  encoding ← letters_at bases letters (take place.1 bytes) place.0 0
  Ok (record { encoding = encoding; has_data = true; after_data = place.1 })

-- the augmentation of a text: with an empty one all encodings are 0
abbrev pub augmentation_at : SectionBaseAddresses → List ℕ → List ℕ → ℕ → Result Augmentation ReadError
augmentation_at bases [] bytes at = Ok (record { encoding = 0; has_data = false; after_data = at })
augmentation_at bases (first ∷ letters) bytes at =
    if first == 122 then augmentation_data bases letters bytes at else Err UnknownAugmentation
