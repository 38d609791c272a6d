-- The two kinds of entries of a call frame section (DWARF 5 section 6.4.1; LSB, ".eh_frame").
use Rattle.std.specs.Prelude.{ℕ, ◌+◌, ◌-◌, List, take, slice_range, Bool, true, false, Result, Ok, Err, ◌==◌, ◌||◌, nat_le, if◌then◌else◌}
use Rattle.framehop_bytes.specs.Bytes.{◌>>=◌}
use Rattle.framehop_cfi.specs.Numbers.{Parsed, u8_at, u32_at, u64_at}
use Rattle.framehop_cfi.specs.Leb128.{uleb_at, sleb_at}
use Rattle.framehop_cfi.specs.Raw.{raw_at, format_of}
use Rattle.framehop_cfi.specs.Augmentation.{terminator_at, counted_at, augmentation_at}
use Rattle.framehop_cfi.specs.Pointer.{pointer_at}
use Rattle.framehop_cfi.specs.PointerEncoding.{DW_EH_PE_indirect}
use Rattle.framehop_cfi.specs.EntryExtent.{extent_at, is_zero_length}
use Rattle.framehop_cfi.specs.Section.{Section}
use Rattle.framehop_cfi.specs.declared.extent.EntryExtent.{EntryExtent}
use Rattle.framehop_cfi.specs.declared.pointer.SectionBaseAddresses.{SectionBaseAddresses}
use Rattle.framehop_cfi.specs.declared.entry.UnwindSectionType.{UnwindSectionType}
use Rattle.framehop_cfi.specs.declared.entry.UnwindSectionType.TheVariants.{EhFrame, DebugFrame}
use Rattle.framehop_cfi.specs.declared.entry.EntryHead.{EntryHead}
use Rattle.framehop_cfi.specs.declared.entry.EntryHead.TheVariants.{ZeroLength, Cie, Fde}
use Rattle.framehop_cfi.specs.declared.entry.CommonInformationEntry.{CommonInformationEntry}
use Rattle.framehop_cfi.specs.declared.entry.FrameDescriptionEntry.{FrameDescriptionEntry}
use Rattle.framehop_cfi.specs.declared.read_error.ReadError.{ReadError}
use Rattle.framehop_cfi.specs.declared.read_error.ReadError.TheVariants.{BadEncoding, NotCie, NotFde, UnknownVersion, NumberTooBig}

-- In `.eh_frame` a CIE's id is 0 in 4 bytes, and an FDE's CIE lies so many bytes before the field.
unfoldable pub eh_frame_id : List ℕ → EntryExtent → Result EntryHead ReadError
eh_frame_id bytes extent = do
  id ← u32_at bytes extent.contents
  if id.0 == 0 then Ok (Cie id.1 extent.end)
      else (if nat_le id.0 extent.contents then Ok (Fde (extent.contents - id.0) id.1 extent.end) else Err NumberTooBig)

-- In `.debug_frame` a CIE's id is all ones, and an FDE's CIE lies at the offset in the field, of 4 or 8 bytes.
unfoldable pub short_id : List ℕ → EntryExtent → Result EntryHead ReadError
short_id bytes extent = do
  id ← u32_at bytes extent.contents
  if id.0 == 0xFFFFFFFF then Ok (Cie id.1 extent.end) else Ok (Fde id.0 id.1 extent.end)

unfoldable pub long_id : List ℕ → EntryExtent → Result EntryHead ReadError
long_id bytes extent = do
  id ← u64_at bytes extent.contents
  if id.0 == 0xFFFFFFFFFFFFFFFF then Ok (Cie id.1 extent.end) else Ok (Fde id.0 id.1 extent.end)

abbrev pub debug_frame_id : List ℕ → EntryExtent → Result EntryHead ReadError
debug_frame_id bytes extent = if extent.offset_size == 4 then short_id bytes extent else long_id bytes extent

-- an entry's id, by its section
abbrev pub id_at : UnwindSectionType → List ℕ → EntryExtent → Result EntryHead ReadError
id_at EhFrame bytes extent = eh_frame_id bytes extent
id_at DebugFrame bytes extent = debug_frame_id bytes extent

-- what stands at an offset: a zero length, or which kind of entry, and where its fields begin and end
unfoldable pub head_at : UnwindSectionType → List ℕ → ℕ → Result EntryHead ReadError
head_at kind bytes at = do
  extent ← extent_at bytes at
  if is_zero_length extent then Ok (ZeroLength extent.end) else id_at kind (take extent.end bytes) extent

-- The size of addresses and of segment selectors, which version 4 has in `.debug_frame`: the place after.
unfoldable pub sizes_at : List ℕ → ℕ → Result ℕ ReadError
sizes_at bytes at = do
  address ← u8_at bytes at
  segment ← u8_at bytes address.1
  if address.0 == 8 then (if segment.0 == 0 then Ok segment.1 else Err BadEncoding) else Err BadEncoding

abbrev pub sizes_of : UnwindSectionType → ℕ → List ℕ → ℕ → Result ℕ ReadError
sizes_of EhFrame version bytes at = Ok at
sizes_of DebugFrame version bytes at = if version == 4 then sizes_at bytes at else Ok at

-- the place after the return register, which is not used: a byte in version 1, else a ULEB
abbrev pub place_after : {A : Type 0} → Parsed A → Result ℕ ReadError
place_after reading = reading >>= λ read. Ok read.1

abbrev pub return_register_at : ℕ → List ℕ → ℕ → Result ℕ ReadError
return_register_at version bytes at =
    if version == 1 then place_after (u8_at bytes at) else place_after (uleb_at bytes at)

-- a CIE's fields after the augmentation text
unfoldable pub alignments_at : SectionBaseAddresses → ℕ → List ℕ → List ℕ → ℕ → ℕ
    → Result CommonInformationEntry ReadError
alignments_at bases version letters bytes at end = do
  code ← uleb_at bytes at
  factor ← sleb_at bytes code.1
  register ← return_register_at version bytes factor.1
  augmentation ← augmentation_at bases letters bytes register
  Ok (record {
    code_alignment_factor = code.0;
    data_alignment_factor = factor.0;
    fde_pointer_encoding = augmentation.encoding;
    has_augmentation_data = augmentation.has_data;
    instructions = augmentation.after_data;
    end = end;
  })

-- the versions that are read here
abbrev pub is_known_version : ℕ → Bool
is_known_version version = (version == 1) || (version == 3) || (version == 4)

-- the fields of a CIE after its version, up to its end
unfoldable pub versioned_fields : UnwindSectionType → SectionBaseAddresses → ℕ → List ℕ → ℕ → ℕ
    → Result CommonInformationEntry ReadError
versioned_fields kind bases version bytes at end = do
  terminator ← terminator_at bytes at
  sizes ← sizes_of kind version bytes (terminator + 1)
  alignments_at bases version (slice_range bytes at terminator) bytes sizes end

-- a CIE's fields after its id; the bytes end with the entry
unfoldable pub cie_fields : UnwindSectionType → SectionBaseAddresses → List ℕ → ℕ → ℕ
    → Result CommonInformationEntry ReadError
cie_fields kind bases bytes at end = do
  version ← u8_at bytes at
  if is_known_version version.0 then versioned_fields kind bases version.0 bytes version.1 end
      else Err UnknownVersion

-- the CIE at an offset
abbrev pub cie_of_head : Section → EntryHead → Result CommonInformationEntry ReadError
cie_of_head section (ZeroLength end) = Err NotCie
cie_of_head section (Fde cie at end) = Err NotCie
cie_of_head section (Cie at end) = cie_fields section.kind section.bases (take end section.bytes) at end

unfoldable pub cie_at : Section → ℕ → Result CommonInformationEntry ReadError
cie_at section at = do
  head ← head_at section.kind section.bytes at
  cie_of_head section head

-- the place after an FDE's augmentation data, which it has where its CIE says so
abbrev pub skipped_at : Bool → List ℕ → ℕ → Result ℕ ReadError
skipped_at true bytes at = counted_at bytes at >>= λ place. Ok place.1
skipped_at false bytes at = Ok at

-- the fields of an FDE: where its code begins and how long it is, its augmentation data, and its instructions
unfoldable pub fde_range : SectionBaseAddresses → CommonInformationEntry → List ℕ → ℕ → ℕ
    → Result FrameDescriptionEntry ReadError
fde_range bases cie bytes at end = do
  start ← pointer_at bases cie.fde_pointer_encoding bytes at
  len ← raw_at (format_of cie.fde_pointer_encoding) bytes start.1
  instructions ← skipped_at cie.has_augmentation_data bytes len.1
  Ok (record { cie = cie; initial_address = start.0; address_range = len.0; instructions = instructions; end = end })

-- an FDE's fields after its CIE's offset; the bytes end with the entry
abbrev pub fde_fields : SectionBaseAddresses → CommonInformationEntry → List ℕ → ℕ → ℕ
    → Result FrameDescriptionEntry ReadError
fde_fields bases cie bytes at end =
    if nat_le DW_EH_PE_indirect cie.fde_pointer_encoding then Err BadEncoding else fde_range bases cie bytes at end

-- the FDE at an offset, with the CIE at the offset that it names
abbrev pub fde_of_head : Section → EntryHead → Result FrameDescriptionEntry ReadError
fde_of_head section (ZeroLength end) = Err NotFde
fde_of_head section (Cie at end) = Err NotFde
fde_of_head section (Fde cie_offset at end) =
    cie_at section cie_offset >>= λ cie. fde_fields section.bases cie (take end section.bytes) at end

unfoldable pub fde_at : Section → ℕ → Result FrameDescriptionEntry ReadError
fde_at section at = do
  head ← head_at section.kind section.bytes at
  fde_of_head section head
