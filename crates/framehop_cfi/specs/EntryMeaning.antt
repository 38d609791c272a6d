-- The fields of a CIE and of an FDE, each where the one before it ends (DWARF 5 section 6.4.1; LSB, ".eh_frame").
use Rattle.std.specs.Prelude.{ℕ, ◌+◌, ◌≡◌, true, false, List, take, slice_range, Ok, nat_le}
use Rattle.framehop_cfi.specs.Numbers.{u8_at}
use Rattle.framehop_cfi.specs.Leb128.{uleb_at, sleb_at}
use Rattle.framehop_cfi.specs.Raw.{raw_at, format_of}
use Rattle.framehop_cfi.specs.Pointer.{pointer_at}
use Rattle.framehop_cfi.specs.PointerEncoding.{DW_EH_PE_indirect}
use Rattle.framehop_cfi.specs.Augmentation.{terminator_at}
use Rattle.framehop_cfi.specs.AugmentationMeaning.{HasAugmentation}
use Rattle.framehop_cfi.specs.EntryExtent.{extent_at, is_zero_length}
use Rattle.framehop_cfi.specs.Section.{Section}
use Rattle.framehop_cfi.specs.Entry.{id_at, is_known_version, sizes_of, return_register_at, skipped_at}
use Rattle.framehop_cfi.specs.declared.extent.EntryExtent.{EntryExtent}
use Rattle.framehop_cfi.specs.declared.entry.UnwindSectionType.{UnwindSectionType}
use Rattle.framehop_cfi.specs.declared.entry.EntryHead.{EntryHead}
use Rattle.framehop_cfi.specs.declared.entry.EntryHead.TheVariants.{Cie, Fde}
use Rattle.framehop_cfi.specs.declared.entry.CommonInformationEntry.{CommonInformationEntry}
use Rattle.framehop_cfi.specs.declared.entry.FrameDescriptionEntry.{FrameDescriptionEntry}

-- an entry stands at an offset: its length, which is not 0, and its id
pub record Begins (kind : UnwindSectionType) (bytes : List ℕ) (at : ℕ) (extent : EntryExtent)
    (head : EntryHead) : Type 0 where
  pub length : extent_at bytes at ≡ Ok extent
  pub some : is_zero_length extent ≡ false
  pub id : id_at kind (take extent.end bytes) extent ≡ Ok head

-- a CIE's fields after its id, in the entry's own bytes
pub record HasCieFields (kind : UnwindSectionType) (entry : List ℕ) (fields : ℕ) (cie : CommonInformationEntry)
    : Type 0 where
  pub version : ℕ
  pub text : ℕ
  pub text_end : ℕ
  pub alignments : ℕ
  pub data_alignment : ℕ
  pub return_register : ℕ
  pub augmentation_data : ℕ
  pub is_version : u8_at entry fields ≡ Ok (version, text)
  pub known : is_known_version version ≡ true
  pub is_text_end : terminator_at entry text ≡ Ok text_end
  pub is_sizes : sizes_of kind version entry (text_end + 1) ≡ Ok alignments
  pub is_code_alignment : uleb_at entry alignments ≡ Ok (cie.code_alignment_factor, data_alignment)
  pub is_data_alignment : sleb_at entry data_alignment ≡ Ok (cie.data_alignment_factor, return_register)
  pub is_return_register : return_register_at version entry return_register ≡ Ok augmentation_data
  pub is_augmentation : HasAugmentation (slice_range entry text text_end) entry augmentation_data (record {
    encoding = cie.fde_pointer_encoding;
    has_data = cie.has_augmentation_data;
    after_data = cie.instructions;
  })

-- a CIE stands at an offset
pub record IsCie (section : Section) (at : ℕ) (cie : CommonInformationEntry) : Type 0 where
  pub extent : EntryExtent
  pub fields : ℕ
  pub begins : Begins section.kind section.bytes at extent (Cie fields extent.end)
  pub has_fields : HasCieFields section.kind (take extent.end section.bytes) fields cie
  pub ends : cie.end ≡ extent.end

-- an FDE stands at an offset, and its CIE at the offset that it names
pub record IsFde (section : Section) (at : ℕ) (fde : FrameDescriptionEntry) : Type 0 where
  pub extent : EntryExtent
  pub cie_offset : ℕ
  pub fields : ℕ
  pub range : ℕ
  pub augmentation_data : ℕ
  pub begins : Begins section.kind section.bytes at extent (Fde cie_offset fields extent.end)
  pub its_cie : IsCie section cie_offset fde.cie
  pub direct : nat_le DW_EH_PE_indirect fde.cie.fde_pointer_encoding ≡ false
  pub is_start : pointer_at section.bases fde.cie.fde_pointer_encoding (take extent.end section.bytes) fields ≡ Ok
      (fde.initial_address, range)
  pub is_range : raw_at (format_of fde.cie.fde_pointer_encoding) (take extent.end section.bytes) range ≡ Ok
      (fde.address_range, augmentation_data)
  pub is_augmentation : skipped_at fde.cie.has_augmentation_data
      (take extent.end section.bytes) augmentation_data ≡ Ok fde.instructions
  pub ends : fde.end ≡ extent.end
