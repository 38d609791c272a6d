-- The events of a recording: `perf_file_attr` of perf.data-file-format.txt, and in it `perf_event_attr` of perf_event.h.
use Rattle.std.specs.Prelude.{ℕ, ◌+◌, ◌-◌, ◌/◌, List, Bool, not, Result, Ok, Err, nat_lt, ◌==◌, if◌then◌else◌}
use Rattle.framehop_bytes.specs.Bytes.{◌>>=◌}
use Rattle.framehop_recording.specs.Fields.{ATTR_SIZE, ATTR_SAMPLE_TYPE, ATTR_FLAGS, ATTR_SAMPLE_REGS_USER}
use Rattle.framehop_recording.specs.Bytes.{u32_at, u64_at, block_at, offsets, each_of, has_bit}
use Rattle.framehop_recording.specs.Numbers.{SAMPLE_ID_ALL}
use Rattle.framehop_recording.specs.declared.error.RecordingError.{RecordingError}
use Rattle.framehop_recording.specs.declared.error.RecordingError.TheVariants.{Eof, ShortAttribute, BadAttributeSize}
use Rattle.framehop_recording.specs.declared.attributes.Attribute.{Attribute}
use Rattle.framehop_recording.specs.declared.header.Header.{Header}

-- an attribute by its values
pub record AttributeView : Type 0 where
  pub sample_type : ℕ
  pub sample_id_all : Bool
  pub sample_regs_user : ℕ
  pub ids : List ℕ

abbrev pub attribute_view : Attribute → AttributeView
attribute_view a = record {
  sample_type = a.sample_type;
  sample_id_all = a.sample_id_all;
  sample_regs_user = a.sample_regs_user;
  ids = a.ids.now;
}

-- The fields of an entry of a size, whose bytes are given. Where the event's ids are is said after the attribute.
unfoldable pub attribute_in : List ℕ → ℕ → ℕ → List ℕ → Result AttributeView RecordingError
attribute_in file at size entry = do
  sample_type ← u64_at entry ATTR_SAMPLE_TYPE (Eof at)
  flags ← u64_at entry ATTR_FLAGS (Eof at)
  registers ← u64_at entry ATTR_SAMPLE_REGS_USER (Eof at)
  ids_offset ← u64_at entry (size - 16) (Eof at)
  ids_size ← u64_at entry (size - 8) (Eof at)
  ids ← block_at file ids_offset.0 ids_size.0 (Eof ids_offset.0)
  Ok (record { sample_type = sample_type.0; sample_id_all = has_bit flags.0 SAMPLE_ID_ALL; sample_regs_user = registers.0; ids = ids.0 })

-- The entry of a size at an offset: `perf_event_attr`, of at least 96 bytes where it has user registers, then a section
-- of 16 bytes. The attribute's own `size` must be the same, since perf reads the section after so many bytes.
unfoldable pub attribute_at : List ℕ → ℕ → ℕ → Result AttributeView RecordingError
attribute_at file at size = if nat_lt size 112 then Err (ShortAttribute at) else (do
  entry ← block_at file at size (Eof at)
  own_size ← u32_at entry.0 ATTR_SIZE (Eof at)
  if not (own_size.0 + 16 == size) then Err (BadAttributeSize at) else attribute_in file at size entry.0)

-- the attributes of a recording: the whole entries of the header's section
unfoldable pub attributes_of : List ℕ → Header → Result (List AttributeView) RecordingError
attributes_of file header =
    if nat_lt header.attribute_size 112 then Err (ShortAttribute header.attributes.offset)
    else each_of (λ at. attribute_at file at header.attribute_size)
    (offsets header.attributes.offset header.attribute_size (header.attributes.size / header.attribute_size))
