-- The memory of a file of which parts were read: of each segment an end.
use Rattle.std.specs.Prelude.{◌≡◌, ◌≤◌, ℕ, ◌+◌, ◌-◌, List, [], ◌∷◌, length, drop, map, Bool, ◌&&◌, nat_le, nat_lt, ⊤}
use Rattle.std.specs.List.{list_any}
use Rattle.framehop_memory.specs.Memory.{MemoryView}
use Rattle.framehop_memory.specs.Range.{dumped}
use Rattle.framehop_memory.specs.declared.left_out.ReadPart.{ReadPart}
use Rattle.framehop_memory.specs.declared.memory.MemoryRange.{MemoryRange}

abbrev pub read_range : ReadPart → MemoryRange
read_range part = part.read

abbrev pub segment_range : ReadPart → MemoryRange
segment_range part = part.segment

-- the memory that the whole file has of these segments
abbrev pub whole_memory : List ℕ → List ReadPart → MemoryView
whole_memory file parts = record { file = file; ranges = map segment_range parts }

-- an address is in a segment, before the end that was read
abbrev pub is_before : ℕ → ReadPart → Bool
is_before address part = nat_le part.segment.start address && nat_lt address part.read.start

-- an address was not read
abbrev pub is_left_out : ℕ → List ReadPart → Bool
is_left_out address parts = list_any (is_before address) parts

-- the bytes that were read are those of the end of a segment, which the file has whole
pub record IsReadFrom (file bytes : List ℕ) (part : ReadPart) : Type 0 where
  pub begins : part.segment.start ≤ part.read.start
  pub ends : part.read.start + part.read.size ≡ part.segment.start + part.segment.size
  pub whole : length (dumped file part.segment) ≡ part.segment.size
  pub bytes_are : dumped bytes part.read ≡ drop (part.read.start - part.segment.start) (dumped file part.segment)

-- the same of all segments
abbrev pub AreReadFrom : List ℕ → List ℕ → List ReadPart → Type 0
AreReadFrom file bytes [] = ⊤
AreReadFrom file bytes (part ∷ parts) = IsReadFrom file bytes part × AreReadFrom file bytes parts
