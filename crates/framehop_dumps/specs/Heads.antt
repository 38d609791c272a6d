-- What memory has of mapped files, by their paths (gABI, chapter 5, "Program Loading"; `core(5)`).
use Rattle.std.specs.Prelude.{◌≡◌, ℕ, List, Option, option_map}
use Rattle.std.specs.BTreeMap.{BTreeMap, get_by}
use Rattle.std.specs.Cmp.Lexicographic.{slice_cmp}
use Rattle.std.specs.Ordering.{nat_cmp}
use denote.Ref.{Bor}
use Rattle.std.specs.List.{find}
use Rattle.framehop_dump_files.specs.Coredump.MappedFile.{MappedFileView}
use Rattle.framehop_object.specs.Elf.Segment.{loaded_segments_of}
use Rattle.framehop_memory.specs.Memory.{MemoryView}
use Rattle.framehop_memory.specs.declared.segment.Segment.{Segment}
use Rattle.framehop_dumps.specs.CoreDump.{is_beginning}
use Rattle.framehop_dumps.specs.Image.{head_at, segments_in, build_id_in}
use Rattle.framehop_dumps.specs.declared.heads.FileHead.{FileHead}

-- the first bytes of a file, and in them the build id and the segments
pub record FileHeadView : Type 0 where
  pub head : List ℕ
  pub build_id : List ℕ
  pub segments : List Segment

abbrev pub file_head_view : FileHead → FileHeadView
file_head_view file = record {
  head = file.head.now;
  build_id = file.build_id.now;
  segments = file.segments.items;
}

-- those of a file with these first bytes
abbrev pub file_head_of : List ℕ → FileHeadView
file_head_of head = record {
  head = head;
  build_id = build_id_in head (segments_in head);
  segments = loaded_segments_of (segments_in head);
}

-- what is kept for a path
abbrev pub kept_at : BTreeMap (Bor (List ℕ)) FileHead → List ℕ → Option FileHeadView
kept_at by_path path = option_map file_head_view (get_by (λ key. slice_cmp nat_cmp path key.now) by_path)

-- at the first mapping of a file that has its first byte
abbrev pub beginning_head : MemoryView → List MappedFileView → List ℕ → Option FileHeadView
beginning_head memory files path =
    option_map (λ mapped. file_head_of (head_at memory mapped.start)) (find (is_beginning path) files)

-- for each path what memory has of the file
abbrev pub HasBeginnings : MemoryView → List MappedFileView → BTreeMap (Bor (List ℕ)) FileHead → Type 0
HasBeginnings memory files by_path = (path : List ℕ) → kept_at by_path path ≡ beginning_head memory files path
