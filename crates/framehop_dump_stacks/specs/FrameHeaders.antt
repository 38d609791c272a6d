-- Where memory has the unwind data of files whose code was mapped, by their paths (LSB Core, "Program Header").
use Rattle.std.specs.Prelude.{◌≡◌, ℕ, List, Option, option_map}
use Rattle.std.specs.BTreeMap.{BTreeMap, get_by}
use Rattle.std.specs.Cmp.Lexicographic.{slice_cmp}
use Rattle.std.specs.List.{find}
use Rattle.std.specs.Ordering.{nat_cmp}
use denote.Ref.{Bor}
use Rattle.framehop_object.specs.declared.elf.program_header.ProgramHeader.{ProgramHeader}
use Rattle.framehop_dumps.specs.Dump.{MappedCodeView, is_of_path}
use Rattle.framehop_dumps.specs.Image.{segments_in, eh_frame_header}

-- what is kept for a path
abbrev pub kept_for : BTreeMap (Bor (List ℕ)) (Option ProgramHeader) → List ℕ → Option (Option ProgramHeader)
kept_for by_path path = get_by (λ key. slice_cmp nat_cmp path key.now) by_path

-- the segment that has `.eh_frame_hdr`, by the first bytes of a file at the first mapping of its code
abbrev pub first_header : List MappedCodeView → List ℕ → Option (Option ProgramHeader)
first_header code path = option_map (λ code. eh_frame_header (segments_in code.head)) (find (is_of_path path) code)

-- for each path that of the file whose code was mapped
abbrev pub HasHeadersOf : List MappedCodeView → BTreeMap (Bor (List ℕ)) (Option ProgramHeader) → Type 0
HasHeadersOf code by_path = (path : List ℕ) → kept_for by_path path ≡ first_header code path
