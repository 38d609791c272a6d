-- What a section of a file holds, where the file's bytes are shared.
use Rattle.std.specs.Prelude.{ℕ, List, take, drop}
use Rattle.framehop_object.specs.declared.elf.file_section.FileSection.{FileSection}

-- so many bytes of the file from the start on
abbrev pub section_bytes : FileSection → List ℕ
section_bytes section = take section.size (drop section.start section.file.value.items)
