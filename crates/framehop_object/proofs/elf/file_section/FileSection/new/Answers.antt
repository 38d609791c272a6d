use Rattle.std.proofs.Common.{◌≡◌, ℕ, List, take, drop, Result, Ok, ap, sym, ◌∙◌, rules}
use Rattle.framehop_object.specs.declared.elf.error.ElfError.{ElfError}
use Rattle.framehop_object.specs.Elf.Section.{size_in_file, contents_of}
use Rattle.framehop_object.proofs.SectionLemmas.{contents_of-part}
use Rattle.framehop_object.proofs.elf.file_section.FileSection.new.Goals as goal

pub returns : goal.returns
returns c =
    let file = c.args.file.now.value.items in
    let section = c.args.section in
    let found = c.in_ok-_contents._contents.now in
    let read : contents_of file section ≡ Ok found = search rules in
    let same : c.in_ok-file.file.value.items ≡ file = search rules in
    let part : List ℕ → Result (List ℕ) ElfError = λ bytes. Ok (take (size_in_file section) (drop section.sh_offset bytes)) in
    rw c.size_in_file-size.ensures (contents_of-part file section found read ∙ ap part (sym same))
