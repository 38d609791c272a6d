-- What a section holds is a part of the file.
use Rattle.std.proofs.Common.{◌≡◌, ℕ, ◌+◌, Bool, true, false, not, List, [], length, take, drop, Result, Ok, Err, bit_and, nat_le, ◌==◌, if◌then◌else◌, refl}
use Rattle.framehop_object.specs.declared.elf.error.ElfError.{ElfError}
use Rattle.framehop_object.specs.declared.elf.error.ElfError.TheVariants.{Compressed, Eof}
use Rattle.framehop_object.specs.declared.elf.section_header.SectionHeader.{SectionHeader}
use Rattle.framehop_object.specs.Elf.Section.{size_in_file, contents_of}

-- by whether it has no bytes, is compressed, and is within the file
abbrev contents : Bool → Bool → Bool → List ℕ → ElfError → ElfError → Result (List ℕ) ElfError
contents empty compressed within bytes refusal beyond =
    if empty then Ok [] else if compressed then Err refusal else if within then Ok bytes else Err beyond

by_cases : (empty compressed within : Bool) (size : ℕ) (rest found : List ℕ) (refusal beyond : ElfError)
    → contents empty compressed within (take size rest) refusal beyond ≡ Ok found
    → contents empty compressed within (take size rest) refusal beyond ≡ Ok (take (if empty then 0 else size) rest)
by_cases true compressed within size rest found refusal beyond e = refl
by_cases false true within size rest found refusal beyond e = cc
by_cases false false true size rest found refusal beyond e = refl
by_cases false false false size rest found refusal beyond e = cc

-- what is found in a section is the part of the file of its size
pub contents_of-part : (file : List ℕ) (section : SectionHeader) (found : List ℕ)
    → contents_of file section ≡ Ok found → contents_of file section ≡ Ok
    (take (size_in_file section) (drop section.sh_offset file))
unfolding contents_of
contents_of-part file section found e =
    by_cases (section.sh_type == 8) (not (bit_and section.sh_flags 0x800 == 0))
    (nat_le (section.sh_offset + section.sh_size) (length file)) section.sh_size (drop section.sh_offset file)
    found (Compressed section.sh_offset) (Eof section.sh_offset) e
