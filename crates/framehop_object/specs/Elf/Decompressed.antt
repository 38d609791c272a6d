-- What sections hold that may be compressed (gABI, chapter 4, "Section Compression").
use Rattle.std.specs.Prelude.{ℕ, List, length, Bool, true, false, not, ◌&&◌, ◌==◌, nat_lt, bit_and, if◌then◌else◌, Option, Some, None, Result, Err}
use Rattle.std.specs.Result.{result_map_both}
use Rattle.framehop_bytes.specs.Bytes.{◌>>=◌, le4, le8}
use Rattle.framehop_object.specs.Elf.Numbers.{SHT_NOBITS, SHF_COMPRESSED, ELFCOMPRESS_ZLIB, ELFCOMPRESS_ZSTD}
use Rattle.framehop_object.specs.Elf.Block.{block_at}
use Rattle.framehop_object.specs.Elf.Section.{contents_of}
use Rattle.framehop_object.specs.declared.elf.decompressed.ContentsError.{ContentsError}
use Rattle.framehop_object.specs.declared.elf.decompressed.ContentsError.TheVariants.{Elf, NoHeader, Zstandard, UnknownType, TooLarge, Inflate, OutOfMemory}
use Rattle.framehop_object.specs.declared.elf.error.ElfError.{ElfError}
use Rattle.framehop_object.specs.declared.elf.error.ElfError.TheVariants.{OutOfMemory as ElfOutOfMemory}
use Rattle.framehop_object.specs.declared.elf.section_header.SectionHeader.{SectionHeader}
use Rattle.framehop_inflate.specs.Zlib.{section_inflated}
use Rattle.framehop_inflate.specs.declared.inflate_error.InflateError.{InflateError}
use Rattle.framehop_inflate.specs.declared.inflate_error.InflateError.TheVariants.{OutOfMemory as InflateOutOfMemory}

-- a section has bytes in the file, and they are compressed
abbrev pub is_compressed : SectionHeader → Bool
is_compressed section = not (section.sh_type == SHT_NOBITS) && not (bit_and section.sh_flags SHF_COMPRESSED == 0)

-- the first fields of Elf64_Chdr, with which a compressed section begins
abbrev pub ch_type : List ℕ → ℕ
ch_type stored = le4 stored 0

abbrev pub ch_size : List ℕ → ℕ
ch_size stored = le8 stored 8

-- the most bytes of a section that is decompressed: 64 MiB
abbrev pub MOST : ℕ
MOST = 67108864

-- why a compressed section is not decompressed, by its Elf64_Chdr, which has 24 bytes
abbrev pub chdr_refusal : List ℕ → Option ContentsError
chdr_refusal stored =
    if nat_lt (length stored) 24 then Some NoHeader
    else if ch_type stored == ELFCOMPRESS_ZSTD then Some Zstandard
    else if not (ch_type stored == ELFCOMPRESS_ZLIB) then Some (UnknownType (ch_type stored))
    else if nat_lt MOST (ch_size stored) then Some (TooLarge (ch_size stored)) else None

-- the errors of readers, out of memory being one error
abbrev pub of_elf : ElfError → ContentsError
of_elf ElfOutOfMemory = OutOfMemory
of_elf error = Elf error

abbrev pub of_inflate : InflateError → ContentsError
of_inflate InflateOutOfMemory = OutOfMemory
of_inflate error = Inflate error

-- what a compressed section holds, by its bytes in the file: unless its header refuses it, what the stream after that stands
-- for
abbrev pub held_by : Option ContentsError → List ℕ → Result (List ℕ) ContentsError
held_by (Some refusal) stored = Err refusal
held_by None stored = result_map_both (λ bytes. bytes) of_inflate (section_inflated stored)

abbrev pub held_of : List ℕ → Result (List ℕ) ContentsError
held_of stored = held_by (chdr_refusal stored) stored

-- what a section holds, decompressed where it is compressed
abbrev pub decompressed_by : Bool → List ℕ → SectionHeader → Result (List ℕ) ContentsError
decompressed_by true file section =
    result_map_both (λ bytes. bytes) of_elf (block_at file section.sh_offset section.sh_size) >>= held_of
decompressed_by false file section = result_map_both (λ bytes. bytes) of_elf (contents_of file section)

abbrev pub decompressed_of : List ℕ → SectionHeader → Result (List ℕ) ContentsError
decompressed_of file section = decompressed_by (is_compressed section) file section
