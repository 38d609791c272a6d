-- What is printed of why an ELF file, or a section of it, can't be read.
use Rattle.std.specs.Prelude.{ℕ, List, ◌++◌, codes}
use Rattle.std.specs.Fmt.{decimal}
use Rattle.framehop_inflate.specs.ErrorText.{inflate_error_text}
use Rattle.framehop_object.specs.declared.elf.decompressed.ContentsError.{ContentsError}
use Rattle.framehop_object.specs.declared.elf.decompressed.ContentsError.TheVariants as contents
use Rattle.framehop_object.specs.declared.elf.error.ElfError.{ElfError}
use Rattle.framehop_object.specs.declared.elf.error.ElfError.TheVariants.{Eof, NotElf, NotClass64, NotLittleEndian, UnknownVersion, BadEntrySize, NoSuchSection, Compressed, OutOfMemory}

-- offsets are decimal, in bytes from the start of the file
unfoldable pub elf_error_text : ElfError → List ℕ
elf_error_text (Eof offset) = codes "the file ends before what is to be read at offset " ++ decimal offset
elf_error_text (NotElf offset) = codes "not an ELF file: offset " ++ decimal offset
elf_error_text (NotClass64 offset) = codes "not a 64-bit ELF file: offset " ++ decimal offset
elf_error_text (NotLittleEndian offset) = codes "not a little-endian ELF file: offset " ++ decimal offset
elf_error_text (UnknownVersion offset) = codes "an unknown version of ELF: offset " ++ decimal offset
elf_error_text (BadEntrySize offset) = codes "entries of an unknown size: offset " ++ decimal offset
elf_error_text (NoSuchSection offset) = codes "no such section: offset " ++ decimal offset
elf_error_text (Compressed offset) = codes "a compressed section at offset " ++ decimal offset
elf_error_text OutOfMemory = codes "out of memory"

unfoldable pub contents_error_text : ContentsError → List ℕ
contents_error_text (contents.Elf error) = elf_error_text error
contents_error_text contents.NoHeader = codes "a compressed section without its header"
contents_error_text contents.Zstandard = codes "compressed by zstandard"
contents_error_text contents.OlderForm = codes "compressed in GNU's older form"
contents_error_text (contents.UnknownType kind) =
    codes "compressed by another program than zlib and zstandard: ch_type " ++ decimal kind
contents_error_text (contents.TooLarge size) = codes "more than 64 MiB when decompressed: " ++ decimal size ++ codes " bytes"
contents_error_text (contents.Inflate error) = inflate_error_text error
contents_error_text contents.OutOfMemory = codes "out of memory"
