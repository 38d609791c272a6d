-- Symbols of functions and of labels in code (gABI, chapter 4, "Symbol Table").
-- Which section has their names: "Sections", sh_link.
use Rattle.std.specs.Prelude.{ℕ, ◌+◌, ◌-◌, ◌/◌, ◌%◌, nat_eq, bit_and, codes, List, [], ◌∷◌, length, map, filter, Bool, false, not, Option, Some, None, option_map, option_and_then, unwrap_or, slice_get, Result, Ok, Err, slice_index, nat_le, nat_lt, ◌&&◌, ◌||◌, ◌==◌, if◌then◌else◌}
use Rattle.std.specs.List.{starts_with}
use Rattle.std.specs.Simd.{first_chunks}
use Rattle.framehop_bytes.specs.Bytes.{◌>>=◌, le2, le4, le8}
use Rattle.framehop_bytes.specs.String.{string_of}
use Rattle.framehop_object.specs.Elf.Numbers.{SHN_UNDEF, SHF_EXECINSTR, STT_NOTYPE, STT_FUNC, STT_GNU_IFUNC}
use Rattle.framehop_object.specs.Elf.Section.{contents_of}
use Rattle.framehop_object.specs.declared.elf.error.ElfError.{ElfError}
use Rattle.framehop_object.specs.declared.elf.error.ElfError.TheVariants.{BadEntrySize, NoSuchSection}
use Rattle.framehop_object.specs.declared.elf.section_header.SectionHeader.{SectionHeader}
use Rattle.framehop_object.specs.declared.elf.symbol.Symbol.{Symbol}

-- the type of an entry's symbol, ELF64_ST_TYPE: the lower half of st_info
abbrev pub symbol_type : List ℕ → ℕ
symbol_type entry = slice_index entry 4 % 16

-- The entry of a function: its type is STT_FUNC or STT_GNU_IFUNC, its section is not SHN_UNDEF, and its value is not 0.
abbrev pub is_function : List ℕ → Bool
is_function entry =
    ((symbol_type entry == STT_FUNC) || (symbol_type entry == STT_GNU_IFUNC))
    && not (le2 entry 6 == SHN_UNDEF) && not (le8 entry 8 == 0)

-- the section of an index has code
abbrev pub is_code : List SectionHeader → ℕ → Bool
is_code sections index =
    unwrap_or (option_map (λ section. not (bit_and section.sh_flags SHF_EXECINSTR == 0)) (slice_get sections index)) false

-- a name is that of a mapping symbol, which tells where code and data begin (ELF for the Arm 64-bit Architecture, "Mapping
-- symbols")
abbrev pub is_mapping : List ℕ → ℕ → Bool
is_mapping names name = starts_with nat_eq (string_of names name) (codes "$")

-- The entry of a label in code: its type is STT_NOTYPE, it has a name, its value is not 0, its section has code, and it is
-- no mapping symbol.
abbrev pub is_label : List SectionHeader → List ℕ → List ℕ → Bool
is_label sections names entry =
    (symbol_type entry == STT_NOTYPE) && not (le4 entry 0 == 0) && not (le8 entry 8 == 0)
    && is_code sections (le2 entry 6) && not (is_mapping names (le4 entry 0))

-- how many bytes of a section there are from an address on, none where the address is below the section
abbrev pub size_from : ℕ → SectionHeader → ℕ
size_from address section =
    if nat_le section.sh_addr address then section.sh_size - (address - section.sh_addr) else 0

-- Of an entry, the most bytes that its symbol has: its st_size, or, where that is 0, those to the end of the section
-- of index st_shndx.
abbrev pub size_of : List SectionHeader → List ℕ → ℕ
size_of sections entry =
    if not (le8 entry 16 == 0) then le8 entry 16
    else unwrap_or (option_map (size_from (le8 entry 8)) (slice_get sections (le2 entry 6))) 0

-- Elf64_Sym
abbrev pub symbol_of : List SectionHeader → List ℕ → Symbol
symbol_of sections entry = record { st_name = le4 entry 0; st_value = le8 entry 8; size = size_of sections entry }

-- the entries of a symbol table of the file, of 24 bytes each
unfoldable pub entries_of : List ℕ → SectionHeader → Result (List (List ℕ)) ElfError
entries_of file table = if not (table.sh_entsize == 24) then Err (BadEntrySize table.sh_offset) else (do
  contents ← contents_of file table
  Ok (first_chunks 24 (length contents / 24) contents))

-- the functions of a symbol table of the file, which has these sections
unfoldable pub function_symbols_of : List ℕ → List SectionHeader → SectionHeader → Result (List Symbol) ElfError
function_symbols_of file sections table = do
  entries ← entries_of file table
  Ok (map (symbol_of sections) (filter is_function entries))

-- its labels in code, by the string table that has their names
unfoldable pub labels_of : List ℕ → List SectionHeader → SectionHeader → List ℕ → Result (List Symbol) ElfError
labels_of file sections table names = do
  entries ← entries_of file table
  Ok (map (symbol_of sections) (filter (is_label sections names) entries))

-- where a symbol begins
abbrev pub start_of : Symbol → ℕ
start_of symbol = symbol.st_value

-- of two symbols the one that begins later; the other, where they begin at one address
abbrev pub later_of : Symbol → Option Symbol → Option Symbol
later_of symbol None = Some symbol
later_of symbol (Some other) = if nat_le (start_of symbol) (start_of other) then Some other else Some symbol

-- the nearest symbol: of those that begin at the address or before it the one that begins last; of several there, the last
-- in the list
unfoldable pub nearest_of : List Symbol → ℕ → Option Symbol
nearest_of [] address = None
nearest_of (symbol ∷ symbols) address =
    if nat_le (start_of symbol) address then later_of symbol (nearest_of symbols address) else nearest_of symbols address

-- an address at or after a symbol's start is in it: before its end
abbrev pub reaches : ℕ → Symbol → Bool
reaches address symbol = nat_lt address (symbol.st_value + symbol.size)

-- The symbol of the function that has an address: the nearest, if it reaches to the address. One without a size reaches to
-- the next symbol, or to the end of its section. A symbol in another one hides it, also after its end.
abbrev pub symbol_for : List Symbol → ℕ → Option Symbol
symbol_for symbols address =
    option_and_then (λ symbol. if reaches address symbol then Some symbol else None) (nearest_of symbols address)

-- what a section holds that a symbol table names
abbrev pub names_in_section : List ℕ → SectionHeader → Option SectionHeader → Result (List ℕ) ElfError
names_in_section file table (Some section) = contents_of file section
names_in_section file table None = Err (NoSuchSection table.sh_offset)

-- the string table that has the names of a symbol table: the section of index sh_link
abbrev pub symbol_names_of : List ℕ → List SectionHeader → SectionHeader → Result (List ℕ) ElfError
symbol_names_of file sections table = names_in_section file table (slice_get sections table.sh_link)
