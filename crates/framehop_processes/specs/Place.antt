-- Where an address is: in which function of which file.
use Rattle.std.specs.Prelude.{ℕ, ◌-◌, ◌^◌, List, [], ◌∷◌, ◌&&◌, nat_le, nat_lt, Bool, true, false, if◌then◌else◌, Option, Some, None, option_and_then, slice_get}
use Rattle.std.specs.List.{find}
use Rattle.framehop_bytes.specs.String.{string_of}
use Rattle.framehop_object.specs.Elf.Symbol.{nearest_of, symbol_for}
use Rattle.framehop_object.specs.declared.elf.symbol.Symbol.{Symbol}
use Rattle.framehop_processes.specs.declared.mapping.Mapping.{Mapping}
use Rattle.framehop_processes.specs.CodeMap.{code_name_at}
use Rattle.framehop_processes.specs.FunctionStart.{function_start_in}
use Rattle.framehop_processes.specs.declared.code_map.CodeMap.{CodeMap}
use Rattle.framehop_processes.specs.declared.object_file.ObjectFile.{ObjectFile}
use Rattle.framehop_processes.specs.declared.symbols.Symbols.{Symbols}
use Rattle.framehop_processes.specs.declared.files.Files.{Files}
use Rattle.framehop_processes.specs.declared.files.NamedFile.{NamedFile}
use Rattle.framehop_processes.specs.declared.place.Place.{Place}
use Rattle.framehop_processes.specs.declared.place.Place.TheVariants.{Function, Unnamed, File, Unmapped}

-- a place by its values
pub data PlaceView : Type 0 where
  in_function : List ℕ → List ℕ → ℕ → PlaceView
  in_unnamed : List ℕ → ℕ → ℕ → PlaceView
  in_file : List ℕ → ℕ → PlaceView
  unmapped : PlaceView

abbrev pub place_view : Place → PlaceView
place_view (Function file name offset) = in_function file.now name.now offset
place_view (Unnamed file start address) = in_unnamed file.now start address
place_view (File file address) = in_file file.now address
place_view Unmapped = unmapped

-- the name of a function and how far an address is from its start
abbrev pub named_from : Symbols → ℕ → Symbol → List ℕ × ℕ
named_from symbols svma symbol = (string_of symbols.names.items symbol.st_name, svma - symbol.st_value)

-- the function that has an address (SVMA), by the first of the symbol tables that has one
abbrev pub or_else : {A : Type 0} → Option A → Option A → Option A
or_else (Some first) second = Some first
or_else None second = second

-- a label is after the start of a function, if there is one
abbrev pub is_after : Option Symbol → Symbol → Bool
is_after (Some function) label = nat_lt function.st_value label.st_value
is_after None label = true

-- the label before an address, if no function begins after it
abbrev pub label_at : Symbols → ℕ → Option Symbol
label_at symbols svma =
    option_and_then (λ label. if is_after (nearest_of symbols.table svma) label then Some label else None)
    (symbol_for symbols.labels svma)

-- the symbol of the function that has an address, or else of the label before it
abbrev pub symbol_at : Symbols → ℕ → Option Symbol
symbol_at symbols svma = or_else (symbol_for symbols.table svma) (label_at symbols svma)

-- a function with how far the address is in it
abbrev pub option_named : Symbols → ℕ → Option Symbol → Option (List ℕ × ℕ)
option_named symbols svma (Some symbol) = Some (named_from symbols svma symbol)
option_named symbols svma None = None

-- the function by all tables
abbrev pub function_at : List Symbols → ℕ → Option (List ℕ × ℕ)
function_at [] svma = None
function_at (symbols ∷ others) svma =
    or_else (option_named symbols svma (symbol_at symbols svma)) (function_at others svma)

-- a mapping has an address (AVMA)
abbrev pub has_address : ℕ → Mapping → Bool
has_address address mapping = nat_le mapping.start address && nat_lt address mapping.end

-- a mapping that starts at or below an address
abbrev pub starting_by : ℕ → Option Mapping → Option Mapping
starting_by address (Some mapping) = if nat_le mapping.start address then Some mapping else None
starting_by address None = None

-- where the function begins that has an address (SVMA) of 32 bits, by `.eh_frame` or `.pdata`, or else by `.debug_frame`
abbrev pub unnamed_start : ObjectFile → ℕ → Option ℕ
unnamed_start object svma = if nat_lt svma (2 ^ 32)
    then or_else (function_start_in object.«module».unwind_data svma) (function_start_in object.debug_frame.unwind_data svma)
    else None

-- a place by where its function begins, or by its address in the file
abbrev pub place_started : List ℕ → ℕ → Option ℕ → PlaceView
place_started file svma (Some start) = in_unnamed file start svma
place_started file svma None = in_file file svma

-- a place by its function's name, or else by where that begins
abbrev pub place_named : List ℕ → ObjectFile → ℕ → Option (List ℕ × ℕ) → PlaceView
place_named file object svma (Some function) = in_function file function.0 function.1
place_named file object svma None = place_started file svma (unnamed_start object svma)

abbrev pub place_in_object : Bool → List ℕ → Option ObjectFile → ℕ → PlaceView
place_in_object true file (Some object) svma = place_named file object svma (function_at object.symbols.items svma)
place_in_object true file None svma = in_file file svma
place_in_object false file object svma = in_file file svma

-- the function of an address (AVMA) by a map of code that is in no file, if there is a map
abbrev pub name_in_map : Option CodeMap → ℕ → Option (List ℕ × ℕ)
name_in_map (Some code_map) address = code_name_at code_map.functions address
name_in_map None address = None

abbrev pub place_in_map : List ℕ → Option (List ℕ × ℕ) → PlaceView → PlaceView
place_in_map file (Some function) place = in_function file function.0 function.1
place_in_map file None place = place

-- by such a map, or else by the names of the file, where the mapping has its sections
abbrev pub place_in_file : Option NamedFile → Mapping → ℕ → PlaceView
place_in_file (Some file) mapping address = place_in_map file.name.items (name_in_map file.code_map address)
    (place_in_object mapping.has_sections file.name.items file.object (address - mapping.base_avma))
place_in_file None mapping address = unmapped

-- the place of an address by its mapping
abbrev pub place_mapped : Files → Option Mapping → ℕ → PlaceView
place_mapped files (Some mapping) address = place_in_file (slice_get files.list.items mapping.file) mapping address
place_mapped files None address = unmapped

-- where an address (AVMA) is, by the mapping that has it
unfoldable pub place_at : Files → List Mapping → ℕ → PlaceView
place_at files mappings address = place_mapped files (find (has_address address) mappings) address
