-- The table of sections and segments that the input tells.
use Rattle.std.specs.Prelude.{◌≡◌, ℕ, Bool, List, [], ◌∷◌, map, codes, string_bytes, Option, Some, None, Ok, Err, option_map, option_and_then, if◌then◌else◌}
use Rattle.std.specs.Result.{result_ok}
use Rattle.std.specs.List.{list_any}
use Rattle.std.specs.Borrow.{Bor}
use Rattle.std.specs.Ordering.{nat_cmp}
use Rattle.std.specs.Cmp.Lexicographic.{slice_cmp}
use Rattle.std.specs.BTreeSet.{BTreeSet, contains}
use Rattle.std.specs.Global.{Global}
use Rattle.std.specs.declared.vec.Vec.{Vec}
use Rattle.std.specs.declared.ops.Range.{Range}
use Rattle.hex.specs.Hex.{decode_of}
use Rattle.serde_json.specs.Data.{Data, Items, no_items, item}
use Rattle.serde_json.specs.Find.{as_str, as_array}
use Rattle.framehop_bytes.specs.SectionTable.{Entry, SectionTable, is_called}
use Rattle.framehop_walk.specs.Refusals.{Reading, and_then, bad_field}
use Rattle.framehop_walk.specs.Fields.{field_as, optional_field_as, address, each}
use Rattle.framehop_walk.specs.declared.sections.Section.{Section}
use Rattle.framehop_walk.specs.declared.sections.Sections.{Sections}

-- a section goes by its one name
abbrev pub entry_view : Section → Entry (Vec ℕ Global)
entry_view section = record { names = string_bytes section.name ∷ []; range = section.svma; contents = section.bytes }

abbrev pub entries_view : List Section → List (Entry (Vec ℕ Global))
entries_view sections = map entry_view sections

-- the section goes by this name
abbrev pub is_named : List ℕ → Section → Bool
is_named name section = is_called name (entry_view section)

-- the table of a module's sections
abbrev pub table_view : Sections → SectionTable (Vec ℕ Global)
table_view s = record {
  base_svma = s.base_svma;
  sections = entries_view s.sections.items;
  segments = entries_view s.segments.items;
}

-- an entry and a table with the bytes that they hold
abbrev pub bytes_of_entry : Entry (Vec ℕ Global) → Entry (List ℕ)
bytes_of_entry entry =
    record { names = entry.names; range = entry.range; contents = option_map (λ vec. vec.items) entry.contents }

abbrev pub bytes_of_table : SectionTable (Vec ℕ Global) → SectionTable (List ℕ)
bytes_of_table table = record {
  base_svma = table.base_svma;
  sections = map bytes_of_entry table.sections;
  segments = map bytes_of_entry table.segments;
}

-- a range: a list of start and end
abbrev pub ends : Option ℕ → Option ℕ → Option (Range ℕ)
ends (Some start) (Some end) = Some (record { start = start; end = end })
ends (Some start) None = None
ends None end = None

abbrev pub two_addresses : Items → Option (Range ℕ)
two_addresses (item start (item end no_items)) = ends (address start) (address end)
two_addresses (item start (item end (item other items))) = None
two_addresses (item start no_items) = None
two_addresses no_items = None

unfoldable pub range : Data → Option (Range ℕ)
range value = option_and_then two_addresses (as_array value)

-- bytes: pairs of hexadecimal digits
unfoldable pub bytes : Data → Option (List ℕ)
bytes value = option_and_then (λ digits. result_ok (decode_of digits)) (as_str value)

-- a name that no entry has
unfoldable pub new_name : List (Entry (List ℕ)) → List ℕ → Reading (List ℕ)
new_name entries name = if list_any (is_called name) entries then Err (bad_field (codes "name")) else Ok name

-- the set has the names of these entries
abbrev pub HasNames : BTreeSet (Bor (List ℕ)) → List (Entry (List ℕ)) → Type 0
HasNames set entries =
    (name : Bor (List ℕ)) → contains (λ x y. slice_cmp nat_cmp x.now y.now) set name
    ≡ list_any (is_called name.now) entries

-- where a section lies (SVMAs), and its bytes
unfoldable pub read_contents : List ℕ → Data → Reading (Entry (List ℕ))
read_contents name fields =
    and_then (optional_field_as range (codes "svma") fields) (λ svma.
    and_then (optional_field_as bytes (codes "data") fields) (λ contents.
    Ok (record { names = name ∷ []; range = svma; contents = contents })))

-- a section or a segment after others
unfoldable pub read_section : List (Entry (List ℕ)) → Data → Reading (Entry (List ℕ))
read_section before fields =
    and_then (field_as as_str (codes "name") fields) (λ name.
    and_then (new_name before name) (λ name. read_contents name fields))

-- `base_svma`, `sections` and `segments`
unfoldable pub read_table : Data → Reading (SectionTable (List ℕ))
read_table fields =
    and_then (field_as address (codes "base_svma") fields) (λ base_svma.
    and_then (field_as as_array (codes "sections") fields) (λ items.
    and_then (each read_section [] items) (λ sections.
    and_then (field_as as_array (codes "segments") fields) (λ items.
    and_then (each read_section [] items) (λ segments.
    Ok (record { base_svma = base_svma; sections = sections; segments = segments }))))))
