-- What in a command that adds a module is of no use: remarks on its sections.
use Rattle.std.specs.Prelude.{ℕ, ◌&&◌, not, Bool, List, [], ◌∷◌, ◌++◌, codes, Option, Some, None, is_some, option_and_then, if◌then◌else◌}
use Rattle.std.specs.List.{list_any}
use Rattle.std.specs.Str.{bytes_eq}
use Rattle.serde_json.specs.Data.{Data, Items, no_items, item}
use Rattle.serde_json.specs.Find.{get, as_str, as_array}
use Rattle.framehop_explain.specs.Note.{note_line}
use Rattle.framehop_explain.specs.Pieces.{text_of}
use Rattle.framehop_explain.specs.declared.kind.UnwindDataKind.{UnwindDataKind}
use Rattle.framehop_explain.specs.declared.kind.UnwindDataKind.TheVariants.{None as NoUnwindData, IndexRefused, EhFrameWithHeader, Indexed, Pe, Compact}

-- the sections that unwinding asks for: those of Mach-O files, of PE files and of ELF files (framehop 0.16.0,
-- `Module::new`)
abbrev pub asked_sections : List (List ℕ)
asked_sections =
    codes "__unwind_info" ∷ codes "__eh_frame" ∷ codes "__eh_frame_hdr" ∷ codes "__debug_frame" ∷ codes "__stubs"
    ∷ codes "__stub_helper" ∷ codes "__text" ∷ codes "__got" ∷ codes ".pdata" ∷ codes ".rdata" ∷ codes ".xdata"
    ∷ codes ".text" ∷ codes ".eh_frame" ∷ codes ".eh_frame_hdr" ∷ codes ".debug_frame" ∷ codes ".got" ∷ []

-- the sections whose addresses count where unwinding goes by data of a kind: those that unwind info refers to by RVAs,
-- those that compact unwind info tells apart, and those whose pointers count from themselves
abbrev pub placed_sections : UnwindDataKind → List (List ℕ)
placed_sections Pe = codes ".xdata" ∷ codes ".rdata" ∷ codes ".text" ∷ []
placed_sections (Compact has_eh_frame) =
    codes "__eh_frame" ∷ codes "__text" ∷ codes "__stubs" ∷ codes "__stub_helper" ∷ []
placed_sections EhFrameWithHeader =
    codes ".eh_frame" ∷ codes ".eh_frame_hdr" ∷ codes "__eh_frame" ∷ codes "__eh_frame_hdr" ∷ []
placed_sections _ = codes ".eh_frame" ∷ codes "__eh_frame" ∷ []

-- a name is one of these
abbrev pub is_among : List (List ℕ) → List ℕ → Bool
is_among names name = list_any (bytes_eq name) names

-- what becomes of a section whose address is not told
abbrev pub without_address : UnwindDataKind → List ℕ
without_address Pe = codes "so its data is not used"
without_address _ = codes "which counts as 0"

-- the remark on a section of this name, if there is one
abbrev pub remark_of : UnwindDataKind → Option Data → List ℕ → Option (List ℕ)
remark_of kind svma name =
    if is_among asked_sections name
    then if is_among (placed_sections kind) name && not (is_some svma)
    then Some (text_of (name ∷ codes " has no svma, " ∷ without_address kind ∷ [])) else None
    else Some (codes "unwinding asks for no section " ++ name)

-- the remark on a section as it is written
unfoldable pub remark_on : UnwindDataKind → Data → Option (List ℕ)
remark_on kind section =
    option_and_then (remark_of kind (get (codes "svma") section)) (option_and_then as_str (get (codes "name") section))

-- a remark as a line of a note
abbrev pub remark_line : List ℕ → List ℕ
remark_line text = note_line (codes "note: " ++ text)

-- the line of a remark, if there is one
abbrev pub remark_lines : Option (List ℕ) → List ℕ
remark_lines None = []
remark_lines (Some remark) = remark_line remark

-- those of the remarks on a list of sections, in their order
abbrev pub lines_among : UnwindDataKind → Items → List ℕ
lines_among kind no_items = []
lines_among kind (item section others) = remark_lines (remark_on kind section) ++ lines_among kind others

-- those on the sections of a command, if it has a list of them
abbrev pub lines_in : UnwindDataKind → Option Items → List ℕ
lines_in kind None = []
lines_in kind (Some sections) = lines_among kind sections

unfoldable pub section_lines : UnwindDataKind → Data → List ℕ
section_lines kind command = lines_in kind (option_and_then as_array (get (codes "sections") command))
