-- The unwind data of a module is that of its sections' bytes, in whatever they are kept.
use Rattle.std.proofs.Common.{◌≡◌, ℕ, Bool, true, false, List, [], ◌∷◌, map, codes, Option, Some, None, option_map, if◌then◌else◌, refl, sym, ap, ◌∙◌, subst}
use Rattle.std.specs.Prelude.{option_and_then}
use Rattle.std.specs.Option.{option_or}
use Rattle.std.specs.declared.ops.Range.{Range}
use Rattle.framehop_cfi.specs.Section.{section_of}
use Rattle.framehop_bytes.specs.SectionTable.{Entry, SectionTable, is_called, entry_of, range_of, data_of, without_data}
use Rattle.framehop_cfi.specs.declared.entry.UnwindSectionType.{UnwindSectionType}
use Rattle.framehop_cfi.specs.declared.entry.UnwindSectionType.TheVariants.{EhFrame, DebugFrame}
use Rattle.framehop_cfi.specs.declared.pointer.BaseAddresses.{BaseAddresses}
use Rattle.framehop_dwarf.specs.Bases.{base_addresses, base_addresses_of, range_under, section_in}
use Rattle.framehop_macho.specs.Unwinder.{Text}
use Rattle.framehop_pe.specs.Sections.{Placed}
use Rattle.framehop.specs.CallFrames.{frames_with_header, frames_without_header}
use Rattle.framehop.specs.Modules.{UnwindData, call_frames, pe_sections, compact_info}
use Rattle.framehop.specs.ModuleData.{Asked, ask, or_second, ask_either, with_index, range_or_empty, eh_frame_data, with_eh_frame, debug_frame_data, by_eh_frame, call_frame_data, placed, placed_in, with_pdata, by_pdata, pdata_data, text_or, text_in, with_unwind_info, by_unwind_info, unwind_data_in}

same : List ℕ → List ℕ
same bytes = bytes

module _ {D : Type 0} (contents : D → List ℕ) where
  -- an entry and a table with the bytes in the place of what keeps them
  abbrev pub entry_bytes : Entry D → Entry (List ℕ)
  entry_bytes entry = record { names = entry.names; range = entry.range; contents = option_map contents entry.contents }

  abbrev pub table_bytes : SectionTable D → SectionTable (List ℕ)
  table_bytes table = record {
    base_svma = table.base_svma;
    sections = map entry_bytes table.sections;
    segments = map entry_bytes table.segments;
  }

  -- ---- one section

  entry-case : (b : Bool) (entry : Entry D) (x : Option (Entry (List ℕ))) (y : Option (Entry D))
      → x ≡ option_map entry_bytes y
      → (if b then Some (entry_bytes entry) else x) ≡ option_map entry_bytes (if b then Some entry else y)
  entry-case true entry x y e = refl
  entry-case false entry x y e = e

  entry-bytes : (name : List ℕ) (entries : List (Entry D))
      → entry_of name (map entry_bytes entries) ≡ option_map entry_bytes (entry_of name entries)
  entry-bytes name [] = refl
  entry-bytes name (entry ∷ entries) =
      entry-case (is_called name entry) entry (entry_of name (map entry_bytes entries)) (entry_of name entries)
      (entry-bytes name entries)

  found-data : (x : Option (Entry D))
      → option_and_then (λ (e : Entry (List ℕ)). e.contents) (option_map entry_bytes x)
      ≡ option_map contents (option_and_then (λ (e : Entry D). e.contents) x)
  found-data None = refl
  found-data (Some entry) = refl

  data-bytes : (name : List ℕ) (entries : List (Entry D))
      → data_of name (map entry_bytes entries) ≡ option_map contents (data_of name entries)
  data-bytes name entries =
      ap (option_and_then (λ (e : Entry (List ℕ)). e.contents)) (entry-bytes name entries)
      ∙ found-data (entry_of name entries)

  found-range : (x : Option (Entry D))
      → option_and_then (λ (e : Entry (List ℕ)). e.range) (option_map entry_bytes x)
      ≡ option_and_then (λ (e : Entry D). e.range) x
  found-range None = refl
  found-range (Some entry) = refl

  range-bytes : (name : List ℕ) (entries : List (Entry D))
      → range_of name (map entry_bytes entries) ≡ range_of name entries
  range-bytes name entries =
      ap (option_and_then (λ (e : Entry (List ℕ)). e.range)) (entry-bytes name entries)
      ∙ found-range (entry_of name entries)

  without-case : (b : Bool) (entry : Entry D) (entries : List (Entry D)) (xs : List (Entry (List ℕ)))
      (ys : List (Entry D)) → xs ≡ map entry_bytes ys
      → (if b then record (entry_bytes entry) { contents = None } ∷ map entry_bytes entries else entry_bytes entry ∷ xs)
      ≡ map entry_bytes (if b then record entry { contents = None } ∷ entries else entry ∷ ys)
  without-case true entry entries xs ys e = refl
  without-case false entry entries xs ys e = ap (λ zs. entry_bytes entry ∷ zs) e

  without-bytes : (name : List ℕ) (entries : List (Entry D))
      → without_data name (map entry_bytes entries) ≡ map entry_bytes (without_data name entries)
  without-bytes name [] = refl
  without-bytes name (entry ∷ entries) =
      without-case (is_called name entry) entry entries (without_data name (map entry_bytes entries))
      (without_data name entries) (without-bytes name entries)

  -- ---- bases

  under-bytes : (entries : List (Entry D)) (first second : List ℕ)
      → range_under (map entry_bytes entries) first second ≡ range_under entries first second
  under-bytes entries first second =
      ap (λ r. option_or r (range_of second (map entry_bytes entries))) (range-bytes first entries)
      ∙ ap (option_or (range_of first entries)) (range-bytes second entries)

  bases-bytes : (entries : List (Entry D)) → base_addresses_of (map entry_bytes entries) ≡ base_addresses_of entries
  bases-bytes entries =
      let eh_frame = under-bytes entries (codes "__eh_frame") (codes ".eh_frame") in
      let header = under-bytes entries (codes "__eh_frame_hdr") (codes ".eh_frame_hdr") in
      let text = under-bytes entries (codes "__text") (codes ".text") in
      let got = under-bytes entries (codes "__got") (codes ".got") in
      bases eh_frame header text got where
        bases : {a a' b b' c c' d d' : Option (Range ℕ)} → a ≡ a' → b ≡ b' → c ≡ c' → d ≡ d'
            → base_addresses a b c d ≡ base_addresses a' b' c' d'
        bases {a} {a'} {b} {b'} {c} {c'} {d} {d'} e f g h =
            ap (λ x. base_addresses x b c d) e ∙ ap (λ x. base_addresses a' x c d) f
            ∙ ap (λ x. base_addresses a' b' x d) g ∙ ap (λ x. base_addresses a' b' c' x) h

  section-bytes : (kind : UnwindSectionType) (table : SectionTable D) (bytes : List ℕ)
      → section_in kind (table_bytes table) bytes ≡ section_in kind table bytes
  section-bytes kind table bytes = ap (λ bases. section_of kind bases bytes) (bases-bytes table.sections)

  -- ---- asking for sections

  record IsSame (x : Asked (List ℕ)) (y : Asked D) : Type 0 where
    found : x.found ≡ option_map contents y.found
    left : x.left ≡ table_bytes y.left

  ask-bytes : (name : List ℕ) (x : SectionTable (List ℕ)) (y : SectionTable D) → x ≡ table_bytes y
      → IsSame (ask name x) (ask name y)
  ask-bytes name x y e =
      let P : SectionTable (List ℕ) → Type 0 = λ t. IsSame (ask name t) (ask name y) in
      subst P (sym e) (record {
        found = data-bytes name y.sections;
        left = ap (λ (s : List (Entry (List ℕ))). record (table_bytes y) { sections = s })
            (without-bytes name y.sections);
      })

  or-bytes : (f : Option (List ℕ)) (g : Option D) (x x' : Asked (List ℕ)) (y y' : Asked D) → f ≡ option_map contents g
      → IsSame x y → IsSame x' y'
      → IsSame (or_second f x x') (or_second g y y')
  or-bytes None None x x' y y' e first second = second
  or-bytes None (Some d) x x' y y' e first second = cc
  or-bytes (Some bytes) None x x' y y' e first second = cc
  or-bytes (Some bytes) (Some d) x x' y y' e first second = first

  either-bytes : (first second : List ℕ) (table : SectionTable D)
      → IsSame (ask_either first second (table_bytes table)) (ask_either first second table)
  either-bytes first second table =
      let asked = ask-bytes first (table_bytes table) table refl in
      or-bytes (ask first (table_bytes table)).found (ask first table).found (ask first (table_bytes table))
      (ask second (ask first (table_bytes table)).left)
      (ask first table) (ask second (ask first table).left) asked.found asked
      (ask-bytes second (ask first (table_bytes table)).left (ask first table).left asked.left)

  -- what is made of what was asked for
  on-asked : {R : Type 0} (make : Option (List ℕ) → SectionTable (List ℕ) → R) (made : Option D → SectionTable D → R)
      → ((found : Option D) (left : SectionTable D)
      → make (option_map contents found) (table_bytes left) ≡ made found left)
      → (x : Asked (List ℕ)) (y : Asked D) → IsSame x y → make x.found x.left ≡ made y.found y.left
  on-asked make made each x y s =
      ap (λ f. make f x.left) s.found ∙ ap (λ l. make (option_map contents y.found) l) s.left ∙ each y.found y.left

  -- ---- call frame sections

  eh_frame_data-bytes : (eh_frame : D) (header : Option D) (table : SectionTable D)
      → eh_frame_data same (contents eh_frame) (option_map contents header) (table_bytes table)
      ≡ eh_frame_data contents eh_frame header table
  unfolding same
  eh_frame_data-bytes eh_frame None table = ap (λ s. with_index s table.base_svma)
      (section-bytes EhFrame table (contents eh_frame))
  eh_frame_data-bytes eh_frame (Some header) table =
      ap (λ bases. call_frames (frames_with_header (contents header) (contents eh_frame) bases table.base_svma))
      (bases-bytes table.sections)

  with_eh_frame-bytes : (eh_frame : D) (table : SectionTable D)
      → with_eh_frame same (contents eh_frame) (table_bytes table) ≡ with_eh_frame contents eh_frame table
  with_eh_frame-bytes eh_frame table =
      on-asked (eh_frame_data same (contents eh_frame)) (eh_frame_data contents eh_frame) (eh_frame_data-bytes eh_frame)
      (ask_either (codes ".eh_frame_hdr") (codes "__eh_frame_hdr") (table_bytes table))
      (ask_either (codes ".eh_frame_hdr") (codes "__eh_frame_hdr") table)
      (either-bytes (codes ".eh_frame_hdr") (codes "__eh_frame_hdr") table)

  debug_frame_data-bytes : (found : Option D) (table : SectionTable D)
      → debug_frame_data same (option_map contents found) (table_bytes table) ≡ debug_frame_data contents found table
  unfolding same
  debug_frame_data-bytes None table = refl
  debug_frame_data-bytes (Some debug_frame) table = ap (λ s. with_index s table.base_svma)
      (section-bytes DebugFrame table (contents debug_frame))

  by_eh_frame-bytes : (found : Option D) (table : SectionTable D)
      → by_eh_frame same (option_map contents found) (table_bytes table) ≡ by_eh_frame contents found table
  by_eh_frame-bytes (Some eh_frame) table = with_eh_frame-bytes eh_frame table
  by_eh_frame-bytes None table =
      on-asked (debug_frame_data same) (debug_frame_data contents) debug_frame_data-bytes
      (ask (codes ".debug_frame") (table_bytes table)) (ask (codes ".debug_frame") table)
      (ask-bytes (codes ".debug_frame") (table_bytes table) table refl)

  call_frame_data-bytes : (table : SectionTable D)
      → call_frame_data same (table_bytes table) ≡ call_frame_data contents table
  call_frame_data-bytes table =
      on-asked (by_eh_frame same) (by_eh_frame contents) by_eh_frame-bytes
      (ask_either (codes ".eh_frame") (codes "__eh_frame") (table_bytes table))
      (ask_either (codes ".eh_frame") (codes "__eh_frame") table)
      (either-bytes (codes ".eh_frame") (codes "__eh_frame") table)

  -- ---- PE

  placed-bytes : (base : ℕ) (range : Option (Range ℕ)) (bytes : Option D)
      → placed same base range (option_map contents bytes) ≡ placed contents base range bytes
  unfolding same
  placed-bytes base None bytes = refl
  placed-bytes base (Some range) None = refl
  placed-bytes base (Some range) (Some bytes) = refl

  placed_in-bytes : (name : List ℕ) (x : SectionTable (List ℕ)) (y : SectionTable D) → x ≡ table_bytes y
      → placed_in same name x ≡ placed_in contents name y
  placed_in-bytes name x y e =
      ap (placed_in same name) e
      ∙ ap (λ r. placed same y.base_svma r (data_of name (map entry_bytes y.sections))) (range-bytes name y.sections)
      ∙ ap (placed same y.base_svma (range_of name y.sections)) (data-bytes name y.sections)
      ∙ placed-bytes y.base_svma (range_of name y.sections) (data_of name y.sections)

  pe_data : List ℕ → Option Placed → Option Placed → Option Placed → UnwindData
  pe_data pdata rdata xdata text = pe_sections (record { pdata = pdata; rdata = rdata; xdata = xdata; text = text })

  with_pdata-bytes : (pdata : D) (table : SectionTable D)
      → with_pdata same (contents pdata) (table_bytes table) ≡ with_pdata contents pdata table
  unfolding same pe_data
  with_pdata-bytes pdata table =
      let first = ask-bytes (codes ".rdata") (table_bytes table) table refl in
      let xdata = (ask (codes ".rdata") table).left in
      let xdata' = (ask (codes ".rdata") (table_bytes table)).left in
      let second = ask-bytes (codes ".xdata") xdata' xdata first.left in
      let text = (ask (codes ".xdata") xdata).left in
      let text' = (ask (codes ".xdata") xdata').left in
      ap (λ r. pe_data (contents pdata) r (placed_in same (codes ".xdata") xdata')
      (placed_in same (codes ".text") text'))
      (placed_in-bytes (codes ".rdata") (table_bytes table) table refl)
      ∙ ap (λ x. pe_data (contents pdata) (placed_in contents (codes ".rdata") table) x
      (placed_in same (codes ".text") text'))
      (placed_in-bytes (codes ".xdata") xdata' xdata first.left)
      ∙ ap (λ t. pe_data (contents pdata) (placed_in contents (codes ".rdata") table)
      (placed_in contents (codes ".xdata") xdata) t)
      (placed_in-bytes (codes ".text") text' text second.left)

  by_pdata-bytes : (found : Option D) (table : SectionTable D)
      → by_pdata same (option_map contents found) (table_bytes table) ≡ by_pdata contents found table
  by_pdata-bytes (Some pdata) table = with_pdata-bytes pdata table
  by_pdata-bytes None table = call_frame_data-bytes table

  pdata_data-bytes : (table : SectionTable D) → pdata_data same (table_bytes table) ≡ pdata_data contents table
  pdata_data-bytes table =
      on-asked (by_pdata same) (by_pdata contents) by_pdata-bytes
      (ask (codes ".pdata") (table_bytes table)) (ask (codes ".pdata") table)
      (ask-bytes (codes ".pdata") (table_bytes table) table refl)

  -- ---- compact unwind info

  text_or-bytes : (base : ℕ) (range : Option (Range ℕ)) (bytes : Option D) (other : Option Text)
      → text_or same base range (option_map contents bytes) other ≡ text_or contents base range bytes other
  unfolding same
  text_or-bytes base None bytes other = refl
  text_or-bytes base (Some range) None other = refl
  text_or-bytes base (Some range) (Some bytes) other = refl

  text_in-bytes : (range : Option (Range ℕ)) (table : SectionTable D)
      → text_in same range (table_bytes table) ≡ text_in contents range table
  text_in-bytes range table =
      let base = table.base_svma in
      let segments = map entry_bytes table.segments in
      let sections = map entry_bytes table.sections in
      ap (λ r. text_or same base r (data_of (codes "__TEXT") segments)
      (text_or same base range (data_of (codes "__text") sections) None))
      (range-bytes (codes "__TEXT") table.segments)
      ∙ ap (λ d. text_or same base (range_of (codes "__TEXT") table.segments) d
      (text_or same base range (data_of (codes "__text") sections) None))
      (data-bytes (codes "__TEXT") table.segments)
      ∙ ap (λ d. text_or same base (range_of (codes "__TEXT") table.segments)
      (option_map contents (data_of (codes "__TEXT") table.segments)) (text_or same base range d None))
      (data-bytes (codes "__text") table.sections)
      ∙ ap (λ o. text_or same base (range_of (codes "__TEXT") table.segments)
      (option_map contents (data_of (codes "__TEXT") table.segments)) o)
      (text_or-bytes base range (data_of (codes "__text") table.sections) None)
      ∙ text_or-bytes base (range_of (codes "__TEXT") table.segments) (data_of (codes "__TEXT") table.segments)
      (text_or contents base range (data_of (codes "__text") table.sections) None)

  frames-bytes : (found : Option D) (bases : BaseAddresses) (base : ℕ)
      → option_map (λ bytes. frames_without_header (same bytes) bases base) (option_map contents found)
      ≡ option_map (λ bytes. frames_without_header (contents bytes) bases base) found
  unfolding same
  frames-bytes None bases base = refl
  frames-bytes (Some found) bases base = refl

  compact_data : List ℕ → ℕ → BaseAddresses → Option Text → Option (Range ℕ) → Option (Range ℕ) → Option (List ℕ)
      → UnwindData
  compact_data info base bases text stubs helper found = compact_info (record {
    info = record {
      unwind_info = info;
      text = text;
      stubs = range_or_empty base stubs;
      stub_helper = range_or_empty base helper;
    };
    frames = option_map (λ bytes. frames_without_header (same bytes) bases base) found;
  })

  with_unwind_info-bytes : (info : D) (table : SectionTable D)
      → with_unwind_info same (contents info) (table_bytes table) ≡ with_unwind_info contents info table
  unfolding same compact_data
  with_unwind_info-bytes info table =
      let base = table.base_svma in
      let sections = map entry_bytes table.sections in
      let asked = ask-bytes (codes "__eh_frame") (table_bytes table) table refl in
      let left = (ask (codes "__eh_frame") table).left in
      let found = (ask (codes "__eh_frame") table).found in
      let text = range_of (codes "__text") table.sections in
      let stubs = range_of (codes "__stubs") table.sections in
      let helper = range_of (codes "__stub_helper") table.sections in
      let bases = base_addresses_of table.sections in
      ap (λ b. compact_data (contents info) base b
      (text_in same (range_of (codes "__text") sections) (ask (codes "__eh_frame") (table_bytes table)).left)
      (range_of (codes "__stubs") sections) (range_of (codes "__stub_helper") sections)
      (data_of (codes "__eh_frame") sections)) (bases-bytes table.sections)
      ∙ ap (λ t. compact_data (contents info) base bases
      (text_in same t (ask (codes "__eh_frame") (table_bytes table)).left)
      (range_of (codes "__stubs") sections) (range_of (codes "__stub_helper") sections)
      (data_of (codes "__eh_frame") sections)) (range-bytes (codes "__text") table.sections)
      ∙ ap (λ t. compact_data (contents info) base bases t
      (range_of (codes "__stubs") sections) (range_of (codes "__stub_helper") sections)
      (data_of (codes "__eh_frame") sections))
      (ap (text_in same text) asked.left ∙ text_in-bytes text left)
      ∙ ap (λ r. compact_data (contents info) base bases (text_in contents text left) r
      (range_of (codes "__stub_helper") sections) (data_of (codes "__eh_frame") sections))
      (range-bytes (codes "__stubs") table.sections)
      ∙ ap (λ r. compact_data (contents info) base bases (text_in contents text left) stubs r
      (data_of (codes "__eh_frame") sections))
      (range-bytes (codes "__stub_helper") table.sections)
      ∙ ap (λ f. compact_data (contents info) base bases (text_in contents text left) stubs helper f) asked.found
      ∙ ap (λ frames. compact_info (record {
        info = record {
          unwind_info = contents info;
          text = text_in contents text left;
          stubs = range_or_empty base stubs;
          stub_helper = range_or_empty base helper;
        };
        frames = frames;
      })) (frames-bytes found bases base)

  by_unwind_info-bytes : (found : Option D) (table : SectionTable D)
      → by_unwind_info same (option_map contents found) (table_bytes table) ≡ by_unwind_info contents found table
  by_unwind_info-bytes (Some info) table = with_unwind_info-bytes info table
  by_unwind_info-bytes None table = pdata_data-bytes table

  -- a module's unwind data is that of the table's bytes
  pub data-of_bytes : (table : SectionTable D)
      → unwind_data_in (λ bytes. bytes) (table_bytes table) ≡ unwind_data_in contents table
  unfolding same unwind_data_in
  data-of_bytes table =
      on-asked (by_unwind_info same) (by_unwind_info contents) by_unwind_info-bytes
      (ask (codes "__unwind_info") (table_bytes table)) (ask (codes "__unwind_info") table)
      (ask-bytes (codes "__unwind_info") (table_bytes table) table refl)
