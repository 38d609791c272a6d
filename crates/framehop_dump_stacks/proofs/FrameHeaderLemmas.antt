-- The segments that have `.eh_frame_hdr`, kept by the paths of the files whose code was mapped.
use Rattle.std.proofs.Common.{◌≡◌, ◌∙◌, ◌+◌, ◌<◌, ℕ, true, false, cond, inl, inr, List, [], ◌∷◌, map, take, length, get_or, Option, Some, None, refl, sym, ap, subst}
use Rattle.std.specs.Prelude.{nat_eq, is_some, option_map, unwrap_or}
use Rattle.std.specs.BTreeMap.{BTreeMap, get_by}
use Rattle.std.specs.Cmp.Lexicographic.{pointwise, slice_cmp, bytes_decides}
use Rattle.std.specs.List.{find}
use Rattle.std.specs.Option.{option_or}
use Rattle.std.specs.Ordering.{nat_cmp}
use denote.Ref.{Bor}
use Rattle.std.proofs.lemmas.Bool.{cases_Bool}
use Rattle.std.proofs.lemmas.List.{take_more, map-append}
use Rattle.std.proofs.lemmas.List.Folds.{find-append}
use Rattle.framehop_object.specs.declared.elf.program_header.ProgramHeader.{ProgramHeader}
use Rattle.framehop_processes.specs.MappedBytes.{contents_in}
use Rattle.framehop_processes.specs.declared.files.NamedFile.{NamedFile}
use Rattle.framehop_processes.specs.declared.mapped_bytes.MappedBytes.{MappedBytes}
use Rattle.framehop_dumps.specs.Dump.{DumpView, MappedCodeView, mapped_code_view, is_of_path, head_among}
use Rattle.framehop_dump_stacks.specs.FrameHeaders.{kept_for, first_header}
use Rattle.framehop_object.specs.Elf.Header.{file_header_of}
use Rattle.framehop_dumps.specs.Image.{CallFramesView, headers_in, segments_in, eh_frame_header, sections_of}
use Rattle.framehop_dump_stacks.specs.Modules.{sections_by}
use Rattle.framehop_dumps.specs.declared.dump.MappedCode.{MappedCode}
use Rattle.framehop_dump_stacks.proofs.OptionLemmas.{or-none, some-first, none-first, map-or}

abbrev pub header_in : MappedCodeView → Option ProgramHeader
header_in code = eh_frame_header (segments_in code.head)

-- what is kept after one more mapping of code
pub one-more-code : (code : List MappedCode) (i : ℕ) (d : MappedCode) (path : List ℕ) (old new : Option (Option ProgramHeader)) → i < length code
    → new ≡ option_or old (first_header (mapped_code_view (get_or code i d) ∷ []) path)
    → old ≡ first_header (map mapped_code_view (take i code)) path
    → new ≡ first_header (map mapped_code_view (take (i + 1) code)) path
one-more-code code i d path old new within put is =
    let one = mapped_code_view (get_or code i d) in
    let before = map mapped_code_view (take i code) in
    put
    ∙ ap (λ kept. option_or kept (first_header (one ∷ []) path)) is
    ∙ map-or header_in (find (is_of_path path) before) (find (is_of_path path) (one ∷ []))
    ∙ ap (option_map header_in) (sym (find-append (is_of_path path) before (one ∷ [])))
    ∙ ap (λ some. first_header some path)
    (sym (map-append mapped_code_view (take i code) (get_or code i d ∷ [])) ∙ ap (map mapped_code_view) (sym (take_more code i d within)))

-- no bytes tell of no segment
none-in : eh_frame_header (segments_in []) ≡ None
unfolding headers_in file_header_of
none-in = refl

-- what is kept for a path is that of the first bytes of the file
pub code-kept : (code : List MappedCodeView) (path : List ℕ) (kept : Option (Option ProgramHeader))
    → kept ≡ first_header code path → unwrap_or kept None ≡ eh_frame_header (segments_in (head_among code path))
code-kept code path kept is = rw is (by (find (is_of_path path) code))
  where
    by : (found : Option MappedCodeView) → unwrap_or (option_map header_in found) None ≡ eh_frame_header (segments_in (unwrap_or (option_map (λ code. code.head) found) []))
    by None = sym none-in
    by (Some code) = refl

module _ (by_path : BTreeMap (Bor (List ℕ)) (Option ProgramHeader)) (code : MappedCodeView) (path : List ℕ) where
  other-code : pointwise nat_eq code.path path ≡ false → first_header (code ∷ []) path ≡ None
  other-code other = rw other refl

  -- code of a path for which something is kept
  pub code-before : is_some (get_by (λ key. slice_cmp nat_cmp code.path key.now) by_path) ≡ true
      → kept_for by_path path ≡ option_or (kept_for by_path path) (first_header (code ∷ []) path)
  code-before has =
      elim (cases_Bool (pointwise nat_eq code.path path)) [
        | inl same ↦
            let e : code.path ≡ path = (bytes_decides code.path path).0 same in
            some-first (kept_for by_path path) _ (subst (λ p. is_some (kept_for by_path p) ≡ true) e has)
        | inr other ↦ or-none (kept_for by_path path) ∙ ap (option_or (kept_for by_path path)) (sym (other-code other))
      ]

  -- the first of its path
  pub code-now : (header : Option ProgramHeader) (new : Option (Option ProgramHeader))
      → is_some (get_by (λ key. slice_cmp nat_cmp code.path key.now) by_path) ≡ false
      → header ≡ header_in code
      → new ≡ cond (pointwise nat_eq code.path path) (Some header) (kept_for by_path path)
      → new ≡ option_or (kept_for by_path path) (first_header (code ∷ []) path)
  code-now header new has is put =
      elim (cases_Bool (pointwise nat_eq code.path path)) [
        | inl same ↦
            let e : code.path ≡ path = (bytes_decides code.path path).0 same in
            let here : new ≡ Some header = rw same at put in
            let first : first_header (code ∷ []) path ≡ Some (header_in code) = rw same refl in
            here ∙ ap (λ h. Some h) is ∙ sym first ∙ none-first (kept_for by_path path) _ (subst (λ p. is_some (kept_for by_path p) ≡ false) e has)
        | inr other ↦
            let here : new ≡ kept_for by_path path = rw other at put in
            here ∙ or-none (kept_for by_path path) ∙ ap (option_or (kept_for by_path path)) (sym (other-code other))
      ]

-- no bytes are seen as none
pub none-seen : (bytes : Option MappedBytes) → is_some bytes ≡ false → contents_in bytes ≡ None
none-seen None none = refl
none-seen (Some bytes) none = absurd cc

-- memory that has no call frames of a file has nothing of it
without-frames : (found : Option CallFramesView) → (sections_of found).eh_frame ≡ None → sections_of found ≡ sections_of None
without-frames None none = refl
without-frames (Some frames) none = absurd cc

pub nothing-of : (dump : DumpView) (file : Option NamedFile) (base : ℕ) → (sections_by dump file base).eh_frame ≡ None → sections_by dump file base ≡ sections_of None
nothing-of dump None base none = refl
nothing-of dump (Some file) base none = without-frames _ none
