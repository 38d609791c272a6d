-- What memory has of files, kept by their paths.
use Rattle.std.proofs.Common.{◌≡◌, ◌∙◌, ◌+◌, ◌<◌, ℕ, Bool, true, false, cond, inl, inr, List, [], ◌∷◌, ◌++◌, map, take, length, get_or, Option, Some, None, refl, sym, ap, subst}
use Rattle.std.specs.Prelude.{◌&&◌, nat_eq, is_some, option_map, unwrap_or}
use Rattle.std.specs.BTreeMap.{BTreeMap, get_by}
use Rattle.std.specs.Cmp.Lexicographic.{pointwise, slice_cmp, bytes_decides}
use Rattle.std.specs.List.{find}
use Rattle.std.specs.Option.{option_or}
use Rattle.std.specs.Ordering.{nat_cmp}
use denote.Ref.{Bor}
use Rattle.std.proofs.lemmas.Bool.{cases_Bool}
use Rattle.std.proofs.lemmas.List.{take_more, map-append}
use Rattle.std.proofs.lemmas.List.Folds.{find-append}
use Rattle.framehop_dump_files.specs.Coredump.MappedFile.{MappedFileView, mapped_file_view}
use Rattle.framehop_dump_files.specs.declared.coredump.mapped_file.MappedFile.{MappedFile}
use Rattle.framehop_memory.specs.Memory.{MemoryView}
use Rattle.framehop_dumps.specs.CoreDump.{is_beginning, head_by, head_in}
use Rattle.framehop_dumps.specs.Heads.{FileHeadView, file_head_view, file_head_of, kept_at, beginning_head}
use Rattle.framehop_dumps.specs.Image.{head_at}
use Rattle.framehop_dumps.specs.declared.heads.FileHead.{FileHead}

pub or-none : {X : Type 0} (x : Option X) → x ≡ option_or x None
or-none None = refl
or-none (Some x) = refl

pub some-first : {X : Type 0} (x y : Option X) → is_some x ≡ true → x ≡ option_or x y
some-first None y is = cc
some-first (Some a) y is = refl

pub none-first : {X : Type 0} (x y : Option X) → is_some x ≡ false → y ≡ option_or x y
none-first None y is = refl
none-first (Some a) y is = cc

pub map-or : {X Y : Type 0} (f : X → Y) (a b : Option X) → option_or (option_map f a) (option_map f b) ≡ option_map f (option_or a b)
map-or f None b = refl
map-or f (Some a) b = refl

some-map : {X Y : Type 0} (f : X → Y) (a : Option X) → is_some (option_map f a) ≡ is_some a
some-map f None = refl
some-map f (Some a) = refl

pub map-cond : {X Y : Type 0} (f : X → Y) (b : Bool) (x : X) (y : Option X) → option_map f (cond b (Some x) y) ≡ cond b (Some (f x)) (option_map f y)
map-cond f true x y = refl
map-cond f false x y = refl

none-begins : {X : Type 0} (a b : Bool) (x : X) → b ≡ false → cond (a && b) (Some x) None ≡ None
none-begins true b x other = rw other refl
none-begins false b x other = refl

-- what is found among one more mapping
head-more : (memory : MemoryView) (files : List MappedFileView) (m : MappedFileView) (path : List ℕ)
    → option_or (beginning_head memory files path) (beginning_head memory (m ∷ []) path) ≡ beginning_head memory (files ++ m ∷ []) path
head-more memory files m path =
    map-or (λ mapped. file_head_of (head_at memory mapped.start)) (find (is_beginning path) files) (find (is_beginning path) (m ∷ []))
    ∙ ap (option_map (λ mapped. file_head_of (head_at memory mapped.start))) (sym (find-append (is_beginning path) files (m ∷ [])))

files-more : (files : List MappedFile) (i : ℕ) (d : MappedFile) → i < length files
    → map mapped_file_view (take i files) ++ mapped_file_view (get_or files i d) ∷ [] ≡ map mapped_file_view (take (i + 1) files)
files-more files i d within =
    sym (map-append mapped_file_view (take i files) (get_or files i d ∷ []))
    ∙ ap (map mapped_file_view) (sym (take_more files i d within))

-- what is kept after one more mapping
pub one-more-kept : (memory : MemoryView) (files : List MappedFile) (i : ℕ) (d : MappedFile) (path : List ℕ) (old new : Option FileHeadView) → i < length files
    → new ≡ option_or old (beginning_head memory (mapped_file_view (get_or files i d) ∷ []) path)
    → old ≡ beginning_head memory (map mapped_file_view (take i files)) path
    → new ≡ beginning_head memory (map mapped_file_view (take (i + 1) files)) path
one-more-kept memory files i d path old new within put is =
    put
    ∙ ap (λ kept. option_or kept (beginning_head memory (mapped_file_view (get_or files i d) ∷ []) path)) is
    ∙ head-more memory (map mapped_file_view (take i files)) (mapped_file_view (get_or files i d)) path
    ∙ ap (λ some. beginning_head memory some path) (files-more files i d within)

-- what memory has of a file by what is kept for its path
pub file-kept : (memory : MemoryView) (files : List MappedFileView) (path : List ℕ) (kept : Option FileHeadView)
    → kept ≡ beginning_head memory files path → unwrap_or kept (file_head_of []) ≡ file_head_of (head_in memory files path)
file-kept memory files path kept is = rw is (by (find (is_beginning path) files))
  where
    by : (found : Option MappedFileView) → unwrap_or (option_map (λ mapped. file_head_of (head_at memory mapped.start)) found) (file_head_of []) ≡ file_head_of (head_by memory found)
    by None = refl
    by (Some mapped) = refl

module _ (by_path : BTreeMap (Bor (List ℕ)) FileHead) (memory : MemoryView) (m : MappedFileView) (path : List ℕ) where
  -- a mapping that has not the first byte
  pub passed-over : nat_eq m.offset 0 ≡ false → kept_at by_path path ≡ option_or (kept_at by_path path) (beginning_head memory (m ∷ []) path)
  passed-over later = rw later (or-none (kept_at by_path path))

  other-path : pointwise nat_eq m.path path ≡ false → beginning_head memory (m ∷ []) path ≡ None
  other-path other =
      ap (option_map (λ mapped. file_head_of (head_at memory mapped.start))) (none-begins (nat_eq m.offset 0) (pointwise nat_eq m.path path) m other)

  -- a mapping of a path for which something is kept
  pub kept-before : is_some (get_by (λ key. slice_cmp nat_cmp m.path key.now) by_path) ≡ true
      → kept_at by_path path ≡ option_or (kept_at by_path path) (beginning_head memory (m ∷ []) path)
  kept-before has =
      elim (cases_Bool (pointwise nat_eq m.path path)) [
        | inl same ↦
            let e : m.path ≡ path = (bytes_decides m.path path).0 same in
            let some = some-map file_head_view (get_by (λ key. slice_cmp nat_cmp m.path key.now) by_path) ∙ has in
            some-first (kept_at by_path path) _ (subst (λ p. is_some (kept_at by_path p) ≡ true) e some)
        | inr other ↦ or-none (kept_at by_path path) ∙ ap (option_or (kept_at by_path path)) (sym (other-path other))
      ]

  -- the first of its path
  pub kept-now : (file : FileHeadView) (new : Option FileHeadView) → nat_eq m.offset 0 ≡ true
      → is_some (get_by (λ key. slice_cmp nat_cmp m.path key.now) by_path) ≡ false
      → file ≡ file_head_of (head_at memory m.start)
      → new ≡ cond (pointwise nat_eq m.path path) (Some file) (kept_at by_path path)
      → new ≡ option_or (kept_at by_path path) (beginning_head memory (m ∷ []) path)
  kept-now file new begins has is put =
      elim (cases_Bool (pointwise nat_eq m.path path)) [
        | inl same ↦
            let e : m.path ≡ path = (bytes_decides m.path path).0 same in
            let none = some-map file_head_view (get_by (λ key. slice_cmp nat_cmp m.path key.now) by_path) ∙ has in
            let here : new ≡ Some file = rw same at put in
            let first : beginning_head memory (m ∷ []) path ≡ Some (file_head_of (head_at memory m.start)) = rw (begins, same) refl in
            here ∙ ap (λ f. Some f) is ∙ sym first ∙ none-first (kept_at by_path path) _ (subst (λ p. is_some (kept_at by_path p) ≡ false) e none)
        | inr other ↦
            let here : new ≡ kept_at by_path path = rw other at put in
            here ∙ or-none (kept_at by_path path) ∙ ap (option_or (kept_at by_path path)) (sym (other-path other))
      ]
