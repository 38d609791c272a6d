-- The lines of files, one after another.
use Rattle.std.proofs.Common.{◌≡◌, ◌+◌, ◌<◌, ℕ, List, [], ◌∷◌, ◌++◌, drop, get_or, length, refl, ap, sym, ◌∙◌, subst, append_assoc, append-nil}
use Rattle.std.proofs.lemmas.List.{at_drop_more}
use Rattle.framehop_processes.specs.declared.mapping.Mapping.{Mapping}
use Rattle.framehop_processes.specs.declared.files.Files.{Files}
use Rattle.framehop_processes.specs.declared.files.NamedFile.{NamedFile}
use Rattle.framehop_dumps.specs.Dump.{DumpView}
use Rattle.framehop_dump_stacks.specs.Problems.{IsLineOf, AreLinesOf}

module _ (dump : DumpView) (files : Files) (mappings : List Mapping) (list : List NamedFile) where
  -- those of the files up to an index
  abbrev pub AreToldUpTo : ℕ → List ℕ → Type 0
  AreToldUpTo at text = (later : List ℕ) → AreLinesOf dump files mappings (drop at list) later
      → AreLinesOf dump files mappings list (text ++ later)

  -- one more
  pub next-line : (items : List NamedFile) → items ≡ list → (at : ℕ) (d : NamedFile) → at < length items → (text line all : List ℕ)
      → IsLineOf dump files mappings (get_or items at d).name.items (get_or items at d).object (get_or items at d).problem line
      → all ≡ text ++ line → AreToldUpTo at text → AreToldUpTo (at + 1) all
  next-line items same at d within text line all told is up_to = λ later are.
      let left : drop at list ≡ get_or items at d ∷ drop (at + 1) list =
      subst (λ (some : List NamedFile). drop at some ≡ get_or items at d ∷ drop (at + 1) some) same (at_drop_more (λ xs. xs) items at d within) in
      subst (AreLinesOf dump files mappings list) (sym (append_assoc text line later) ∙ ap (λ some. some ++ later) (sym is))
      (up_to (line ++ later)
      (subst (λ (some : List NamedFile). AreLinesOf dump files mappings some (line ++ later)) (sym left) (line, told, (later, are, refl))))

  -- all of them
  pub all-lines : (at : ℕ) (text : List ℕ) → drop at list ≡ [] → AreToldUpTo at text → AreLinesOf dump files mappings list text
  all-lines at text none up_to =
      subst (AreLinesOf dump files mappings list) (append-nil text)
      (up_to [] (subst (λ (some : List NamedFile). AreLinesOf dump files mappings some []) (sym none) refl))
