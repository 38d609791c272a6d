-- What is said of files, one after another.
use Rattle.std.proofs.Common.{◌≡◌, ℕ, suc, ◌+◌, ◌<◌, List, [], ◌∷◌, ◌++◌, length, drop, get_or, refl, ap, sym, ◌∙◌, subst, arith, append_assoc}
use Rattle.std.proofs.Math.Seq.{drop-cons}
use Rattle.framehop_processes.specs.declared.files.NamedFile.{NamedFile}
use Rattle.framehop_perf_stacks.specs.Problems.{IsLineOf, AreLinesOf}

-- the line of the next file comes before those of the files after it
pub lines-next : (files : List NamedFile) (i : ℕ) (d file : NamedFile) (line later : List ℕ) → i < length files → file ≡ get_or files i d
    → IsLineOf file line → AreLinesOf (drop (i + 1) files) later → AreLinesOf (drop i files) (line ++ later)
lines-next files i d file line later within is told rest =
    let one : i + 1 ≡ suc i = omega arith in
    let head : drop i files ≡ file ∷ drop (i + 1) files =
    drop-cons files i d within ∙ ap (λ f. f ∷ drop (suc i) files) (sym is) ∙ ap (λ n. file ∷ drop n files) (sym one) in
    subst (λ list. AreLinesOf list (line ++ later)) (sym head) (line, told, (later, rest, refl))

-- the lines so far, and those that are left
abbrev pub AreLinesSoFar : List NamedFile → ℕ → List ℕ → Type 0
AreLinesSoFar files i text = (later : List ℕ) → AreLinesOf (drop i files) later → AreLinesOf files (text ++ later)

pub one-line-more : (items files : List NamedFile) (i : ℕ) (d file : NamedFile) (line text : List ℕ) → items ≡ files → i < length items
    → file ≡ get_or items i d → IsLineOf file line → AreLinesSoFar files i text
    → AreLinesSoFar files (i + 1) (text ++ line)
one-line-more items files i d file line text same within is told so_far later rest =
    let inside = subst (λ list. i < length list) same within in
    let read : file ≡ get_or files i d = is ∙ ap (λ list. get_or list i d) same in
    subst (λ all. AreLinesOf files all) (sym (append_assoc text line later))
    (so_far (line ++ later) (lines-next files i d file line later inside read told rest))

append-none : (xs : List ℕ) → xs ++ [] ≡ xs
append-none [] = refl
append-none (x ∷ xs) = ap (λ rest. x ∷ rest) (append-none xs)

pub all-lines : (files : List NamedFile) (i : ℕ) (text : List ℕ) → drop i files ≡ [] → AreLinesSoFar files i text → AreLinesOf files text
all-lines files i text none so_far =
    subst (λ all. AreLinesOf files all) (append-none text)
    (so_far [] (subst (λ list. AreLinesOf list []) (sym none) refl))
