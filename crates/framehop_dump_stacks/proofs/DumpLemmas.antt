-- The mapped code of a process one after another.
use Rattle.std.proofs.Common.{◌≡◌, ℕ, ◌+◌, ◌<◌, List, ◌∷◌, map, drop, length, get_or, subst}
use Rattle.std.proofs.lemmas.List.{at_drop_more}
use Rattle.framehop_dumps.specs.Dump.{mapped_code_view}
use Rattle.framehop_dumps.specs.declared.dump.MappedCode.{MappedCode}

-- the mapped code that is left at a place
pub code-left : (items code : List MappedCode) → items ≡ code → (i : ℕ) (d : MappedCode) → i < length items
    → map mapped_code_view (drop i code) ≡ mapped_code_view (get_or items i d) ∷ map mapped_code_view (drop (i + 1) code)
code-left items code same i d within =
    subst (λ list. map mapped_code_view (drop i list) ≡ mapped_code_view (get_or items i d) ∷ map mapped_code_view (drop (i + 1) list)) same
    (at_drop_more (map mapped_code_view) items i d within)
