-- The names of threads, one after another.
use Rattle.std.proofs.Common.{◌≡◌, ℕ, ◌+◌, ◌<◌, List, [], ◌∷◌, map, take, length, get_or, Option, Some, None, if◌then◌else◌, ap, sym, ◌∙◌}
use Rattle.std.specs.Prelude.{◌==◌}
use Rattle.std.proofs.lemmas.List.{take_more, map-append}
use Rattle.std.proofs.lemmas.List.Sums.{fold-append}
use Rattle.framehop_dumps.specs.ThreadNames.{NamedView, named_view, name_among}
use Rattle.framehop_dumps.specs.declared.thread_names.NamedThread.{NamedThread}

-- after one more name
pub name-next : (listed : List NamedThread) (i : ℕ) (d : NamedThread) (tid : ℕ) → i < length listed → (old new : Option (List ℕ))
    → new ≡ (if (get_or listed i d).tid == tid then Some (get_or listed i d).name.items else old)
    → old ≡ name_among (map named_view (take i listed)) tid
    → new ≡ name_among (map named_view (take (i + 1) listed)) tid
name-next listed i d tid within old new put so_far =
    let named = get_or listed i d in
    put ∙ ap (λ found. if named.tid == tid then Some named.name.items else found) so_far
    ∙ sym (fold-append (λ found (named : NamedView). if named.tid == tid then Some named.name else found) None (map named_view (take i listed)) (named_view named ∷ []))
    ∙ ap (λ names. name_among names tid) (sym (map-append named_view (take i listed) (named ∷ [])) ∙ ap (map named_view) (sym (take_more listed i d within)))
