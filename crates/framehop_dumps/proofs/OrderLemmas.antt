-- Threads that are put in order, one after another; the threads of a core file, of which the first with a signal got it.
use Rattle.std.proofs.Common.{◌≡◌, ℕ, ◌+◌, ◌<◌, Bool, List, [], ◌∷◌, ◌++◌, map, take, drop, length, get_or, ap, sym, ◌∙◌, append_assoc}
use Rattle.std.specs.Prelude.{filter, not, ◌||◌, ◌==◌}
use Rattle.std.proofs.lemmas.List.{at_drop_more, take_more, map-append}
use Rattle.std.proofs.lemmas.List.Elements.{filter-append}
use Rattle.framehop_dump_files.specs.Coredump.Thread.{thread_view as noted_view}
use Rattle.framehop_dump_files.specs.declared.coredump.thread.Thread.{Thread as NotedThread}
use Rattle.framehop_dumps.specs.CoreDump.{thread_of, threads_by}
use Rattle.framehop_dumps.specs.Dump.{ThreadView}

-- one more of those that pass
pub filter-next : {X V : Type 0} (view : X → V) (p : V → Bool) (items : List X) (i : ℕ) (d : X) → i < length items
    → (before old new : List V) → old ≡ before ++ filter p (map view (take i items))
    → new ≡ old ++ filter p (view (get_or items i d) ∷ []) → new ≡ before ++ filter p (map view (take (i + 1) items))
filter-next view p items i d within before old new so_far is =
    is ∙ ap (λ list. list ++ filter p (view (get_or items i d) ∷ [])) so_far
    ∙ append_assoc before (filter p (map view (take i items))) (filter p (view (get_or items i d) ∷ []))
    ∙ ap (λ list. before ++ list)
    (sym (filter-append p (map view (take i items)) (view (get_or items i d) ∷ []))
    ∙ ap (filter p) (sym (map-append view (take i items) (get_or items i d ∷ [])) ∙ ap (map view) (sym (take_more items i d within))))

-- one more thread of a core file
pub thread-next : (noted : List NotedThread) (i : ℕ) (d : NotedThread) → i < length noted → (told next : Bool) (all old new : List ThreadView)
    → all ≡ old ++ threads_by told (map noted_view (drop i noted))
    → new ≡ old ++ thread_of told (noted_view (get_or noted i d)) ∷ []
    → next ≡ (told || not ((get_or noted i d).signal == 0))
    → all ≡ new ++ threads_by next (map noted_view (drop (i + 1) noted))
thread-next noted i d within told next all old new so_far is then =
    so_far
    ∙ ap (λ list. old ++ threads_by told list) (at_drop_more (map noted_view) noted i d within)
    ∙ sym (append_assoc old (thread_of told (noted_view (get_or noted i d)) ∷ []) (threads_by (told || not ((get_or noted i d).signal == 0)) (map noted_view (drop (i + 1) noted))))
    ∙ ap (λ list. list ++ threads_by (told || not ((get_or noted i d).signal == 0)) (map noted_view (drop (i + 1) noted))) (sym is)
    ∙ ap (λ b. new ++ threads_by b (map noted_view (drop (i + 1) noted))) (sym then)
