-- Threads that are walked one after another, and their texts.
use Rattle.std.proofs.Common.{◌≡◌, ℕ, ◌+◌, ◌<◌, List, [], ◌∷◌, ◌++◌, map, drop, length, get_or, Bool, true, false, nat_lt, Option, Result, refl, ap, sym, ◌∙◌, subst, arith, append_assoc, append-nil}
use Rattle.std.specs.Io.KnownBytes.{Appends}
use Rattle.std.proofs.KnownBytes.{Appends-trans}
use Rattle.std.proofs.lemmas.Bool.{lt-ltb}
use Rattle.std.proofs.lemmas.List.{at_drop_more, length-append}
use Rattle.framehop_core.specs.CodeAddress.{FrameLocation}
use Rattle.framehop_core.specs.Memory.{Memory}
use Rattle.framehop.specs.Modules.{ModuleView}
use Rattle.framehop_backtrace.specs.declared.frame.BacktraceEnd.{BacktraceEnd}
use Rattle.framehop_backtrace.specs.declared.frame.FoundBy.{FoundBy}
use Rattle.framehop_processes.specs.declared.mapping.Mapping.{Mapping}
use Rattle.framehop_processes.specs.declared.files.Files.{Files}
use Rattle.framehop_frames.specs.Walker.{Walker}
use Rattle.framehop_frames.specs.declared.machine.Start.{Start}
use Rattle.framehop_dumps.specs.Dump.{RegistersView, ThreadView, DumpView, thread_view}
use Rattle.framehop_dump_stacks.specs.Report.{texts_of}
use Rattle.framehop_dump_stacks.specs.Walked.{WalkedThread, IsWalked, AreWalked}
use Rattle.framehop_dumps.specs.declared.dump.Thread.{Thread}

-- whether an item after others is a later one
abbrev later_after : {X : Type 0} → Bool → List X → Bool
later_after later [] = later
later_after later (x ∷ others) = true

after-later : {X : Type 0} (items : List X) → later_after true items ≡ true
after-later [] = refl
after-later (x ∷ others) = refl

texts-append : {X : Type 0} (text : Bool → X → List ℕ) (later : Bool) (items : List X) (x : X)
    → texts_of text later (items ++ x ∷ []) ≡ texts_of text later items ++ text (later_after later items) x
texts-append text later [] x = append-nil (text later x)
texts-append text later (y ∷ others) x =
    ap (λ rest. text later y ++ rest) (texts-append text true others x ∙ ap (λ after. texts_of text true others ++ text after x) (after-later others))
    ∙ sym (append_assoc (text later y) _ _)

later-number : {X : Type 0} (items : List X) → later_after false items ≡ nat_lt 0 (length items)
later-number [] = refl
later-number (x ∷ others) = sym (lt-ltb 0 (length (x ∷ others)) (omega arith))

module _ {Regs : Type 0} (walker : Walker Regs) (begins : RegistersView → Option (Start Regs)) (limit : ℕ)
    (is_note : List ModuleView → Memory → FrameLocation → Regs → Result FoundBy BacktraceEnd → List ℕ → Type 0) (explains : Bool)
    (files : Files) (mappings : List Mapping) (modules : List ModuleView) (dump : DumpView)
    (text : Bool → WalkedThread → List ℕ) (threads : List Thread) where
  -- the threads up to an index are walked, and their texts are written
  abbrev pub AreWalkedUpTo : ℕ → Option (List ℕ) → Option (List ℕ) → Type 0
  AreWalkedUpTo at first now = (walked : List WalkedThread) × (length walked ≡ at)
      × ((later : List WalkedThread)
      → AreWalked walker begins limit is_note explains files mappings modules dump (map thread_view (drop at threads)) later
      → AreWalked walker begins limit is_note explains files mappings modules dump (map thread_view threads) (walked ++ later))
      × Appends first now (texts_of text false walked)

  -- one more
  pub next-thread : (items : List Thread) → items ≡ threads → (at : ℕ) (d : Thread) → at < length items → (first old new : Option (List ℕ))
      → (one : WalkedThread) → IsWalked walker begins limit is_note explains files mappings modules dump (thread_view (get_or items at d)) one
      → Appends old new (text (nat_lt 0 at) one) → AreWalkedUpTo at first old → AreWalkedUpTo (at + 1) first new
  next-thread items same at d within first old new one is then up_to =
      let left : map thread_view (drop at threads) ≡ thread_view (get_or items at d) ∷ map thread_view (drop (at + 1) threads) =
      subst (λ list. map thread_view (drop at list) ≡ thread_view (get_or items at d) ∷ map thread_view (drop (at + 1) list)) same
      (at_drop_more (map thread_view) items at d within) in
      let walked = up_to.0 in
      let size : length (walked ++ one ∷ []) ≡ at + 1 = length-append walked (one ∷ []) ∙ ap (λ n. n + 1) up_to.1 in
      let place : nat_lt 0 at ≡ later_after false walked = sym (later-number walked ∙ ap (nat_lt 0) up_to.1) in
      let whole : texts_of text false walked ++ text (nat_lt 0 at) one ≡ texts_of text false (walked ++ one ∷ []) =
      ap (λ later. texts_of text false walked ++ text later one) place ∙ sym (texts-append text false walked one) in (
        walked ++ one ∷ [],
        size,
        λ later are. subst (AreWalked walker begins limit is_note explains files mappings modules dump (map thread_view threads))
            (sym (append_assoc walked (one ∷ []) later))
            (up_to.2 (one ∷ later)
            (subst (λ (some : List ThreadView). AreWalked walker begins limit is_note explains files mappings modules dump some (one ∷ later)) (sym left)
            (one, is, (later, are, refl)))),
        subst (Appends first new) whole (Appends-trans first old new _ _ up_to.3 then),
      )

  -- all of them
  pub all-threads : (at : ℕ) (first now : Option (List ℕ)) → drop at threads ≡ [] → AreWalkedUpTo at first now
      → (walked : List WalkedThread) × AreWalked walker begins limit is_note explains files mappings modules dump (map thread_view threads) walked
      × Appends first now (texts_of text false walked)
  all-threads at first now none up_to = (
    up_to.0,
    subst (AreWalked walker begins limit is_note explains files mappings modules dump (map thread_view threads)) (append-nil up_to.0)
        (up_to.2 [] (subst (λ (some : List Thread). AreWalked walker begins limit is_note explains files mappings modules dump (map thread_view some) []) (sym none) refl)),
    up_to.3,
  )
