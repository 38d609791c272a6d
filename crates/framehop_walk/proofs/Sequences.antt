-- Lists of commands, read one by one.
use Rattle.std.proofs.Common.{◌≡◌, ℕ, List, [], ◌∷◌, ◌++◌, map, Ok, Err, codes, refl, sym, ap, ◌∙◌, Bor}
use Rattle.std.proofs.lemmas.List.{map-append}
use Rattle.std.specs.Global.{Global}
use Rattle.std.specs.declared.vec.Vec.{Vec}
use Rattle.serde_json.specs.Data.{Data}
use Rattle.serde_json.specs.Find.{as_str}
use Rattle.framehop_core.specs.CodeAddress.{location_of}
use Rattle.framehop.specs.declared.session.Command.{Command}
use Rattle.framehop.specs.declared.session.Command.TheVariants.{New, Clone, Add, Remove, Step, Walk, Stats}
use Rattle.framehop_walk.specs.Refusals.{Reading}
use Rattle.framehop_walk.specs.Fields.{field_as}
use Rattle.framehop_walk.specs.Commands.{Written, Says, make, clone, add, remove, step, walk, stats, stack_view, read_command}
use Rattle.framehop_walk.specs.Program.{read_next, AreSaid}

module _ {Regs : Type 0} where
  -- a command that is read is written so
  pub said : (reading : Reading (Written Regs)) (command : Command (Vec ℕ Global) Regs) → Says reading command
      → (written : Written Regs) × (reading ≡ Ok written) × Says (Ok written) command
  said reading New is = (make, is, refl)
  said reading (Clone unwinder) is = (clone unwinder, is, refl)
  said reading (Add unwinder loaded) is = (add unwinder is.0, is.1, (is.0, refl, is.2))
  said reading (Remove unwinder start) is = (remove unwinder start, is, refl)
  said reading (Step unwinder cache address regs memory) is = (step unwinder cache (location_of address) regs (stack_view memory), is, refl)
  said reading (Walk unwinder cache pc regs memory limit) is = (walk unwinder cache pc regs (stack_view memory) limit, is, refl)
  said reading (Stats cache) is = (stats cache, is, refl)

  pub AreSaid-none : (commands : List (Command (Vec ℕ Global) Regs)) → commands ≡ [] → AreSaid [] commands
  unfolding AreSaid
  AreSaid-none commands none = rw none tt

  pub AreSaid-push : (written : List (List ℕ × Written Regs)) (commands : List (Command (Vec ℕ Global) Regs)) (one : List ℕ × Written Regs) (command : Command (Vec ℕ Global) Regs)
      → AreSaid written commands → Says (Ok one.1) command → AreSaid (written ++ one ∷ []) (commands ++ command ∷ [])
  unfolding AreSaid
  AreSaid-push [] [] one command are is = (is, tt)
  AreSaid-push [] (c ∷ commands) one command are is = absurd are
  AreSaid-push (w ∷ written) [] one command are is = absurd are
  AreSaid-push (w ∷ written) (c ∷ commands) one command are is = (are.0, AreSaid-push written commands one command are.1 is)

  pub verbs-push : (written : List (List ℕ × Written Regs)) (one : List ℕ × Written Regs) (verbs : List (Bor (List ℕ))) (verb : Bor (List ℕ))
      → map (λ (w : List ℕ × Written Regs). w.0) written ≡ map (λ v. v.now) verbs → one.0 ≡ verb.now
      → map (λ (w : List ℕ × Written Regs). w.0) (written ++ one ∷ []) ≡ map (λ v. v.now) (verbs ++ verb ∷ [])
  verbs-push written one verbs verb same last =
      map-append (λ (w : List ℕ × Written Regs). w.0) written (one ∷ []) ∙ ap (λ vs. vs ++ one.0 ∷ []) same
      ∙ ap (λ v. map (λ v. v.now) verbs ++ v ∷ []) last ∙ sym (map-append (λ (v : Bor (List ℕ)). v.now) verbs (verb ∷ []))

  pub next-read : (registers : Data → Reading Regs) (before : List (List ℕ × Written Regs)) (fields : Data) (verb : List ℕ) (written : Written Regs)
      → field_as as_str (codes "do") fields ≡ Ok verb → read_command registers verb fields ≡ Ok written → read_next registers before fields ≡ Ok (verb, written)
  unfolding read_next
  next-read registers before fields verb written a b = rw a (rw b refl)

  pub next-refused : (registers : Data → Reading Regs) (before : List (List ℕ × Written Regs)) (fields : Data) (verb refusal : List ℕ)
      → field_as as_str (codes "do") fields ≡ Ok verb → read_command registers verb fields ≡ Err refusal → read_next registers before fields ≡ Err refusal
  unfolding read_next
  next-refused registers before fields verb refusal a b = rw a (rw b refl)

  pub next-no_verb : (registers : Data → Reading Regs) (before : List (List ℕ × Written Regs)) (fields : Data) (refusal : List ℕ)
      → field_as as_str (codes "do") fields ≡ Err refusal → read_next registers before fields ≡ Err refusal
  unfolding read_next
  next-no_verb registers before fields refusal a = rw a refl
