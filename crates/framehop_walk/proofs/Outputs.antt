-- The lines of the replies to a list of commands.
use Rattle.std.proofs.Common.{◌≡◌, ℕ, ◌+◌, ◌<◌, ◌≤◌, suc, List, [], ◌∷◌, ◌++◌, drop, get_or, length, map, refl, sym, ap, ◌∙◌, append_assoc, drop-cons, arith, Bor}
use Rattle.std.proofs.lemmas.List.{drop_all, drop-map}
use Rattle.framehop.specs.CachedWorld.{CachedReply}
use Rattle.framehop.specs.SessionView.{reply_view}
use Rattle.framehop.specs.declared.session.Reply.{Reply}
use Rattle.framehop_walk.specs.Text.{reply_lines}
use Rattle.framehop_walk.specs.Program.{lines_of}

next : {A : Type 0} (xs : List A) (i : ℕ) (x : A) → i < length xs → x ≡ get_or xs i x → drop i xs ≡ x ∷ drop (i + 1) xs
next xs i x within is =
    let e : i + 1 ≡ suc i = omega arith in
    let d : drop i xs ≡ get_or xs i x ∷ drop (i + 1) xs = rw e (drop-cons xs i x within) in
    d ∙ ap (λ y. y ∷ drop (i + 1) xs) (sym is)

next-map : {A B : Type 0} (view : A → B) (xs : List A) (i : ℕ) (x : A) → i < length xs → x ≡ get_or xs i x
    → drop i (map view xs) ≡ view x ∷ drop (i + 1) (map view xs)
next-map view xs i x within is =
    drop-map view i xs ∙ ap (map view) (next xs i x within is) ∙ ap (λ ys. view x ∷ ys) (sym (drop-map view (i + 1) xs))

past-map : {A B : Type 0} (view : A → B) (xs : List A) (i : ℕ) → length xs ≤ i → drop i (map view xs) ≡ []
past-map view xs i past = drop-map view i xs ∙ ap (map view) (drop_all i xs past)

module _ {Regs : Type 0} (text : Regs → List ℕ) where
  no-replies : (verbs : List (List ℕ)) → lines_of text verbs [] ≡ []
  unfolding lines_of
  no-replies [] = refl
  no-replies (verb ∷ verbs) = refl

  no-verbs : (replies : List (CachedReply Regs)) → lines_of text [] replies ≡ []
  unfolding lines_of
  no-verbs replies = refl

  next-lines : (verb : List ℕ) (verbs : List (List ℕ)) (reply : CachedReply Regs) (replies : List (CachedReply Regs))
      → lines_of text (verb ∷ verbs) (reply ∷ replies) ≡ reply_lines text verb reply ++ lines_of text verbs replies
  unfolding lines_of
  next-lines verb verbs reply replies = refl

  -- the lines from one reply on
  pub lines-next : (verbs : List (Bor (List ℕ))) (replies : List (Reply Regs)) (i : ℕ) (verb : Bor (List ℕ)) (reply : Reply Regs)
      → i < length verbs → verb ≡ get_or verbs i verb → i < length replies → reply ≡ get_or replies i reply
      → lines_of text (drop i (map (λ v. v.now) verbs)) (drop i (map reply_view replies))
      ≡ reply_lines text verb.now (reply_view reply) ++ lines_of text (drop (i + 1) (map (λ v. v.now) verbs)) (drop (i + 1) (map reply_view replies))
  lines-next verbs replies i verb reply in_verbs is_verb in_replies is_reply =
      ap (λ vs. lines_of text vs (drop i (map reply_view replies))) (next-map (λ v. v.now) verbs i verb in_verbs is_verb)
      ∙ ap (λ rs. lines_of text (verb.now ∷ drop (i + 1) (map (λ v. v.now) verbs)) rs) (next-map reply_view replies i reply in_replies is_reply)
      ∙ next-lines verb.now (drop (i + 1) (map (λ v. v.now) verbs)) (reply_view reply) (drop (i + 1) (map reply_view replies))

  -- there are no lines without verbs, nor without replies
  pub lines-without_verbs : (verbs : List (Bor (List ℕ))) (replies others : List (CachedReply Regs)) (i : ℕ) → length verbs ≤ i
      → lines_of text (drop i (map (λ v. v.now) verbs)) replies ≡ lines_of text (drop (i + 1) (map (λ v. v.now) verbs)) others
  lines-without_verbs verbs replies others i past =
      let more : length verbs ≤ i + 1 = omega (arith, past) in
      ap (λ vs. lines_of text vs replies) (past-map (λ v. v.now) verbs i past) ∙ no-verbs replies
      ∙ sym (ap (λ vs. lines_of text vs others) (past-map (λ v. v.now) verbs (i + 1) more) ∙ no-verbs others)

  pub lines-end : (verbs : List (List ℕ)) (replies : List (Reply Regs)) (i : ℕ) → length replies ≤ i
      → lines_of text verbs (drop i (map reply_view replies)) ≡ []
  lines-end verbs replies i past = ap (λ rs. lines_of text verbs rs) (past-map reply_view replies i past) ∙ no-replies verbs

-- one more line printed
pub printed-more : (before after line rest all : List ℕ) → after ≡ before ++ line → before ++ (line ++ rest) ≡ all → after ++ rest ≡ all
printed-more before after line rest all grown so_far = ap (λ b. b ++ rest) grown ∙ append_assoc before line rest ∙ so_far
