-- A callback that reads windows and notes the first word that they don't have: as long as it has noted none, it answers as each
-- memory that agrees with them.
use Rattle.std.proofs.Common.{◌≡◌, ◌≢◌, ◌∙◌, ◌==◌, ℕ, Bool, true, false, not, IsTrue, List, Option, Some, None, IfSome, Result, refl, sym, ap}
use Rattle.std.proofs.lemmas.Bool.{eqb-true, eq-eqb}
use Rattle.std.specs.Fn.{Mut, Called}
use Rattle.std.specs.Option.{is_some}
use Rattle.framehop.specs.Memory.{Memory, Answering, reply}
use Rattle.framehop_core.proofs.Callback.{AnswersWhile-kept, AnswersAs-kept, Answering-over}
use Rattle.framehop_lent.specs.Window.{told_in, words_in, word_told, unless_told, noted, AgreesWith, IsReadAs}
use Rattle.framehop_lent.specs.declared.window.Window.{Window}

not-both : {A : Type 0} (b : Bool) → IsTrue b → IsTrue (not b) → A
not-both true is isnt = cc
not-both false is isnt = cc

unless-not : (b : Bool) → (IsTrue (not b) → ⊥) → IsTrue b
unless-not true never = refl
unless-not false never = absurd (never refl)

-- no word is noted that the windows don't tell of
abbrev pub all_told : List Window → Option ℕ → Bool
all_told windows None = true
all_told windows (Some address) = is_some (told_in windows address)

never-told : {A : Type 0} (told : Option (Option ℕ)) → told ≡ None → IsTrue (is_some told) → A
never-told (Some word) none now = cc
never-told None none now = cc

module _ (windows : List Window) (memory : Memory) (agrees : AgreesWith windows memory) where
  -- the first word that is asked for, or another one after words that were told
  first-read : (address : ℕ) (told : Option (Option ℕ)) → told_in windows address ≡ told → IfSome told (λ word. memory address ≡ word)
      → (IsTrue (all_told windows (unless_told told address)) → reply (word_told told) ≡ reply (memory address))
      × IfSome (unless_told told address) (λ asked. told_in windows asked ≡ None)
  first-read address (Some word) is same = ((λ _. cc), tt)
  first-read address None is same = ((λ now. never-told (told_in windows address) is now), is)

  -- one call: what it notes, and the word that it gives
  pub reads-on : (first : Option ℕ) (address : ℕ) (word : Result ℕ (Unit {0})) (next : Option ℕ) → IfSome first (λ asked. told_in windows asked ≡ None)
      → word ≡ reply (words_in windows address) → next ≡ noted windows first address
      → (IsTrue (all_told windows next) → IsTrue (all_told windows first) × (word ≡ reply (memory address)))
      × IfSome next (λ asked. told_in windows asked ≡ None)
  reads-on (Some asked) address word next untold gives notes = rw notes ((λ now. never-told (told_in windows asked) untold now), untold)
  reads-on None address word next untold gives notes =
      let one = first-read address (told_in windows address) refl (agrees address) in
      rw notes ((λ now. (refl, gives ∙ one.0 now)), one.1)

some-told : (told : Option (Option ℕ)) → told ≢ None → IsTrue (is_some told)
some-told (Some word) some = refl
some-told None some = absurd (some refl)

-- a word that was noted, although the windows tell of it
noted-told : (windows : List Window) (first : Option ℕ) → IfSome first (λ asked. told_in windows asked ≢ None) → IsTrue (all_told windows first)
noted-told windows (Some address) told = some-told (told_in windows address) told
noted-told windows None told = refl

-- a callback of a step over windows: what they are, and the place where it notes an address, by its name and what is there
module _ {Reader : Type 0} (windows_of : Reader → List Window) (noted_in : Reader → Option ℕ) (place_of : Reader → ℕ) where
  -- what a call of the callback does: it gives the windows' word, may note the address, and keeps the windows and the place
  pub record IsRead (f : Reader) (a : ℕ × Unit {0}) (r : Result ℕ (Unit {0})) (f' : Reader) : Type 0 where
    pub gives : r ≡ reply (words_in (windows_of f) a.0)
    pub notes : noted_in f' ≡ noted (windows_of f) (noted_in f) a.0
    pub windows : windows_of f' ≡ windows_of f
    pub place : place_of f' ≡ place_of f

  module _ (calls : Mut Reader (ℕ × Unit {0}) (Result ℕ (Unit {0}))) {old new : Reader} {Holds : Memory → Type 0} (done : Answering calls old new Holds)
      (each : (f : Reader) (a : ℕ × Unit {0}) (r : Result ℕ (Unit {0})) (f' : Reader) → Called calls f a r f' → IsRead f a r f') where
    -- afterwards the callback has the same place
    same-place : place_of old ≡ place_of new
    same-place =
        let same : Reader → Bool = λ f. place_of old == place_of f in
        let reads = AnswersWhile-kept calls (λ _. None) (λ f. not (same f)) (λ f. place_of old ≡ place_of f)
        (λ f a r f' now call.
        let after : place_of old ≡ place_of f' = now ∙ sym (each f a r f' call).place in
        ((λ gone. not-both (same f') (eq-eqb (place_of old) (place_of f') after) gone), after)) old refl in
        let never : IsTrue (not (same new)) → ⊥ = λ gone. not-both (same old) (eq-eqb (place_of old) (place_of old) refl) ((done (λ _. None) (λ f. not (same f)) reads).1 gone).0 in
        eqb-true (place_of old) (place_of new) (unless-not (same new) never)

    module _ (memory : Memory) where
      -- each word that was asked for was told: it is that of each memory that agrees
      over-told : noted_in old ≡ None → AgreesWith (windows_of old) memory → IsTrue (all_told (windows_of old) (noted_in new)) → Holds memory
      over-told none agrees told =
          let kept : Reader → Bool = λ f. all_told (windows_of old) (noted_in f) in
          let Notes : Reader → Type 0 = λ f. (windows_of f ≡ windows_of old) × IfSome (noted_in f) (λ asked. told_in (windows_of old) asked ≡ None) in
          let begun : IfSome (noted_in old) (λ asked. told_in (windows_of old) asked ≡ None) = rw none tt in
          ((done memory kept (AnswersWhile-kept calls memory kept Notes (λ f a r f' notes call.
          let read = each f a r f' call in
          let one = reads-on (windows_of old) memory agrees (noted_in f) a.0 r (noted_in f') notes.1 (rw notes.0 at read.gives) (rw notes.0 at read.notes) in
          ((λ told. let now = one.0 told in (now.0, λ _. now.1)), (read.windows ∙ notes.0, one.1))) old (refl, begun))).1 told).1

      -- the memory of the windows' words
      over-words : ((address : ℕ) → memory address ≡ words_in (windows_of old) address) → Holds memory
      over-words same =
          (Answering-over calls done memory (AnswersAs-kept calls memory (λ f. windows_of f ≡ windows_of old) (λ f a r f' now call.
          let read = each f a r f' call in
          ((λ _. (rw now at read.gives) ∙ sym (ap reply (same a.0))), read.windows ∙ now)) old refl)).1

      -- as the windows were read, where a missing word is told of in that place
      pub over-read : (missing : Option ℕ) → noted_in old ≡ None → (place_of old ≡ place_of new → missing ≡ None → IfSome (noted_in new) (λ asked. told_in (windows_of old) asked ≢ None))
          → IsReadAs (windows_of old) (is_some missing) memory → Holds memory
      over-read (Some address) none told read = over-words read
      over-read None none told read = over-told none read (noted-told (windows_of old) (noted_in new) (told same-place refl))
