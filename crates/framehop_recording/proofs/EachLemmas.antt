-- Several things that are read one after another, and the list that they make.
use Rattle.std.proofs.Common.{◌≡◌, ℕ, zero, suc, ◌+◌, ◌-◌, ◌<◌, List, [], ◌∷◌, ◌++◌, map, Result, Ok, Err, refl, ap, sym, ◌∙◌, arith}
use Rattle.std.proofs.lemmas.List.{map-append}
use Rattle.std.specs.Result.{IsOk}
use Rattle.framehop_bytes.specs.Bytes.{◌>>=◌}
use Rattle.framehop_recording.specs.Bytes.{offsets, each_of}
use Rattle.framehop_recording.specs.declared.error.RecordingError.{RecordingError}
use Rattle.framehop_recording.proofs.RunLemmas.{append-one, append-none}

-- what was read before, with what comes after it
abbrev pub prepended : {B : Type 0} → List B → Result (List B) RecordingError → Result (List B) RecordingError
prepended before (Ok others) = Ok (before ++ others)
prepended before (Err error) = Err error

pub prepended-none : {B : Type 0} (others : Result (List B) RecordingError) → others ≡ prepended [] others
prepended-none (Ok others) = refl
prepended-none (Err error) = refl

pub prepended-more : {B : Type 0} (before : List B) (one : B) (rest : Result (List B) RecordingError) → prepended before (rest >>= (λ others. Ok (one ∷ others))) ≡ prepended (before ++ one ∷ []) rest
prepended-more before one (Ok others) = ap (λ list. Ok list) (append-one before one others)
prepended-more before one (Err error) = refl

module _ {A B : Type 0} (read : A → Result B RecordingError) where
  one-more : (before : List B) (x : A) (xs : List A) (one : B) → read x ≡ Ok one → prepended before (each_of read (x ∷ xs)) ≡ prepended (before ++ one ∷ []) (each_of read xs)
  unfolding each_of
  one-more before x xs one e =
      ap (λ r. prepended before (r >>= (λ o. each_of read xs >>= (λ others. Ok (o ∷ others))))) e
      ∙ prepended-more before one (each_of read xs)

  -- the next is read, and pushed to the list
  pub each-pushed : {X : Type 0} (view : X → B) (all : Result (List B) RecordingError) (items pushed : List X)
      (one : X) (x : A) (left rest : List A) → all ≡ prepended (map view items) (each_of read left) → left ≡ x ∷ rest
      → read x ≡ Ok (view one) → pushed ≡ items ++ one ∷ [] → all ≡ prepended (map view pushed) (each_of read rest)
  each-pushed view all items pushed one x left rest so_far is ok push =
      so_far ∙ ap (λ list. prepended (map view items) (each_of read list)) is
      ∙ one-more (map view items) x rest (view one) ok
      ∙ ap (λ before. prepended before (each_of read rest)) (sym (ap (map view) push ∙ map-append view items (one ∷ [])))

  -- the next is refused
  pub each-refused : (all : Result (List B) RecordingError) (before : List B) (x : A) (left rest : List A)
      (error : RecordingError) → all ≡ prepended before (each_of read left) → left ≡ x ∷ rest → read x ≡ Err error
      → all ≡ Err error
  unfolding each_of
  each-refused all before x left rest error so_far is e =
      so_far ∙ ap (λ list. prepended before (each_of read list)) is
      ∙ ap (λ r. prepended before (r >>= (λ o. each_of read rest >>= (λ others. Ok (o ∷ others))))) e

  -- none is left
  pub each-whole : (all : Result (List B) RecordingError) (before : List B) (left : List A) → all ≡ prepended before (each_of read left) → left ≡ [] → all ≡ Ok before
  unfolding each_of
  each-whole all before left so_far is =
      so_far ∙ ap (λ list. prepended before (each_of read list)) is ∙ ap (λ list. Ok list) (append-none before)

  -- what refuses those after one that can be read refuses them all
  pub each-later-refused : (x : A) (left rest : List A) (one : B) (error : RecordingError) → left ≡ x ∷ rest → read x ≡ Ok one → each_of read rest ≡ Err error → each_of read left ≡ Err error
  unfolding each_of
  each-later-refused x left rest one error is ok e =
      ap (each_of read) is
      ∙ ap (λ r. r >>= (λ o. each_of read rest >>= (λ others. Ok (o ∷ others)))) ok
      ∙ ap (λ others. others >>= (λ more. Ok (one ∷ more))) e

  is-ok-more : (one : B) (others : Result (List B) RecordingError) → IsOk others → IsOk (others >>= (λ more. Ok (one ∷ more)))
  is-ok-more one (Ok more) ok = refl
  is-ok-more one (Err error) ok = ok

  -- where those after one that can be read can be read, all can
  pub each-later-read : (x : A) (left rest : List A) (one : B) → left ≡ x ∷ rest → read x ≡ Ok one → IsOk (each_of read rest) → IsOk (each_of read left)
  unfolding each_of
  each-later-read x left rest one is ok all =
      rw (is, ok) (is-ok-more one (each_of read rest) all)

  pub each-first-refused : (x : A) (left rest : List A) (error : RecordingError) → left ≡ x ∷ rest → read x ≡ Err error → each_of read left ≡ Err error
  unfolding each_of
  each-first-refused x left rest error is e =
      ap (each_of read) is
      ∙ ap (λ r. r >>= (λ o. each_of read rest >>= (λ others. Ok (o ∷ others)))) e

  pub each-none-read : (left : List A) → left ≡ [] → IsOk (each_of read left)
  unfolding each_of
  each-none-read left is = rw is refl

pub offsets-more : (start size n : ℕ) → 0 < n → offsets start size n ≡ start ∷ offsets (start + size) size (n - 1)
offsets-more start size zero h = absurd (omega (arith, h))
offsets-more start size (suc n) h = ap (λ m. start ∷ offsets (start + size) size m) (let same : n ≡ suc n - 1 = omega arith in same)

pub offsets-none : (start size n : ℕ) → n ≡ 0 → offsets start size n ≡ []
offsets-none start size n e = ap (offsets start size) e
