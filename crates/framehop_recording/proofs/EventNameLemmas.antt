-- The names of events that are read one after another, and the list that they make.
use Rattle.std.proofs.Common.{◌≡◌, ℕ, zero, suc, ◌-◌, ◌<◌, List, [], ◌∷◌, ◌++◌, map, Result, Ok, Err, ap, sym, ◌∙◌, arith}
use Rattle.std.proofs.lemmas.List.{map-append}
use Rattle.framehop_bytes.specs.Bytes.{◌>>=◌}
use Rattle.framehop_recording.specs.EventNames.{event_name_at, event_names_from}
use Rattle.framehop_recording.specs.declared.error.RecordingError.{RecordingError}
use Rattle.framehop_recording.proofs.EachLemmas.{prepended, prepended-more}
use Rattle.framehop_recording.proofs.RunLemmas.{append-none}

module _ (bytes : List ℕ) (size : ℕ) (short : RecordingError) where
  names-one : (before : List (List ℕ)) (at n : ℕ) (name : List ℕ) (next : ℕ) → event_name_at bytes size at short ≡ Ok (name, next)
      → prepended before (event_names_from bytes size short at (suc n)) ≡ prepended (before ++ name ∷ []) (event_names_from bytes size short next n)
  unfolding event_names_from
  names-one before at n name next e =
      ap (λ r. prepended before (r >>= (λ o. event_names_from bytes size short o.1 n >>= (λ others. Ok (o.0 ∷ others))))) e
      ∙ prepended-more before name (event_names_from bytes size short next n)

  names-left : (before : List (List ℕ)) (at left : ℕ) (name : List ℕ) (next : ℕ) → 0 < left → event_name_at bytes size at short ≡ Ok (name, next)
      → prepended before (event_names_from bytes size short at left) ≡ prepended (before ++ name ∷ []) (event_names_from bytes size short next (left - 1))
  names-left before at zero name next h e = absurd (omega (arith, h))
  names-left before at (suc n) name next h e =
      names-one before at n name next e
      ∙ ap (λ m. prepended (before ++ name ∷ []) (event_names_from bytes size short next m)) (let same : n ≡ suc n - 1 = omega arith in same)

  -- the next is read, and pushed to the list
  pub names-pushed : {X : Type 0} (view : X → List ℕ) (all : Result (List (List ℕ)) RecordingError) (items pushed : List X) (one : X)
      (at left next : ℕ) → all ≡ prepended (map view items) (event_names_from bytes size short at left) → 0 < left
      → event_name_at bytes size at short ≡ Ok (view one, next) → pushed ≡ items ++ one ∷ []
      → all ≡ prepended (map view pushed) (event_names_from bytes size short next (left - 1))
  names-pushed view all items pushed one at left next so_far h ok push =
      so_far ∙ names-left (map view items) at left (view one) next h ok
      ∙ ap (λ before. prepended before (event_names_from bytes size short next (left - 1)))
      (sym (ap (map view) push ∙ map-append view items (one ∷ [])))

  refused-left : (before : List (List ℕ)) (at left : ℕ) (error : RecordingError) → 0 < left → event_name_at bytes size at short ≡ Err error
      → prepended before (event_names_from bytes size short at left) ≡ Err error
  unfolding event_names_from
  refused-left before at zero error h e = absurd (omega (arith, h))
  refused-left before at (suc n) error h e =
      ap (λ r. prepended before (r >>= (λ o. event_names_from bytes size short o.1 n >>= (λ others. Ok (o.0 ∷ others))))) e

  -- the next is refused
  pub names-refused : (all : Result (List (List ℕ)) RecordingError) (before : List (List ℕ)) (at left : ℕ) (error : RecordingError)
      → all ≡ prepended before (event_names_from bytes size short at left) → 0 < left → event_name_at bytes size at short ≡ Err error → all ≡ Err error
  names-refused all before at left error so_far h e = so_far ∙ refused-left before at left error h e

  -- none is left
  pub names-whole : (all : Result (List (List ℕ)) RecordingError) (before : List (List ℕ)) (at left : ℕ)
      → all ≡ prepended before (event_names_from bytes size short at left) → left ≡ 0 → all ≡ Ok before
  unfolding event_names_from
  names-whole all before at left so_far is =
      so_far ∙ ap (λ n. prepended before (event_names_from bytes size short at n)) is ∙ ap (λ list. Ok list) (append-none before)
