-- What a function gives for each of a list, one after another.
use Rattle.std.proofs.Common.{◌≡◌, ℕ, suc, ◌+◌, ◌<◌, List, [], ◌∷◌, ◌++◌, map, drop, length, get_or, Result, Ok, Err, refl, ap, sym, ◌∙◌, arith}
use Rattle.std.proofs.Math.Seq.{drop-cons, drop-length}
use Rattle.std.proofs.lemmas.List.{map-append}
use Rattle.framehop_bytes.specs.Bytes.{◌>>=◌}
use Rattle.framehop_dump_files.specs.declared.minidump.error.MinidumpError.{MinidumpError}
use Rattle.framehop_dumps.specs.Minidump.{each}

-- what was given before, with what comes after it
abbrev pub prepended : {B : Type 0} → List B → Result (List B) MinidumpError → Result (List B) MinidumpError
prepended before (Ok others) = Ok (before ++ others)
prepended before (Err error) = Err error

pub append-none : {A : Type 0} (before : List A) → before ++ [] ≡ before
append-none [] = refl
append-none (x ∷ before) = ap (λ rest. x ∷ rest) (append-none before)

pub append-assoc : {A : Type 0} (a b c : List A) → a ++ (b ++ c) ≡ (a ++ b) ++ c
append-assoc [] b c = refl
append-assoc (x ∷ a) b c = ap (λ rest. x ∷ rest) (append-assoc a b c)

append-one : {A : Type 0} (before : List A) (x : A) (rest : List A) → before ++ (x ∷ rest) ≡ (before ++ x ∷ []) ++ rest
append-one [] x rest = refl
append-one (y ∷ before) x rest = ap (λ list. y ∷ list) (append-one before x rest)

pub prepended-more : {B : Type 0} (before : List B) (one : B) (rest : Result (List B) MinidumpError)
    → prepended before (rest >>= (λ others. Ok (one ∷ others))) ≡ prepended (before ++ one ∷ []) rest
prepended-more before one (Ok others) = ap (λ list. Ok list) (append-one before one others)
prepended-more before one (Err error) = refl

-- nothing was given before
pub nothing-before : {B : Type 0} (all : Result (List B) MinidumpError) → all ≡ prepended [] all
nothing-before (Ok others) = refl
nothing-before (Err error) = refl

-- the item at an index, and those after it
pub items-are : {A : Type 0} (items : List A) (i : ℕ) (default : A) → i < length items → drop i items ≡ get_or items i default ∷ drop (i + 1) items
items-are items i default below =
    drop-cons items i default below
    ∙ ap (λ j. get_or items i default ∷ drop j items) (let more : suc i ≡ i + 1 = omega arith in more)

module _ {A B C : Type 0} (view : C → B) (f : A → Result B MinidumpError) (items : List A) where
  -- so many were given
  abbrev pub IsSoFar : ℕ → List C → Type 0
  IsSoFar i given = each f items ≡ prepended (map view given) (each f (drop i items))

  -- one more
  pub each-more : (i : ℕ) (d : A) (given : List C) (one : C) → i < length items → IsSoFar i given
      → f (get_or items i d) ≡ Ok (view one) → IsSoFar (i + 1) (given ++ one ∷ [])
  unfolding each
  each-more i d given one below so_far is =
      so_far ∙ ap (λ left. prepended (map view given) (each f left)) (items-are items i d below)
      ∙ ap (λ first. prepended (map view given) (first >>= (λ x. each f (drop (i + 1) items) >>= (λ others. Ok (x ∷ others))))) is
      ∙ prepended-more (map view given) (view one) (each f (drop (i + 1) items))
      ∙ ap (λ before. prepended before (each f (drop (i + 1) items))) (sym (map-append view given (one ∷ [])))

  -- the next is refused
  pub each-refused : (i : ℕ) (d : A) (given : List C) (error : MinidumpError) → i < length items → IsSoFar i given
      → f (get_or items i d) ≡ Err error → each f items ≡ Err error
  unfolding each
  each-refused i d given error below so_far is =
      so_far ∙ ap (λ left. prepended (map view given) (each f left)) (items-are items i d below)
      ∙ ap (λ first. prepended (map view given) (first >>= (λ x. each f (drop (i + 1) items) >>= (λ others. Ok (x ∷ others))))) is

  -- none is left
  pub each-done : (i : ℕ) (given : List C) → i ≡ length items → IsSoFar i given → each f items ≡ Ok (map view given)
  unfolding each
  each-done i given over so_far =
      so_far ∙ ap (λ left. prepended (map view given) (each f left)) (ap (λ j. drop j items) over ∙ drop-length items)
      ∙ ap (λ list. Ok list) (append-none (map view given))
