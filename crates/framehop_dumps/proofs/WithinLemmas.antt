-- What a function gives for each of a list, one after another, within a number of bytes.
use Rattle.std.proofs.Common.{◌≡◌, ℕ, ◌+◌, ◌-◌, ◌<◌, List, [], ◌∷◌, ◌++◌, map, drop, length, get_or, Result, Ok, Err, ap, sym, ◌∙◌}
use Rattle.std.proofs.Math.Seq.{drop-length}
use Rattle.std.proofs.lemmas.List.{map-append}
use Rattle.framehop_bytes.specs.Bytes.{◌>>=◌}
use Rattle.framehop_dump_files.specs.declared.minidump.error.MinidumpError.{MinidumpError}
use Rattle.framehop_dumps.specs.Minidump.{each_within}
use Rattle.framehop_dumps.proofs.EachLemmas.{prepended, prepended-more, append-none, items-are}

module _ {A B C : Type 0} (view : C → B) (f : ℕ → A → Result B MinidumpError) (size : B → ℕ) (all : ℕ) (items : List A) where
  -- so many were given, and so many bytes are left
  abbrev pub IsSoFar : ℕ → ℕ → List C → Type 0
  IsSoFar i left given = each_within f size all items ≡ prepended (map view given) (each_within f size left (drop i items))

  -- one more
  pub within-more : (i left now : ℕ) (d : A) (given : List C) (one : C) → i < length items → IsSoFar i left given
      → f left (get_or items i d) ≡ Ok (view one) → now ≡ left - size (view one) → IsSoFar (i + 1) now (given ++ one ∷ [])
  unfolding each_within
  within-more i left now d given one below so_far is then =
      so_far ∙ ap (λ some. prepended (map view given) (each_within f size left some)) (items-are items i d below)
      ∙ ap (λ first. prepended (map view given) (first >>= (λ x. each_within f size (left - size x) (drop (i + 1) items) >>= (λ others. Ok (x ∷ others))))) is
      ∙ prepended-more (map view given) (view one) (each_within f size (left - size (view one)) (drop (i + 1) items))
      ∙ ap (λ before. prepended before (each_within f size (left - size (view one)) (drop (i + 1) items))) (sym (map-append view given (one ∷ [])))
      ∙ ap (λ some. prepended (map view (given ++ one ∷ [])) (each_within f size some (drop (i + 1) items))) (sym then)

  -- the next is refused
  pub within-refused : (i left : ℕ) (d : A) (given : List C) (error : MinidumpError) → i < length items → IsSoFar i left given
      → f left (get_or items i d) ≡ Err error → each_within f size all items ≡ Err error
  unfolding each_within
  within-refused i left d given error below so_far is =
      so_far ∙ ap (λ some. prepended (map view given) (each_within f size left some)) (items-are items i d below)
      ∙ ap (λ first. prepended (map view given) (first >>= (λ x. each_within f size (left - size x) (drop (i + 1) items) >>= (λ others. Ok (x ∷ others))))) is

  -- none is left
  pub within-done : (i left : ℕ) (given : List C) → i ≡ length items → IsSoFar i left given → each_within f size all items ≡ Ok (map view given)
  unfolding each_within
  within-done i left given over so_far =
      so_far ∙ ap (λ some. prepended (map view given) (each_within f size left some)) (ap (λ j. drop j items) over ∙ drop-length items)
      ∙ ap (λ list. Ok list) (append-none (map view given))
