-- What lines tell, one after another.
use Rattle.std.proofs.Common.{◌≡◌, ℕ, ◌+◌, ◌<◌, List, [], ◌∷◌, ◌++◌, length, map, take, get_or, Option, Some, None, refl, ap, sym, ◌∙◌, Bor}
use Rattle.std.specs.Prelude.{option_map, option_to_list}
use Rattle.std.specs.List.{filter_map}
use Rattle.std.proofs.lemmas.List.{map_more, map-append}
use Rattle.std.proofs.lemmas.List.Elements.{filter_map-append}

abbrev pub now_of : Bor (List ℕ) → List ℕ
now_of line = line.now

one-told-by : {X Y : Type 0} (tells : X → Option Y) (x : X) (told : Option Y) → tells x ≡ told
    → filter_map tells (x ∷ []) ≡ option_to_list told
one-told-by tells x None is = rw is refl
one-told-by tells x (Some y) is = rw is refl

-- what one line tells
pub one-told : {X Y : Type 0} (tells : X → Option Y) (x : X) → filter_map tells (x ∷ []) ≡ option_to_list (tells x)
one-told tells x = one-told-by tells x (tells x) refl

-- what lines tell with one more
pub told-more : {Y : Type 0} (tells : List ℕ → Option Y) (lines : List (Bor (List ℕ))) (i : ℕ) (d : Bor (List ℕ)) → i < length lines
    → filter_map tells (map now_of (take (i + 1) lines))
    ≡ filter_map tells (map now_of (take i lines)) ++ option_to_list (tells (get_or lines i d).now)
told-more tells lines i d within =
    ap (filter_map tells) (map_more now_of lines i d within)
    ∙ filter_map-append tells (map now_of (take i lines)) ((get_or lines i d).now ∷ [])
    ∙ ap (λ one. filter_map tells (map now_of (take i lines)) ++ one) (one-told tells (get_or lines i d).now)

listed : {X Y : Type 0} (view : X → Y) (one : Option X) → map view (option_to_list one) ≡ option_to_list (option_map view one)
listed view None = refl
listed view (Some x) = refl

-- what is kept of lines, with one more
pub kept-more : {X Y : Type 0} (view : X → Y) (tells : List ℕ → Option Y) (lines : List (Bor (List ℕ))) (i : ℕ) (d : Bor (List ℕ))
    (before after : List X) (one : Option X) → i < length lines → option_map view one ≡ tells (get_or lines i d).now
    → map view before ≡ filter_map tells (map now_of (take i lines)) → after ≡ before ++ option_to_list one
    → map view after ≡ filter_map tells (map now_of (take (i + 1) lines))
kept-more view tells lines i d before after one within told so_far is =
    ap (map view) is ∙ map-append view before (option_to_list one)
    ∙ ap (λ first. first ++ map view (option_to_list one)) so_far
    ∙ ap (λ rest. filter_map tells (map now_of (take i lines)) ++ rest) (listed view one ∙ ap option_to_list told)
    ∙ sym (told-more tells lines i d within)
