-- Names of functions, one after another.
use Rattle.std.proofs.Common.{◌≡◌, ℕ, ◌+◌, ◌<◌, ◌==◌, Bool, true, false, cond, List, [], ◌∷◌, ◌++◌, length, map, reverse, take, get_or, Some, None, if◌then◌else◌, refl, ap, sym, ◌∙◌, append-nil, Bor}
use Rattle.std.specs.Prelude.{option_map, option_to_list}
use Rattle.std.specs.List.{find}
use Rattle.std.proofs.lemmas.List.{reverse-append}
use Rattle.framehop_perf_stacks.proofs.LinesLemmas.{now_of, told-more}
use Rattle.framehop_perf_stacks.specs.Kallsyms.{function_of, functions_in, last_name, AreNamesOf}
use Rattle.framehop_perf_stacks.specs.Chain.{FunctionNames, name_from}

-- the last name with one function more
last-name-by : (functions : List (ℕ × List ℕ)) (f : ℕ × List ℕ) (start : ℕ) (b : Bool) → (f.0 == start) ≡ b
    → option_map (λ g. g.1) (cond b (Some f) (find (λ g. g.0 == start) (reverse functions)))
    ≡ (if b then Some f.1 else last_name functions start)
last-name-by functions f start true is = refl
last-name-by functions f start false is = refl

last-name-more : (functions : List (ℕ × List ℕ)) (f : ℕ × List ℕ) (start : ℕ)
    → last_name (functions ++ f ∷ []) start ≡ (if f.0 == start then Some f.1 else last_name functions start)
last-name-more functions f start =
    rw (reverse-append functions (f ∷ [])) (last-name-by functions f start (f.0 == start) refl)

-- a line with a function more
pub one-name-more : (lines : List (Bor (List ℕ))) (i : ℕ) (d : Bor (List ℕ)) (f : ℕ × List ℕ) (before after : FunctionNames)
    → i < length lines → Some f ≡ function_of (get_or lines i d).now
    → AreNamesOf (functions_in (map now_of (take i lines))) before
    → ((start : ℕ) → name_from after start ≡ (if f.0 == start then Some f.1 else name_from before start))
    → AreNamesOf (functions_in (map now_of (take (i + 1) lines))) after
one-name-more lines i d f before after within told so_far added start =
    let more : functions_in (map now_of (take (i + 1) lines)) ≡ functions_in (map now_of (take i lines)) ++ f ∷ [] =
    told-more function_of lines i d within
    ∙ ap (λ one. functions_in (map now_of (take i lines)) ++ option_to_list one) (sym told) in
    rw more (added start
    ∙ ap (λ name. if f.0 == start then Some f.1 else name) (so_far start)
    ∙ sym (last-name-more (functions_in (map now_of (take i lines))) f start))

-- or without one
pub no-name-more : (lines : List (Bor (List ℕ))) (i : ℕ) (d : Bor (List ℕ)) (names : FunctionNames)
    → i < length lines → None ≡ function_of (get_or lines i d).now
    → AreNamesOf (functions_in (map now_of (take i lines))) names
    → AreNamesOf (functions_in (map now_of (take (i + 1) lines))) names
no-name-more lines i d names within told so_far start =
    let more : functions_in (map now_of (take (i + 1) lines)) ≡ functions_in (map now_of (take i lines)) =
    told-more function_of lines i d within
    ∙ ap (λ one. functions_in (map now_of (take i lines)) ++ option_to_list one) (sym told)
    ∙ append-nil (functions_in (map now_of (take i lines))) in
    rw more (so_far start)
