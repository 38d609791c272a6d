-- The last module that starts at or below an address, among the first ones.
use Rattle.std.proofs.Common.{◌≡◌, ◌<◌, ℕ, ◌+◌, true, false, List, [], ◌∷◌, ◌++◌, length, Some, ap, ◌∙◌, arith}
use Rattle.std.specs.Prelude.{take, slice_get, if◌then◌else◌}
use Rattle.std.proofs.lemmas.List.{append-nil, length-append}
use Rattle.std.proofs.lemmas.List.Elements.{filter_more}
use Rattle.std.proofs.lemmas.Option.{slice_get-get_or}
use Rattle.std.proofs.Math.ListN.{get_or}
use Rattle.std.proofs.Math.Seq.{get_or-append_seam}
use Rattle.framehop.specs.Modules.{ModuleView, last_of, starts_by, starting_by}

last-end : {A : Type 0} (xs : List A) (x : A) → last_of (xs ++ x ∷ []) ≡ Some x
last-end xs x =
    let size = length-append xs (x ∷ []) in
    ap (slice_get (xs ++ x ∷ [])) (omega (arith, size)) ∙ slice_get-get_or (xs ++ x ∷ []) (length xs) x (omega (arith, size)) ∙ ap Some (get_or-append_seam xs x [] x)

-- one more module is the last, if it starts at or below the address
pub last-more : (address : ℕ) (xs : List ModuleView) (i : ℕ) (d : ModuleView) → i < length xs → starts_by address (get_or xs i d) ≡ true → last_of (starting_by address (take (i + 1) xs)) ≡ Some (get_or xs i d)
last-more address xs i d within starts =
    ap last_of (filter_more (starts_by address) xs i d within ∙ ap (λ b. starting_by address (take i xs) ++ (if b then get_or xs i d ∷ [] else [])) starts) ∙ last-end (starting_by address (take i xs)) (get_or xs i d)

-- else the last one stays
pub last-kept : (address : ℕ) (xs : List ModuleView) (i : ℕ) (d : ModuleView) → i < length xs → starts_by address (get_or xs i d) ≡ false → last_of (starting_by address (take (i + 1) xs)) ≡ last_of (starting_by address (take i xs))
last-kept address xs i d within starts =
    ap last_of (filter_more (starts_by address) xs i d within ∙ ap (λ b. starting_by address (take i xs) ++ (if b then get_or xs i d ∷ [] else [])) starts ∙ append-nil (starting_by address (take i xs)))
