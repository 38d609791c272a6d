-- Copies of remembered rows, the latest of which shares the rules of the row that instructions work on, or has its own.
use Rattle.std.proofs.Common.{◌≡◌, ℕ, zero, suc, ◌+◌, ◌-◌, ◌<◌, ◌≤◌, Bool, true, false, not, List, [], ◌∷◌, ◌++◌, length, get_or, take, map, Option, Some, None, refl, sym, ap, subst, arith}
use Rattle.std.specs.Prelude.{unwrap_or, is_some, slice_set}
use Rattle.std.proofs.lemmas.List.{map-append, map_more, take_more_set}
use Rattle.framehop_cfi.specs.RememberedCopies.{CopiedView, popped_row, first_rules, copied_rows, copied_view, is_shared, kept}
use Rattle.framehop_cfi.specs.Row.{Row}
use Rattle.framehop_cfi.specs.declared.rule.CfaRule.{CfaRule}
use Rattle.framehop_cfi.specs.declared.rule.Register.{Register}
use Rattle.framehop_cfi.specs.declared.rule.RegisterRule.{RegisterRule}

abbrev Rules : Type 0
Rules = List (Register × RegisterRule)

-- of the latest
pub is_shared-last : (earlier : List CopiedView) (latest : CopiedView)
    → is_shared (earlier ++ latest ∷ []) ≡ not (is_some latest.rules)
is_shared-last [] latest = refl
is_shared-last (first ∷ []) latest = refl
is_shared-last (first ∷ second ∷ earlier) latest = is_shared-last (second ∷ earlier) latest

pub kept-last : (rules : Rules) (earlier : List CopiedView) (latest : CopiedView)
    → kept rules (earlier ++ latest ∷ []) ≡ earlier ++ record latest { rules = Some (unwrap_or latest.rules rules) } ∷ []
kept-last rules [] latest = refl
kept-last rules (first ∷ []) latest = refl
kept-last rules (first ∷ second ∷ earlier) latest = ap (λ rows. first ∷ rows) (kept-last rules (second ∷ earlier) latest)

first_rules-last : (earlier : List CopiedView) (latest : CopiedView) (rules : Rules)
    → first_rules (earlier ++ latest ∷ []) rules ≡ first_rules earlier (unwrap_or latest.rules rules)
first_rules-last [] latest rules = refl
first_rules-last (first ∷ earlier) latest rules = ap (unwrap_or first.rules) (first_rules-last earlier latest rules)

pub copied_rows-last : (earlier : List CopiedView) (latest : CopiedView) (rules : Rules)
    → copied_rows (earlier ++ latest ∷ []) rules
    ≡ copied_rows earlier (unwrap_or latest.rules rules) ++ popped_row latest rules ∷ []
copied_rows-last [] latest rules = refl
copied_rows-last (first ∷ earlier) latest rules =
    rw (first_rules-last earlier latest rules, copied_rows-last earlier latest rules) refl

pub length-copied_rows : (remembered : List CopiedView) (rules : Rules)
    → length (copied_rows remembered rules) ≡ length remembered
length-copied_rows [] rules = refl
length-copied_rows (first ∷ later) rules = ap suc (length-copied_rows later rules)

-- those that are kept do not change with the rules of the row that instructions work on
first_rules-kept : (rules other : Rules) (first : CopiedView) (later : List CopiedView)
    → first_rules (kept rules (first ∷ later)) other ≡ first_rules (first ∷ later) rules
first_rules-kept rules other first [] = refl
first_rules-kept rules other first (second ∷ later) = ap (unwrap_or first.rules) (first_rules-kept rules other second later)

pub copied_rows-kept : (rules other : Rules) (remembered : List CopiedView)
    → copied_rows (kept rules remembered) other ≡ copied_rows remembered rules
copied_rows-kept rules other [] = refl
copied_rows-kept rules other (latest ∷ []) = refl
copied_rows-kept rules other (first ∷ second ∷ later) =
    rw (first_rules-kept rules other second later, copied_rows-kept rules other (second ∷ later)) refl

-- and where the latest has rules there is nothing to keep
abbrev view_of : CfaRule → Option Rules → CopiedView
view_of cfa own = record { cfa = cfa; rules = own }

same-own : (cfa : CfaRule) (own : Option Rules) (rules : Rules) → not (is_some own) ≡ false
    → view_of cfa (Some (unwrap_or own rules)) ≡ view_of cfa own
same-own cfa (Some own) rules is = refl
same-own cfa None rules is = let e : true ≡ false = is in cc

pub kept-unshared : (rules : Rules) (remembered : List CopiedView) → is_shared remembered ≡ false
    → kept rules remembered ≡ remembered
kept-unshared rules [] is = refl
kept-unshared rules (latest ∷ []) is = ap (λ row. row ∷ []) (same-own latest.cfa latest.rules rules is)
kept-unshared rules (first ∷ second ∷ later) is = ap (λ rows. first ∷ rows) (kept-unshared rules (second ∷ later) is)

-- the latest of the rows that are there, and the rows before it
pub latest-of : {X : Type 0} (view : X → CopiedView) (rows : List X) (count : ℕ) (latest : X) → 0 < count → count ≤ length rows
    → latest ≡ get_or rows (count - 1) latest
    → map view (take count rows) ≡ map view (take (count - 1) rows) ++ view latest ∷ []
latest-of view rows count latest some within is =
    let n : (count - 1) + 1 ≡ count = omega arith in
    subst (λ k. map view (take k rows) ≡ map view (take (count - 1) rows) ++ view latest ∷ []) n
    (subst (λ row. map view (take ((count - 1) + 1) rows) ≡ map view (take (count - 1) rows) ++ view row ∷ []) (sym is)
    (map_more view rows (count - 1) latest (omega arith)))

-- and with another row in the place of the latest
pub latest-set : {X : Type 0} (view : X → CopiedView) (rows : List X) (count : ℕ) (latest : X) → 0 < count → count ≤ length rows
    → map view (take count (slice_set rows (count - 1) latest)) ≡ map view (take (count - 1) rows) ++ view latest ∷ []
latest-set view rows count latest some within =
    let n : (count - 1) + 1 ≡ count = omega arith in
    subst (λ k. map view (take k (slice_set rows (count - 1) latest)) ≡ map view (take (count - 1) rows) ++ view latest ∷ []) n
    (rw (take_more_set rows (count - 1) latest (omega arith), map-append view (take (count - 1) rows) (latest ∷ [])) refl)

-- a row shares rules where it has none
pub shared-view : (row : Row) (has_rules : Bool) → not has_rules ≡ not (is_some (copied_view row has_rules).rules)
shared-view row true = refl
shared-view row false = refl

pub kept-view : (row : Row) (has_rules : Bool) (rules : Rules) → not (is_some (copied_view row has_rules).rules) ≡ true
    → copied_view (record row { rules = rules }) true
    ≡ record (copied_view row has_rules) { rules = Some (unwrap_or (copied_view row has_rules).rules rules) }
kept-view row true rules is = let e : false ≡ true = is in cc
kept-view row false rules is = refl

-- there is a latest one
pub some-shared : {X : Type 0} (view : X → CopiedView) (rows : List X) (count : ℕ)
    → is_shared (map view (take count rows)) ≡ true → 0 < count
some-shared view rows zero is = let e : false ≡ true = is in cc
some-shared view rows (suc n) is = omega arith

pub some-unless : (count : ℕ) → (count ≡ 0 → ⊥) → 0 < count
some-unless zero none = absurd (none refl)
some-unless (suc n) none = omega arith
