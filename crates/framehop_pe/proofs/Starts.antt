-- The starts of a function table.
use Rattle.std.proofs.Common.{◌≡◌, ℕ, ◌*◌, ◌/◌, ◌<◌, ◌≤◌, Bool, true, false, cond, nat_le, List, length, get_or, drop, Some, None, refl, ap, sym, ◌∙◌, arith, rules}
use Rattle.std.specs.Option.{option_and_then}
use Rattle.std.proofs.lemmas.List.{get_or-drop, length-drop}
use Rattle.std.proofs.lemmas.List.FromFn.{length-map-range_with_len, get_or-map-range_with_len}
use Rattle.std.proofs.lemmas.Bool.Decides.{nat_tests}
use Rattle.framehop_bytes.specs.Bytes.{le4}
use Rattle.framehop_bytes.specs.Place.{place_of}
use Rattle.framehop_pe.specs.FunctionTable.{starts_of, function_at, function_of, covers}
use Rattle.framehop_pe.specs.declared.unwind_info.function_table.RuntimeFunction.{RuntimeFunction}

pub length-starts_of : (pdata : List ℕ) → length (starts_of pdata) ≡ length pdata / 12
unfolding starts_of
length-starts_of pdata = length-map-range_with_len (λ i. le4 pdata (12 * i)) 0 (length pdata / 12)

pub get_or-starts_of : (pdata : List ℕ) (index : ℕ) → index < length pdata / 12 → get_or (starts_of pdata) index 0 ≡ le4 pdata (12 * index)
unfolding starts_of
get_or-starts_of pdata index below =
    get_or-map-range_with_len (λ i. le4 pdata (12 * i)) 0 (length pdata / 12) index index 0 below (omega arith)

-- a number after some bytes
le4-drop : (bytes : List ℕ) (n : ℕ) → le4 (drop n bytes) 0 ≡ le4 bytes n
le4-drop bytes n = simp get_or-drop (search rules)

fits : (bytes : List ℕ) (b : Bool) (x f : RuntimeFunction) → cond b (Some x) None ≡ Some f → (b ≡ true) × (x ≡ f)
fits bytes true x f e = (refl, cc)
fits bytes false x f e = cc

-- the start of an entry
pub start-entry : (pdata : List ℕ) (n : ℕ) (f : RuntimeFunction) → Some f ≡ function_at (drop n pdata) → f.begin_address ≡ le4 pdata n
start-entry pdata n f e =
    let found = fits pdata (nat_le 12 (length (drop n pdata))) _ f (sym e) in
    sym (ap (λ g. g.begin_address) found.1) ∙ le4-drop pdata n

none : (b : Bool) (x : RuntimeFunction) → cond b (Some x) None ≡ None → b ≡ false
none true x e = cc
none false x e = refl

-- an entry of the table is there
pub entry-there : (pdata : List ℕ) (index : ℕ) → index < length pdata / 12 → None ≡ function_at (drop (12 * index) pdata) → ⊥
entry-there pdata index below e =
    let short = none (nat_le 12 (length (drop (12 * index) pdata))) _ (sym e) in
    let long : 12 ≤ length (drop (12 * index) pdata) = simp length-drop (omega arith) in
    grind (arith, nat_tests)

uncovered : (bytes : List ℕ) (address : ℕ) (b : Bool) → b ≡ false → nat_le 12 (length bytes) ≡ b → None ≡ option_and_then (λ f. covers f address) (function_at bytes)
uncovered bytes address b short is = rw (is, short) refl

-- a table without an entry
pub function_of-empty : (pdata : List ℕ) (address : ℕ) → length pdata / 12 ≡ 0 → None ≡ function_of pdata address
unfolding function_of
function_of-empty pdata address empty =
    let n = 12 * place_of (starts_of pdata) address in
    let below : length (drop n pdata) < 12 = simp length-drop (omega arith) in
    let test : nat_le 12 (length (drop n pdata)) ≡ false = grind (arith, nat_tests) in
    uncovered (drop n pdata) address false refl test
