-- What follows from an outcome that answers an address: each of its parts has given a value.
use Rattle.std.proofs.Common.{◌≡◌, ◌≢◌, ℕ, ◌^◌, ◌<◌, ℤ, pos, negsuc, Bool, true, false, cond, nat_eq, nat_lt, Option, Some, None, Result, Ok, Err, refl, ap, arith}
use Rattle.std.proofs.lemmas.Bool.Decides.{nat_tests}
use Rattle.framehop_core.specs.Memory.{Memory, reply}
use Rattle.framehop_core.specs.Outcome.{Outcome, answered, root, refused, after, and_then, address_at, read_of, word_at}
use Rattle.framehop_core.specs.declared.error.Error.{Error}
use Rattle.framehop_core.specs.declared.error.Error.TheVariants.{IntegerOverflow}

-- the number is zero, or not, as the test says
nat_eq-false : (m n : ℕ) → nat_eq m n ≡ false → m ≢ n
nat_eq-false m n h = λ e. grind (arith, nat_tests)

-- ---- results

pub and_then-ok : {A B : Type 0} (r : Result A Error) (next : A → Result B Error) (value : B)
    → and_then r next ≡ Ok value → (part : A) × (r ≡ Ok part) × (next part ≡ Ok value)
and_then-ok (Ok part) next value e = (part, refl, e)
and_then-ok (Err error) next value e = cc

address_at_test : (b : Bool) (n address : ℕ) → cond b (Ok n) (Err IntegerOverflow) ≡ Ok address
    → (b ≡ true) × (n ≡ address)
address_at_test true n address e = (refl, cc)
address_at_test false n address e = cc

-- an address that fits 64 bits is the whole number
pub address_at-ok : (z : ℤ) (address : ℕ) → address_at z ≡ Ok address → (z ≡ pos address) × (address < 2 ^ 64)
address_at-ok (pos n) address e =
    let test = address_at_test (nat_lt n (2 ^ 64)) n address e in
    (ap pos test.1, (let below = test.0 in let same = test.1 in grind (arith, nat_tests)))
address_at-ok (negsuc n) address e = cc

read_of-ok : (at word : ℕ) (o : Option ℕ) → read_of at (reply o) ≡ Ok word → o ≡ Some word
read_of-ok at word None e = cc
read_of-ok at word (Some w) e = ap Some cc

-- a word that is read is in the memory
pub word_at-ok : (memory : Memory) (at word : ℕ) → word_at memory at ≡ Ok word → memory at ≡ Some word
word_at-ok memory at word e = read_of-ok at word (memory at) e

-- ---- outcomes

pub after-answered : {A R : Type 0} (r : Result A Error) (next : A → Outcome R) (address : ℕ) (new : R)
    → after r next ≡ answered address new → (part : A) × (r ≡ Ok part) × (next part ≡ answered address new)
after-answered (Ok part) next address new e = (part, refl, e)
after-answered (Err error) next address new e = cc

-- a test that leads elsewhere has failed
pub root_unless : {R : Type 0} (b : Bool) (o : Outcome R) (address : ℕ) (new : R) → cond b root o ≡ answered address new
    → (b ≡ false) × (o ≡ answered address new)
root_unless true o address new e = cc
root_unless false o address new e = (refl, e)

pub refused_unless : {R : Type 0} (b : Bool) (error : Error) (o : Outcome R) (address : ℕ) (new : R)
    → cond b (refused error) o ≡ answered address new → (b ≡ false) × (o ≡ answered address new)
refused_unless true error o address new e = cc
refused_unless false error o address new e = (refl, e)

pub same-answered : {R : Type 0} (a b : ℕ) (r s : R) → answered a r ≡ answered b s → (a ≡ b) × (r ≡ s)
same-answered a b r s e = (cc, cc)
