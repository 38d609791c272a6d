-- The items of a function, one after another.
use Rattle.std.proofs.Common.{◌≡◌, ℕ, zero, suc, ◌+◌, ◌^◌, ◌<◌, ◌≤◌, true, false, nat_lt, List, [], ◌∷◌, Option, Some, None, refl, ap, arith}
use Rattle.std.proofs.lemmas.Bool.{lt-leb, le-leb}
use Rattle.framehop_cfi.specs.Section.{Section}
use Rattle.framehop_cfi.specs.declared.storage.StorageLimits.{StorageLimits}
use Rattle.framehop_cfi.specs.declared.entry.FrameDescriptionEntry.{FrameDescriptionEntry}
use Rattle.framehop_code.specs.declared.effect.Base.{Base}
use Rattle.framehop_code.specs.declared.effect.Effect.{Effect}
use Rattle.framehop_check.specs.declared.claim.Claim.{Claim}
use Rattle.framehop_check.specs.declared.check.Item.{Item}
use Rattle.framehop_check.specs.Rows.{claim_of_address}
use Rattle.framehop_check.specs.Check.{items_from, all_from, items_of, all_of, items_of_fde, all_of_fde}

-- what is known of claims address by address is known of all
module _ (instruction : List ℕ → ℕ → Option Effect) (numbered : ℕ → Option Base) (return_column : ℕ) (limits : Option StorageLimits)
    (section : Section) (fde : FrameDescriptionEntry) (code : List ℕ) (claims : ℕ → Option Claim)
    (fits : nat_lt (fde.initial_address + fde.address_range) (2 ^ 64) ≡ true)
    (same : (address : ℕ) → claims address ≡ claim_of_address numbered return_column limits section fde address) where
  pub items-by-rows : items_of instruction claims fde.initial_address code
      ≡ items_of_fde instruction numbered return_column limits section fde code
  unfolding items_of_fde
  items-by-rows = rw fits (ap (λ (c : ℕ → Option Claim). items_of instruction c fde.initial_address code) (λ i address. same address i))

  pub all-by-rows : all_of instruction claims fde.initial_address code
      ≡ all_of_fde instruction numbered return_column limits section fde code
  unfolding all_of_fde
  all-by-rows = rw fits (ap (λ (c : ℕ → Option Claim). all_of instruction c fde.initial_address code) (λ i address. same address i))

module _ (item : ℕ → Option Item) (size : ℕ) where
  pub items-end : (n at : ℕ) → size ≤ at → items_from item size n at ≡ []
  items-end zero at past = refl
  items-end (suc n) at past = rw (le-leb size at past) refl

  pub all-end : (n at : ℕ) → size ≤ at → all_from item size n at ≡ true
  all-end zero at past = refl
  all-end (suc n) at past = rw (le-leb size at past) refl

  pub items-none : (n at : ℕ) → size ≤ n + at → at < size → item at ≡ None → items_from item size n at ≡ []
  items-none zero at enough within none = absurd (omega (arith, enough, within))
  items-none (suc n) at enough within none = rw (lt-leb size at within, none) refl

  pub all-none : (n at : ℕ) → size ≤ n + at → at < size → item at ≡ None → all_from item size n at ≡ false
  all-none zero at enough within none = absurd (omega (arith, enough, within))
  all-none (suc n) at enough within none = rw (lt-leb size at within, none) refl

  -- one item, and then those that follow it
  pub record Follows (n at next : ℕ) (i : Item) : Type 0 where
    pub fewer : ℕ
    pub enough : size ≤ fewer + next
    pub items : items_from item size n at ≡ i ∷ items_from item size fewer next
    pub all : all_from item size n at ≡ all_from item size fewer next

  pub follows : (n at : ℕ) (i : Item) → size ≤ n + at → at < size → item at ≡ Some i → 0 < i.effect.size
      → Follows n at (at + i.effect.size) i
  follows zero at i enough within some more = absurd (omega (arith, enough, within))
  follows (suc n) at i enough within some more = record {
    fewer = n;
    enough = omega (arith, enough, more);
    items = rw (lt-leb size at within, some) refl;
    all = rw (lt-leb size at within, some) refl;
  }
