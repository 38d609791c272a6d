-- What windows tell, one window after the other.
use Rattle.std.proofs.Common.{◌≡◌, ℕ, List, ◌∷◌, Option, Some, None, option_map, Result, refl}
use Rattle.framehop.specs.Memory.{reply}
use Rattle.framehop_lent.specs.Window.{told_by, told_first, told_in, word_told}
use Rattle.framehop_lent.specs.declared.window.Window.{Window}

-- a window that tells nothing leaves it to the others
pub told-skip : (window : Window) (windows : List Window) (address : ℕ) → option_map reply (told_by window address) ≡ None → told_in (window ∷ windows) address ≡ told_in windows address
told-skip window windows address none = skip (told_by window address) (told_in windows address) none
  where
    skip : (one others : Option (Option ℕ)) → option_map reply one ≡ None → told_first one others ≡ others
    skip (Some word) others none = cc
    skip None others none = refl

-- a window that tells of the address
pub told-found : (window : Window) (windows : List Window) (address : ℕ) (word : Option (Result ℕ (Unit {0}))) (some : Result ℕ (Unit {0})) → word ≡ Some some → word ≡ option_map reply (told_by window address) → word ≡ option_map reply (told_in (window ∷ windows) address)
told-found window windows address word some is told = found (told_by window address) (told_in windows address) word some is told
  where
    found : (one others : Option (Option ℕ)) (word : Option (Result ℕ (Unit {0}))) (some : Result ℕ (Unit {0})) → word ≡ Some some → word ≡ option_map reply one → word ≡ option_map reply (told_first one others)
    found (Some x) others word some is told = told
    found None others word some is told = cc

-- a word that is told is the memory's, and where none is told there is none
pub told-word : (told : Option (Option ℕ)) (word : Result ℕ (Unit {0})) → Some word ≡ option_map reply told → word ≡ reply (word_told told)
told-word (Some x) word e = cc
told-word None word e = cc

pub untold-word : (told : Option (Option ℕ)) → None ≡ option_map reply told → told ≡ None
untold-word (Some x) e = cc
untold-word None e = refl
