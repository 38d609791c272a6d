-- The parts of a path round its last separator, and a path of Windows with slashes.
use Rattle.std.proofs.Common.{◌≡◌, ◌≢◌, ℕ, zero, suc, ◌+◌, ◌-◌, ◌<◌, ◌≤◌, List, [], ◌∷◌, ◌++◌, length, take, drop, get_or, get_or-drop, length-drop, append_assoc, Bool, true, false, Option, Some, None, refl, ap, sym, ◌∙◌, arith}
use Rattle.std.specs.Prelude.{◌==◌, not, MatchOption}
use Rattle.std.specs.List.{after_last, before_last, suffix_len, position_or_len}
use Rattle.std.specs.Str.Pattern.{RFindsChar}
use denote.Ref.{Bor}
use Rattle.std.proofs.lemmas.Grind.{common_steps}
use Rattle.std.proofs.lemmas.List.Sums.{suffix_len_is}
use Rattle.std.proofs.lemmas.Str.{len_utf8_ascii}
use Rattle.std.proofs.lemmas.Str.Pattern.{NoCharPasses-char}
use Rattle.framehop_disk.specs.Paths.{SLASH, after_drive, is_backslash, with_slashes}

-- ---- the last separator

module _ (p : ℕ → Bool) where
  fails : (x : ℕ) → p x ≡ false → not (p x) ≡ true
  fails x is = rw is refl

  passes : (x : ℕ) → p x ≡ true → not (p x) ≡ false
  passes x is = rw is refl

  size_after : (path : List ℕ) (start : ℕ) → start ≤ length path
      → ((k : ℕ) → start ≤ k → k < length path → p (get_or path k 0) ≡ false)
      → (0 < start → p (get_or path (start - 1) 0) ≡ true)
      → suffix_len (λ byte. not (p byte)) path ≡ length path - start
  size_after path start fits none one =
      suffix_len_is (λ byte. not (p byte)) path start 0 fits
      (λ k from below. fails (get_or path k 0) (none k from below))
      (λ above. passes (get_or path (start - 1) 0) (one above))

  -- the last that passes is right before a place, or none does and the place is the start
  pub name_from : (path : List ℕ) (start : ℕ) → start ≤ length path
      → ((k : ℕ) → start ≤ k → k < length path → p (get_or path k 0) ≡ false)
      → (0 < start → p (get_or path (start - 1) 0) ≡ true)
      → after_last p path ≡ drop start path
  name_from path start fits none one =
      ap (λ n. drop (length path - n) path) (size_after path start fits none one) ∙ ap (λ n. drop n path) (omega arith)

  pub folder_to : (path : List ℕ) (start : ℕ) → start ≤ length path
      → ((k : ℕ) → start ≤ k → k < length path → p (get_or path k 0) ≡ false)
      → (0 < start → p (get_or path (start - 1) 0) ≡ true)
      → before_last p path ≡ take (start - 1) path
  folder_to path start fits none one =
      ap (λ n. take (length path - n - 1) path) (size_after path start fits none one) ∙ ap (λ n. take n path) (omega arith)

-- ---- what `rsplit_once` gives at a character of ASCII

abbrev pub IsRsplit : ℕ → List ℕ → Option (Bor (List ℕ) × Bor (List ℕ)) → Type 0
IsRsplit c text r = MatchOption r (RFindsChar c text None)
    (λ x. (i : ℕ) × (j : ℕ) × RFindsChar c text (Some (i, j)) × (x.0.now ≡ take i text) × (x.1.now ≡ drop j text)
    × (i ≤ j) × (length x.0.now ≡ i) × (length x.1.now + j ≡ length text))

other : (c x : ℕ) → x ≢ c → (x == c) ≡ false
other c x ne = grind (arith, common_steps)

same : (c x : ℕ) → x ≡ c → (x == c) ≡ true
same c x is = grind (arith, common_steps)

module _ (c : ℕ) (text : List ℕ) (low : c < 128) where
  none-of : RFindsChar c text None → (k : ℕ) → 0 ≤ k → k < length text → (get_or text k 0 == c) ≡ false
  none-of found k from below = other c (get_or text k 0) (NoCharPasses-char c text k found low below)

  pub no_name : RFindsChar c text None → after_last (λ byte. byte == c) text ≡ text
  no_name found = name_from (λ byte. byte == c) text 0 (omega arith) (none-of found) (λ above. absurd (omega (arith, above)))

  pub no_folder : RFindsChar c text None → before_last (λ byte. byte == c) text ≡ []
  no_folder found = folder_to (λ byte. byte == c) text 0 (omega arith) (none-of found) (λ above. absurd (omega (arith, above)))

  module _ (x : Bor (List ℕ) × Bor (List ℕ)) (split : IsRsplit c text (Some x)) where
    abbrev at : ℕ
    at = split.0

    next : split.1 ≡ at + 1
    next = omega (arith, split.2.1.ends, len_utf8_ascii c low)

    fits : at + 1 ≤ length text
    fits = omega (arith, split.7, next)

    later : (k : ℕ) → at + 1 ≤ k → k < length text → (get_or text k 0 == c) ≡ false
    later k from below =
        let back : split.1 + (k - split.1) ≡ k = omega (arith, next, from) in
        let long : k - split.1 < length (drop split.1 text) = omega (arith, next, from, below, length-drop split.1 text) in
        let there : get_or (drop split.1 text) (k - split.1) 0 ≡ get_or text k 0 = get_or-drop split.1 text (k - split.1) 0 ∙ ap (λ n. get_or text n 0) back in
        other c (get_or text k 0) (λ is. NoCharPasses-char c (drop split.1 text) (k - split.1) split.2.0 low long (there ∙ is))

    here : 0 < at + 1 → (get_or text (at + 1 - 1) 0 == c) ≡ true
    here above = same c (get_or text (at + 1 - 1) 0) (ap (λ n. get_or text n 0) (omega arith) ∙ split.2.1.byte low)

    pub name_after : x.1.now ≡ after_last (λ byte. byte == c) text
    name_after = split.4 ∙ ap (λ n. drop n text) next ∙ sym (name_from (λ byte. byte == c) text (at + 1) fits later here)

    pub folder_before : x.0.now ≡ before_last (λ byte. byte == c) text
    folder_before =
        split.3 ∙ ap (λ n. take n text) (omega arith) ∙ sym (folder_to (λ byte. byte == c) text (at + 1) fits later here)

-- ---- slashes

abbrev pub Lacks : List ℕ → Type 0
Lacks path = (i : ℕ) → i < length path → get_or path i 0 ≢ 92

pub slashes-lacks : (path : List ℕ) → Lacks path → with_slashes path ≡ path
slashes-lacks [] lacks = refl
slashes-lacks (byte ∷ path) lacks =
    let first : is_backslash byte ≡ false = other 92 byte (lacks zero (omega arith)) in
    let rest = slashes-lacks path (λ i below. lacks (suc i) (omega (arith, below))) in
    rw first (ap (λ bytes. byte ∷ bytes) rest)

pub slashes-cut : (front back : List ℕ) → Lacks front → with_slashes (front ++ 92 ∷ back) ≡ front ++ SLASH ∷ with_slashes back
slashes-cut [] back lacks = refl
slashes-cut (byte ∷ front) back lacks =
    let first : is_backslash byte ≡ false = other 92 byte (lacks zero (omega arith)) in
    let rest = slashes-cut front back (λ i below. lacks (suc i) (omega (arith, below))) in
    rw first (ap (λ bytes. byte ∷ bytes) rest)

-- what is from the first backslash on
pub drive-none : (path : List ℕ) → Lacks path → drop (position_or_len is_backslash path) path ≡ []
drive-none [] lacks = refl
drive-none (byte ∷ path) lacks =
    let first : is_backslash byte ≡ false = other 92 byte (lacks zero (omega arith)) in
    let rest = drive-none path (λ i below. lacks (suc i) (omega (arith, below))) in
    let next : 1 + position_or_len is_backslash path ≡ suc (position_or_len is_backslash path) = omega arith in
    rw first (ap (λ n. drop n (byte ∷ path)) next ∙ rest)

pub drive-cut : (front back : List ℕ) → Lacks front → drop (position_or_len is_backslash (front ++ 92 ∷ back)) (front ++ 92 ∷ back) ≡ 92 ∷ back
drive-cut [] back lacks = refl
drive-cut (byte ∷ front) back lacks =
    let first : is_backslash byte ≡ false = other 92 byte (lacks zero (omega arith)) in
    let rest = drive-cut front back (λ i below. lacks (suc i) (omega (arith, below))) in
    let place = position_or_len is_backslash (front ++ 92 ∷ back) in
    let next : 1 + place ≡ suc place = omega arith in
    rw first (ap (λ n. drop n (byte ∷ front ++ 92 ∷ back)) next ∙ rest)

-- the steps of a loop that appends a path with slashes
pub slashes-step : (done rest front back : List ℕ) → rest ≡ front ++ 92 ∷ back → Lacks front
    → ((done ++ front) ++ SLASH ∷ []) ++ with_slashes back ≡ done ++ with_slashes rest
slashes-step done rest front back is lacks =
    append_assoc (done ++ front) (SLASH ∷ []) (with_slashes back)
    ∙ append_assoc done front (SLASH ∷ with_slashes back)
    ∙ ap (λ bytes. done ++ bytes) (sym (slashes-cut front back lacks) ∙ ap with_slashes (sym is))

pub slashes-last : (done rest : List ℕ) → Lacks rest → done ++ rest ≡ done ++ with_slashes rest
slashes-last done rest lacks = ap (λ bytes. done ++ bytes) (sym (slashes-lacks rest lacks))

-- the path after a drive
pub drive-after : (path front back : List ℕ) → path ≡ front ++ 92 ∷ back → Lacks front
    → SLASH ∷ with_slashes back ≡ after_drive path
drive-after path front back is lacks =
    ap with_slashes (sym (drive-cut front back lacks)) ∙ ap after_drive (sym is)

pub drive-of-none : (path : List ℕ) → Lacks path → after_drive path ≡ []
drive-of-none path lacks = ap with_slashes (drive-none path lacks)
