-- Runs of a prologue on aarch64: read backwards, word by word.
use Rattle.std.proofs.Common.{◌≡◌, ◌⊎◌, inl, inr, ℕ, zero, suc, ◌+◌, ◌-◌, ◌*◌, ◌/◌, ◌<◌, ◌≤◌, ℤ, pos, negsuc, ◌+ℤ◌, ◌*ℤ◌, ◌≤ℤ◌, true, List, [], ◌∷◌, length, Some, refl, sym, ap, ◌∙◌, arith}
use Rattle.std.proofs.lemmas.Bool.{cases_lt}
use Rattle.std.proofs.lemmas.Int.{ints}
use Rattle.std.proofs.lemmas.Option.{same_Some}
use Rattle.framehop_analysis.specs.Aarch64.Words.{word_at}
use Rattle.framehop_analysis.specs.Aarch64.Prologue.{is_run_word, lowered_by, lowered, IsRun, IsLongestRun}

-- what the walk backwards has read so far: a run that ends at the pc, and how far it lowers sp
pub record IsRunFrom (bytes : List ℕ) (start : ℕ) (depth : ℤ) : Type 0 where
  pub run : List ℕ
  pub stands : IsRun bytes (4 * start) run
  pub ends : start + length run ≡ length bytes / 4
  pub depth_is : depth ≡ lowered run
  pub low : (negsuc 16777215 *ℤ pos (length run)) ≤ℤ depth
  pub high : depth ≤ℤ (pos 16777216 *ℤ pos (length run))

-- a run has a run word at each of its places
run-place : (bytes : List ℕ) (at k : ℕ) (run : List ℕ) → IsRun bytes at run → k < length run
    → (word : ℕ) × (word_at bytes (at + 4 * k) ≡ Some word) × (is_run_word word ≡ true)
run-place bytes at k [] stands below = absurd (omega arith)
run-place bytes at zero (word ∷ run) stands below =
    let here : at + 4 * 0 ≡ at = omega arith in (word, ap (word_at bytes) here ∙ stands.0, stands.1)
run-place bytes at (suc k) (word ∷ run) stands below =
    let there : at + 4 * suc k ≡ at + 4 + 4 * k = omega arith in
    let found = run-place bytes (at + 4) k run stands.2 (omega arith) in
    (found.0, ap (word_at bytes) there ∙ found.1, found.2)

-- where no run word stands before it, a run is the longest one
pub longest-run : (bytes : List ℕ) (start : ℕ) (run : List ℕ) → IsRun bytes (4 * start) run
    → start + length run ≡ length bytes / 4
    → ((word : ℕ) → 0 < start → word_at bytes (4 * (start - 1)) ≡ Some word → is_run_word word ≡ true → ⊥)
    → IsLongestRun bytes run
longest-run bytes start run run_stands run_ends stopped = record {
  start = start;
  stands = run_stands;
  ends = run_ends;
  longest = λ other words stands ends. not_longer other words stands ends (cases_lt (length run) (length words));
} where
  not_longer : (other : ℕ) (words : List ℕ) → IsRun bytes (4 * other) words → other + length words ≡ length bytes / 4
      → (length run < length words) ⊎ (length words ≤ length run) → length words ≤ length run
  not_longer other words stands ends (inr short) = short
  not_longer other words stands ends (inl long) =
      let place = run-place bytes (4 * other) (length words - length run - 1) words stands (omega arith) in
      let at : 4 * (start - 1) ≡ 4 * other + 4 * (length words - length run - 1) = omega arith in
      absurd (stopped place.0 (omega arith) (ap (word_at bytes) at ∙ place.1) place.2)

pub run-longest : (bytes : List ℕ) (start : ℕ) (depth : ℤ) → (found : IsRunFrom bytes start depth)
    → ((word : ℕ) → 0 < start → word_at bytes (4 * (start - 1)) ≡ Some word → is_run_word word ≡ true → ⊥)
    → IsLongestRun bytes found.run
run-longest bytes start depth found stopped = longest-run bytes start found.run found.stands found.ends stopped

-- ---- there is one longest run

runs-same : (bytes : List ℕ) (at : ℕ) (xs ys : List ℕ) → IsRun bytes at xs → IsRun bytes at ys → length xs ≡ length ys
    → xs ≡ ys
runs-same bytes at [] [] a b e = refl
runs-same bytes at [] (y ∷ ys) a b e = absurd (omega arith)
runs-same bytes at (x ∷ xs) [] a b e = absurd (omega arith)
runs-same bytes at (x ∷ xs) (y ∷ ys) a b e =
    let here : x ≡ y = same_Some x y (sym a.0 ∙ b.0) in
    let rest : xs ≡ ys = runs-same bytes (at + 4) xs ys a.2 b.2 (omega arith) in
    cc

pub longest-same : (bytes xs ys : List ℕ) → IsLongestRun bytes xs → IsLongestRun bytes ys → xs ≡ ys
longest-same bytes xs ys a b =
    let first = a.longest b.start ys b.stands b.ends in
    let second = b.longest a.start xs a.stands a.ends in
    let a_ends = a.ends in let b_ends = b.ends in
    let start : b.start ≡ a.start = omega arith in
    let moved : IsRun bytes (4 * a.start) ys = rw (sym start) b.stands in
    runs-same bytes (4 * a.start) xs ys a.stands moved (omega arith)

-- ---- a step backwards

pub run-none : (bytes : List ℕ) → IsRunFrom bytes (length bytes / 4) (pos 0)
run-none bytes = record {
  run = [];
  stands = tt;
  ends = omega arith;
  depth_is = refl;
  low = omega (arith, ints);
  high = omega (arith, ints);
}

pub run-back : (bytes : List ℕ) (start word : ℕ) (depth by new : ℤ) → IsRunFrom bytes start depth → 0 < start
    → word_at bytes (4 * (start - 1)) ≡ Some word → is_run_word word ≡ true → by ≡ lowered_by word
    → negsuc 16777215 ≤ℤ by → by ≤ℤ pos 16777216 → new ≡ depth +ℤ by → IsRunFrom bytes (start - 1) new
run-back bytes start word depth by new found above there is_run by_is low high new_is =
    let at : 4 * (start - 1) + 4 ≡ 4 * start = omega arith in
    let f_low = found.low in let f_high = found.high in let f_ends = found.ends in let d_is = found.depth_is in
    record {
      run = word ∷ found.run;
      stands = (there, is_run, rw at found.stands);
      ends = omega arith;
      depth_is = omega (arith, ints);
      low = omega (arith, ints);
      high = omega (arith, ints);
    }
