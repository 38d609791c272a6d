-- Shortcuts into a search tree: an index that the search for each address of a block comes to.
use Rattle.std.proofs.Common.{◌≡◌, ◌≢◌, ℕ, zero, suc, ◌+◌, ◌-◌, ◌*◌, ◌/◌, ◌%◌, ◌^◌, ◌<◌, ◌≤◌, List, length, map, get_or, set, replicate, Option, Some, None, refl, ap, sym, subst, ◌∙◌, arith, inl, inr}
use Rattle.std.specs.Prelude.{option_map, min, Contains}
use Rattle.std.specs.Int.{bit_at}
use Rattle.std.specs.List.Sorted.{IsPermutation}
use Rattle.std.proofs.lemmas.Bool.{cases_lt}
use Rattle.std.proofs.lemmas.Nat.{pow_pos, le-div, shr-shr}
use Rattle.std.proofs.lemmas.Nat.Bits.{bit_at_lowest, bit_at-suc}
use Rattle.std.proofs.lemmas.List.{get_or-set_same, get_or-set_other, length-set, get_or-replicate, length-replicate, get_or-map, length-map, get_or_default}
use Rattle.std.proofs.lemmas.List.Elements.{Contains-get_or}
use Rattle.std.proofs.lemmas.List.Sorted.{Contains-permutation, IsPermutation-sym}
use Rattle.std.proofs.Math.Nat.{mul-le-mul_right, div-mul-le_self, lt-div-mul-add, min-eq_left, min-eq_right}
use Rattle.framehop_dwarf.specs.Index.{pair_of_key, fde_offset_for}
use Rattle.framehop_dwarf.specs.Tree.{left_to_right, IsAscending, IsUnder, itself, lesser, greater, IsSearchTree, IsOnPath, first, to_lesser, to_greater, AreShortcuts, StartUpTo, block_at, IsTopOf, no_pair, a_pair, AreTops}
use Rattle.framehop_dwarf.proofs.Searched.{not_after-starts, IsSearchingBy, search-begins, search-ends, on-to-greater, on-to-lesser, same-offset}
use Rattle.framehop_dwarf.proofs.Tree.{top-le}

-- a number of a lower block is below that block
pub below-block : (d x b : ℕ) → 0 < d → x / d < b → x < b * d
below-block d x b some less = up (x / d) (lt-div-mul-add {a = x} {b = d} some) less
  where
    up : (q : ℕ) → x < q * d + d → q < b → x < b * d
    up q here less = let g : (q + 1) * d ≤ b * d = mul-le-mul_right d (omega arith) in omega arith

-- one of a block or of a higher one is at its beginning or above it
pub from-block : (d x b : ℕ) → b ≤ x / d → b * d ≤ x
from-block d x b le = down (x / d) (div-mul-le_self x d) le
  where
    down : (q : ℕ) → q * d ≤ x → b ≤ q → b * d ≤ x
    down q here le = let g : b * d ≤ q * d = mul-le-mul_right d le in omega arith

pub lower : (d x y : ℕ) → 0 < d → x / d < y / d → x < y
lower d x y some less = let up = below-block d x (y / d) some less in let down = from-block d y (y / d) (omega arith) in omega arith

pub div-mono : (d x y : ℕ) → 0 < d → x ≤ y → x / d ≤ y / d
div-mono d x y some le =
    elim (cases_lt (y / d) (x / d)) as (λ _. x / d ≤ y / d) [
      | inl less ↦ absurd (let h = lower d y x some less in omega arith)
      | inr up ↦ up
    ]

-- the last number below a block is in the block before it
pub last-of-block : (d b : ℕ) → 0 < d → ((b + 1) * d - 1) / d ≡ b
last-of-block d b some =
    let x : ℕ = (b + 1) * d - 1 in
    let up : b ≤ x / d = le-div b x d some (omega arith) in
    elim (cases_lt b (x / d)) as (λ _. x / d ≡ b) [
      | inl more ↦ absurd (let h = from-block d x (b + 1) (omega arith) in omega arith)
      | inr not ↦ omega arith
    ]

pub first-of-block : (d b : ℕ) → 0 < d → (b * d) / d ≡ b
first-of-block d b some =
    let up : b ≤ (b * d) / d = le-div b (b * d) d some (omega arith) in
    elim (cases_lt b ((b * d) / d)) as (λ _. (b * d) / d ≡ b) [
      | inl more ↦ absurd (let h = from-block d (b * d) (b + 1) (omega arith) in omega arith)
      | inr not ↦ omega arith
    ]

module _ (tree : List (ℕ × ℕ)) where
  abbrev start : ℕ → ℕ
  start at = (get_or tree at (0, 0)).0

  -- the search for a greater address comes to an index too, if no pair starts above the lesser one and not above it
  pub stays : (x y at : ℕ) → x ≤ y → ((c : ℕ) → c < length tree → start c ≤ y → start c ≤ x) → IsOnPath tree x at → IsOnPath tree y at
  stays x y at le none first = first
  stays x y at le none (to_lesser {at = c} on here above is) =
      elim (cases_lt y (start c)) as (λ _. IsOnPath tree y at) [
        | inl far ↦ to_lesser (stays x y c le none on) here far is
        | inr near ↦ absurd (let h = none c here near in omega arith)
      ]
  stays x y at le none (to_greater {at = c} on here near is) = to_greater (stays x y c le none on) here (omega arith) is

  pub on-path-few : (address at : ℕ) → IsOnPath tree address at → at ≤ 2 * length tree
  on-path-few address at first = omega arith
  on-path-few address at (to_lesser on here above is) = omega arith
  on-path-few address at (to_greater on here near is) = omega arith

  -- the search for each address of a block goes in the same way to the index above all pairs that start in the block
  module _ (search_tree : IsSearchTree tree) (shift block address : ℕ) (within : address / 2 ^ shift ≡ block) where
    pub to-top : (bound at j : ℕ) → at ≤ bound → IsUnder j at → j < length tree → block_at tree shift j ≡ block
        → ((c : ℕ) → c < at → block_at tree shift c ≢ block) → IsOnPath tree address at
    to-top bound zero j le under there is none = first
    to-top zero (suc at) j le under there is none = absurd (omega arith)
    to-top (suc bound) (suc at) j le under there is none =
        let k : ℕ = at / 2 in
        let other = none k (omega arith) in
        elim (cases_lt (at % 2) 1) as (λ _. IsOnPath tree address (suc at)) [
          | inl even ↦
              (let e : suc at ≡ 2 * k + 1 = omega arith in
              let under' : IsUnder j (2 * k + 1) = subst (λ x. IsUnder j x) e under in
              let deep = top-le j (2 * k + 1) under' in
              let starts = not_after-starts (get_or tree j (0, 0)) (get_or tree k (0, 0)) (search_tree.left k j under' there) in
              let up = div-mono (2 ^ shift) (start j) (start k) (pow_pos shift) starts in
              let far : address < start k = lower (2 ^ shift) address (start k) (pow_pos shift) (omega arith) in
              to_lesser (to-top bound k j (omega arith) (lesser under') there is (λ c less. none c (omega arith))) (omega arith) far e)
          | inr odd ↦
              (let e : suc at ≡ 2 * k + 2 = omega arith in
              let under' : IsUnder j (2 * k + 2) = subst (λ x. IsUnder j x) e under in
              let deep = top-le j (2 * k + 2) under' in
              let starts = not_after-starts (get_or tree k (0, 0)) (get_or tree j (0, 0)) (search_tree.right k j under' there) in
              let up = div-mono (2 ^ shift) (start k) (start j) (pow_pos shift) starts in
              let near : start k < address = lower (2 ^ shift) (start k) address (pow_pos shift) (omega arith) in
              to_greater (to-top bound k j (omega arith) (greater under') there is (λ c less. none c (omega arith))) (omega arith) (omega arith) e)
        ]

  -- a block in which no pair starts: the search goes as for the last address before it
  module _ (shift block : ℕ) (none : (c : ℕ) → c < length tree → block_at tree shift c ≢ block) where
    pub into-block : (at : ℕ) → IsOnPath tree (block * 2 ^ shift - 1) at → IsOnPath tree (block * 2 ^ shift) at
    into-block at on =
        stays (block * 2 ^ shift - 1) (block * 2 ^ shift) at (omega arith)
        (λ c here near.
        let other = none c here in
        elim (cases_lt (start c) (block * 2 ^ shift)) as (λ _. start c ≤ block * 2 ^ shift - 1) [
          | inl less ↦ omega arith
          | inr not ↦ absurd (other (ap (λ x. x / 2 ^ shift) (let e : start c ≡ block * 2 ^ shift = omega arith in e) ∙ first-of-block (2 ^ shift) block (pow_pos shift)))
        ])
        on

    pub through-block : (at address : ℕ) → address / 2 ^ shift ≡ block → IsOnPath tree (block * 2 ^ shift) at → IsOnPath tree address at
    through-block at address within on =
        stays (block * 2 ^ shift) address at (from-block (2 ^ shift) address block (omega arith))
        (λ c here near.
        let other = none c here in
        let up = div-mono (2 ^ shift) (start c) address (pow_pos shift) near in
        let less : start c < block * 2 ^ shift = below-block (2 ^ shift) (start c) block (pow_pos shift) (omega arith) in
        omega arith)
        on

-- The pair from which a search went to the greater ones last, counted from 1, or 0, by its end, counted from 1.
pub data IsFoundBy : ℕ → ℕ → Type 0 where
  odd : {number found : ℕ} → number ≡ 2 * found + 1 → IsFoundBy number found
  even : {number half found : ℕ} → number ≡ 2 * half → IsFoundBy half found → IsFoundBy number found

-- it is what is before the lowest digit 1
pub by-digits : (number found t : ℕ) → bit_at number t ≡ 1 → ((i : ℕ) → i < t → bit_at number i ≡ 0) → IsFoundBy number found → number / 2 ^ t / 2 ≡ found
by-digits number found zero one zeros (odd is) = omega arith
by-digits number found (suc t) one zeros (odd is) = absurd (let h = zeros 0 (omega arith) in let d = bit_at_lowest number in omega arith)
by-digits number found zero one zeros (even is rest) = absurd (let d = bit_at_lowest number in omega arith)
by-digits number found (suc t) one zeros (even {half = half} is rest) =
    let e : number / 2 ≡ half = omega arith in
    let bit = λ (i : ℕ). bit_at-suc number i ∙ ap (λ x. bit_at x i) e in
    let e2 : suc t ≡ 1 + t = omega arith in
    let shifted : number / 2 ^ suc t ≡ half / 2 ^ t = ap (λ k. number / 2 ^ k) e2 ∙ sym (shr-shr number 1 t) ∙ ap (λ x. x / 2 ^ t) e in
    ap (λ x. x / 2) shifted ∙ by-digits half found t (sym (bit t) ∙ one) (λ i less. sym (bit i) ∙ zeros (suc i) (omega arith)) rest

-- a place that is found, counted from 1, and 0 for none
abbrev pub number_of : Option ℕ → ℕ
number_of None = 0
number_of (Some at) = at + 1

-- what the search found so far, at an index that it comes to
pub record HasFound (tree : List (ℕ × ℕ)) (address at : ℕ) : Type 0 where
  pub found : Option ℕ
  pub count : ℕ
  pub searching : IsSearchingBy tree address at found count
  pub number : IsFoundBy (at + 1) (number_of found)

pub has-found : (tree : List (ℕ × ℕ)) (address at : ℕ) → IsAscending (left_to_right tree) → IsOnPath tree address at → HasFound tree address at
has-found tree address at ordered first = record {
  found = None;
  count = 0;
  searching = record { searching = search-begins tree address ordered; inside = tt };
  number = odd (omega arith);
}
has-found tree address at ordered (to_lesser {at = before} on here above is) =
    let h = has-found tree address before ordered on in
    record {
      found = h.found;
      count = h.count + 1;
      searching = on-to-lesser tree address before h.found h.count at h.found h.searching here above refl is;
      number = even {half = before + 1} (omega arith) h.number;
    }
has-found tree address at ordered (to_greater {at = before} on here near is) =
    let h = has-found tree address before ordered on in
    record {
      found = Some before;
      count = h.count + 1;
      searching = on-to-greater tree address before h.found h.count at (Some before) h.searching here near refl is;
      number = odd (omega arith);
    }

-- where the search ended its answer can be read from that
pub offset-found : (tree : List (ℕ × ℕ)) (address end : ℕ) → (h : HasFound tree address end) → length tree ≤ end
    → option_map (λ at. (get_or tree at (0, 0)).1) h.found ≡ fde_offset_for tree address
offset-found tree address end h past =
    (search-ends tree address end _ h.count h.searching.searching past).0 ∙ same-offset tree address

pub none-of : (tree : List (ℕ × ℕ)) (found offset : Option ℕ) (number : ℕ) → option_map (λ at. (get_or tree at (0, 0)).1) found ≡ offset → number ≡ number_of found → number ≡ 0 → None ≡ offset
none-of tree None offset number is same none = is
none-of tree (Some at) offset number is same none = absurd (omega arith)

pub some-of : (tree : List (ℕ × ℕ)) (found offset : Option ℕ) (number : ℕ) → option_map (λ at. (get_or tree at (0, 0)).1) found ≡ offset → number ≡ number_of found → number ≢ 0
    → Some (get_or tree (number - 1) (0, 0)).1 ≡ offset
some-of tree None offset number is same some = absurd (some same)
some-of tree (Some at) offset number is same some = let e : number - 1 ≡ at = omega arith in rw e is

-- ---- the least index of each block

pub tops-begin : (tree : List (ℕ × ℕ)) (shift last none : ℕ) (tops : List ℕ) → tops ≡ replicate (last / 2 ^ shift + 1) none → AreTops tree shift last (length tree) none tops
tops-begin tree shift last none tops is = rw is (record {
  long = length-replicate (last / 2 ^ shift + 1) none;
  each = λ block here.
      let long = length-replicate (last / 2 ^ shift + 1) none in
      no_pair (get_or-replicate (last / 2 ^ shift + 1) block none 0 (omega arith)) (λ at from there. absurd (omega arith));
})

pub block-inside : (tree : List (ℕ × ℕ)) (shift last place : ℕ) → StartUpTo tree last → place < length tree → block_at tree shift place < last / 2 ^ shift + 1
block-inside tree shift last place up there = let h = div-mono (2 ^ shift) (get_or tree place (0, 0)).0 last (pow_pos shift) (up place there) in omega arith

pub tops-next : (tree : List (ℕ × ℕ)) (shift last none : ℕ) (tops : List ℕ) (place : ℕ) → StartUpTo tree last → place < length tree → place ≢ none
    → AreTops tree shift last (place + 1) none tops → AreTops tree shift last place none (set tops (block_at tree shift place) place)
tops-next tree shift last none tops place up there apart are = record {
  long = length-set tops mine place ∙ are.long;
  each = λ block here.
      elim (cases_lt block mine) as (λ _. IsTopOf tree shift block place none (get_or (set tops mine place) block 0)) [
        | inl less ↦ other block here (λ e. absurd (omega arith))
        | inr not ↦ elim (cases_lt mine block) as (λ _. IsTopOf tree shift block place none (get_or (set tops mine place) block 0)) [
          | inl more ↦ other block here (λ e. absurd (omega arith))
          | inr neither ↦
              (let e : block ≡ mine = omega arith in
              rw e (rw (get_or-set_same tops mine place 0 inside) (a_pair apart there refl (λ at from before. absurd (omega arith)))))
        ]
      ];
}
  where
    mine : ℕ
    mine = block_at tree shift place

    inside : mine < length tops
    inside = let h = block-inside tree shift last place up there in let l = are.long in omega arith

    more-apart : (block number : ℕ) → mine ≢ block → IsTopOf tree shift block (place + 1) none number → IsTopOf tree shift block place none number
    more-apart block number other (no_pair is rest) = no_pair is (λ at from here.
        elim (cases_lt place at) as (λ _. block_at tree shift at ≢ block) [
          | inl after ↦ rest at (omega arith) here
          | inr not ↦ (let e : at ≡ place = omega arith in λ same. other (ap (block_at tree shift) (sym e) ∙ same))
        ])
    more-apart block number other (a_pair some below is rest) = a_pair some below is (λ at from here.
        elim (cases_lt place at) as (λ _. block_at tree shift at ≢ block) [
          | inl after ↦ rest at (omega arith) here
          | inr not ↦ (let e : at ≡ place = omega arith in λ same. other (ap (block_at tree shift) (sym e) ∙ same))
        ])

    other : (block : ℕ) → block < length (set tops mine place) → mine ≢ block → IsTopOf tree shift block place none (get_or (set tops mine place) block 0)
    other block here apart =
        let long = length-set tops mine place in
        rw (get_or-set_other tops mine block place 0 (λ e. apart (sym e))) (more-apart block (get_or tops block 0) apart (are.each block (omega arith)))

-- ---- the shortcuts

-- a block up to the last pair's begins at or below where that pair starts
pub begins-below : (last shift block : ℕ) → block < last / 2 ^ shift + 1 → block * 2 ^ shift ≤ last
begins-below last shift block here = from-block (2 ^ shift) last block (omega arith)

-- those of the blocks before one, and how far the search for the last address before it is known
pub record AreSoFar (tree : List (ℕ × ℕ)) (shift last none block before : ℕ) (places : List ℕ) : Type 0 where
  pub long : length places ≡ last / 2 ^ shift + 1
  pub each : (b : ℕ) → b < block → (address : ℕ) → address / 2 ^ shift ≡ b → IsOnPath tree address (get_or places b 0)
  pub rest : (b : ℕ) → block ≤ b → b < length places → IsTopOf tree shift b 0 none (get_or places b 0)
  pub reaches : IsOnPath tree (block * 2 ^ shift - 1) before

pub shortcuts-begin : (tree : List (ℕ × ℕ)) (shift last none : ℕ) (tops : List ℕ) → AreTops tree shift last 0 none tops → AreSoFar tree shift last none 0 0 tops
shortcuts-begin tree shift last none tops are = record {
  long = are.long;
  each = λ b less. absurd (omega arith);
  rest = λ b from here. are.each b here;
  reaches = first;
}

-- no pair starts in a block that has the mark
pub nothing : (tree : List (ℕ × ℕ)) (shift block none number : ℕ) → IsTopOf tree shift block 0 none number → number ≡ none → (c : ℕ) → c < length tree → block_at tree shift c ≢ block
nothing tree shift block none number (no_pair is rest) same c here = rest c (omega arith) here
nothing tree shift block none number (a_pair apart there is rest) same c here = absurd (apart same)

top-found : (tree : List (ℕ × ℕ)) (shift block none number address : ℕ) → IsSearchTree tree → IsTopOf tree shift block 0 none number → number ≢ none → address / 2 ^ shift ≡ block → IsOnPath tree address number
top-found tree shift block none number address search_tree (no_pair is rest) apart within = absurd (apart is)
top-found tree shift block none number address search_tree (a_pair some there is rest) apart within =
    to-top tree search_tree shift block address within number number number (omega arith) itself there is (λ c less. rest c (omega arith) less)

module _ (tree : List (ℕ × ℕ)) (shift last none block before : ℕ) (places : List ℕ) (here : block < length places) where
  -- a block that has a pair
  pub next-top : IsSearchTree tree → AreSoFar tree shift last none block before places → get_or places block 0 ≢ none
      → AreSoFar tree shift last none (block + 1) (get_or places block 0) places
  next-top search_tree so apart = record {
    long = so.long;
    each = λ b less address within.
        elim (cases_lt b block) as (λ _. IsOnPath tree address (get_or places b 0)) [
          | inl earlier ↦ so.each b earlier address within
          | inr not ↦
              (let e : b ≡ block = omega arith in
              rw e (top-found tree shift block none (get_or places block 0) address search_tree (so.rest block (omega arith) here) apart (within ∙ e)))
        ];
    rest = λ b from inside. so.rest b (omega arith) inside;
    reaches = top-found tree shift block none (get_or places block 0) ((block + 1) * 2 ^ shift - 1) search_tree (so.rest block (omega arith) here) apart (last-of-block (2 ^ shift) block (pow_pos shift));
  }

  -- one that has none
  pub next-end : (end : ℕ) → AreSoFar tree shift last none block before places → get_or places block 0 ≡ none → IsOnPath tree (block * 2 ^ shift) end
      → AreSoFar tree shift last none (block + 1) end (set places block end)
  next-end end so is on =
      let apart = nothing tree shift block none (get_or places block 0) (so.rest block (omega arith) here) is in
      let long = length-set places block end in
      record {
        long = long ∙ so.long;
        each = λ b less address within.
            elim (cases_lt b block) as (λ _. IsOnPath tree address (get_or (set places block end) b 0)) [
              | inl earlier ↦ rw (get_or-set_other places block b end 0 (λ e. absurd (omega arith))) (so.each b earlier address within)
              | inr not ↦
                  (let e : b ≡ block = omega arith in
                  rw e (rw (get_or-set_same places block end 0 here) (through-block tree shift block apart end address (within ∙ e) on)))
            ];
        rest = λ b from inside. rw (get_or-set_other places block b end 0 (λ e. absurd (omega arith))) (so.rest b (omega arith) (omega arith));
        reaches = through-block tree shift block apart end ((block + 1) * 2 ^ shift - 1) (last-of-block (2 ^ shift) block (pow_pos shift)) on;
      }

  -- where the search for such a block begins
  pub begins-before : AreSoFar tree shift last none block before places → get_or places block 0 ≡ none → IsOnPath tree (block * 2 ^ shift) before
  begins-before so is = into-block tree shift block (nothing tree shift block none (get_or places block 0) (so.rest block (omega arith) here) is) before so.reaches

  -- the same of the numbers after a turn, of which that of the block is read
  pub after-top : (new : List ℕ) (number : ℕ) → new ≡ places → number ≡ get_or new block number → IsSearchTree tree → AreSoFar tree shift last none block before places → get_or places block 0 ≢ none
      → AreSoFar tree shift last none (block + 1) number new
  after-top new number is read search_tree so apart =
      let read' : number ≡ get_or places block 0 = read ∙ ap (λ xs. get_or xs block number) is ∙ get_or_default places block number 0 here in
      rw (read', is) (next-top search_tree so apart)

  pub after-end : (new : List ℕ) (number end : ℕ) → new ≡ set places block end → number ≡ get_or new block number → AreSoFar tree shift last none block before places → get_or places block 0 ≡ none
      → IsOnPath tree (block * 2 ^ shift) end → AreSoFar tree shift last none (block + 1) number new
  after-end new number end is read so none_is on =
      let read' : number ≡ end = read ∙ ap (λ xs. get_or xs block number) is ∙ get_or-set_same places block end number here in
      rw (read', is) (next-end end so none_is on)

-- the last block goes on
pub shortcuts-end : (tree : List (ℕ × ℕ)) (shift last none block before : ℕ) (places : List ℕ) → StartUpTo tree last → AreSoFar tree shift last none block before places → block ≡ length places → AreShortcuts tree shift places
shortcuts-end tree shift last none block before places up so done = record {
  some = omega (arith, so.long);
  each = λ address.
      elim (cases_lt (address / 2 ^ shift) (length places)) as (λ _. IsOnPath tree address (get_or places (min (address / 2 ^ shift) (length places - 1)) 0)) [
        | inl inside ↦ rw (min-eq_left {n = address / 2 ^ shift} {m = length places - 1} (omega arith)) (so.each (address / 2 ^ shift) (omega arith) address refl)
        | inr past ↦ rw (min-eq_right {n = length places - 1} {m = address / 2 ^ shift} (omega arith)) (beyond address past)
      ];
}
  where
    beyond : (address : ℕ) → length places ≤ address / 2 ^ shift → IsOnPath tree address (get_or places (length places - 1) 0)
    beyond address past =
        let L : ℕ = last / 2 ^ shift in
        let long = so.long in
        let e : length places - 1 ≡ L = omega arith in
        let highest : ℕ = (L + 1) * 2 ^ shift - 1 in
        let within = last-of-block (2 ^ shift) L (pow_pos shift) in
        let below = below-block (2 ^ shift) last (L + 1) (pow_pos shift) (omega arith) in
        let above = from-block (2 ^ shift) address (L + 1) (omega arith) in
        stays tree highest address (get_or places (length places - 1) 0) (omega arith) (λ c here near. let h = up c here in omega arith)
        (so.each (length places - 1) (omega arith) highest (within ∙ sym e))

-- no pair of sorted keys starts above the last
pub last-start : (keys : List ℕ) (last : ℕ) → IsAscending (map pair_of_key keys) → last ≡ get_or keys (length keys - 1) 0 → StartUpTo (map pair_of_key keys) (pair_of_key last).0
last-start keys last ordered is at here =
    let pairs = map pair_of_key keys in
    let within = length-map keys pair_of_key in
    let end : ℕ = length keys - 1 in
    let starts : (get_or pairs at (0, 0)).0 ≤ (get_or pairs end (0, 0)).0 = not_after-starts (get_or pairs at (0, 0)) (get_or pairs end (0, 0)) (ordered.ordered at end (omega arith) (omega arith)) in
    let same : (get_or pairs end (0, 0)).0 ≡ (pair_of_key last).0 = ap (λ (p : ℕ × ℕ). p.0) (get_or-map pair_of_key keys end 0 (0, 0) (omega arith)) ∙ ap (λ key. key / 2 ^ 32) (sym is) in
    omega arith

-- nor of the tree that has the same pairs
pub tree-start : (pairs tree : List (ℕ × ℕ)) (last : ℕ) → IsPermutation pairs tree → StartUpTo pairs last → StartUpTo tree last
tree-start pairs tree last same up at here =
    let there : Contains pairs (get_or tree at (0, 0)) = Contains-permutation tree pairs (get_or tree at (0, 0)) (IsPermutation-sym pairs tree same) (Contains-get_or tree at (0, 0) here) in
    of there
  where
    of : Contains pairs (get_or tree at (0, 0)) → (get_or tree at (0, 0)).0 ≤ last
    of (k, below, is) =
        let e : (get_or pairs k (0, 0)).0 ≡ (get_or tree at (0, 0)).0 = ap (λ (p : ℕ × ℕ). p.0) (sym (get_or_default pairs k (get_or tree at (0, 0)) (0, 0) below) ∙ is) in
        let h = up k below in
        omega arith
