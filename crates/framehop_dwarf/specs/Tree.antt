-- A binary search tree that is stored level by level: under place 2 * i + 1 is what comes before the pair at place i,
-- and under place 2 * i + 2 what comes after it.
use Rattle.std.specs.Prelude.{◌≡◌, ◌≢◌, ℕ, zero, suc, ◌+◌, ◌-◌, ◌*◌, ◌/◌, ◌^◌, ◌<◌, ◌≤◌, length, slice_index, slice_index_or, List, [], ◌∷◌, ◌++◌, Bool, true, nat_le, nat_lt, ◌==◌, ◌||◌, ◌&&◌, if◌then◌else◌, min}

-- a pair does not come after another: it starts below it, or where it starts and not further on in the section
abbrev pub not_after : ℕ × ℕ → ℕ × ℕ → Bool
not_after a b = nat_lt a.0 b.0 || ((a.0 == b.0) && nat_le a.1 b.1)

-- the pairs at a place and under it from left to right, so many levels deep
abbrev pub in_order : List (ℕ × ℕ) → ℕ → ℕ → List (ℕ × ℕ)
in_order tree zero at = []
in_order tree (suc levels) at =
    if nat_le (length tree) at then []
    else in_order tree levels (2 * at + 1) ++ (slice_index_or tree at (0, 0) ∷ in_order tree levels (2 * at + 2))

-- all pairs from left to right
abbrev pub left_to_right : List (ℕ × ℕ) → List (ℕ × ℕ)
left_to_right tree = in_order tree (length tree) 0

-- no pair comes after a later one
pub record IsAscending (pairs : List (ℕ × ℕ)) : Type 0 where
  pub ordered : (i j : ℕ) → i ≤ j → j < length pairs
      → not_after (slice_index_or pairs i (0, 0)) (slice_index_or pairs j (0, 0)) ≡ true

-- how many pairs the search for an address looks at, from a place on and so many levels deep
abbrev pub looked_at : List (ℕ × ℕ) → ℕ → ℕ → ℕ → ℕ
looked_at tree address zero at = 0
looked_at tree address (suc levels) at =
    if nat_le (length tree) at then 0
    else suc (looked_at tree address levels
    (if nat_le (slice_index_or tree at (0, 0)).0 address then 2 * at + 2 else 2 * at + 1))

-- a length has at least so many binary digits
abbrev pub IsWithinDigits : ℕ → ℕ → Type 0
IsWithinDigits count len = 0 < count → 2 ^ (count - 1) ≤ len

-- a place is another one, or under one of that one's two
pub data IsUnder (at : ℕ) : ℕ → Type 0 where
  itself : IsUnder at at
  lesser : {top : ℕ} → IsUnder at (2 * top + 1) → IsUnder at top
  greater : {top : ℕ} → IsUnder at (2 * top + 2) → IsUnder at top

-- no pair under the first of a place's two comes after its pair, and its pair comes after none under the second
pub record IsSearchTree (tree : List (ℕ × ℕ)) : Type 0 where
  pub left : (i j : ℕ) → IsUnder j (2 * i + 1) → j < length tree
      → not_after (slice_index_or tree j (0, 0)) (slice_index_or tree i (0, 0)) ≡ true
  pub right : (i j : ℕ) → IsUnder j (2 * i + 2) → j < length tree
      → not_after (slice_index_or tree i (0, 0)) (slice_index_or tree j (0, 0)) ≡ true

-- a place that the search for an address comes to: the first one; and from a place with a pair the first of its two
-- where that pair starts above the address, or else the second
pub data IsOnPath (tree : List (ℕ × ℕ)) (address : ℕ) : ℕ → Type 0 where
  first : IsOnPath tree address 0
  to_lesser : {at next : ℕ} → IsOnPath tree address at → at < length tree
      → address < (slice_index_or tree at (0, 0)).0 → next ≡ 2 * at + 1 → IsOnPath tree address next
  to_greater : {at next : ℕ} → IsOnPath tree address at → at < length tree
      → (slice_index_or tree at (0, 0)).0 ≤ address → next ≡ 2 * at + 2 → IsOnPath tree address next

-- for each block of 2 ^ shift addresses a place that the search for each of them comes to; the last block goes on to
-- the greatest address
pub record AreShortcuts (tree : List (ℕ × ℕ)) (shift : ℕ) (shortcuts : List ℕ) : Type 0 where
  pub some : 0 < length shortcuts
  pub each : (address : ℕ) → IsOnPath tree address (slice_index shortcuts (min (address / 2 ^ shift) (length shortcuts - 1)))

-- no pair starts above an address
abbrev pub StartUpTo : List (ℕ × ℕ) → ℕ → Type 0
StartUpTo tree last = (at : ℕ) → at < length tree → (slice_index_or tree at (0, 0)).0 ≤ last

-- the block in which the pair at a place starts
abbrev pub block_at : List (ℕ × ℕ) → ℕ → ℕ → ℕ
block_at tree shift at = (slice_index_or tree at (0, 0)).0 / 2 ^ shift

-- A number for a block: the least place, from one on, whose pair starts in the block, or the mark of none.
pub data IsTopOf (tree : List (ℕ × ℕ)) (shift block from none number : ℕ) : Type 0 where
  no_pair : number ≡ none → ((at : ℕ) → from ≤ at → at < length tree → block_at tree shift at ≢ block)
      → IsTopOf tree shift block from none number
  a_pair : number ≢ none → number < length tree → block_at tree shift number ≡ block
      → ((at : ℕ) → from ≤ at → at < number → block_at tree shift at ≢ block) → IsTopOf tree shift block from none number

-- the same of each block up to that of an address
pub record AreTops (tree : List (ℕ × ℕ)) (shift last from none : ℕ) (tops : List ℕ) : Type 0 where
  pub long : length tops ≡ last / 2 ^ shift + 1
  pub each : (block : ℕ) → block < length tops → IsTopOf tree shift block from none (slice_index tops block)

-- a search tree with shortcuts into it
pub record IsTreeWithShortcuts (tree : List (ℕ × ℕ)) (shift : ℕ) (shortcuts : List ℕ) : Type 0 where
  pub ordered : IsAscending (left_to_right tree)
  pub small : shift < 32
  pub are : AreShortcuts tree shift shortcuts
