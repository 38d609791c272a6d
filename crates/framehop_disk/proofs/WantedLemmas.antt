-- Segments in order, of one of which memory is wanted.
use Rattle.std.proofs.Common.{◌≡◌, ◌≤◌, ◌<◌, ◌+◌, ◌-◌, ◌*◌, ◌/◌, ◌^◌, ◌&&◌, ◌++◌, ℕ, map, nat_lt, zero, suc, Bool, true, false, nat_le, List, [], ◌∷◌, length, get_or, set, if◌then◌else◌, refl, ap, sym, ◌∙◌, arith}
use Rattle.std.specs.Prelude.{⊤}
use Rattle.std.specs.List.{list_any, range_with_len}
use Rattle.std.specs.List.Sorted.{IsNonDecreasingBy}
use Rattle.std.proofs.lemmas.List.Folds.{list_any_none, list_any_at}
use Rattle.std.proofs.lemmas.Bool.{ltb-true, leb-true}
use Rattle.framehop_dump_files.specs.declared.coredump.mapped_file.MappedFile.{MappedFile}
use Rattle.framehop_memory.specs.declared.memory.MemoryRange.{MemoryRange}
use Rattle.framehop_disk.specs.declared.segments.LoadedSegment.{LoadedSegment}
use Rattle.framehop_disk.specs.declared.wanted.WantedSegment.{WantedSegment}
use Rattle.framehop_disk.specs.Segments.{are_apart, before_piece, is_cut, piece_of, pieces_beside, pieces_of, unread, wanted_beside}
use Rattle.framehop_disk.specs.Wanted.{begins_by, is_new, is_unread, start_of, sum_64, wanted_from, wanting, with_wanted}

abbrev pred : ℕ → ℕ
pred zero = zero
pred (suc n) = n

module _ (address : ℕ) where
  abbrev begins : WantedSegment → Bool
  begins = begins_by address

  -- the segments before a place begin at the address or before, and no others
  pub record IsBegun (segments : List WantedSegment) (place : ℕ) : Type 0 where
    pub below : (k : ℕ) (d : WantedSegment) → k < place → begins (get_or segments k d) ≡ true
    pub above : (k : ℕ) (d : WantedSegment) → place ≤ k → k < length segments → begins (get_or segments k d) ≡ false

  abbrev after-first : (segment : WantedSegment) (later : List WantedSegment) (place : ℕ) → IsBegun (segment ∷ later) (suc place) → IsBegun later place
  after-first segment later place begun = record {
    below = λ k d less. begun.below (suc k) d (omega (arith, less));
    above = λ k d more within. begun.above (suc k) d (omega (arith, more)) (omega (arith, within));
  }

  none-later : (segment : WantedSegment) (later : List WantedSegment) (place : ℕ) → place ≤ 1 → IsBegun (segment ∷ later) place
      → list_any begins later ≡ false
  none-later segment later place low begun =
      list_any_none begins later (λ k d within. begun.above (suc k) d (omega (arith, low)) (omega (arith, within)))

  abbrev pub want_from : WantedSegment → WantedSegment
  want_from segment = with_wanted segment (wanted_from segment address)

  wanting-before : (segments : List WantedSegment) (place : ℕ) (d : WantedSegment) → place ≤ length segments → IsBegun segments place → 0 < length segments
      → wanting address segments ≡ set segments (pred place) (want_from (get_or segments (pred place) d))
  wanting-before [] place d fits begun some = absurd (omega (arith, some))
  wanting-before (segment ∷ later) zero d fits begun some =
      rw (none-later segment later zero (omega arith) begun) refl
  wanting-before (segment ∷ later) (suc zero) d fits begun some =
      rw (none-later segment later (suc zero) (omega arith) begun) refl
  wanting-before (segment ∷ later) (suc (suc place)) d fits begun some =
      let inner = after-first segment later (suc place) begun in
      let long : suc place ≤ length later = omega (arith, fits) in
      let any : list_any begins later ≡ true = list_any_at begins later zero segment (omega (arith, long)) (inner.below zero segment (omega arith)) in
      rw any (ap (λ rest. segment ∷ rest) (wanting-before later (suc place) d long inner (omega (arith, long))))

  is_new-before : (segments : List WantedSegment) (place : ℕ) (d : WantedSegment) → place ≤ length segments → IsBegun segments place → 0 < length segments
      → is_new address segments ≡ is_unread (get_or segments (pred place) d) address
  is_new-before [] place d fits begun some = absurd (omega (arith, some))
  is_new-before (segment ∷ later) zero d fits begun some =
      rw (none-later segment later zero (omega arith) begun) refl
  is_new-before (segment ∷ later) (suc zero) d fits begun some =
      rw (none-later segment later (suc zero) (omega arith) begun) refl
  is_new-before (segment ∷ later) (suc (suc place)) d fits begun some =
      let inner = after-first segment later (suc place) begun in
      let long : suc place ≤ length later = omega (arith, fits) in
      let any : list_any begins later ≡ true = list_any_at begins later zero segment (omega (arith, long)) (inner.below zero segment (omega arith)) in
      rw any (is_new-before later (suc place) d long inner (omega (arith, long)))

  less-one : (place : ℕ) → place - 1 ≡ pred place
  less-one zero = refl
  less-one (suc place) = omega arith

  pub wanting-at : (segments : List WantedSegment) (place : ℕ) (d : WantedSegment) → place ≤ length segments → IsBegun segments place → 0 < length segments
      → wanting address segments ≡ set segments (place - 1) (want_from (get_or segments (place - 1) d))
  wanting-at segments place d fits begun some =
      wanting-before segments place d fits begun some
      ∙ ap (λ n. set segments n (want_from (get_or segments n d))) (sym (less-one place))

  pub is_new-at : (segments : List WantedSegment) (place : ℕ) (d : WantedSegment) → place ≤ length segments → IsBegun segments place → 0 < length segments
      → is_new address segments ≡ is_unread (get_or segments (place - 1) d) address
  is_new-at segments place d fits begun some =
      is_new-before segments place d fits begun some ∙ ap (λ n. is_unread (get_or segments n d) address) (sym (less-one place))

  -- what is wanted of the last that begins at the address or before
  pub new-of : (segments : List WantedSegment) (place last : ℕ) (old new : WantedSegment) (result : Bool) → new ≡ want_from old
      → result ≡ is_unread old address
      → old ≡ get_or segments last old → last ≡ place - 1 → place ≤ length segments → IsBegun segments place → 0 < length segments
      → result ≡ is_new address segments
  new-of segments place last old new result pin is there at fits begun some =
      is ∙ ap (λ s. is_unread s address) there ∙ ap (λ n. is_unread (get_or segments n old) address) at
      ∙ sym (is_new-at segments place old fits begun some)

  pub wanting-of : (segments : List WantedSegment) (place last : ℕ) (old new : WantedSegment) → new ≡ want_from old
      → old ≡ get_or segments last old → last ≡ place - 1 → place ≤ length segments → IsBegun segments place → 0 < length segments
      → set segments last new ≡ wanting address segments
  wanting-of segments place last old new is there at fits begun some =
      ap (set segments last) (is ∙ ap want_from there) ∙ ap (λ n. set segments n (want_from (get_or segments n old))) at
      ∙ sym (wanting-at segments place old fits begun some)

  -- where they begin stays as it is
  abbrev one_of : Bool → WantedSegment → List WantedSegment → List WantedSegment
  one_of b segment later =
      if b then segment ∷ wanting address later else with_wanted segment (wanted_from segment address) ∷ later

  length-one : (b : Bool) (segment : WantedSegment) (later : List WantedSegment) → length (wanting address later) ≡ length later
      → length (one_of b segment later) ≡ length (segment ∷ later)
  length-one true segment later rest = omega (arith, rest)
  length-one false segment later rest = refl

  pub length-wanting : (segments : List WantedSegment) → length (wanting address segments) ≡ length segments
  length-wanting [] = refl
  length-wanting (segment ∷ later) = length-one (list_any begins later) segment later (length-wanting later)

  start-one : (b : Bool) (segment : WantedSegment) (later : List WantedSegment) (i : ℕ) (d : WantedSegment)
      → ((i : ℕ) → start_of (get_or (wanting address later) i d) ≡ start_of (get_or later i d))
      → start_of (get_or (one_of b segment later) i d) ≡ start_of (get_or (segment ∷ later) i d)
  start-one true segment later zero d rest = refl
  start-one true segment later (suc i) d rest = rest i
  start-one false segment later zero d rest = refl
  start-one false segment later (suc i) d rest = refl

  pub start-wanting : (segments : List WantedSegment) (i : ℕ) (d : WantedSegment)
      → start_of (get_or (wanting address segments) i d) ≡ start_of (get_or segments i d)
  start-wanting [] i d = refl
  start-wanting (segment ∷ later) i d =
      start-one (list_any begins later) segment later i d (λ k. start-wanting later k d)

  pub order-wanting : (segments : List WantedSegment) → IsNonDecreasingBy start_of segments → IsNonDecreasingBy start_of (wanting address segments)
  order-wanting segments order i j d before within =
      let a = start-wanting segments i d in
      let b = start-wanting segments j d in
      let long = length-wanting segments in
      let was = order i j d before (omega (arith, within, long)) in
      omega (arith, a, b, was)

-- ---- in order

abbrev pub RisesFrom : ℕ → List WantedSegment → Type 0
RisesFrom low [] = ⊤
RisesFrom low (segment ∷ segments) = (low ≤ start_of segment) × RisesFrom (start_of segment) segments

abbrev pub BeginUpTo : ℕ → List WantedSegment → Type 0
BeginUpTo high [] = ⊤
BeginUpTo high (segment ∷ segments) = (start_of segment ≤ high) × BeginUpTo high segments

rises-low : (low : ℕ) (segments : List WantedSegment) → RisesFrom low segments → (j : ℕ) (d : WantedSegment) → j < length segments
    → low ≤ start_of (get_or segments j d)
rises-low low [] rises j d within = absurd (omega (arith, within))
rises-low low (segment ∷ segments) rises zero d within = rises.0
rises-low low (segment ∷ segments) rises (suc j) d within =
    let own = rises.0 in
    let later = rises-low (start_of segment) segments rises.1 j d (omega (arith, within)) in
    omega (arith, own, later)

pub in-order : (low : ℕ) (segments : List WantedSegment) → RisesFrom low segments → IsNonDecreasingBy start_of segments
in-order low [] rises i j d before within = absurd (omega (arith, within))
in-order low (segment ∷ segments) rises zero zero d before within = omega arith
in-order low (segment ∷ segments) rises zero (suc j) d before within =
    rises-low (start_of segment) segments rises.1 j d (omega (arith, within))
in-order low (segment ∷ segments) rises (suc i) zero d before within = absurd (omega (arith, before))
in-order low (segment ∷ segments) rises (suc i) (suc j) d before within =
    in-order (start_of segment) segments rises.1 i j d (omega (arith, before)) (omega (arith, within))

rises-lower : (low lower : ℕ) (segments : List WantedSegment) → lower ≤ low → RisesFrom low segments → RisesFrom lower segments
rises-lower low lower [] less rises = tt
rises-lower low lower (segment ∷ segments) less rises = (let own = rises.0 in omega (arith, less, own), rises.1)

rises-append : (low high : ℕ) (front back : List WantedSegment) → low ≤ high → RisesFrom low front → BeginUpTo high front → RisesFrom high back
    → RisesFrom low (front ++ back)
rises-append low high [] back less rises up later = rises-lower high low back less later
rises-append low high (segment ∷ front) back less rises up later =
    (rises.0, rises-append (start_of segment) high front back up.0 rises.1 up.1 later)

-- ---- pieces

module _ (range : MemoryRange) (bound : range.start + range.size < 2 ^ 64) where
  -- so many pieces from a number on
  pieces-rise : (low number count : ℕ) → low ≤ range.start + number * 0x100000 → low < 2 ^ 64
      → RisesFrom low (map (piece_of range) (range_with_len number count))
  pieces-rise low number zero less small = tt
  pieces-rise low number (suc count) less small = (
    omega (arith, less, small),
    pieces-rise (sum_64 range.start (before_piece number)) (number + 1) count (omega arith) (omega arith),
  )

  pieces-up : (number count : ℕ) → (number + count) * 0x100000 ≤ range.size + 0xFFFFF
      → BeginUpTo (range.start + range.size) (map (piece_of range) (range_with_len number count))
  pieces-up number zero fits = tt
  pieces-up number (suc count) fits = (
    omega (arith, fits, bound),
    pieces-up (number + 1) count (omega (arith, fits)),
  )

  pub pieces_of-rise : RisesFrom range.start (pieces_of range)
  pieces_of-rise = pieces-rise range.start 0 ((range.size + 0xFFFFF) / 0x100000) (omega arith) (omega (arith, bound))

  pub pieces_of-up : BeginUpTo (range.start + range.size) (pieces_of range)
  pieces_of-up = pieces-up 0 ((range.size + 0xFFFFF) / 0x100000) (omega arith)

-- ---- all segments

module _ (mapped : List MappedFile) where
  beside-rise : (cut : Bool) (segment : LoadedSegment) → segment.range.start + segment.range.size < 2 ^ 64
      → RisesFrom segment.range.start (if cut then pieces_of segment.range else unread segment.range ∷ [])
  beside-rise true segment bound = pieces_of-rise segment.range bound
  beside-rise false segment bound = (omega arith, tt)

  beside-up : (cut : Bool) (segment : LoadedSegment) → segment.range.start + segment.range.size < 2 ^ 64
      → BeginUpTo (segment.range.start + segment.range.size) (if cut then pieces_of segment.range else unread segment.range ∷ [])
  beside-up true segment bound = pieces_of-up segment.range bound
  beside-up false segment bound = (omega arith, tt)

  different : false ≡ true → ⊥
  different is = cc

  both : (a b : Bool) → (a && b) ≡ true → (a ≡ true) × (b ≡ true)
  both true b is = (refl, is)
  both false b is = absurd (different is)

  pub wanted-rise : (end : ℕ) (loaded : List LoadedSegment) → are_apart end loaded ≡ true → RisesFrom end (wanted_beside mapped loaded)
  wanted-rise end [] apart = tt
  wanted-rise end (segment ∷ loaded) apart =
      let range = segment.range in
      let parts = both (nat_lt (range.start + range.size) (2 ^ 64) && nat_le end range.start) (are_apart (range.start + range.size) loaded) apart in
      let own = both (nat_lt (range.start + range.size) (2 ^ 64)) (nat_le end range.start) parts.0 in
      let bound = ltb-true _ _ own.0 in
      let low = leb-true _ _ own.1 in
      rises-append end (range.start + range.size) (pieces_beside mapped segment) (wanted_beside mapped loaded) (omega (arith, low))
      (rises-lower range.start end _ low (beside-rise (is_cut mapped segment) segment bound))
      (beside-up (is_cut mapped segment) segment bound)
      (wanted-rise (range.start + range.size) loaded parts.1)
