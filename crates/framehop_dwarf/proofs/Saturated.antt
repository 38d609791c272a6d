-- An address beyond 64 bits has the place of the last one of 64 bits.
use Rattle.std.proofs.Common.{◌≡◌, ℕ, zero, suc, ◌+◌, ◌-◌, ◌*◌, ◌/◌, ◌<◌, ◌≤◌, ◌^◌, ◌%◌, min, List, length, get_or, refl, ap, arith, Result, Ok, Err, leb, Option, if◌then◌else◌, inl, inr}
use Rattle.std.proofs.lemmas.Bool.{le-leb, cases_lt}
use Rattle.framehop_bytes.specs.Bytes.{◌>>=◌}
use Rattle.framehop_cfi.specs.Numbers.{Parsed}
use Rattle.framehop_cfi.specs.Raw.{raw_at, format_of}
use Rattle.framehop_cfi.specs.Pointer.{pointer_at, base_of, application_of}
use Rattle.framehop_bytes.specs.Place.{halved, place_of}
use Rattle.framehop_cfi.specs.Layout.{Layout}
use Rattle.framehop_cfi.specs.Header.{value_or_zero, start_of_row, starts_of, layout_of, Header, fde_offset_by, fde_offset_in, IsOfRowFor}
use Rattle.framehop_cfi.proofs.Table.{get_or-starts_of, length-starts_of}
use Rattle.std.proofs.lemmas.List.{get_or_past}
use Rattle.framehop_cfi.specs.declared.pointer.SectionBaseAddresses.{SectionBaseAddresses}
use Rattle.framehop_cfi.specs.declared.read_error.ReadError.{ReadError}

value_or_zero-sum : (base : Result ℕ ReadError) (raw : Parsed ℕ) → value_or_zero (base >>= λ b. raw >>= λ r. Ok ((b + r.0) % 2 ^ 64, r.1)) < 2 ^ 64
value_or_zero-sum (Ok b) (Ok r) = omega arith
value_or_zero-sum (Ok b) (Err e) = omega arith
value_or_zero-sum (Err e) raw = omega arith

value_or_zero-pointer_at : (bases : SectionBaseAddresses) (encoding : ℕ) (bytes : List ℕ) (at : ℕ) → value_or_zero (pointer_at bases encoding bytes at) < 2 ^ 64
unfolding pointer_at
value_or_zero-pointer_at bases encoding bytes at =
    value_or_zero-sum (base_of bases at (application_of encoding)) (raw_at (format_of encoding) bytes at)

-- starts that all fit 64 bits don't tell such addresses apart
halved-past : (starts : List ℕ) (a b n low high : ℕ) → ((i : ℕ) → get_or starts i 0 < 2 ^ 64) → 2 ^ 64 ≤ a + 1 → 2 ^ 64 ≤ b + 1 → halved starts a n low high ≡ halved starts b n low high
halved-past starts a b zero low high fit past over = refl
halved-past starts a b (suc n) low high fit past over =
    let middle = low + (high - low) / 2 in
    let here = fit middle in
    rw (le-leb (get_or starts middle 0) a (omega arith), le-leb (get_or starts middle 0) b (omega arith))
    (ap (λ place. if leb (high - low) 1 then low else place) (halved-past starts a b n middle high fit past over))

pub place_of-past : (starts : List ℕ) (a b : ℕ) → ((i : ℕ) → get_or starts i 0 < 2 ^ 64) → 2 ^ 64 ≤ a + 1 → 2 ^ 64 ≤ b + 1 → place_of starts a ≡ place_of starts b
unfolding place_of
place_of-past starts a b fit past over = halved-past starts a b (length starts) 0 (length starts) fit past over

starts-fit : (bases : SectionBaseAddresses) (layout : Layout) (bytes : List ℕ) (i : ℕ) → get_or (starts_of bases layout bytes) i 0 < 2 ^ 64
unfolding start_of_row
starts-fit bases layout bytes i =
    elim (cases_lt i layout.count) as (λ _. get_or (starts_of bases layout bytes) i 0 < 2 ^ 64) [
      | inl below ↦ rw (get_or-starts_of bases layout bytes i below) (value_or_zero-pointer_at bases layout.encoding bytes (layout.rows + 2 * layout.size * i))
      | inr past ↦ (let long = length-starts_of bases layout bytes in let e = get_or_past (starts_of bases layout bytes) i 0 (omega arith) in omega arith)
    ]

-- the address cut to 64 bits
abbrev Cut : ℕ → ℕ → Type 0
Cut address cut = cut ≡ min address (2 ^ 64 - 1)

same-place : (bases : SectionBaseAddresses) (layout : Layout) (bytes : List ℕ) (address cut : ℕ) → Cut address cut → place_of (starts_of bases layout bytes) cut ≡ place_of (starts_of bases layout bytes) address
same-place bases layout bytes address cut is =
    elim (cases_lt address (2 ^ 64)) as (λ _. place_of (starts_of bases layout bytes) cut ≡ place_of (starts_of bases layout bytes) address) [
      | inl fits ↦ (let e : cut ≡ address = omega arith in rw e refl)
      | inr beyond ↦ place_of-past (starts_of bases layout bytes) cut address (starts-fit bases layout bytes) (omega arith) (omega arith)
    ]

by-layout : (header : Header) (layout : Result Layout ReadError) (address cut : ℕ) → Cut address cut → fde_offset_by header layout cut ≡ fde_offset_by header layout address
by-layout header (Ok layout) address cut is = rw (same-place header.bases layout header.bytes address cut is) refl
by-layout header (Err error) address cut is = refl

-- the FDE of an address is that of the address cut to 64 bits
pub fde_offset_in-cut : (header : Header) (address cut : ℕ) → Cut address cut → fde_offset_in header cut ≡ fde_offset_in header address
unfolding fde_offset_in
fde_offset_in-cut header address cut is = by-layout header (layout_of header.bases header.bytes) address cut is

-- the row of the cut address is one of the address
pub row-cut : (header : Header) (address cut : ℕ) (offset : Option ℕ) → Cut address cut → IsOfRowFor header cut offset → IsOfRowFor header address offset
row-cut header address cut offset is there =
    let starts = starts_of header.bases there.layout header.bytes in
    let place = there.is_place in
    record {
      layout = there.layout;
      row = there.row;
      is_layout = there.is_layout;
      is_offset = there.is_offset;
      is_place = record {
        within = place.within;
        below = λ some. (let near = place.below some in omega arith);
        above = λ more. (let far = place.above more in let fits = starts-fit header.bases there.layout header.bytes (there.row + 1) in omega arith);
      };
    }
