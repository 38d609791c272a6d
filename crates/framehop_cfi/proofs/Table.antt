-- The rows of a header's table.
use Rattle.std.proofs.Common.{◌≡◌, ℕ, ◌<◌, List, length, get_or, arith}
use Rattle.std.proofs.lemmas.List.FromFn.{length-map-range_with_len, get_or-map-range_with_len}
use Rattle.framehop_cfi.specs.Header.{starts_of, start_of_row}
use Rattle.framehop_cfi.specs.Layout.{Layout}
use Rattle.framehop_cfi.specs.declared.pointer.SectionBaseAddresses.{SectionBaseAddresses}

pub length-starts_of : (bases : SectionBaseAddresses) (layout : Layout) (bytes : List ℕ) → length (starts_of bases layout bytes) ≡ layout.count
unfolding starts_of
length-starts_of bases layout bytes = length-map-range_with_len (start_of_row bases layout bytes) 0 layout.count

pub get_or-starts_of : (bases : SectionBaseAddresses) (layout : Layout) (bytes : List ℕ) (index : ℕ)
    → index < layout.count → get_or (starts_of bases layout bytes) index 0 ≡ start_of_row bases layout bytes index
unfolding starts_of
get_or-starts_of bases layout bytes index below =
    get_or-map-range_with_len (start_of_row bases layout bytes) 0 layout.count index index 0 below (omega arith)
