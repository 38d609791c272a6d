-- The sections of a PE module that unwinding reads, as lists of bytes (Microsoft, PE format).
use Rattle.std.specs.Prelude.{ℕ, ◌-◌, ◌&&◌, nat_le, nat_lt, List, length, drop, if◌then◌else◌, Option, Some, None, option_map, option_and_then}
use Rattle.std.specs.Borrow.{Bor}
use Rattle.std.specs.Option.{option_or}
use Rattle.framehop_pe.specs.declared.pe.DataAtRvaRange.{DataAtRvaRange}
use Rattle.framehop_pe.specs.declared.pe.PeSections.{PeSections}

-- data, and the relative addresses that it covers: from the first on, up to the second
pub record Placed : Type 0 where
  pub bytes : List ℕ
  pub from : ℕ
  pub to : ℕ

-- the function table, and the sections with unwind info and code
pub record Sections : Type 0 where
  pub pdata : List ℕ
  pub rdata : Option Placed
  pub xdata : Option Placed
  pub text : Option Placed

module _ {D : Type 0} (contents : D → List ℕ) where
  -- lent data
  abbrev pub placed_of : Option (Bor (DataAtRvaRange D)) → Option Placed
  placed_of section = option_map (λ d. record {
    bytes = contents d.now.bytes;
    from = d.now.rva_range.start;
    to = d.now.rva_range.end;
  }) section

  -- lent sections
  abbrev pub sections_of : PeSections D → Sections
  sections_of s = record {
    pdata = contents s.pdata.now;
    rdata = placed_of s.rdata;
    xdata = placed_of s.xdata;
    text = placed_of s.text;
  }

-- The bytes of data from a relative address on: some, where the range covers the address and the data reaches there.
abbrev pub bytes_from : Placed → ℕ → Option (List ℕ)
bytes_from data' rva =
    if nat_le data'.from rva && nat_lt rva data'.to && nat_lt (rva - data'.from) (length data'.bytes)
    then Some (drop (rva - data'.from) data'.bytes) else None

-- the same of a section that a module may not have
abbrev pub bytes_at : Option Placed → ℕ → Option (List ℕ)
bytes_at section rva = option_and_then (λ data'. bytes_from data' rva) section

-- unwind info is in `.rdata`, or else in `.xdata`
abbrev pub unwind_info_at : Sections → ℕ → Option (List ℕ)
unwind_info_at s rva = option_or (bytes_at s.rdata rva) (bytes_at s.xdata rva)

-- the code from a relative address on
abbrev pub text_at : Sections → ℕ → Option (List ℕ)
text_at s rva = bytes_at s.text rva
