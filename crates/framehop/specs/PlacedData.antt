-- Data of a PE module in memory, as what it is.
use Rattle.std.specs.Prelude.{List, ℕ}
use Rattle.framehop_pe.specs.Sections.{Placed}
use Rattle.framehop_pe.specs.declared.pe.DataAtRvaRange.{DataAtRvaRange}

-- data, and where it lies
abbrev pub placed_data : {D : Type 0} → (D → List ℕ) → DataAtRvaRange D → Placed
placed_data contents d = record { bytes = contents d.bytes; from = d.rva_range.start; to = d.rva_range.end }
