-- Which functions unwind data covers.
use Rattle.std.specs.Prelude.{ℕ, ◌-◌, Bool, true, false, is_some, List, Option, Some, None, Result, Ok, Err}
use Rattle.framehop.specs.Lookup.{DataAt, fde_data, compact_data, pe_data, covering_fde, data_at}
use Rattle.framehop.specs.Modules.{ModuleView, UnwindData, covering}
use Rattle.framehop.specs.declared.modules.UnwinderError.{UnwinderError}

-- The data that answers a relative address covers it. PE and compact unwind info are made by compilers, for all of a
-- module's code.
abbrev pub is_covered_by : ℕ → Result DataAt UnwinderError → Bool
is_covered_by relative (Ok (fde_data fde)) = is_some (covering_fde fde relative)
is_covered_by relative (Ok (compact_data d)) = true
is_covered_by relative (Ok (pe_data sections)) = true
is_covered_by relative (Err error) = false

-- unwind data of a module covers a relative address
abbrev pub is_covered_in : UnwindData → ℕ → Bool
is_covered_in unwind_data relative = is_covered_by relative (data_at unwind_data relative)

abbrev pub is_covered_of : ℕ → Option ModuleView → Bool
is_covered_of address (Some m) = is_covered_in m.unwind_data (address - m.base_avma)
is_covered_of address None = false

-- unwind data of the modules covers an address
abbrev pub is_covered : List ModuleView → ℕ → Bool
is_covered modules address = is_covered_of address (covering modules address)
