-- Where the functions of a module begin, by its unwind data: the FDEs of its call frames (DWARF 5, section 6.4.1), or its
-- function table (Microsoft, "x64 exception handling", struct RUNTIME_FUNCTION).
use Rattle.std.specs.Prelude.{ℕ, List, Option, None, option_map, Result, Ok, Err}
use Rattle.framehop.specs.Lookup.{DataAt, fde_data, compact_data, pe_data, covering_fde, data_at}
use Rattle.framehop.specs.Modules.{UnwindData}
use Rattle.framehop.specs.declared.modules.UnwinderError.{UnwinderError}
use Rattle.framehop_pe.specs.FunctionTable.{function_of}

-- the start of the function of the table that has a relative address
abbrev pub start_in_table : List ℕ → ℕ → Option ℕ
start_in_table pdata relative = option_map (λ function. function.begin_address) (function_of pdata relative)

-- where the function begins that has a relative address, by the data that answers that
abbrev pub start_by : ℕ → Result DataAt UnwinderError → Option ℕ
start_by relative (Ok (fde_data fde)) = option_map (λ found. found.initial_address) (covering_fde fde relative)
start_by relative (Ok (pe_data sections)) = start_in_table sections.pdata relative
start_by relative (Ok (compact_data d)) = None
start_by relative (Err error) = None

-- by the unwind data of a module
abbrev pub function_start_in : UnwindData → ℕ → Option ℕ
function_start_in unwind_data relative = start_by relative (data_at unwind_data relative)
