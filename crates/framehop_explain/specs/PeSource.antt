-- Where the unwind info of a PE module tells how to unwind from an address.
use Rattle.std.specs.Prelude.{ℕ, Bool, true, false, Option, Some, None, Result, Ok, Err}
use Rattle.framehop_pe.specs.Chain.{header_at}
use Rattle.framehop_pe.specs.Frame.{Epilog as EpilogFound, epilog_at, frame_register}
use Rattle.framehop_pe.specs.FunctionTable.{function_of}
use Rattle.framehop_pe.specs.Info.{Header}
use Rattle.framehop_pe.specs.Sections.{Sections}
use Rattle.framehop_pe.specs.declared.pe.PeUnwinderError.{PeUnwinderError}
use Rattle.framehop_pe.specs.declared.unwind_info.function_table.RuntimeFunction.{RuntimeFunction}
use Rattle.framehop_explain.specs.declared.source.PeSource.{PeSource}
use Rattle.framehop_explain.specs.declared.source.PeSource.TheVariants.{Leaf, Codes, Epilog, Unread}

-- in a first frame an epilog comes first
abbrev pub epilog_source : RuntimeFunction → Result EpilogFound PeUnwinderError → PeSource
epilog_source function (Ok (Some instructions)) = Epilog function
epilog_source function (Ok None) = Codes function
epilog_source function (Err error) = Unread function

-- by the unwind info of the function that has the address
abbrev pub header_source : Bool → Sections → ℕ → RuntimeFunction → Result Header PeUnwinderError → PeSource
header_source first sections address function (Err error) = Unread function
header_source true sections address function (Ok header) =
    epilog_source function (epilog_at sections function (frame_register header) address)
header_source false sections address function (Ok header) = Codes function

abbrev pub function_source : Sections → ℕ → Bool → RuntimeFunction → PeSource
function_source sections address first function =
    header_source first sections address function (header_at sections function.unwind_info_address)

-- a function that the table doesn't have saves nothing
abbrev pub source_or_leaf : Sections → ℕ → Bool → Option RuntimeFunction → PeSource
source_or_leaf sections address first None = Leaf
source_or_leaf sections address first (Some function) = function_source sections address first function

abbrev pub source_at : Sections → ℕ → Bool → PeSource
source_at sections address first = source_or_leaf sections address first (function_of sections.pdata address)
