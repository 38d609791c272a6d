-- The maps that JIT compilers write for perf, one for each process: a line for each function, with its start, its size and its
-- name (Linux, tools/perf/Documentation/jit-interface.txt).
use Rattle.std.specs.Prelude.{◌≡◌, ℕ, ◌+◌, ◌^◌, ◌⊎◌, nat_lt, nat_eq, IsSome, drop, length, map, count_by, is_some, not, Bool, true, false, ◌&&◌, ◌||◌, List, ◌++◌, codes, decimal, Option, Some, None, option_and_then, ◌==◌, if◌then◌else◌}
use Rattle.std.specs.List.{starts_with, filter_map}
use Rattle.framehop_recording.specs.Mapping.{MappingView}
use Rattle.framehop_processes.specs.Files.{map_number_in, IsMapAdded}
use Rattle.framehop_processes.specs.declared.code_map.CodeFunction.{CodeFunction}
use Rattle.framehop_processes.specs.declared.code_map.CodeMap.{CodeMap}
use Rattle.framehop_processes.specs.declared.files.Files.{Files}
use Rattle.framehop_perf_stacks.specs.Kallsyms.{value_after}
use Rattle.framehop_perf_stacks.specs.Window.{before_byte, after_byte, lines_of}
use Rattle.framehop_perf_stacks.specs.declared.perf_map.MapLine.{MapLine}

-- the names that perf gives to memory of no file (tools/perf/util/map.c, `is_anon_memory` and `is_no_dso_memory`), or that
-- a program gives it by prctl(2), and .NET
abbrev pub is_anonymous : List ℕ → Bool
is_anonymous name =
    starts_with nat_eq name (codes "//anon") || starts_with nat_eq name (codes "[anon:")
    || starts_with nat_eq name (codes "/dev/zero") || starts_with nat_eq name (codes "/anon_hugepage")
    || starts_with nat_eq name (codes "/memfd:doublemapper") || starts_with nat_eq name (codes "[stack")
    || starts_with nat_eq name (codes "/SYSV") || starts_with nat_eq name (codes "[heap]")

-- the name of the map of a process
abbrev pub map_name : ℕ → List ℕ
map_name pid = codes "perf-" ++ decimal pid ++ codes ".map"

-- a number in hexadecimal, which may begin with `0x`, below 2^64
abbrev pub without_prefix : List ℕ → List ℕ
without_prefix digits = if starts_with nat_eq digits (codes "0x") then drop 2 digits else digits

abbrev pub value_of_some : List ℕ → Option ℕ
value_of_some digits = if length digits == 0 then None else value_after (Some 0) digits

abbrev pub number_of : List ℕ → Option ℕ
number_of digits = value_of_some (without_prefix digits)

-- a function: its first address, the one after its last, and its name
abbrev pub Told : Type 0
Told = ℕ × ℕ × List ℕ

-- it has a name, and ends below 2^64
abbrev pub function_named : ℕ → ℕ → List ℕ → Option Told
function_named start end name =
    if nat_lt end (2 ^ 64) then (if length name == 0 then None else Some (start, end, name)) else None

-- what is after its start: its size, and, after a blank, its name, which is the rest of the line
abbrev pub function_from : ℕ → List ℕ → Option Told
function_from start rest =
    option_and_then (λ size. function_named start (start + size) (after_byte 32 rest)) (number_of (before_byte 32 rest))

-- the function of a line, if it is of this form
abbrev pub function_in : List ℕ → Option Told
function_in line = option_and_then (λ start. function_from start (after_byte 32 line)) (number_of (before_byte 32 line))

-- the functions of lines, in their order
abbrev pub functions_of : List (List ℕ) → List Told
functions_of lines = filter_map function_in lines

-- a line that is not of this form is left out; an empty one is no line
abbrev pub is_left_out : List ℕ → Bool
is_left_out line = not (length line == 0) && not (is_some (function_in line))

abbrev pub told_view : CodeFunction → Told
told_view function = (function.start, function.end, function.name.items)

abbrev pub line_view : MapLine → Told
line_view line = (line.start, line.end, line.name.now)

-- a map is that of a text: it has the functions of its lines, and the number of the others
pub record IsMapOfText (text : List ℕ) (code_map : CodeMap) : Type 0 where
  pub functions : map told_view code_map.functions ≡ functions_of (lines_of text)
  pub left_out : code_map.left_out ≡ count_by is_left_out (lines_of text)

module _ (gives_map : ℕ → Option (List ℕ) → Type 0) where
  -- a map that is given, or none, is added to the files
  abbrev pub IsMapGiven : ℕ → Option (List ℕ) → Files → Files → Type 0
  IsMapGiven pid (Some text) old new =
      (code_map : CodeMap) × IsMapOfText text code_map × IsMapAdded pid (map_name pid) code_map old new
  IsMapGiven pid None old new = new ≡ old

  -- the map of a process is read once
  abbrev pub IsMapReadIf : Bool → ℕ → Files → Files → Type 0
  IsMapReadIf true pid old new = (IsSome (map_number_in old pid) × (new ≡ old))
      ⊎ ((given : Option (List ℕ)) × gives_map pid given × IsMapGiven pid given old new)
  IsMapReadIf false pid old new = new ≡ old

  -- that of the process of a mapping that is of no file
  abbrev pub IsMapRead : MappingView → Files → Files → Type 0
  IsMapRead m old new = IsMapReadIf (is_anonymous m.name) m.pid old new
