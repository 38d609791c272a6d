-- The code of a process: of its memory as an input has it, and of the files that it maps.
use Rattle.std.specs.Prelude.{ℕ, ◌-◌, Bool, ◌||◌, ◌&&◌, nat_le, nat_lt, List, [], length, take, drop, Option, Some, None, option_and_then, if◌then◌else◌}
use Rattle.std.specs.Option.{option_or}
use Rattle.framehop_processes.specs.declared.mapping.Mapping.{Mapping}
use Rattle.framehop_processes.specs.Code.{code_at, is_mapped, is_at_entry}
use Rattle.framehop_processes.specs.Constants.{constant_at}
use Rattle.framehop_processes.specs.Place.{PlaceView, in_function, in_unnamed, in_file, unmapped, place_at}
use Rattle.framehop_processes.specs.declared.files.Files.{Files}
use Rattle.framehop_backtrace.specs.Call.{passes}
use Rattle.framehop_backtrace.specs.Code.{Code}
use Rattle.framehop_backtrace.specs.Signal.{is_trampoline}

-- those of a copy of a stack from an address on, which begins at a base
abbrev pub bytes_after : ℕ → List ℕ → ℕ → Option (List ℕ)
bytes_after base bytes address =
    if nat_le base address && nat_lt (address - base) (length bytes) then Some (drop (address - base) bytes) else None

-- the bytes from an address on: those that are known, or else the code of a mapped file
abbrev pub bytes_from : (ℕ → Option (List ℕ)) → Files → List Mapping → ℕ → Option (List ℕ)
bytes_from known files mappings address = option_or (known address) (code_at files mappings address)

-- so many of them, if there are
abbrev pub front_of : ℕ → List ℕ → Option (List ℕ)
front_of size bytes = if nat_le size (length bytes) then Some (take size bytes) else None

abbrev pub bytes_at : (ℕ → Option (List ℕ)) → Files → List Mapping → ℕ → ℕ → Option (List ℕ)
bytes_at known files mappings address size = option_and_then (front_of size) (bytes_from known files mappings address)

-- the first bytes of code, as many as an instruction has at most (15 on x86_64)
abbrev pub instruction_in : Option (List ℕ) → List ℕ
instruction_in (Some code) = take 15 code
instruction_in None = []

-- Those from an address on. What a file is mapped to is executable, and what is known to be.
abbrev pub is_executable : (ℕ → Bool) → List Mapping → ℕ → Bool
is_executable is_code mappings address = is_mapped mappings address || is_code address

abbrev pub instruction_at : (ℕ → Option (List ℕ)) → (ℕ → Bool) → Files → List Mapping → ℕ → List ℕ
instruction_at known is_code files mappings address =
    instruction_in (option_or (if is_executable is_code mappings address then known address else None) (code_at files mappings address))

-- where the function begins that has an address, by its place: the start of its name, or of its FDE
abbrev pub start_in : ℕ → PlaceView → Option ℕ
start_in address (in_function file name offset) = Some (address - offset)
start_in address (in_unnamed file start svma) = Some (address - (svma - start))
start_in address (in_file file svma) = None
start_in address unmapped = None

-- The code of a process. A trampoline is known by its bytes.
abbrev pub code_of : (ℕ → Option (List ℕ)) → (ℕ → Bool) → Files → List Mapping → Code
code_of known is_code files mappings = record {
  bytes = bytes_at known files mappings;
  instruction = instruction_at known is_code files mappings;
  constant = constant_at files mappings;
  is_executable = is_executable is_code mappings;
  is_trampoline = λ address. passes is_trampoline (bytes_from known files mappings address);
  start_of = λ address. start_in address (place_at files mappings address);
  is_entry = is_at_entry files mappings;
}
