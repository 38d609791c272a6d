-- The functions of the kernel, as a line of `/proc/kallsyms` tells each: an address in hexadecimal, a blank, a letter that
-- says what is there, a blank, and a name, and after a tab the module (Linux, kernel/kallsyms.c, `s_show`).
use Rattle.std.specs.Prelude.{◌≡◌, ℕ, ◌+◌, ◌-◌, ◌*◌, ◌^◌, drop, reverse, option_map, Bool, ◌&&◌, ◌||◌, nat_le, nat_lt, List, [], ◌∷◌, Option, Some, None, option_and_then, ◌==◌, if◌then◌else◌}
use Rattle.std.specs.List.{filter_map, find}
use Rattle.framehop_perf_stacks.specs.Chain.{FunctionNames, name_from}
use Rattle.framehop_perf_stacks.specs.Window.{before_byte, after_byte}
use Rattle.framehop_perf_stacks.specs.declared.kernel.KernelFunction.{KernelFunction}

-- the value of a digit of a number in hexadecimal
abbrev pub digit_of : ℕ → Option ℕ
digit_of byte =
    if nat_le 48 byte && nat_le byte 57 then Some (byte - 48)
    else if nat_le 97 byte && nat_le byte 102 then Some (byte - 87)
    else if nat_le 65 byte && nat_le byte 70 then Some (byte - 55) else None

-- a number with a digit after it, below 2^64, and with several
abbrev pub next_value : ℕ → Option ℕ → Option ℕ
next_value value (Some digit) = if nat_lt (16 * value + digit) (2 ^ 64) then Some (16 * value + digit) else None
next_value value None = None

abbrev pub value_after : Option ℕ → List ℕ → Option ℕ
value_after value [] = value
value_after (Some value) (byte ∷ bytes) = value_after (next_value value (digit_of byte)) bytes
value_after None (byte ∷ bytes) = None

-- a letter says that there is a function: of one file, of all, or one that others may replace
abbrev pub is_function : ℕ → Bool
is_function letter = (letter == 116) || (letter == 84) || (letter == 119) || (letter == 87)

-- a function by where it starts, what its letter is, and its name
abbrev pub function_by : ℕ → List ℕ → Option (ℕ × List ℕ)
function_by start [] = None
function_by start (letter ∷ after) =
    if is_function letter && nat_lt 0 start then Some (start, before_byte 9 (drop 1 after)) else None

abbrev pub function_view : KernelFunction → ℕ × List ℕ
function_view function = (function.start, function.name.now)

-- that of a line, if it tells one
unfoldable pub function_of : List ℕ → Option (ℕ × List ℕ)
function_of line = option_and_then (λ start. function_by start (after_byte 32 line)) (value_after (Some 0) (before_byte 32 line))

-- those of lines, in their order
abbrev pub functions_in : List (List ℕ) → List (ℕ × List ℕ)
functions_in lines = filter_map function_of lines

-- the name of the last function that starts at an address
abbrev pub last_name : List (ℕ × List ℕ) → ℕ → Option (List ℕ)
last_name functions start = option_map (λ function. function.1) (find (λ function. function.0 == start) (reverse functions))

-- at each address the name is that one
abbrev pub AreNamesOf : List (ℕ × List ℕ) → FunctionNames → Type 0
AreNamesOf functions names = (start : ℕ) → name_from names start ≡ last_name functions start
