-- A window of times, as it is asked for: two times in seconds with a comma between them, of which each may be left out
-- (tools/perf/Documentation/perf-script.txt, `--time`).
use Rattle.std.specs.Prelude.{ℕ, ◌+◌, ◌-◌, ◌++◌, length, drop, take, replicate, List, nat_lt, Option, Some, None, option_map, option_and_then, ◌==◌, if◌then◌else◌}
use Rattle.std.specs.List.{list_any, position_or_len, slice_split}
use Rattle.framehop_folded.specs.Text.{count_of}
use Rattle.framehop_perf_stacks.specs.declared.window.Window.{Window}

-- what of a text is before the first of a byte, and what is after it: all and nothing where there is none
abbrev pub before_byte : ℕ → List ℕ → List ℕ
before_byte byte text = take (position_or_len (λ b. b == byte) text) text

abbrev pub after_byte : ℕ → List ℕ → List ℕ
after_byte byte text = drop (position_or_len (λ b. b == byte) text + 1) text

-- the lines of a text
abbrev pub lines_of : List ℕ → List (List ℕ)
lines_of text = slice_split (λ b. b == 10) text

-- A time in nanoseconds, of the digits of its seconds and at most nine after the point: as many as nanoseconds have, where
-- those that are missing are 0. It is below 2^64.
abbrev pub nanoseconds_by : List ℕ → List ℕ → Option ℕ
nanoseconds_by seconds fraction =
    if nat_lt 9 (length fraction) then None else count_of (seconds ++ fraction ++ replicate (9 - length fraction) 48)

abbrev pub nanoseconds_of : List ℕ → Option ℕ
nanoseconds_of text = nanoseconds_by (before_byte 46 text) (after_byte 46 text)

-- a bound of the window, which may be left out, if it can be read
abbrev pub bound_of : List ℕ → Option (Option ℕ)
bound_of text = if length text == 0 then Some None else option_map Some (nanoseconds_of text)

-- both bounds, if they can be read
abbrev pub window_by : Option (Option ℕ) → Option (Option ℕ) → Option Window
window_by first last = option_and_then (λ f. option_map (λ l. record { first = f; last = l }) last) first

abbrev pub window_of : List ℕ → Option Window
window_of text =
    if list_any (λ b. b == 44) text then window_by (bound_of (before_byte 44 text)) (bound_of (after_byte 44 text)) else None
