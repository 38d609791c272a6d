-- Folded stacks as text: a line for each stack, which is its frames from the outermost on, joined by `;`, a blank and
-- a count (Brendan Gregg's FlameGraph, `flamegraph.pl`).
use Rattle.std.specs.Prelude.{ℕ, Bool, List, [], ◌∷◌, length, Option, Some, None, Result, Ok, Err, ◌==◌, ◌+◌, ◌&&◌, ◌||◌, ◌^◌, ◌≡◌, ◌≢◌, ◌<◌, slice_index, take, nat_le, nat_lt, if◌then◌else◌}
use Rattle.std.specs.List.{slice_split, before_last, after_last, count_by, list_all, list_any}
use Rattle.std.specs.Str.{all_ascii_digits}
use Rattle.std.specs.Str.Parse.{digits_value}
use Rattle.framehop_folded.specs.declared.error.TextError.{TextError}
use Rattle.framehop_folded.specs.declared.error.TextError.TheVariants.{NoCount, BadCount}
use Rattle.framehop_folded.specs.declared.text.FoldedLine.{FoldedLine}

-- a stack as text, and how often it was counted
pub record Counted : Type 0 where
  pub stack : List ℕ
  pub count : ℕ

abbrev pub counted : FoldedLine → Counted
counted line = record { stack = line.stack.items; count = line.count }

-- text has no control characters but tabs, line feeds and carriage returns
abbrev pub is_text_byte : ℕ → Bool
is_text_byte byte = nat_le 32 byte || byte == 9 || byte == 10 || byte == 13

-- bytes are taken for text by the first 4,096 of them
abbrev pub is_text : List ℕ → Bool
is_text bytes = list_all is_text_byte (take 4096 bytes)

-- the number of the line at an offset, from 1 on
abbrev pub line_number : List ℕ → ℕ → ℕ
line_number text offset = 1 + count_by (λ byte. byte == 10) (take offset text)

-- A decimal number below 2^64: one digit or more, and nothing else.
abbrev pub count_of : List ℕ → Option ℕ
count_of digits = if nat_lt 0 (length digits) && all_ascii_digits digits && nat_lt (digits_value 10 digits) (2 ^ 64)
    then Some (digits_value 10 digits) else None

-- the last blank of a line is at this index
abbrev pub IsLastBlank : List ℕ → ℕ → Type 0
IsLastBlank line blank = (blank < length line) × (slice_index line blank ≡ 32)
    × ((at : ℕ) → blank < at → at < length line → slice_index line at ≢ 32)

-- a stack with its count, or the line is refused
abbrev pub line_with : ℕ → List ℕ → Option ℕ → Result Counted TextError
line_with offset stack None = Err (BadCount offset)
line_with offset stack (Some count) = Ok (record { stack = stack; count = count })

-- A line, which begins at an offset of the text: a stack, its last blank, and a count.
abbrev pub read_line : ℕ → List ℕ → Result Counted TextError
read_line offset line = if list_any (λ byte. byte == 32) line
    then line_with offset (before_last (λ byte. byte == 32) line) (count_of (after_last (λ byte. byte == 32) line))
    else Err (NoCount offset)

-- a line before others, where all can be read; else the first refusal
abbrev pub before : Result Counted TextError → Result (List Counted) TextError
    → Result (List Counted) TextError
before (Err refusal) others = Err refusal
before (Ok line) (Err refusal) = Err refusal
before (Ok line) (Ok lines) = Ok (line ∷ lines)

-- a line, which begins at an offset, before others; an empty line says nothing
abbrev pub with_line : ℕ → List ℕ → Result (List Counted) TextError → Result (List Counted) TextError
with_line offset line others = if length line == 0 then others else before (read_line offset line) others

-- lines, of which the first begins at an offset
abbrev pub read_lines : ℕ → List (List ℕ) → Result (List Counted) TextError
read_lines offset [] = Ok []
read_lines offset (line ∷ lines) = with_line offset line (read_lines (offset + length line + 1) lines)

-- A text: its lines end at line feeds.
abbrev pub read_text : List ℕ → Result (List Counted) TextError
read_text text = read_lines 0 (slice_split (λ byte. byte == 10) text)
