-- Which events of a recording are asked for by the words of `--event`.
use Rattle.std.specs.Prelude.{ℕ, ◌^◌, ◌==◌, List, [], ◌∷◌, ◌++◌, length, Option, Some, None, Result, Ok, Err, unwrap_or, if◌then◌else◌}
use Rattle.std.specs.Result.{result_ok}
use Rattle.framehop_perf_stacks.specs.EventChoice.{asked_among}
use Rattle.framehop_recording.specs.EventNames.{event_names_of}
use Rattle.framehop_recording.specs.declared.header.Header.{Header}
use Rattle.framehop_stacks_cli.specs.CommandLine.{number_below}

-- the numbers of the events that a word asks for, by their name or by a number below 2^64
unfoldable pub events_by : List (List ℕ) → List ℕ → List ℕ
events_by names word = asked_among names word (number_below (2 ^ 64) word)

-- events before those of others
abbrev pub events_before : List ℕ → Result (List ℕ) (List ℕ) → Result (List ℕ) (List ℕ)
events_before numbers (Ok others) = Ok (numbers ++ others)
events_before numbers (Err word) = Err word

-- those of all words, or the first word for which there are none
abbrev pub events_of : List (List ℕ) → List (List ℕ) → Result (List ℕ) (List ℕ)
events_of names [] = Ok []
events_of names (word ∷ words) =
    if length (events_by names word) == 0 then Err word else events_before (events_by names word) (events_of names words)

-- the names of a recording's events, none where they can't be read
abbrev pub names_in : List ℕ → Header → List (List ℕ)
names_in file header = unwrap_or (result_ok (event_names_of file header)) []

-- the events that are asked for of a recording, if each word asks for some; of one without a header none are looked for
abbrev pub events_asked : List ℕ → Option Header → List (List ℕ) → Option (List ℕ)
events_asked file None words = Some []
events_asked file (Some header) words = result_ok (events_of (names_in file header) words)
