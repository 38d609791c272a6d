-- The words of a command line, by the options that they are given to.
use Rattle.std.specs.Prelude.{ℕ, nat_eq, nat_lt, Bool, false, ◌&&◌, List, [], ◌∷◌, length, codes, Option, Some, None, option_map, option_and_then, unwrap_or, if◌then◌else◌}
use Rattle.std.specs.Cmp.Lexicographic.{pointwise}
use Rattle.std.specs.Str.{all_ascii_digits}
use Rattle.std.specs.Str.Parse.{digits_value, without_leading_plus}
use Rattle.clap.specs.Matches.{found_of, matched_of, raw_values, first_value, one_text}
use Rattle.clap.specs.declared.parser.matches.ArgMatches.{ArgMatches}

-- the word that an option is given, if it is given one, and all words that it is given, one each time
unfoldable pub word_of : ArgMatches → List ℕ → Option (List ℕ)
word_of matches option = first_value (found_of matches) option

unfoldable pub words_of : ArgMatches → List ℕ → List (List ℕ)
words_of matches option = unwrap_or (option_map raw_values (matched_of (found_of matches) option)) []

-- an option that takes no word is given: its value is then the text `true`
abbrev pub is_true : Option (List ℕ) → Bool
is_true None = false
is_true (Some text) = pointwise nat_eq text (codes "true")

unfoldable pub is_given : ArgMatches → List ℕ → Bool
is_given matches option = is_true (one_text (found_of matches) option)

-- a decimal number below a bound: one digit or more, and nothing else but a plus sign before them
abbrev pub is_numeral : List ℕ → Bool
is_numeral digits = nat_lt 0 (length digits) && all_ascii_digits digits

abbrev pub digits_below : ℕ → List ℕ → Option ℕ
digits_below bound digits =
    if is_numeral digits && nat_lt (digits_value 10 digits) bound then Some (digits_value 10 digits) else None

unfoldable pub number_below : ℕ → List ℕ → Option ℕ
number_below bound text = digits_below bound (without_leading_plus text)

-- the numbers that words are, where each is one
abbrev pub number_before : Option ℕ → Option (List ℕ) → Option (List ℕ)
number_before number numbers = option_and_then (λ n. option_map (λ others. n ∷ others) numbers) number

abbrev pub numbers_below : ℕ → List (List ℕ) → Option (List ℕ)
numbers_below bound [] = Some []
numbers_below bound (word ∷ words) = number_before (number_below bound word) (numbers_below bound words)
