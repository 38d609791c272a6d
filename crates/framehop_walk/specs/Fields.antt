-- The fields of a JSON object, each of one kind.
use Rattle.std.specs.Prelude.{ℕ, ◌&&◌, List, [], ◌∷◌, ◌++◌, length, nat_le, nat_lt, Bool, true, if◌then◌else◌, Option, Some, None, Ok, Err, is_some, option_map, option_and_then}
use Rattle.std.specs.Char.{digit_value}
use Rattle.std.specs.Str.Parse.{digits_value}
use Rattle.serde_json.specs.Data.{Data, Items, no_items, item}
use Rattle.serde_json.specs.Find.{get, as_number, as_str, as_object, as_u64}
use Rattle.framehop_walk.specs.Refusals.{Reading, bad_field, and_then}

-- each byte is a hexadecimal digit, of either case
abbrev pub all_digits : List ℕ → Bool
all_digits [] = true
all_digits (c ∷ cs) = nat_lt (digit_value c) 16 && all_digits cs

-- the number of 1 to 16 hexadecimal digits
unfoldable pub hexadecimal : List ℕ → Option ℕ
hexadecimal digits =
    if nat_lt 0 (length digits) && nat_le (length digits) 16 && all_digits digits
    then Some (digits_value 16 digits) else None

-- the kinds of values: an address, a register or a word; a whole number below 2^64; an object
unfoldable pub address : Data → Option ℕ
address value = option_and_then hexadecimal (as_str value)

abbrev pub whole_number : Data → Option ℕ
whole_number value = option_and_then as_u64 (as_number value)

abbrev pub group : Data → Option Data
group value = if is_some (as_object value) then Some value else None

-- a value that is asked for under this name
abbrev pub required : {A : Type 0} → List ℕ → Option A → Reading A
required name None = Err (bad_field name)
required name (Some value) = Ok value

-- a field of this kind
unfoldable pub field_as : {A : Type 0} → (Data → Option A) → List ℕ → Data → Reading A
field_as kind name fields = and_then (required name (get name fields)) (λ value. required name (kind value))

-- the same of a field that may be left out
abbrev pub optional : {A : Type 0} → (Data → Option A) → List ℕ → Option Data → Reading (Option A)
optional kind name None = Ok None
optional kind name (Some value) = required name (option_map (λ x. Some x) (kind value))

unfoldable pub optional_field_as : {A : Type 0} → (Data → Option A) → List ℕ → Data → Reading (Option A)
optional_field_as kind name fields = optional kind name (get name fields)

-- the items of a list, each read after those that are read already
unfoldable pub each : {A : Type 0} → (List A → Data → Reading A) → List A → Items → Reading (List A)
each read done no_items = Ok done
each read done (item value items) = and_then (read done value) (λ next. each read (done ++ next ∷ []) items)

-- a whole number below another one
abbrev pub below : ℕ → ℕ → Option ℕ
below limit number = if nat_lt number limit then Some number else None

-- the field is a whole number below another one
unfoldable pub field_below : ℕ → List ℕ → Data → Reading ℕ
field_below limit name fields =
    and_then (field_as whole_number name fields) (λ number. required name (below limit number))
