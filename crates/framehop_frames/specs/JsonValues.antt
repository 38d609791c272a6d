-- Names, numbers and addresses as JSON (RFC 8259).
use Rattle.std.specs.Prelude.{ℕ, ◌+◌, List, [], ◌∷◌, ◌++◌, codes, Option, Some, None}
use Rattle.std.specs.Str.Lossy.{utf8_lossy}
use Rattle.serde_json.specs.Data.{Data, null, number, unsigned, string}
use Rattle.framehop_frames.specs.Line.{hexadecimal, plain}

-- a number
abbrev pub number_data : ℕ → Data
number_data n = number (unsigned n)

-- an address or an offset, in hexadecimal
abbrev pub address_data : ℕ → Data
address_data n = string (codes "0x" ++ hexadecimal n)

-- a name as it is printed in blocks, as a text
abbrev pub name_data : List ℕ → Data
name_data name = string (utf8_lossy (plain name))

-- null where there is nothing
abbrev pub or_null : {A : Type 0} → (A → Data) → Option A → Data
or_null value (Some x) = value x
or_null value None = null

-- the values of items with their numbers from one on
abbrev pub values_from : {A : Type 0} → (ℕ → A → Data) → ℕ → List A → List Data
values_from value n [] = []
values_from value n (x ∷ others) = value n x ∷ values_from value (n + 1) others
