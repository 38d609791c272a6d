-- What it is for input to be accepted.
use Rattle.std.specs.Prelude.{◌≡◌, ℕ, List, Some, false}
use Rattle.serde_json.specs.Data.{Data}
use Rattle.serde_json.specs.Read.{read}
use Rattle.framehop_walk.specs.Numbers.{has_bad_number}

-- the text is that of a JSON value, and each number in it is whole and fits 64 bits
pub record IsAccepted (text : List ℕ) : Type 0 where
  pub value : Data
  pub is_read : read text ≡ Some value
  pub whole_numbers : has_bad_number value ≡ false
