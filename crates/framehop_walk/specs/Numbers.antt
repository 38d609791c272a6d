-- The numbers of a JSON value.
use Rattle.std.specs.Prelude.{Bool, false, ◌||◌, ◌&&◌, is_none}
use Rattle.serde_json.specs.Data.{Data, null, boolean, number, string, array, object, Num, Items, no_items, item, Members, no_members, member}
use Rattle.serde_json.specs.Find.{as_u64, as_i64}

-- the number is not whole, or does not fit 64 bits
abbrev pub is_bad : Num → Bool
is_bad n = is_none (as_u64 n) && is_none (as_i64 n)

-- such a number is in the value, at any depth
abbrev mutual
  -- a number that isn't whole or does not fit 64 bits stands in a value, at any depth
  pub has_bad_number : Data → Bool
  has_bad_number null = false
  has_bad_number (boolean b) = false
  has_bad_number (number n) = is_bad n
  has_bad_number (string s) = false
  has_bad_number (array items) = any_bad_item items
  has_bad_number (object members) = any_bad_member members

  pub any_bad_item : Items → Bool
  any_bad_item no_items = false
  any_bad_item (item value items) = has_bad_number value || any_bad_item items

  pub any_bad_member : Members → Bool
  any_bad_member no_members = false
  any_bad_member (member name value members) = has_bad_number value || any_bad_member members
