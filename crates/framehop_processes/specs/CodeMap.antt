-- The names of functions whose code is in no file, as those that a JIT compiler makes, by their addresses.
use Rattle.std.specs.Prelude.{◌≡◌, ℕ, ◌<◌, ◌≤◌, ◌⊎◌, ◌-◌, nat_le, nat_lt, ◌&&◌, Bool, List, reverse, Option, Some, None, option_map, option_and_then, slice_get}
use Rattle.std.specs.BTreeMap.{BTreeMap, get}
use Rattle.std.specs.List.{find}
use Rattle.std.specs.Ordering.{nat_cmp}
use Rattle.framehop_processes.specs.declared.code_map.CodeFunction.{CodeFunction}

-- an address is from one on and below another
abbrev pub has_address_between : ℕ → ℕ → ℕ → Bool
has_address_between start end address = nat_le start address && nat_lt address end

-- a function has an address
abbrev pub has_code_at : ℕ → CodeFunction → Bool
has_code_at address function = has_address_between function.start function.end address

-- The function that has an address. Code is told as it is made, and later code may lie where earlier code was: so it is the
-- last that has it.
abbrev pub code_function_at : List CodeFunction → ℕ → Option CodeFunction
code_function_at functions address = find (has_code_at address) (reverse functions)

-- its name, and how far the address is from its start
unfoldable pub code_name_at : List CodeFunction → ℕ → Option (List ℕ × ℕ)
code_name_at functions address =
    option_map (λ function. (function.name.items, address - function.start)) (code_function_at functions address)

-- ---- the index

-- a number is in force at an address: that at the greatest key which is not above it, or none without such a key
abbrev pub IsInForce : BTreeMap ℕ (Option ℕ) → ℕ → Option ℕ → Type 0
IsInForce index address number =
    (((key : ℕ) → key ≤ address → get nat_cmp index key ≡ None) × (number ≡ None))
    ⊎ ((key : ℕ) × (key ≤ address) × (get nat_cmp index key ≡ Some number)
    × ((above : ℕ) → key < above → above ≤ address → get nat_cmp index above ≡ None))

-- the function of a number that is in force
abbrev pub function_of : List CodeFunction → Option ℕ → Option CodeFunction
function_of functions number = option_and_then (λ n. slice_get functions n) number

-- at each address that of the function which has it is in force, of the first of all functions
abbrev pub AreNumberedOf : List CodeFunction → List CodeFunction → BTreeMap ℕ (Option ℕ) → Type 0
AreNumberedOf functions first index = (address : ℕ) → (number : Option ℕ)
    × IsInForce index address number × (function_of functions number ≡ code_function_at first address)

-- the same of all
abbrev pub AreNumbered : List CodeFunction → BTreeMap ℕ (Option ℕ) → Type 0
AreNumbered functions index = AreNumberedOf functions functions index
