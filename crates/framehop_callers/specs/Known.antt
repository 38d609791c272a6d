-- What a run knows of memory: what the process had there before it, and what it has written since.
use Rattle.std.specs.Prelude.{ℕ, ◌+◌, ◌-◌, ◌%◌, ◌^◌, Bool, true, false, not, ◌==◌, ◌&&◌, ◌||◌, nat_lt, if◌then◌else◌, List, [], ◌∷◌, ◌++◌, length, Option, Some, None, option_map}
use Rattle.std.specs.List.{fold, filter}
use Rattle.framehop_core.specs.Memory.{Memory}
use Rattle.framehop_callers.specs.declared.known.Write.{Write}

-- how many bytes an address is after another one, where addresses wrap
abbrev pub after : ℕ → ℕ → ℕ
after start address = (address + (2 ^ 64 - start)) % 2 ^ 64

-- so many bytes at an address and so many at another have one in common
abbrev pub meet : ℕ → ℕ → ℕ → ℕ → Bool
meet start size address bytes = nat_lt (after start address) size || nat_lt (after address start) bytes

-- a write is to just so many bytes at an address
abbrev pub is_at : Write → ℕ → ℕ → Bool
is_at write address bytes = (write.address == address) && (write.bytes == bytes)

-- a write is to any of them
abbrev pub touches : Write → ℕ → ℕ → Bool
touches write address bytes = meet write.address write.bytes address bytes

-- what is said of so many bytes at an address after one more write
abbrev pub said : ℕ → ℕ → Option (Option ℕ) → Write → Option (Option ℕ)
said address bytes before write =
    if is_at write address bytes then Some write.value else (if touches write address bytes then Some None else before)

-- what the last write to any of them says of them, if there is one
abbrev pub written : List Write → ℕ → ℕ → Option (Option ℕ)
written writes address bytes = fold (said address bytes) None writes

-- the number of 8 or 4 bytes in memory before the run
abbrev pub unwritten : Memory → ℕ → ℕ → Option ℕ
unwritten memory address bytes =
    if bytes == 8 then memory address
    else (if bytes == 4 then option_map (λ word. word % 2 ^ 32) (memory address) else None)

abbrev pub known_by : Option ℕ → Option (Option ℕ) → Option ℕ
known_by before None = before
known_by before (Some value) = value

-- the number of so many bytes at an address, if it is known
abbrev pub loaded : Memory → List Write → ℕ → ℕ → Option ℕ
loaded memory writes address bytes = known_by (unwritten memory address bytes) (written writes address bytes)

-- one more write, in the place of earlier ones to the same bytes; 128 are kept
abbrev pub stored : List Write → Write → Option (List Write)
stored writes write =
    let others = filter (λ other. not (is_at other write.address write.bytes)) writes in
    if nat_lt (length others) 128 then Some (others ++ write ∷ []) else None

-- what is left where there was room
abbrev pub left_by : Bool → List Write → Option (List Write)
left_by true writes = Some writes
left_by false writes = None
