-- The registers that a frameless function of x86_64 has saved (Apple, mach-o/compact_unwind_encoding.h): a number
-- stands for a list of distinct registers.
use Rattle.std.specs.Prelude.{ℕ, zero, suc, ◌*◌, Bool, true, false, List, [], ◌∷◌, map, reverse, slice_get, Option}
use Rattle.std.specs.List.{flat_map, position}
use Rattle.framehop_macho.specs.declared.x86_64.saved_registers.RegisterNameX86_64.{RegisterNameX86_64}
use Rattle.framehop_macho.specs.declared.x86_64.saved_registers.RegisterNameX86_64.TheVariants.{Rbx, R12, R13, R14, R15, Rbp}

-- each member of a list, with the others in order
abbrev pub choices : {A : Type 0} → List A → List (A × List A)
choices [] = []
choices (x ∷ xs) = (x, xs) ∷ map (λ choice. (choice.0, x ∷ choice.1)) (choices xs)

-- all lists of so many distinct members of a list, in lexicographic order
abbrev pub lists_of : {A : Type 0} → ℕ → List A → List (List A)
lists_of zero pool = [] ∷ []
lists_of (suc count) pool =
    flat_map (λ choice. map (λ list. choice.0 ∷ list) (lists_of count choice.1)) (choices pool)

-- how many those are, from so many members
abbrev pub list_count : ℕ → ℕ → ℕ
list_count zero members = 1
list_count (suc count) zero = 0
list_count (suc count) (suc members) = suc members * list_count count members

-- the registers that can be saved, in the order of their numbers
abbrev pub six : List RegisterNameX86_64
six = Rbx ∷ R12 ∷ R13 ∷ R14 ∷ R15 ∷ Rbp ∷ []

-- the saved registers of a count and a rank: the list at that place among all lists of that many registers
unfoldable pub saved_registers : ℕ → ℕ → Option (List RegisterNameX86_64)
saved_registers count rank = slice_get (lists_of count six) rank

-- the register is rbp
abbrev pub is_rbp : RegisterNameX86_64 → Bool
is_rbp Rbp = true
is_rbp Rbx = false
is_rbp R12 = false
is_rbp R13 = false
is_rbp R14 = false
is_rbp R15 = false

-- the place of rbp, counted from the end of a list, where the last one has place 0
abbrev pub bp_position : List RegisterNameX86_64 → Option ℕ
bp_position saved = position is_rbp (reverse saved)
