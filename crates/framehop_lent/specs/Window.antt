-- The memory of stack words that are lent.
use Rattle.std.specs.Prelude.{ℕ, ◌≡◌, Bool, true, false, if◌then◌else◌, nat_le, ◌&&◌, ◌==◌, ◌+◌, ◌*◌, ◌-◌, ◌/◌, ◌%◌, List, [], ◌∷◌, length, slice_get, Option, Some, None, IfSome, option_map, Result, Err}
use Rattle.framehop.specs.Memory.{Memory}
use Rattle.framehop_core.specs.declared.error.Error.{Error}
use Rattle.framehop_core.specs.declared.error.Error.TheVariants.{CouldNotReadStack}
use Rattle.framehop_lent.specs.declared.window.Window.{Window}

-- word i is at the address base + 8 * i
abbrev pub words_from : ℕ → List ℕ → Memory
words_from base words address =
    if nat_le base address && ((address - base) % 8 == 0)
    then slice_get words ((address - base) / 8)
    else None

-- what a window tells of an address: the word that it has there, or nothing; an empty window tells that there is no
-- word at its base
abbrev pub told_by : Window → ℕ → Option (Option ℕ)
told_by window address =
    if length window.words.now == 0
    then (if address == window.base then Some None else None)
    else option_map Some (words_from window.base window.words.now address)

-- what the first window that tells of it tells
abbrev pub told_first : Option (Option ℕ) → Option (Option ℕ) → Option (Option ℕ)
told_first (Some word) others = Some word
told_first None others = others

abbrev pub told_in : List Window → ℕ → Option (Option ℕ)
told_in [] address = None
told_in (window ∷ windows) address = told_first (told_by window address) (told_in windows address)

-- the memory of windows: no word where none of them tells of one
abbrev pub word_told : Option (Option ℕ) → Option ℕ
word_told (Some word) = word
word_told None = None

abbrev pub words_in : List Window → Memory
words_in windows address = word_told (told_in windows address)

-- a memory agrees with windows: it has each word that they tell of, and no word where they tell that there is none
abbrev pub AgreesWith : List Window → Memory → Type 0
AgreesWith windows memory = (address : ℕ) → IfSome (told_in windows address) (λ word. memory address ≡ word)

-- The memories over which the answer stands that windows led to: where a word was missing, that of their words; where
-- none was, each that agrees with them, whatever it has elsewhere.
abbrev pub IsReadAs : List Window → Bool → Memory → Type 0
IsReadAs windows true memory = (address : ℕ) → memory address ≡ words_in windows address
IsReadAs windows false memory = AgreesWith windows memory

-- the address, unless something is told of it
abbrev pub unless_told : Option (Option ℕ) → ℕ → Option ℕ
unless_told (Some word) address = None
unless_told None address = Some address

-- the first address that was asked for and of which no window tells, once another one is asked for
abbrev pub noted : List Window → Option ℕ → ℕ → Option ℕ
noted windows (Some first) address = Some first
noted windows None address = unless_told (told_in windows address) address

-- the address of the word that a step could not read, if that is why it was refused
abbrev pub unreadable_word : Result (Option ℕ) Error → Option ℕ
unreadable_word (Err (CouldNotReadStack address)) = Some address
unreadable_word _ = None

-- the first address above all of which a window tells
abbrev pub end_of : Window → ℕ
end_of window = if length window.words.now == 0 then window.base + 1 else window.base + 8 * length window.words.now

-- each window lies above all that the one before it tells of, the first one from an address on
abbrev pub above : ℕ → List Window → Bool
above end [] = true
above end (window ∷ windows) = nat_le end window.base && above (end_of window) windows

-- so that no two tell of one address
abbrev pub in_order : List Window → Bool
in_order windows = above 0 windows
