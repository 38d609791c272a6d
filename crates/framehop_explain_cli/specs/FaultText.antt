-- Where the input is wrong, and how, as text.
use Rattle.std.specs.Prelude.{◌≡◌, ℕ, List, [], ◌∷◌, ◌++◌, codes, Option, Some, None, option_map, option_and_then}
use Rattle.std.specs.Fmt.{decimal}
use Rattle.serde_json.specs.Data.{Data}
use Rattle.serde_json.specs.Find.{get, at, as_str}
use Rattle.framehop_explain.specs.Pieces.{text_of}
use Rattle.framehop_explain_cli.specs.declared.fault.Cause.{Cause}
use Rattle.framehop_explain_cli.specs.declared.fault.Cause.TheVariants.{Missing, NoText, NoList, NoObject, NoNumber, NotBelow, NoAddress, OddDigits, NoDigits, NoRange, SameName, Unknown, NullReturnAddress, NoUnwinder, NoCache}
use Rattle.framehop_walk.specs.Answers.{IsJson, IsNoJson}
use Rattle.framehop_walk.specs.declared.refusal.Refusal.{Refusal}
use Rattle.framehop_walk.specs.declared.refusal.Refusal.TheVariants.{Usage, CannotReadInput, CannotWriteOutput, NotJson, BadNumber, BadField, NoSuchUnwinder, NoSuchCache, OutOfMemory, GenerationsExhausted}
use Rattle.framehop_explain_cli.specs.Faults.{Holder, Wrong, first_wrong, first_absent}

-- what is wrong with a value
unfoldable pub cause_text : Cause → List ℕ
cause_text Missing = codes "missing"
cause_text NoText = codes "not a text"
cause_text NoList = codes "not a list"
cause_text NoObject = codes "not an object"
cause_text NoNumber = codes "not a whole number of 64 bits"
cause_text (NotBelow limit) = codes "not below " ++ decimal limit
cause_text NoAddress = codes "not a text of 1 to 16 hexadecimal digits"
cause_text OddDigits = codes "odd number of digits"
cause_text NoDigits = codes "not hexadecimal digits"
cause_text NoRange = codes "not a list of a start and an end"
cause_text SameName = codes "the name of an item before it"
cause_text Unknown = codes "not a word that is known here"
cause_text NullReturnAddress = codes "a return address is not 0"
cause_text (NoUnwinder count) =
    text_of (codes "no such unwinder: " ∷ decimal count ∷ codes " were made before" ∷ [])
cause_text (NoCache count) = codes "no such cache: there are " ++ decimal count

-- the number of an item, and what has a field, if these are known
unfoldable pub item_text : Option ℕ → List ℕ
item_text None = []
item_text (Some number) = text_of (codes "[" ∷ decimal number ∷ codes "]" ∷ [])

unfoldable pub holder_text : Option Holder → List ℕ
holder_text None = []
holder_text (Some holder) = text_of (holder.name ∷ item_text holder.item ∷ codes "." ∷ [])

-- a field that is wrong, in its command
unfoldable pub fault_text : Wrong → List ℕ
fault_text fault = text_of (
    holder_text fault.parent ∷ fault.field ∷ item_text fault.item ∷ codes ": " ∷ cause_text fault.cause ∷ [])

-- the number of a command and its verb, if it has one
unfoldable pub command_text : ℕ → Option (List ℕ) → List ℕ
command_text number (Some verb) = text_of (codes "commands[" ∷ decimal number ∷ codes "] (" ∷ verb ∷ codes ")" ∷ [])
command_text number None = text_of (codes "commands[" ∷ decimal number ∷ codes "]" ∷ [])

-- the field `do` of the command of a number
abbrev pub verb_at : ℕ → Data → Option (List ℕ)
verb_at number fields =
    option_and_then as_str (option_and_then (get (codes "do"))
    (option_and_then (at number) (get (codes "commands") fields)))

-- where an input is wrong, and how: after its command, if it is in one
abbrev pub fault_after : Data → Option ℕ → List ℕ → List ℕ
fault_after fields None text = text
fault_after fields (Some number) text = text_of (command_text number (verb_at number fields) ∷ codes ": " ∷ text ∷ [])

unfoldable pub place_in : Data → Wrong → List ℕ
place_in fields fault = fault_after fields fault.command (fault_text fault)

-- where the reader of JSON stopped
unfoldable pub no_json_text : ℕ → ℕ → List ℕ
no_json_text line column =
    text_of (codes "line " ∷ decimal line ∷ codes ", column " ∷ decimal column ∷ codes ": not JSON" ∷ [])

-- Where an input is wrong that was refused, and how: the first field that is missing or wrong, or the first unwinder or
-- cache that is named and is not there.
abbrev pub place_of : Refusal → Data → Option (List ℕ)
place_of (BadField name) fields = option_map (place_in fields) (first_wrong fields)
place_of NoSuchUnwinder fields = option_map (place_in fields) (first_absent fields)
place_of NoSuchCache fields = option_map (place_in fields) (first_absent fields)
place_of Usage fields = None
place_of CannotReadInput fields = None
place_of CannotWriteOutput fields = None
place_of NotJson fields = None
place_of BadNumber fields = None
place_of OutOfMemory fields = None
place_of GenerationsExhausted fields = None

-- The place that is told of the bytes of an input: where the reader of JSON stopped, or in the JSON value, or none, as
-- where a write has failed.
abbrev pub IsPlace : Refusal → List ℕ → Option (List ℕ) → Type 0
IsPlace NotJson bytes place =
    IsNoJson bytes → (line : ℕ) × (column : ℕ) × (place ≡ Some (no_json_text line column))
IsPlace (BadField name) bytes place = (value : Data) × IsJson bytes value × (place ≡ place_of (BadField name) value)
IsPlace NoSuchUnwinder bytes place = (value : Data) × IsJson bytes value × (place ≡ place_of NoSuchUnwinder value)
IsPlace NoSuchCache bytes place = (value : Data) × IsJson bytes value × (place ≡ place_of NoSuchCache value)
IsPlace _ bytes place = place ≡ None
