-- What the row of an address is, by whole lists of instructions (DWARF 5 sections 6.4.2 and 6.4.3).
use Rattle.std.specs.Prelude.{ℕ, ◌<◌, ◌≤◌, ◌≡◌, ◌⊎◌, true, false, List, [], ◌∷◌, length, Option, Ok}
use Rattle.framehop_cfi.specs.Instruction.{instruction_at}
use Rattle.framehop_cfi.specs.Row.{Row}
use Rattle.framehop_cfi.specs.Section.{Section}
use Rattle.framehop_cfi.specs.TableRows.{TableRows, effects}
use Rattle.framehop_cfi.specs.RowAt.{InstructionList, location_after, is_beyond, start, begun, instructions_of_cie, instructions_of_fde, covers}
use Rattle.framehop_cfi.specs.declared.storage.StorageLimits.{StorageLimits}
use Rattle.framehop_cfi.specs.declared.entry.FrameDescriptionEntry.{FrameDescriptionEntry}
use Rattle.framehop_cfi.specs.declared.instruction.CallFrameInstruction.{CallFrameInstruction}

-- an instruction stands at a place, and leaves the location at another one
pub record Stands (code : InstructionList) (at location : ℕ) (instruction : CallFrameInstruction)
    (next moved : ℕ) : Type 0 where
  pub inside : at < length code.bytes
  pub reads : instruction_at code.cie code.bases code.bytes at ≡ Ok (instruction, next)
  pub moves : location_after code.cie code.address location instruction ≡ Ok moved

-- these instructions stand one after another from a place and location to another, none of them moving beyond the
-- address
abbrev pub Lists : InstructionList → ℕ → ℕ → List CallFrameInstruction → ℕ → ℕ → Type 0
Lists code at location [] end last = (at ≡ end) × (location ≡ last)
Lists code at location (instruction ∷ instructions) end last =
    (next : ℕ) × (moved : ℕ) × Stands code at location instruction next moved
    × (is_beyond code.address moved ≡ false) × Lists code next moved instructions end last

-- there the list ends: with the bytes, or with a move beyond the address
abbrev pub Ends : InstructionList → ℕ → ℕ → Type 0
Ends code at location =
    (length code.bytes ≤ at) ⊎ ((instruction : CallFrameInstruction) × (next : ℕ) × (moved : ℕ)
    × Stands code at location instruction next moved × (is_beyond code.address moved ≡ true))

-- the whole list from a place on, and its effects on the rows
pub record HasEffect (limits : Option StorageLimits) (code : InstructionList) (at location : ℕ)
    (before after : TableRows) : Type 0 where
  pub instructions : List CallFrameInstruction
  pub end : ℕ
  pub last : ℕ
  pub lists : Lists code at location instructions end last
  pub ends : Ends code end last
  pub effect : effects limits instructions before ≡ Ok after

-- the rows of an address: the effects of the CIE's list, and then of the FDE's up to the first move beyond the address
pub record AreRowsAt (limits : Option StorageLimits) (section : Section) (fde : FrameDescriptionEntry) (address : ℕ)
    (rows : TableRows) : Type 0 where
  pub covered : covers fde address ≡ true
  pub middle : TableRows
  pub by_cie : HasEffect limits (instructions_of_cie section fde.cie) fde.cie.instructions 0 start middle
  pub by_fde : HasEffect limits (instructions_of_fde section fde address) fde.instructions fde.initial_address
      (begun middle) rows

-- the row of an address: the current one of those rows
abbrev pub IsRowAt : Option StorageLimits → Section → FrameDescriptionEntry → ℕ → Row → Type 0
IsRowAt limits section fde address row =
    (rows : TableRows) × AreRowsAt limits section fde address rows × (rows.row ≡ row)
