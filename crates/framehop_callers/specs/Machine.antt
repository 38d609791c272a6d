-- What the processor does, over the values of all registers and of memory (Intel 64 and IA-32 Architectures Software
-- Developer's Manual, volume 1, sections 3.4, 3.5 and 3.7, and volume 2 for each instruction; Arm Architecture Reference
-- Manual for A-profile). Flags and vector registers aren't described, so a conditional jump may lead either way.
use Rattle.std.specs.Prelude.{◌≡◌, ◌≢◌, ℕ, false, Option, Some, None}
use Rattle.framehop_cfi.specs.declared.rule.Register.{Register}
use Rattle.framehop_code.specs.declared.action.Address.{Address}
use Rattle.framehop_code.specs.declared.action.Index.{Index}
use Rattle.framehop_code.specs.declared.action.Place.{Place}
use Rattle.framehop_code.specs.declared.action.Place.TheVariants.{At, Elsewhere}
use Rattle.framehop_code.specs.declared.action.Operand.{Operand}
use Rattle.framehop_code.specs.declared.action.Operand.TheVariants as operand
use Rattle.framehop_code.specs.declared.action.Source.{Source}
use Rattle.framehop_code.specs.declared.action.Source.TheVariants as source
use Rattle.framehop_code.specs.declared.action.Width.{Width}
use Rattle.framehop_code.specs.declared.action.Width.TheVariants.{Four}
use Rattle.framehop_callers.specs.Known.{meet}
use Rattle.framehop_callers.specs.State.{sum, product, start_of, bytes_of, low, sign_extended}

-- the address of the next instruction, the registers by their DWARF columns, and the little-endian number that so many
-- bytes at an address are
pub record Machine : Type 0 where
  pub address : ℕ
  pub registers : ℕ → ℕ
  pub numbers : ℕ → ℕ → ℕ

-- ---- values, where next is the address of the next instruction

abbrev pub base_value : Machine → Option Register → ℕ
base_value machine None = 0
base_value machine (Some register) = machine.registers register.0

abbrev pub index_value : Machine → Option Index → ℕ
index_value machine None = 0
index_value machine (Some index) = product (machine.registers index.register.0) index.scale

abbrev pub address_value : Machine → ℕ → Address → ℕ
address_value machine next address =
    sum (sum (sum (base_value machine address.base) (index_value machine address.index)) address.displacement)
    (start_of next address.from_next)

-- a place that isn't described has any address
abbrev pub IsPlace : Machine → ℕ → Place → ℕ → Type 0
IsPlace machine next (At address) at = at ≡ address_value machine next address
IsPlace machine next Elsewhere at = Unit {0}

abbrev pub IsOperand : Machine → ℕ → Width → Operand → ℕ → Type 0
IsOperand machine next width (operand.Register register) value = value ≡ low width (machine.registers register.0)
IsOperand machine next width (operand.Memory place) value =
    (at : ℕ) × IsPlace machine next place at × (value ≡ machine.numbers at (bytes_of width))

abbrev pub IsValue : Machine → ℕ → Width → Source → ℕ → Type 0
IsValue machine next width (source.Operand operand) value = IsOperand machine next width operand value
IsValue machine next width (source.SignExtended operand) value =
    (number : ℕ) × IsOperand machine next Four operand number × (value ≡ low width (sign_extended number))
IsValue machine next width (source.Immediate number) value = value ≡ low width number
IsValue machine next width (source.Address address) value = value ≡ low width (address_value machine next address)
IsValue machine next width source.Unknown value = Unit {0}

-- ---- what is changed

-- a register gets a value, and the others keep theirs
pub record Sets (column value : ℕ) (before now : ℕ → ℕ) : Type 0 where
  pub here : now column ≡ value
  pub elsewhere : (other : ℕ) → other ≢ column → now other ≡ before other

-- a write to so many bytes at an address leaves each number as it is that has none of them
abbrev pub IsWrite : ℕ → ℕ → (ℕ → ℕ → ℕ) → (ℕ → ℕ → ℕ) → Type 0
IsWrite address bytes before now =
    (other other_bytes : ℕ) → meet address bytes other other_bytes ≡ false
    → now other other_bytes ≡ before other other_bytes

-- registers, and memory, are as they were
abbrev pub AreKept : (ℕ → ℕ) → (ℕ → ℕ) → Type 0
AreKept before now = (column : ℕ) → now column ≡ before column

abbrev pub IsKept : (ℕ → ℕ → ℕ) → (ℕ → ℕ → ℕ) → Type 0
IsKept before now = (address bytes : ℕ) → now address bytes ≡ before address bytes
