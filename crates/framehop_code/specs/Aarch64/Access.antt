-- What the loads and stores of one register do to general registers and memory, and those of memory tags (Arm Architecture
-- Reference Manual for A-profile, "A64 base instruction descriptions").
use Rattle.std.specs.Prelude.{ℕ, ℤ, pos, ◌*ℤ◌, ◌+◌, ◌*◌, Bool, true, false, not, ◌==◌, ◌&&◌, ◌||◌, if◌then◌else◌, [], ◌∷◌, Option, Some, None}
use Rattle.framehop_core.specs.Bits.{bits_at}
use Rattle.framehop_bytes.specs.ByCode.{by_code}
use Rattle.framehop_cfi.specs.declared.rule.Register.{Register}
use Rattle.framehop_code.specs.declared.action.Action.{Action}
use Rattle.framehop_code.specs.declared.action.Action.TheVariants.{Forget, Move}
use Rattle.framehop_code.specs.declared.action.Index.{Index}
use Rattle.framehop_code.specs.declared.action.Operand.TheVariants as operand
use Rattle.framehop_code.specs.declared.action.Place.{Place}
use Rattle.framehop_code.specs.declared.action.Place.TheVariants.{At, Elsewhere}
use Rattle.framehop_code.specs.declared.action.Source.{Source}
use Rattle.framehop_code.specs.declared.action.Source.TheVariants as source
use Rattle.framehop_code.specs.declared.action.Stored.{Stored}
use Rattle.framehop_code.specs.declared.action.Width.{Width}
use Rattle.framehop_code.specs.declared.action.Width.TheVariants.{Four, Eight}
use Rattle.framehop_code.specs.declared.aarch64.access.Transfer.{Transfer}
use Rattle.framehop_code.specs.declared.aarch64.access.Transfer.TheVariants.{Load, LoadPart, LoadSigned, LoadVector, Store, StorePart}
use Rattle.framehop_code.specs.declared.aarch64.action.Actions.{Actions}
use Rattle.framehop_code.specs.declared.aarch64.form.Addressing.{Addressing}
use Rattle.framehop_code.specs.declared.aarch64.form.Addressing.TheVariants as addressing
use Rattle.framehop_code.specs.Aarch64.Fields.{above, access_size, ahead, general_set, is_quad, is_set, named, rd, rm, rn, set_of, size_of, value_of}
use Rattle.framehop_code.specs.Aarch64.Instruction.{distance, imm9}

-- ---- actions

-- any value is left in a set of registers and in memory
abbrev pub forgetting : ℕ → Option Stored → Action
forgetting registers memory = Forget (record { 0 = registers }) memory

abbrev pub nothing : Action
nothing = forgetting 0 None

-- a register, of which 31 is sp, gets a value
abbrev pub moved : Register → Source → Width → Action
moved register from width = Move (operand.Register register) from width

-- and a register of which 31 is the zero register, which is not written
abbrev pub moved_general : Register → Source → Width → Action
moved_general register from width = if register.0 == 31 then nothing else moved register from width

abbrev pub alone : Action → Actions
alone action = record { first = action; second = None; third = None }

-- so many bytes of memory
abbrev pub bytes_at : Place → ℕ → Option Stored
bytes_at at bytes = Some (record { at = at; bytes = bytes })

-- ---- base registers

abbrev pub is_indexed : Addressing → Bool
is_indexed addressing.PostIndexed = true
is_indexed addressing.PreIndexed = true
is_indexed _ = false

-- how far above the base register is accessed: a post-indexed access comes before the base is moved
abbrev pub displacement : Addressing → ℤ → ℤ
displacement addressing.PostIndexed bytes = pos 0
displacement _ bytes = bytes

abbrev pub base_moved : ℕ → Addressing → ℤ → Option Action
base_moved word form bytes =
    if is_indexed form then Some (moved (rn word) (source.Address (above (rn word) bytes)) Eight) else None

-- an access, and how the base register is moved after it
abbrev pub with_base : Action → Option Action → Actions
with_base access base = record { first = access; second = base; third = None }

-- ---- one register

-- general registers by size and opc: STRB and STRH, STR, LDR, LDRSW; 11, 14 and 15 are none, others LDRB, LDRH and their kin
abbrev pub general_transfer : ℕ → Option Transfer
general_transfer word =
    by_code (bits_at word 30 2 * 4 + bits_at word 22 2) (
    (0, Some (StorePart 1))
    ∷ (4, Some (StorePart 2))
    ∷ (8, Some (Store Four))
    ∷ (9, Some (Load Four))
    ∷ (10, Some LoadSigned)
    ∷ (12, Some (Store Eight))
    ∷ (13, Some (Load Eight))
    ∷ (11, None)
    ∷ (14, None)
    ∷ (15, None)
    ∷ []) (Some LoadPart)

-- vector registers: the high bit of opc says 16 bytes, the low one a load
abbrev pub vector_transfer : ℕ → Option Transfer
vector_transfer word =
    by_code (bits_at word 30 2 * 4 + bits_at word 22 2) (
    (0, Some (StorePart 1))
    ∷ (4, Some (StorePart 2))
    ∷ (8, Some (StorePart 4))
    ∷ (12, Some (StorePart 8))
    ∷ (2, Some (StorePart 16))
    ∷ (1, Some LoadVector)
    ∷ (3, Some LoadVector)
    ∷ (5, Some LoadVector)
    ∷ (9, Some LoadVector)
    ∷ (13, Some LoadVector)
    ∷ []) None

-- V is 1 for vector registers
abbrev pub transfer_of : ℕ → Option Transfer
transfer_of word = if is_set word 26 then vector_transfer word else general_transfer word

-- the memory that an access writes
abbrev pub stored : Transfer → Place → Option Stored
stored (Store Four) at = bytes_at at 4
stored (Store Eight) at = bytes_at at 8
stored (StorePart bytes) at = bytes_at at bytes
stored _ at = None

-- what it does to a register or to memory
abbrev pub transferred : Transfer → Register → Place → Action
transferred (Load width) register at = moved_general register (source.Operand (operand.Memory at)) width
transferred LoadSigned register at = moved_general register (source.SignExtended (operand.Memory at)) Eight
transferred LoadPart register at = forgetting (general_set register) None
transferred LoadVector register at = nothing
transferred (Store width) register at = Move (operand.Memory at) (value_of register) width
transferred (StorePart bytes) register at = forgetting 0 (bytes_at at bytes)

-- a general register that is accessed is the base too; 31 is the zero register and sp
abbrev pub overlaps : ℕ → Register → Bool
overlaps word register = (not (is_set word 26) && not (register.0 == 31)) && (register.0 == (rn word).0)

-- imm12 in units of what is accessed, or imm9
abbrev pub access_bytes : ℕ → Addressing → ℤ
access_bytes word addressing.Offset = pos (bits_at word 10 12) *ℤ pos (access_size word)
access_bytes word _ = imm9 word

-- S says that the index is a multiple by the size
abbrev pub index_scale : ℕ → ℕ
index_scale word = if is_set word 12 then size_of word else 1

abbrev pub index_in : Option Register → ℕ → Option Index
index_in (Some register) scale = Some (record { register = register; scale = scale })
index_in None scale = None

abbrev pub index_of : Register → ℕ → Option Index
index_of register scale = index_in (named register) scale

-- The base and an index. Option 3 is an index of 64 bits; one of 32 is not described, and neither is a multiple by 16.
abbrev pub indexed_place : ℕ → Place
indexed_place word =
    if not (bits_at word 13 3 == 3) || (is_set word 12 && is_quad word) then Elsewhere
    else At (record { base = Some (rn word); index = index_of (rm word) (index_scale word); displacement = 0; from_next = false })

abbrev pub access_place : ℕ → Addressing → Place
access_place word addressing.Indexed = indexed_place word
access_place word form = At (above (rn word) (displacement form (access_bytes word form)))

-- the access, and the base moved by imm9; what is unpredictable is only forgotten
abbrev pub transfer_by : ℕ → Addressing → Transfer → Actions
transfer_by word form transfer =
    let at = access_place word form in
    if is_indexed form && overlaps word (rd word) then alone (forgetting (set_of (rn word)) (stored transfer at))
    else with_base (transferred transfer (rd word) at) (base_moved word form (imm9 word))

abbrev pub accessed_by : ℕ → Addressing → Option Transfer → Option Actions
accessed_by word form (Some transfer) = Some (transfer_by word form transfer)
accessed_by word form None = None

-- a load or store of one register
abbrev pub accessed : ℕ → Addressing → Option Actions
accessed word form = accessed_by word form (transfer_of word)

-- LDR and LDRSW (literal): imm19 counts words from the instruction
abbrev pub literal : ℕ → Actions
literal word =
    let at = At (ahead (distance (bits_at word 5 19) 0x40000)) in
    let transfer = by_code (bits_at word 30 2) ((0, Load Four) ∷ (1, Load Eight) ∷ []) LoadSigned in
    alone (transferred transfer (rd word) at)

-- ---- memory tags

-- STG and ST2G write tags, which are not described; STZG and STZ2G write units of 16 bytes too
abbrev pub tagged_memory : ℕ → Place → Option Stored
tagged_memory word at = by_code (bits_at word 22 2) ((1, bytes_at at 16) ∷ (3, bytes_at at 32) ∷ []) None

-- imm9 counts units
abbrev pub tagged_bytes : ℕ → ℤ
tagged_bytes word = imm9 word *ℤ pos 16

abbrev pub tagged_place : ℕ → Addressing → Place
tagged_place word form = At (above (rn word) (displacement form (tagged_bytes word)))

abbrev pub tagged : ℕ → Addressing → Actions
tagged word form =
    with_base (forgetting 0 (tagged_memory word (tagged_place word form))) (base_moved word form (tagged_bytes word))
