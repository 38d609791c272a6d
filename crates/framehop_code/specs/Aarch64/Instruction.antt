-- What an aarch64 instruction does to sp and x29, and where it leads, by its word (Arm Architecture Reference Manual for
-- A-profile, "A64 base instruction descriptions").
use Rattle.std.specs.Prelude.{ℕ, ◌*◌, ◌==◌, nat_lt, if◌then◌else◌, List, [], ◌∷◌, Option, Some, None, Ok, Err, ℤ, pos, ◌-ℤ◌, ◌*ℤ◌, codes}
use Rattle.framehop_core.specs.Bits.{bits_at}
use Rattle.framehop_cfi.specs.Numbers.{Parsed, u32_at}
use Rattle.framehop_cfi.specs.Aarch64.{X29, SP}
use Rattle.framehop_bytes.specs.ByCode.{by_code}
use Rattle.framehop_code.specs.declared.effect.Base.{Base}
use Rattle.framehop_code.specs.declared.effect.Base.TheVariants.{Sp, Fp}
use Rattle.framehop_code.specs.declared.effect.Change.{Change}
use Rattle.framehop_code.specs.declared.effect.Change.TheVariants.{Sum, Unknown}
use Rattle.framehop_code.specs.declared.effect.Flow.{Flow}
use Rattle.framehop_code.specs.declared.effect.Flow.TheVariants as flow
use Rattle.framehop_code.specs.declared.effect.Effect.{Effect}
use Rattle.framehop_code.specs.declared.aarch64.encoding.Class.{Class}
use Rattle.framehop_code.specs.declared.aarch64.encoding.Class.TheVariants.{Keep, Padding, Stop, Jump, Call, Branch, TestBranch, BranchRegister, WriteRd, SetRd, AddImmediate, WriteRt2, Indexed, LoadIndexed, TagIndexed, PairIndexed, LoadPairIndexed, VectorPairIndexed, WriteRtAndBack, Exclusive, ComparePair, MemoryCopy}
use Rattle.framehop_code.specs.Effect.{plain, with_register}
use Rattle.framehop_code.specs.Aarch64.Encodings.{class_of}

-- the register that a field of an instruction names: 31 is sp, 29 is x29
abbrev pub numbered : ℕ → Option Base
numbered number = if number == 31 then Some Sp else (if number == 29 then Some Fp else None)

-- the register that a number names in DWARF
abbrev pub base_numbered : ℕ → Option Base
base_numbered number = if number == SP then Some Sp else (if number == X29 then Some Fp else None)

-- its name in assembly
abbrev pub base_name : Base → List ℕ
base_name Sp = codes "sp"
base_name Fp = codes "x29"

-- ---- fields

-- Rd, which is Rt too; Rn, the base register; Rt2; and Rs
abbrev pub rd : ℕ → ℕ
rd word = bits_at word 0 5

abbrev pub rn : ℕ → ℕ
rn word = bits_at word 5 5

abbrev pub rt2 : ℕ → ℕ
rt2 word = bits_at word 10 5

abbrev pub rs : ℕ → ℕ
rs word = bits_at word 16 5

-- a number with the sign that its highest bit is, by that bit's value
abbrev pub signed : ℕ → ℕ → ℤ
signed number highest = if nat_lt number highest then pos number else pos number -ℤ pos (2 * highest)

-- imm9 counts bytes
abbrev pub imm9 : ℕ → ℤ
imm9 word = signed (bits_at word 12 9) 0x100

-- ---- registers changed

-- a register, of which 31 is sp
abbrev pub setting : Effect → ℕ → Change → Effect
setting effect number change = with_register effect (numbered number) change

-- a register, of which 31 is none, overwritten by any value
abbrev pub writing : Effect → ℕ → Effect
writing effect number = if number == 29 then setting effect 29 Unknown else effect

abbrev pub writing_pair : Effect → ℕ → Effect
writing_pair effect word = writing (writing effect (rd word)) (rt2 word)

-- the base register moved by so many bytes, or by a number that is not told
abbrev pub moved : Base → Option ℤ → Change
moved base (Some bytes) = Sum base bytes
moved base None = Unknown

abbrev pub moving_base : Effect → ℕ → Option ℤ → Option Base → Effect
moving_base effect number bytes (Some base) = setting effect number (moved base bytes)
moving_base effect number bytes None = effect

abbrev pub moving : Effect → ℕ → Option ℤ → Effect
moving effect word bytes = moving_base effect (rn word) bytes (numbered (rn word))

-- ADD and SUB (immediate): imm12, shifted left by 12 where sh is 1; SUB is op 1
abbrev pub imm12 : ℕ → ℤ
imm12 word = pos (bits_at word 10 12) *ℤ (if bits_at word 22 1 == 1 then pos 4096 else pos 1)

-- that number with its sign
abbrev pub signed_imm12 : ℕ → ℤ
signed_imm12 word = if bits_at word 30 1 == 1 then pos 0 -ℤ imm12 word else imm12 word

-- a register by another one and an offset; by one of the others it is not known
abbrev pub sum_with : ℤ → Option Base → Change
sum_with offset (Some base) = Sum base offset
sum_with offset None = Unknown

abbrev pub added : ℕ → Change
added word = sum_with (signed_imm12 word) (numbered (rn word))

-- imm7 of a pair counts 4, 8 or 16 bytes by opc; 1 is LDPSW among loads of general registers, and STGP among stores
abbrev pub scale_of : Class → ℕ → ℤ
scale_of VectorPairIndexed opc = if opc == 0 then pos 4 else (if opc == 1 then pos 8 else pos 16)
scale_of LoadPairIndexed opc = if opc == 0 then pos 4 else (if opc == 1 then pos 4 else pos 8)
scale_of _ opc = if opc == 0 then pos 4 else (if opc == 1 then pos 16 else pos 8)

-- the offset of a pair
abbrev pub pair_offset : ℕ → Class → ℤ
pair_offset word class = signed (bits_at word 15 7) 0x40 *ℤ scale_of class (bits_at word 30 2)

-- the base register of a pair moved by it
abbrev pub moving_by_pair : Effect → ℕ → Class → Effect
moving_by_pair effect word class = moving effect word (Some (pair_offset word class))

-- ---- where an instruction leads

-- nothing is written, and the next instruction is another
abbrev pub leading : Flow → Effect
leading to = record (plain 4) { flow = to }

-- a distance counts words from the instruction; a flow counts bytes from the next one
abbrev pub distance : ℕ → ℕ → ℤ
distance words highest = signed words highest *ℤ pos 4 -ℤ pos 4

-- opc 1 is BLR, 2 is RET, 9 is BLRAA and BLRAB with a modifier
abbrev pub register_flow : ℕ → Flow
register_flow word =
    let opc = bits_at word 21 4 in
    by_code opc ((1, flow.Call) ∷ (9, flow.Call) ∷ (2, flow.Return) ∷ []) flow.Leaves

-- ---- effects

-- Rs is written, and where L is 1 Rt and Rt2
abbrev pub exclusive : ℕ → Effect
exclusive word =
    let effect = writing (plain 4) (rs word) in
    if bits_at word 22 1 == 1 then writing_pair effect word else effect

-- CASP writes an even register and the one after it
abbrev pub compare_pair : ℕ → Effect
compare_pair word = if bits_at word 17 4 == 14 then writing (plain 4) 29 else plain 4

-- the instructions that copy and set memory write three registers
abbrev pub memory_copy : ℕ → Effect
memory_copy word = writing (writing (writing (plain 4) (rd word)) (rn word)) (rs word)

-- forms that write the base register back; a register that is loaded and is the base too has any value
abbrev pub written_back : ℕ → Class → Effect
written_back word Indexed = moving (plain 4) word (Some (imm9 word))
written_back word LoadIndexed = writing (moving (plain 4) word (Some (imm9 word))) (rd word)
written_back word TagIndexed = moving (plain 4) word (Some (imm9 word *ℤ pos 16))
written_back word PairIndexed = moving_by_pair (plain 4) word PairIndexed
written_back word VectorPairIndexed = moving_by_pair (plain 4) word VectorPairIndexed
written_back word LoadPairIndexed = writing_pair (moving_by_pair (plain 4) word LoadPairIndexed) word
written_back word WriteRtAndBack = moving (writing (plain 4) (rd word)) word None
written_back word _ = moving (plain 4) word None

-- the effect of each class
abbrev pub effect_of_class : ℕ → Class → Effect
effect_of_class word Keep = plain 4
effect_of_class word Padding = leading flow.Padding
effect_of_class word Stop = leading flow.Leaves
effect_of_class word Jump = leading (flow.Jump (distance (bits_at word 0 26) 0x2000000))
effect_of_class word Call = leading flow.Call
effect_of_class word Branch = leading (flow.Branch (distance (bits_at word 5 19) 0x40000))
effect_of_class word TestBranch = leading (flow.Branch (distance (bits_at word 5 14) 0x2000))
effect_of_class word BranchRegister = leading (register_flow word)
effect_of_class word WriteRd = writing (plain 4) (rd word)
effect_of_class word SetRd = setting (plain 4) (rd word) Unknown
effect_of_class word AddImmediate = setting (plain 4) (rd word) (added word)
effect_of_class word WriteRt2 = writing_pair (plain 4) word
effect_of_class word Exclusive = exclusive word
effect_of_class word ComparePair = compare_pair word
effect_of_class word MemoryCopy = memory_copy word
effect_of_class word class = written_back word class

-- the effect of the instruction with that word
unfoldable pub effect_of : ℕ → Effect
effect_of word = effect_of_class word (class_of word)

-- the instruction at an offset: a word of four bytes
abbrev pub effect_in : Parsed ℕ → Option Effect
effect_in (Ok word) = Some (effect_of word.0)
effect_in (Err error) = None

unfoldable pub instruction_at : List ℕ → ℕ → Option Effect
instruction_at code at = effect_in (u32_at code at)
