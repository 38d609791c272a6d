-- Instruction words of aarch64: which word is which instruction, and its fields (Arm Architecture Reference Manual for
-- A-profile, "A64 instruction set encoding", "Loads and stores", "Data processing -- immediate").
use Rattle.std.specs.Prelude.{◌≡◌, ℕ, ◌+◌, ◌*◌, ◌/◌, ◌%◌, ◌^◌, ℤ, pos, ◌-ℤ◌, Bool, not, ◌&&◌, ◌||◌, ◌==◌, nat_lt, nat_le, if◌then◌else◌, bit_and, List, [], ◌∷◌, length, slice_index, Option, Some, None}
use Rattle.framehop_core.specs.Bits.{bits_at}

-- the little-endian word of 32 bits that a slice has at an offset, if it has all four bytes
abbrev pub word_at : List ℕ → ℕ → Option ℕ
word_at bytes at =
    if nat_le (at + 4) (length bytes)
    then Some (slice_index bytes at + 2 ^ 8 * slice_index bytes (at + 1)
    + 2 ^ 16 * slice_index bytes (at + 2) + 2 ^ 24 * slice_index bytes (at + 3))
    else None

-- these words lie one after another in the slice, from an offset on
abbrev pub AreWordsAt : List ℕ → ℕ → List ℕ → Type 0
AreWordsAt bytes at [] = Unit {0}
AreWordsAt bytes at (word ∷ words) = (word_at bytes at ≡ Some word) × AreWordsAt bytes (at + 4) words

-- ---- register pairs: STP and LDP of 64-bit registers

-- Rn, the base register, where 31 is sp
abbrev pub base_register : ℕ → ℕ
base_register word = bits_at word 5 5

-- the addressing mode: 1 is post-indexed, 2 has a signed offset, 3 is pre-indexed
abbrev pub addressing : ℕ → ℕ
addressing word = bits_at word 23 2

-- Rt and Rt2
abbrev pub first_register : ℕ → ℕ
first_register word = word % 2 ^ 5

abbrev pub second_register : ℕ → ℕ
second_register word = bits_at word 10 5

-- imm7, which is signed and counts words of 8 bytes
abbrev pub pair_offset : ℕ → ℤ
pair_offset word =
    let units = bits_at word 15 7 in
    if nat_lt units 64 then pos (units * 8) else pos (units * 8) -ℤ pos 1024

-- the word accesses a pair by sp, in one of the three modes
abbrev pub is_pair_by_sp : ℕ → Bool
is_pair_by_sp word = not (addressing word == 0) && (base_register word == 31)

-- STP and LDP of two registers by sp
abbrev pub is_store : ℕ → Bool
is_store word = (bit_and (word / 2 ^ 22) 0x2F9 == 0x2A0) && is_pair_by_sp word

abbrev pub is_load : ℕ → Bool
is_load word = (bit_and (word / 2 ^ 22) 0x2F9 == 0x2A1) && is_pair_by_sp word

-- the access writes its address back to sp
abbrev pub is_indexed : ℕ → Bool
is_indexed word = not (addressing word == 2)

-- ---- ADD and SUB (immediate), 64-bit

-- the operation is 0x122 for ADD and 0x1A2 for SUB
abbrev pub operation : ℕ → ℕ
operation word = bits_at word 23 9

-- Rd, where 31 is sp
abbrev pub destination : ℕ → ℕ
destination word = word % 2 ^ 5

-- imm12, shifted left by 12 where bit 22 is set
abbrev pub immediate : ℕ → ℕ
immediate word = if bits_at word 22 1 == 1 then bits_at word 10 12 * 4096 else bits_at word 10 12

-- SUB and ADD (immediate) of sp, to sp
abbrev pub is_sub_sp : ℕ → Bool
is_sub_sp word = (operation word == 0x1A2) && (base_register word == 31) && (destination word == 31)

abbrev pub is_add_sp : ℕ → Bool
is_add_sp word = (operation word == 0x122) && (base_register word == 31) && (destination word == 31)

-- `add x29, sp, #imm`, of which `mov x29, sp` is the case with 0
abbrev pub is_add_fp : ℕ → Bool
is_add_fp word = (operation word == 0x122) && (base_register word == 31) && (destination word == 29)

-- ---- pointer authentication, and branches

-- PACIBSP: signs lr
abbrev pub is_pacibsp : ℕ → Bool
is_pacibsp word = word == 0xD503237F

-- AUTIBSP: authenticates lr
abbrev pub is_autibsp : ℕ → Bool
is_autibsp word = word == 0xD50323FF

-- an instruction that signs lr or authenticates it
abbrev pub is_signing : ℕ → Bool
is_signing word = is_pacibsp word || is_autibsp word

-- RET, and RETAB, which authenticates lr as it returns
abbrev pub is_return : ℕ → Bool
is_return word = (word == 0xD65F03C0) || (word == 0xD65F0FFF)

-- B
abbrev pub is_b : ℕ → Bool
is_b word = bits_at word 26 6 == 5

-- BR
abbrev pub is_br : ℕ → Bool
is_br word = bit_and word 0xFFFFFC1F == 0xD61F0000

-- `braa xN, x16`
abbrev pub is_braa : ℕ → Bool
is_braa word = (bit_and word 0xFFFFFC00 == 0xD71F0800) && (destination word == 16)

-- MOV (wide immediate) to x16
abbrev pub is_mov : ℕ → Bool
is_mov word = (bit_and (word / 2 ^ 23) 0x1C7 == 0x185) && (destination word == 16)

-- the check between the authentication of lr and a tail call: `eor x16, x30, x30, lsl #1`, `tbz x16, #62, #8` and
-- `brk #0xc471`
abbrev pub is_check : ℕ → Bool
is_check word = (word == 0xCA1E07D0) || (word == 0xB6F00050) || (word == 0xD4388E20)

-- an unconditional branch: B, or one of the class "Unconditional branch (register)", as BR, RET and BRAA
abbrev pub is_branch : ℕ → Bool
is_branch word = is_b word || (bits_at word 25 7 == 0x6B)

-- the instructions that change neither sp, fp nor lr
abbrev pub is_other : ℕ → Bool
is_other word = is_return word || is_b word || is_br word || is_braa word || is_mov word || is_check word
