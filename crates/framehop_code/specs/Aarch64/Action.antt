-- What an instruction of aarch64 does to general registers and to memory, and where it leads, by its word (Arm Architecture
-- Reference Manual for A-profile, "A64 base instruction descriptions"). Pointer authentication codes are not described: a
-- register counts as unchanged where an instruction signs or authenticates it in place.
use Rattle.std.specs.Prelude.{ℕ, ℤ, pos, ◌-ℤ◌, ◌*ℤ◌, ◌+◌, ◌-◌, ◌*◌, ◌/◌, ◌^◌, false, ◌==◌, if◌then◌else◌, bit_or, List, [], ◌∷◌, Option, Some, None, Ok, Err}
use Rattle.framehop_core.specs.Bits.{bits_at}
use Rattle.framehop_bytes.specs.ByCode.{by_code}
use Rattle.framehop_cfi.specs.Aarch64.{X30}
use Rattle.framehop_cfi.specs.Numbers.{Parsed, u32_at}
use Rattle.framehop_cfi.specs.declared.rule.Register.{Register}
use Rattle.framehop_code.specs.declared.action.Action.{Action}
use Rattle.framehop_code.specs.declared.action.Action.TheVariants.{Branch, BranchWithLink, Jump, ReturnTo}
use Rattle.framehop_code.specs.declared.action.Place.TheVariants.{At, Elsewhere}
use Rattle.framehop_code.specs.declared.action.Source.{Source}
use Rattle.framehop_code.specs.declared.action.Source.TheVariants as source
use Rattle.framehop_code.specs.declared.action.Stored.{Stored}
use Rattle.framehop_code.specs.declared.action.Width.TheVariants.{Eight}
use Rattle.framehop_code.specs.declared.aarch64.action.Actions.{Actions}
use Rattle.framehop_code.specs.declared.aarch64.form.Bytes.{Bytes}
use Rattle.framehop_code.specs.declared.aarch64.form.Bytes.TheVariants as memory
use Rattle.framehop_code.specs.declared.aarch64.form.Form.{Form}
use Rattle.framehop_code.specs.declared.aarch64.form.Form.TheVariants as form
use Rattle.framehop_code.specs.declared.aarch64.form.Written.{Written}
use Rattle.framehop_code.specs.declared.aarch64.form.Written.TheVariants as written
use Rattle.framehop_code.specs.Aarch64.Access.{accessed, alone, bytes_at, forgetting, index_of, literal, moved, moved_general, tagged}
use Rattle.framehop_code.specs.Aarch64.Fields.{above, ahead, general_set, is_set, named, pair_size, rd, rm, rn, rt2, set_of, size_of, value_of, width_of}
use Rattle.framehop_code.specs.Aarch64.Forms.{form_of}
use Rattle.framehop_code.specs.Aarch64.Instruction.{distance, imm9, signed}
use Rattle.framehop_code.specs.Aarch64.Pair.{pair}
use Rattle.framehop_code.specs.Aarch64.Structure.{structure, structures}

-- ---- what is forgotten

-- registers: of those but Rn and RdOrSp 31 is none
abbrev pub written_set : ℕ → Written → ℕ
written_set word written.Nothing = 0
written_set word written.Rd = general_set (rd word)
written_set word written.RdOrSp = set_of (rd word)
written_set word written.RdAndRt2 = bit_or (general_set (rd word)) (general_set (rt2 word))
written_set word written.RdAndRn = bit_or (general_set (rd word)) (set_of (rn word))
written_set word written.RdRnAndRs =
    bit_or (bit_or (general_set (rd word)) (general_set (rn word))) (general_set (rm word))
written_set word written.Rs = general_set (rm word)
written_set word written.RsPair =
    let even = (rm word).0 / 2 * 2 in
    bit_or (general_set (record { 0 = even })) (general_set (record { 0 = even + 1 }))
written_set word written.X16 = 0x10000

-- memory
abbrev pub written_memory : ℕ → Bytes → Option Stored
written_memory word memory.Zero = None
written_memory word memory.AtBase = bytes_at (At (above (rn word) (pos 0))) (size_of word)
written_memory word memory.PairAtBase = bytes_at (At (above (rn word) (pos 0))) (pair_size word)
written_memory word memory.AtOffset = bytes_at (At (above (rn word) (imm9 word))) (size_of word)
written_memory word memory.Elsewhere = bytes_at Elsewhere 0

abbrev pub forgotten : ℕ → Written → Bytes → Action
forgotten word registers bytes = forgetting (written_set word registers) (written_memory word bytes)

-- ---- what is moved

-- ADD and SUB (immediate): imm12, shifted by 12 where sh is 1; SUB is op 1
abbrev pub imm12 : ℕ → ℤ
imm12 word = pos (bits_at word 10 12) *ℤ (if is_set word 22 then pos 4096 else pos 1)

abbrev pub sum : ℕ → Source
sum word = source.Address (above (rn word) (if is_set word 30 then pos 0 -ℤ imm12 word else imm12 word))

-- ADD (shifted register): only the low two bits of imm6 are not 0; 31 is the zero register
abbrev pub shifted_sum : ℕ → Source
shifted_sum word =
    let scale = by_code (bits_at word 10 2) ((0, 1) ∷ (1, 2) ∷ (2, 4) ∷ []) 8 in
    source.Address (record { base = named (rn word); index = index_of (rm word) scale; displacement = 0; from_next = false })

-- imm16, shifted by 16, 32 or 48 by hw
abbrev pub wide : ℕ → ℕ
wide word =
    bits_at word 5 16 * by_code (bits_at word 21 2) ((0, 1) ∷ (1, 2 ^ 16) ∷ (2, 2 ^ 32) ∷ []) (2 ^ 48)

-- ADR: immhi and immlo count bytes from the instruction
abbrev pub adr : ℕ → Source
adr word = source.Address (ahead (signed (bits_at word 5 19 * 4 + bits_at word 29 2) 0x100000 -ℤ pos 4))

-- ---- where an instruction leads

-- RET to the zero register is not described
abbrev pub returning : Register → Option Action
returning register = if register.0 == 31 then None else Some (ReturnTo register)

-- a distance counts words
abbrev pub leading : ℕ → Form → Option Action
leading word form.Jump = Some (Jump (source.Address (ahead (distance (bits_at word 0 26) 0x2000000))))
leading word form.Call = Some (BranchWithLink (source.Address (ahead (distance (bits_at word 0 26) 0x2000000))))
leading word form.Branch = Some (Branch (ahead (distance (bits_at word 5 19) 0x40000)))
leading word form.TestBranch = Some (Branch (ahead (distance (bits_at word 5 14) 0x2000)))
leading word form.JumpRegister = Some (Jump (value_of (rn word)))
leading word form.CallRegister = Some (BranchWithLink (value_of (rn word)))
leading word form.Return = returning (rn word)
leading word form.ReturnByLink = Some (ReturnTo (record { 0 = X30 }))
leading word _ = None

-- ---- actions

-- an instruction that has one
abbrev pub action_of : ℕ → Form → Option Action
action_of word (form.Forget registers bytes) = Some (forgotten word registers bytes)
action_of word form.AddImmediate = Some (moved (rd word) (sum word) (width_of word))
action_of word form.AddsImmediate = Some (moved_general (rd word) (sum word) (width_of word))
action_of word form.AddShifted = Some (moved_general (rd word) (shifted_sum word) (width_of word))
action_of word form.MoveRegister = Some (moved_general (rd word) (value_of (rm word)) (width_of word))
action_of word form.MoveWide = Some (moved_general (rd word) (source.Immediate (wide word)) (width_of word))
action_of word form.MoveInverted =
    Some (moved_general (rd word) (source.Immediate (2 ^ 64 - 1 - wide word)) (width_of word))
action_of word form.Adr = Some (moved_general (rd word) (adr word) Eight)
action_of word other = leading word other

abbrev pub alone_if : Option Action → Option Actions
alone_if (Some action) = Some (alone action)
alone_if None = None

-- by the form of the instruction
abbrev pub actions_of : ℕ → Form → Option Actions
actions_of word (form.Access addressing) = accessed word addressing
actions_of word (form.Pair addressing) = Some (pair word addressing)
actions_of word (form.Structures addressing) = structures word addressing
actions_of word (form.Structure addressing) = structure word addressing
actions_of word (form.Tag addressing) = Some (tagged word addressing)
actions_of word form.Literal = Some (literal word)
actions_of word other = alone_if (action_of word other)

abbrev pub actions_in : Parsed ℕ → Option Actions
actions_in (Ok word) = actions_of word.0 (form_of word.0)
actions_in (Err error) = None

-- the instruction at an offset of code: a word of four bytes
unfoldable pub actions_at : List ℕ → ℕ → Option Actions
actions_at code at = actions_in (u32_at code at)
