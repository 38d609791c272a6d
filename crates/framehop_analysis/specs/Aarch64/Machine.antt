-- The aarch64 machine, as far as prologues and epilogues go: what an instruction does to sp, fp (x29), lr (x30) and the
-- stack. Instructions are read as the Arm Architecture Reference Manual for A-profile draws them ("A64 base instruction
-- descriptions"), and by no word of the analysis that this machine judges.
use Rattle.std.specs.Prelude.{◌≡◌, ◌≢◌, ◌⊎◌, ℕ, zero, suc, ◌+◌, ◌-◌, ◌*◌, ◌/◌, ◌%◌, ◌^◌, ℤ, pos, ◌-ℤ◌, ◌*ℤ◌, ◌==◌, nat_lt, if◌then◌else◌, List, slice_get, Option, Some, option_map}
use Rattle.framehop_core.specs.AddSigned.{modulo, sum_with}
use Rattle.framehop_core.specs.Memory.{Memory}
use Rattle.framehop_core.specs.Aarch64.Registers.{Registers, strip_ptr_auth}

-- the registers, where fp or lr can hold an unknown value, and the stack
pub record State : Type 0 where
  pub sp : ℕ
  pub fp : Option ℕ
  pub lr : Option ℕ
  pub memory : Memory

-- the state has the registers' values: all are known, and lr without its authentication bits is the stripped one
pub record HasRegisters (r : Registers) (s : State) : Type 0 where
  pub sp : s.sp ≡ r.sp
  pub fp : s.fp ≡ Some r.fp
  pub lr : option_map (strip_ptr_auth r.lr_mask) s.lr ≡ Some r.lr

-- the address so many bytes from another: sums of addresses wrap at 64 bits
abbrev pub offset_by : ℕ → ℤ → ℕ
offset_by address bytes = modulo 64 (sum_with address bytes)

-- the state with sp moved by so many bytes
abbrev pub with_sp_moved : State → ℤ → State
with_sp_moved s bytes = record s { sp = offset_by s.sp bytes }

-- ---- instructions

-- an instruction is at an offset: four bytes, the lowest of the word first
pub record IsInstructionAt (bytes : List ℕ) (at word : ℕ) : Type 0 where
  pub first : ℕ
  pub second : ℕ
  pub third : ℕ
  pub fourth : ℕ
  pub first_is : slice_get bytes at ≡ Some first
  pub second_is : slice_get bytes (at + 1) ≡ Some second
  pub third_is : slice_get bytes (at + 2) ≡ Some third
  pub fourth_is : slice_get bytes (at + 3) ≡ Some fourth
  pub word_is : word ≡ first + 2 ^ 8 * second + 2 ^ 16 * third + 2 ^ 24 * fourth

-- bits of an instruction from a highest to a lowest one, which the manual writes `word<high:low>`
abbrev pub field : ℕ → ℕ → ℕ → ℕ
field word high low = word / 2 ^ low % 2 ^ (high + 1 - low)

-- a field of so many bits as a signed number
abbrev pub sign_extended : ℕ → ℕ → ℤ
sign_extended bits value = if nat_lt value (2 ^ (bits - 1)) then pos value else pos value -ℤ pos (2 ^ bits)

-- a pair access by sp: its addressing mode, its offset in bytes, and the numbers of its two registers
pub record Access : Type 0 where
  pub mode : ℕ
  pub offset : ℤ
  pub first : ℕ
  pub second : ℕ

-- STP or LDP of 64-bit registers by sp: opc 10, 101, 0, 0, a mode, L (0 for STP), imm7 in units of 8 bytes, Rt2, Rn and
-- Rt. Mode 1 is post-indexed, mode 2 has a signed offset, mode 3 is pre-indexed. The low bit of opc is not read: no
-- instruction has 11.
pub record IsPair (load word : ℕ) (a : Access) : Type 0 where
  pub opc : field word 31 31 ≡ 1
  pub class : field word 29 25 ≡ 0x14
  pub mode_is : a.mode ≡ field word 24 23
  pub mode_known : a.mode ≢ 0
  pub l : field word 22 22 ≡ load
  pub imm7 : a.offset ≡ sign_extended 7 (field word 21 15) *ℤ pos 8
  pub rt2 : a.second ≡ field word 14 10
  pub rn : field word 9 5 ≡ 31
  pub rt : a.first ≡ field word 4 0

-- ADD or SUB (immediate) of 64 bits from sp to sp: sf 1, op (0 for ADD), S 0, 100010, sh, imm12, Rn and Rd; imm12 is
-- shifted left by 12 where sh is 1
pub record IsAddSub (op word bytes : ℕ) : Type 0 where
  pub opcode : field word 31 23 ≡ 0x122 + 2 ^ 7 * op
  pub imm12 : bytes ≡ field word 21 10 * (if field word 22 22 == 1 then 2 ^ 12 else 1)
  pub rn : field word 9 5 ≡ 31
  pub rd : field word 4 0 ≡ 31

-- PACIBSP and AUTIBSP, which sign and authenticate lr
pub data IsSigning (word : ℕ) : Type 0 where
  pacibsp : word ≡ 0xD503237F → IsSigning word
  autibsp : word ≡ 0xD50323FF → IsSigning word

-- Instructions that change neither sp, fp, lr nor the stack: RET, RETAB, B, BR, `braa xN, x16`, the three between the
-- authentication of lr and a tail call (`eor x16, x30, x30, lsl #1`, `tbz x16, #62, #8`, `brk #0xc471`), and
-- `mov x16, #imm` with any bits 28 to 26: those of the form that are no MOVZ write x16 or v16, or are no instruction.
pub data IsOther (word : ℕ) : Type 0 where
  ret : word ≡ 0xD65F03C0 → IsOther word
  retab : word ≡ 0xD65F0FFF → IsOther word
  b : field word 31 26 ≡ 5 → IsOther word
  br : field word 31 10 ≡ 0x3587C0 → field word 4 0 ≡ 0 → IsOther word
  braa : field word 31 10 ≡ 0x35C7C2 → field word 4 0 ≡ 16 → IsOther word
  mov : field word 31 29 ≡ 6 → field word 25 23 ≡ 5 → field word 4 0 ≡ 16 → IsOther word
  eor : word ≡ 0xCA1E07D0 → IsOther word
  tbz : word ≡ 0xB6F00050 → IsOther word
  brk : word ≡ 0xD4388E20 → IsOther word

-- an unconditional branch: B, or one of the class "Unconditional branch (register)", as BR, RET and BRAA
abbrev pub IsBranch : ℕ → Type 0
IsBranch word = (field word 31 26 ≡ 5) ⊎ (field word 31 25 ≡ 0x6B)

-- ---- what they do

-- where a pair access begins: a post-indexed one at sp as it is
abbrev pub access_address : Access → ℕ → ℕ
access_address a sp = if a.mode == 1 then sp else offset_by sp a.offset

-- sp after it: only the form with a plain offset keeps it
abbrev pub sp_after_access : Access → ℕ → ℕ
sp_after_access a sp = if a.mode == 2 then sp else offset_by sp a.offset

-- a register's value after a load of a pair: the second register is loaded last
abbrev pub loaded : Access → ℕ → Option ℕ → Option ℕ → Option ℕ → Option ℕ
loaded a register first second old =
    if a.second == register then second
    else (if a.first == register then first else old)

-- the state after a load: a register whose word is absent is unknown
abbrev pub after_load : Access → State → State
after_load a s =
    let address = access_address a s.sp in
    let first = s.memory address in
    let second = s.memory (offset_by address (pos 8)) in
    record {
      sp = sp_after_access a s.sp;
      fp = loaded a 29 first second s.fp;
      lr = loaded a 30 first second s.lr;
      memory = s.memory;
    }

-- two values of lr, equal but for authentication bits: those that the mask lacks
abbrev pub SameAddress : ℕ → Option ℕ → Option ℕ → Type 0
SameAddress mask old new = option_map (strip_ptr_auth mask) old ≡ option_map (strip_ptr_auth mask) new

-- only lr has changed, in authentication bits
pub record Signs (mask : ℕ) (s t : State) : Type 0 where
  pub others : t ≡ record s { lr = t.lr }
  pub address : SameAddress mask s.lr t.lr

-- One instruction, and the states before and after it. A store may change memory in any way.
pub data Step (mask word : ℕ) (s t : State) : Type 0 where
  by_store : (a : Access) → IsPair 0 word a → t ≡ record s { sp = sp_after_access a s.sp; memory = t.memory }
      → Step mask word s t
  by_load : (a : Access) → IsPair 1 word a → t ≡ after_load a s → Step mask word s t
  by_add : (bytes : ℕ) → IsAddSub 0 word bytes → t ≡ with_sp_moved s (pos bytes) → Step mask word s t
  by_sub : (bytes : ℕ) → IsAddSub 1 word bytes → t ≡ with_sp_moved s (pos 0 -ℤ pos bytes) → Step mask word s t
  by_signing : IsSigning word → Signs mask s t → Step mask word s t
  by_other : IsOther word → t ≡ s → Step mask word s t

-- so many instructions, one after another, from an offset of the code on
abbrev pub Run : ℕ → List ℕ → ℕ → ℕ → State → State → Type 0
Run mask bytes zero at s t = s ≡ t
Run mask bytes (suc count) at s t =
    (word : ℕ) × IsInstructionAt bytes at word × (next : State) × Step mask word s next
    × Run mask bytes count (at + 4) next t

-- Instructions one after another from an offset of the code on, up to and with the first unconditional branch: a call
-- of the function has then returned, or has become a call of another one. The check before a tail call jumps over its
-- `brk` where it succeeds, and neither changes the state.
abbrev pub RunOut : ℕ → List ℕ → ℕ → ℕ → State → State → Type 0
RunOut mask bytes zero at s t = (word : ℕ) × IsInstructionAt bytes at word × IsBranch word × Step mask word s t
RunOut mask bytes (suc count) at s t =
    (word : ℕ) × IsInstructionAt bytes at word × (IsBranch word → ⊥)
    × (next : State) × Step mask word s next × RunOut mask bytes count (at + 4) next t
