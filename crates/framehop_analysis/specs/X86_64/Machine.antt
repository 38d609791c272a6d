-- The x86_64 machine, as far as prologues and epilogues go: what an instruction does to rsp, rbp and the stack (Intel
-- 64 and IA-32 Architectures Software Developer's Manual, volume 2, PUSH, POP, MOV, RET and JMP). rsp does not wrap.
use Rattle.std.specs.Prelude.{◌≡◌, ◌≢◌, ℕ, zero, suc, ◌+◌, ◌*◌, ◌/◌, ◌%◌, ◌<◌, ◌≤◌, ◌==◌, if◌then◌else◌, ◌⊎◌, List, slice_get, Option, Some, None}
use Rattle.framehop_core.specs.Memory.{Memory}
use Rattle.framehop_core.specs.X86_64.Registers.{Registers}

-- the registers, where rbp can hold an unknown value, and the stack
pub record State : Type 0 where
  pub sp : ℕ
  pub bp : Option ℕ
  pub memory : Memory

-- the state has the registers' values
pub record HasRegisters (r : Registers) (s : State) : Type 0 where
  pub sp : s.sp ≡ r.rsp
  pub bp : s.bp ≡ Some r.rbp

-- ---- instructions

-- An instruction between two offsets whose opcode has a register's number added (`50+rd`): the low bit of a prefix 40
-- or 41 is the number's fourth bit.
pub data IsOpcodePlus (text : List ℕ) (opcode at next register : ℕ) : Type 0 where
  short : register < 8 → slice_get text at ≡ Some (opcode + register) → next ≡ at + 1
      → IsOpcodePlus text opcode at next register
  long : (low high : ℕ) → low < 8 → high < 2 → slice_get text at ≡ Some (0x40 + high)
      → slice_get text (at + 1) ≡ Some (opcode + low) → next ≡ at + 2 → register ≡ low + 8 * high
      → IsOpcodePlus text opcode at next register

-- PUSH r64: 50+rd
abbrev pub IsPush : List ℕ → ℕ → ℕ → ℕ → Type 0
IsPush text at next register = IsOpcodePlus text 0x50 at next register

-- POP r64: 58+rd
abbrev pub IsPop : List ℕ → ℕ → ℕ → ℕ → Type 0
IsPop text at next register = IsOpcodePlus text 0x58 at next register

-- MOV r64, r64 between two of the first eight registers: REX.W, 89, and a ModRM byte with both numbers
pub record IsMove (text : List ℕ) (at next source destination : ℕ) : Type 0 where
  pub source_fits : source < 8
  pub destination_fits : destination < 8
  pub rex : slice_get text at ≡ Some 0x48
  pub opcode : slice_get text (at + 1) ≡ Some 0x89
  pub registers : slice_get text (at + 2) ≡ Some (0xC0 + 8 * source + destination)
  pub next_is : next ≡ at + 3

-- ---- what they do; register 4 is rsp, register 5 rbp

-- a push lowers rsp by 8 and writes a word there; words that do not overlap it stay
pub record Pushes (register : ℕ) (s t : State) : Type 0 where
  pub sp : t.sp + 8 ≡ s.sp
  pub bp : t.bp ≡ s.bp
  pub stored : register ≡ 5 → t.memory t.sp ≡ s.bp
  pub others : (address : ℕ) → (address + 8 ≤ t.sp) ⊎ (t.sp + 8 ≤ address) → t.memory address ≡ s.memory address

-- a pop loads the word at rsp and raises rsp by 8; a pop of rsp can leave any rsp
pub record Pops (register : ℕ) (s t : State) : Type 0 where
  pub sp : register ≢ 4 → t.sp ≡ s.sp + 8
  pub bp : t.bp ≡ (if register == 5 then s.memory s.sp else s.bp)
  pub memory : t.memory ≡ s.memory

-- the value of a register, where it is known
abbrev pub value_of : State → ℕ → Option ℕ
value_of s register = if register == 4 then Some s.sp else (if register == 5 then s.bp else None)

-- a move copies a register; one to rsp can leave any rsp
pub record Moves (source destination : ℕ) (s t : State) : Type 0 where
  pub sp : destination ≢ 4 → t.sp ≡ s.sp
  pub bp : t.bp ≡ (if destination == 5 then value_of s source else s.bp)
  pub memory : t.memory ≡ s.memory

-- one instruction between two offsets, and the states before and after it
pub data Step (text : List ℕ) (at next : ℕ) (s t : State) : Type 0 where
  by_push : (register : ℕ) → IsPush text at next register → Pushes register s t → Step text at next s t
  by_pop : (register : ℕ) → IsPop text at next register → Pops register s t → Step text at next s t
  by_move : (source destination : ℕ) → IsMove text at next source destination → Moves source destination s t
      → Step text at next s t

-- so many instructions, one after another, between two offsets
abbrev pub Run : List ℕ → ℕ → ℕ → ℕ → State → State → Type 0
Run text zero at end s t = (at ≡ end) × (s ≡ t)
Run text (suc count) at end s t = (next : ℕ) × (u : State) × Step text at next s u × Run text count next end u t

-- ---- a function's entry and end

-- At an offset is an instruction that leaves the function: a return, or a jump out of it, whose callee then returns in
-- its place. JMP r/m64 is FF /4: bits 3 to 5 of the ModRM byte are 4. Where a jump leads to is not judged.
pub data Leaves (text : List ℕ) (at : ℕ) : Type 0 where
  by_ret : slice_get text at ≡ Some 0xC3 → Leaves text at
  by_jmp_rel8 : slice_get text at ≡ Some 0xEB → Leaves text at
  by_jmp_rel32 : slice_get text at ≡ Some 0xE9 → Leaves text at
  by_jmp_rm64 : (modrm : ℕ) → slice_get text at ≡ Some 0xFF → slice_get text (at + 1) ≡ Some modrm
      → modrm / 8 % 8 ≡ 4 → Leaves text at

-- a return from a state leads to an address and leaves these registers: the word at rsp is the address
pub record Returns (s : State) (address : ℕ) (new : Registers) : Type 0 where
  pub rsp : new.rsp ≡ s.sp + 8
  pub rbp : s.bp ≡ Some new.rbp
  pub word : s.memory s.sp ≡ Some address
  pub ip : new.ip ≡ address
