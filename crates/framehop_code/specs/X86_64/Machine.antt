-- The effect of an instruction is what the machine does by which the analysis of prologues and epilogues is judged. They
-- share no word: the machine has rows of bytes of its own, an effect comes by the parts of an instruction and the opcode
-- maps.
use Rattle.std.specs.Prelude.{◌≡◌, ℕ, ◌+◌, ◌*◌, ◌^◌, ℤ, pos, ◌-ℤ◌, true, List, [], ◌∷◌, slice_get, Option, Some}
use Rattle.std.specs.Int.{cast_signed, w8, w32}
use Rattle.framehop_analysis.specs.X86_64.Machine as machine
use Rattle.framehop_code.specs.declared.effect.Base.TheVariants.{Sp, Fp}
use Rattle.framehop_code.specs.declared.effect.Change.{Change}
use Rattle.framehop_code.specs.declared.effect.Change.TheVariants.{Sum, Unknown}
use Rattle.framehop_code.specs.declared.effect.Effect.{Effect}
use Rattle.framehop_code.specs.declared.effect.Flow.TheVariants.{Next, Return}
use Rattle.framehop_code.specs.Effect.{State, Does, kept, is_away}

-- the registers of the machine as whole numbers, where it knows rbp
abbrev pub as_numbers : machine.State → ℕ → State
as_numbers s bp = record { sp = pos s.sp; fp = pos bp }

-- an effect does what the machine does, where that knows rbp before and after it
abbrev pub DoesAs : Effect → machine.State → machine.State → Type 0
DoesAs e s t = (bp next_bp : ℕ) → s.bp ≡ Some bp → t.bp ≡ Some next_bp → Does e (as_numbers s bp) (as_numbers t next_bp)

-- the instruction that was found ends at an offset, leads to the next one, and its effect does what the machine does
pub record IsStep (found : Option Effect) (at next : ℕ) (step : machine.State → machine.State → Type 0) : Type 0 where
  pub effect : Effect
  pub is : found ≡ Some effect
  pub ends : at + effect.size ≡ next
  pub flow : effect.flow ≡ Next
  pub does : (s t : machine.State) → step s t → DoesAs effect s t

-- A move to rsp copies the source, where the machine knows that; it says of such a move only what rbp becomes.
abbrev pub CopiesToSp : ℕ → ℕ → machine.State → machine.State → Type 0
CopiesToSp source destination s t = (value : ℕ) → destination ≡ 4 → machine.value_of s source ≡ Some value → t.sp ≡ value

abbrev pub MovesAll : ℕ → ℕ → machine.State → machine.State → Type 0
MovesAll source destination s t = machine.Moves source destination s t × CopiesToSp source destination s t

-- nothing is changed, and it leads out of the function or to another instruction
pub record IsEnd (effect : Effect) : Type 0 where
  pub sp : effect.sp ≡ kept Sp
  pub fp : effect.fp ≡ kept Fp
  pub away : is_away effect.flow ≡ true

-- ---- forms that the machine lacks, as the manual writes them

-- bytes that are one after another from an offset on
abbrev pub AreAt : List ℕ → ℕ → List ℕ → Type 0
AreAt text at [] = Unit {0}
AreAt text at (byte ∷ bytes) = (slice_get text at ≡ Some byte) × AreAt text (at + 1) bytes

-- a signed number of four bytes
abbrev pub signed_of : ℕ → ℕ → ℕ → ℕ → ℤ
signed_of a b c d = cast_signed w32 (a + 2 ^ 8 * b + 2 ^ 16 * c + 2 ^ 24 * d)

-- An instruction that moves rsp by so many bytes. ADD r/m64, imm8 is REX.W 83 /0 ib, and SUB is /5; ADD r/m64, imm32 is REX.W
-- 81 /0 id; LEA r64, m is REX.W 8D /r, with rsp as the base of a SIB byte 24. The bytes are those of rsp.
pub data IsMoveOfSp (text : List ℕ) (at next : ℕ) (bytes : ℤ) : Type 0 where
  add_byte : (a : ℕ) → AreAt text at (0x48 ∷ 0x83 ∷ 0xC4 ∷ a ∷ []) → next ≡ at + 4 → bytes ≡ cast_signed w8 a
      → IsMoveOfSp text at next bytes
  sub_byte : (a : ℕ) → AreAt text at (0x48 ∷ 0x83 ∷ 0xEC ∷ a ∷ []) → next ≡ at + 4 → bytes ≡ pos 0 -ℤ cast_signed w8 a
      → IsMoveOfSp text at next bytes
  lea_byte : (a : ℕ) → AreAt text at (0x48 ∷ 0x8D ∷ 0x64 ∷ 0x24 ∷ a ∷ []) → next ≡ at + 5 → bytes ≡ cast_signed w8 a
      → IsMoveOfSp text at next bytes
  add_long : (a b c d : ℕ) → AreAt text at (0x48 ∷ 0x81 ∷ 0xC4 ∷ a ∷ b ∷ c ∷ d ∷ []) → next ≡ at + 7
      → bytes ≡ signed_of a b c d → IsMoveOfSp text at next bytes
  sub_long : (a b c d : ℕ) → AreAt text at (0x48 ∷ 0x81 ∷ 0xEC ∷ a ∷ b ∷ c ∷ d ∷ []) → next ≡ at + 7
      → bytes ≡ pos 0 -ℤ signed_of a b c d → IsMoveOfSp text at next bytes
  lea_long : (a b c d : ℕ) → AreAt text at (0x48 ∷ 0x8D ∷ 0xA4 ∷ 0x24 ∷ a ∷ b ∷ c ∷ d ∷ []) → next ≡ at + 8
      → bytes ≡ signed_of a b c d → IsMoveOfSp text at next bytes

-- the instruction that was found ends at an offset, leads to the next one, and has this effect on the registers
pub record IsEffect (found : Option Effect) (at next : ℕ) (sp fp : Change) : Type 0 where
  pub effect : Effect
  pub is : found ≡ Some effect
  pub ends : at + effect.size ≡ next
  pub flow : effect.flow ≡ Next
  pub sp_is : effect.sp ≡ sp
  pub fp_is : effect.fp ≡ fp

-- ---- all of them

-- Each instruction of the machine that is at an offset has its effect: pushes, pops, moves, and those that leave. So have the
-- forms that move rsp, and LEAVE, C9, which is `mov rsp, rbp` and `pop rbp`.
pub record IsAsMachine (text : List ℕ) (at : ℕ) (found : Option Effect) : Type 0 where
  pub pushes : (next register : ℕ) → machine.IsPush text at next register → IsStep found at next (machine.Pushes register)
  pub pops : (next register : ℕ) → machine.IsPop text at next register → IsStep found at next (machine.Pops register)
  pub moves : (next source destination : ℕ) → machine.IsMove text at next source destination
      → IsStep found at next (MovesAll source destination)
  pub returns : slice_get text at ≡ Some 0xC3 → (e : Effect) × (found ≡ Some e) × (e.size ≡ 1) × (e.flow ≡ Return)
  pub leaves : (e : Effect) → machine.Leaves text at → found ≡ Some e → IsEnd e
  pub sums : (next : ℕ) (bytes : ℤ) → IsMoveOfSp text at next bytes → IsEffect found at next (Sum Sp bytes) (kept Fp)
  pub leave : slice_get text at ≡ Some 0xC9 → IsEffect found at (at + 1) (Sum Fp (pos 8)) Unknown
