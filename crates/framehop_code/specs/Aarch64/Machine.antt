-- The effect of an instruction is what the machine does by which the analysis of prologues and epilogues is judged. They
-- share no word: the machine reads fields of a word, an effect comes by the masks of the encodings.
use Rattle.std.specs.Prelude.{◌≡◌, ◌⊎◌, ℕ, ℤ, pos, ◌+ℤ◌, true, List, Option, Some}
use Rattle.framehop_core.specs.AddSigned.{fitting}
use Rattle.framehop_analysis.specs.Aarch64.Machine as machine
use Rattle.framehop_code.specs.declared.effect.Base.TheVariants.{Sp}
use Rattle.framehop_code.specs.declared.effect.Change.TheVariants.{Sum}
use Rattle.framehop_code.specs.declared.effect.Effect.{Effect}
use Rattle.framehop_code.specs.declared.effect.Flow.TheVariants.{Next, Return}
use Rattle.framehop_code.specs.Effect.{State, Does, is_away}

-- the registers of the machine as whole numbers, where it knows fp
abbrev pub as_numbers : machine.State → ℕ → State
as_numbers s fp = record { sp = pos s.sp; fp = pos fp }

-- sp does not wrap, where an effect moves it
abbrev pub DoesNotWrap : Effect → machine.State → Type 0
DoesNotWrap e s = (bytes : ℤ) → e.sp ≡ Sum Sp bytes → (sum : ℕ) × (fitting 64 (pos s.sp +ℤ bytes) ≡ Some sum)

-- an effect does what the machine does, where that knows fp before and after it, and sp does not wrap
abbrev pub DoesAs : Effect → machine.State → machine.State → Type 0
DoesAs e s t =
    (fp next_fp : ℕ) → s.fp ≡ Some fp → t.fp ≡ Some next_fp → DoesNotWrap e s → Does e (as_numbers s fp) (as_numbers t next_fp)

-- RET and RETAB return; B, BR and their kin lead away; the others of the machine that change registers lead to the next one
pub record LeadsAs (e : Effect) (word : ℕ) : Type 0 where
  pub returns : (word ≡ 0xD65F03C0) ⊎ (word ≡ 0xD65F0FFF) → e.flow ≡ Return
  pub leaves : machine.IsOther word → machine.IsBranch word → is_away e.flow ≡ true
  pub pairs : (load : ℕ) (a : machine.Access) → machine.IsPair load word a → (load ≡ 0) ⊎ (load ≡ 1) → e.flow ≡ Next
  pub sums : (op bytes : ℕ) → machine.IsAddSub op word bytes → (op ≡ 0) ⊎ (op ≡ 1) → e.flow ≡ Next
  pub signs : machine.IsSigning word → e.flow ≡ Next

-- each step of the machine at an offset is what the effect does of the instruction that is found there
pub record IsAsMachine (bytes : List ℕ) (at : ℕ) (found : Option Effect) (word : ℕ) : Type 0 where
  pub effect : Effect
  pub is : found ≡ Some effect
  pub size : effect.size ≡ 4
  pub does : (mask : ℕ) (s t : machine.State) → machine.Step mask word s t → DoesAs effect s t
  pub leads : LeadsAs effect word

abbrev pub AreAsMachine : List ℕ → ℕ → Option Effect → Type 0
AreAsMachine bytes at found = (word : ℕ) → machine.IsInstructionAt bytes at word → IsAsMachine bytes at found word
