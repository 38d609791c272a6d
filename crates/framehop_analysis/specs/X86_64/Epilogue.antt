-- Epilogues on x86_64: how many words are still popped, and which of them is rbp (framehop 0.16.0,
-- `x86_64::instruction_analysis::epilogue`).
use Rattle.std.specs.Prelude.{◌≡◌, ℕ, zero, suc, ◌+◌, ◌-◌, ◌^◌, ◌<◌, ◌≤◌, pos, Bool, true, false, not, ◌&&◌, ◌||◌, ◌==◌, if◌then◌else◌, List, [], ◌∷◌, slice_get, Option, Some, None}
use Rattle.framehop_core.specs.Memory.{Memory}
use Rattle.framehop_core.specs.X86_64.Registers.{Registers}
use Rattle.framehop_core.specs.X86_64.Rules.{outcome}
use Rattle.framehop_core.specs.declared.x86_64.unwind_rule.UnwindRuleX86_64.{UnwindRuleX86_64}
use Rattle.framehop_core.specs.declared.x86_64.unwind_rule.UnwindRuleX86_64.TheVariants.{JustReturn, OffsetSp, OffsetSpAndRestoreBp}
use Rattle.framehop_analysis.specs.Answer.{Does}
use Rattle.framehop_analysis.specs.X86_64.Bytes.{is_pop_opcode}
use Rattle.framehop_analysis.specs.X86_64.Machine.{State, HasRegisters, Run, Leaves, Returns}

-- ---- pops

-- the opcode of a pop of any of the first eight registers but rsp
abbrev pub is_plain_pop : ℕ → Bool
is_plain_pop opcode = is_pop_opcode opcode && not (opcode == 0x5C)

-- a pop of so many bytes at an offset, of rbp or of another register; after a prefix 41 it is one of r8 to r15
pub data IsPopBytes (text : List ℕ) (at size : ℕ) (is_bp : Bool) : Type 0 where
  alone : (opcode : ℕ) → slice_get text at ≡ Some opcode → is_plain_pop opcode ≡ true → size ≡ 1
      → is_bp ≡ (opcode == 0x5D) → IsPopBytes text at size is_bp
  after_40 : (opcode : ℕ) → slice_get text at ≡ Some 0x40 → slice_get text (at + 1) ≡ Some opcode
      → is_plain_pop opcode ≡ true → size ≡ 2 → is_bp ≡ (opcode == 0x5D) → IsPopBytes text at size is_bp
  after_41 : (opcode : ℕ) → slice_get text at ≡ Some 0x41 → slice_get text (at + 1) ≡ Some opcode
      → is_pop_opcode opcode ≡ true → size ≡ 2 → is_bp ≡ false → IsPopBytes text at size is_bp

-- these pops, of rbp or not, lie one after another between two offsets
abbrev pub ArePops : List ℕ → ℕ → List Bool → ℕ → Type 0
ArePops text at [] end = at ≡ end
ArePops text at (is_bp ∷ pops) end = (size : ℕ) × IsPopBytes text at size is_bp × ArePops text (at + size) pops end

-- how many words have been popped, and how many of them before the last one that was rbp, if any
pub record Popped : Type 0 where
  pub count : ℕ
  pub before_bp : Option ℕ

abbrev pub none_popped : Popped
none_popped = record { count = 0; before_bp = None }

abbrev pub after_pop : Popped → Bool → Popped
after_pop p is_bp = record { count = p.count + 1; before_bp = if is_bp then Some p.count else p.before_bp }

abbrev pub after_pops : Popped → List Bool → Popped
after_pops p [] = p
after_pops p (is_bp ∷ pops) = after_pops (after_pop p is_bp) pops

-- ---- how it ends

-- the first byte of what is taken for a jump: JMP rel8, JMP rel32, and FF, with which JMP r/m64 begins among others
abbrev pub is_jump : ℕ → Bool
is_jump opcode = (opcode == 0xEB) || (opcode == 0xE9) || (opcode == 0xFF)

-- what is before the end looks like a pop: one that is at the pc or after it, or the byte before the pc
abbrev pub FollowsPop : List ℕ → ℕ → ℕ → Type 0
FollowsPop text pc zero =
    (before : ℕ) × (1 ≤ pc) × (slice_get text (pc - 1) ≡ Some before) × (is_pop_opcode before ≡ true)
FollowsPop text pc (suc count) = Unit {0}

-- the end at an offset, after so many pops: a return, or a jump after a pop, which is taken for a tail call
pub data IsEnd (text : List ℕ) (pc at count : ℕ) : Type 0 where
  returns : slice_get text at ≡ Some 0xC3 → IsEnd text pc at count
  jumps : (opcode : ℕ) → slice_get text at ≡ Some opcode → is_jump opcode ≡ true → FollowsPop text pc count
      → IsEnd text pc at count

-- ---- the rule

-- the rule of the pops: the caller's rsp lies above them and the return address
abbrev pub IsRuleOfPopped : Popped → UnwindRuleX86_64 → Type 0
IsRuleOfPopped p JustReturn = p.count ≡ 0
IsRuleOfPopped p (OffsetSp x) = (0 < p.count) × (x ≡ p.count + 1) × (x < 2 ^ 16) × (p.before_bp ≡ None)
IsRuleOfPopped p (OffsetSpAndRestoreBp x y) =
    (0 < p.count) × (x ≡ p.count + 1) × (x < 2 ^ 16)
    × (before : ℕ) × (p.before_bp ≡ Some before) × (y ≡ pos before) × (before < 2 ^ 15)
IsRuleOfPopped p _ = ⊥

-- the rest of an epilogue from an offset on, where so much has been popped, and its rule
pub record IsRestOfEpilogue (text : List ℕ) (pc at : ℕ) (popped : Popped) (rule : UnwindRuleX86_64) : Type 0 where
  pub pops : List Bool
  pub end : ℕ
  pub stand : ArePops text at pops end
  pub ends : IsEnd text pc end (after_pops popped pops).count
  pub made : IsRuleOfPopped (after_pops popped pops) rule

-- the rule of a pc inside an epilogue
abbrev pub IsEpilogueRule : List ℕ → ℕ → UnwindRuleX86_64 → Type 0
IsEpilogueRule text pc rule = IsRestOfEpilogue text pc pc none_popped rule

-- ---- what it does

-- What is taken for the function's end: an instruction that leaves it, or any other that begins with FF. Of that byte
-- the next one is not looked at, so it can be INC, DEC, CALL, PUSH or a far JMP, or the last byte of the code.
pub data IsTakenForEnd (text : List ℕ) (at : ℕ) : Type 0 where
  leaves : Leaves text at → IsTakenForEnd text at
  other : slice_get text at ≡ Some 0xFF → IsTakenForEnd text at

-- from each state at the pc the machine comes to what is taken for the function's end
abbrev pub EndsFrom : List ℕ → ℕ → Type 0
EndsFrom text pc =
    (here : State) → (count : ℕ) × (end : ℕ) × (out : State) × Run text count pc end here out × IsTakenForEnd text end

-- The epilogue done: wherever the machine's run from the pc up to the first instruction that is taken for the
-- function's end leads from these registers over this memory, the address and the new registers are those of a return
-- from there.
abbrev pub DoneEpilogue : List ℕ → ℕ → Bool → Registers → Memory → ℕ → Registers → Type 0
DoneEpilogue text pc first r memory address new =
    (here out : State) (count end : ℕ) → HasRegisters r here → here.memory ≡ memory → Run text count pc end here out
    → IsTakenForEnd text end → Returns out address new

-- the rule does what the epilogue does
abbrev pub DoesEpilogue : List ℕ → ℕ → UnwindRuleX86_64 → Type 0
DoesEpilogue text pc rule = Does outcome (DoneEpilogue text pc) rule
