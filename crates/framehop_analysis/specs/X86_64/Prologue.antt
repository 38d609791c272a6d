-- Prologues on x86_64: how many words have been pushed, or that the frame is set up (framehop 0.16.0,
-- `x86_64::instruction_analysis::prologue`).
use Rattle.std.specs.Prelude.{◌≡◌, ℕ, zero, suc, ◌+◌, ◌-◌, ◌*◌, ◌^◌, ◌<◌, ◌≤◌, Bool, true, ◌&&◌, ◌||◌, ◌==◌, List, length, slice_get, slice_index, Some}
use Rattle.framehop_core.specs.Memory.{Memory}
use Rattle.framehop_core.specs.X86_64.Registers.{Registers}
use Rattle.framehop_core.specs.X86_64.Rules.{outcome}
use Rattle.framehop_core.specs.declared.x86_64.unwind_rule.UnwindRuleX86_64.{UnwindRuleX86_64}
use Rattle.framehop_core.specs.declared.x86_64.unwind_rule.UnwindRuleX86_64.TheVariants.{OffsetSp, UseFramePointer}
use Rattle.framehop_analysis.specs.Answer.{Does}
use Rattle.framehop_analysis.specs.X86_64.Bytes.{is_prefix, is_push}
use Rattle.framehop_analysis.specs.X86_64.Machine.{State, HasRegisters, Run, Returns}

-- ---- the pushes before the pc

-- a push between two offsets, with or without a prefix
pub data IsPushBytes (text : List ℕ) (at next : ℕ) : Type 0 where
  plain : (opcode : ℕ) → slice_get text at ≡ Some opcode → is_push opcode ≡ true → next ≡ at + 1
      → IsPushBytes text at next
  prefixed : (prefix opcode : ℕ) → slice_get text at ≡ Some prefix → is_prefix prefix ≡ true
      → slice_get text (at + 1) ≡ Some opcode → is_push opcode ≡ true → next ≡ at + 2 → IsPushBytes text at next

-- the byte before an offset, if any, is a prefix
abbrev pub IsPrefixBefore : List ℕ → ℕ → Type 0
IsPrefixBefore text at = (prefix : ℕ) × (0 < at) × (slice_get text (at - 1) ≡ Some prefix) × (is_prefix prefix ≡ true)

-- a push that ends at an offset, with the prefix before its opcode, if there is one
pub record IsPushBefore (text : List ℕ) (end start : ℕ) : Type 0 where
  pub push : IsPushBytes text start end
  pub whole : start + 1 ≡ end → ¬ IsPrefixBefore text start

-- so many pushes, one after another, between two offsets
abbrev pub ArePushes : List ℕ → ℕ → ℕ → ℕ → Type 0
ArePushes text zero start end = start ≡ end
ArePushes text (suc count) start end = (last : ℕ) × ArePushes text count start last × IsPushBytes text last end

-- The longest list of pushes that ends at the pc: none starts before it, and none has more.
pub record AreLongestPushes (text : List ℕ) (pc start count : ℕ) : Type 0 where
  pub pushes : ArePushes text count start pc
  pub longest : (other_start other : ℕ) → ArePushes text other other_start pc → (start ≤ other_start) × (other ≤ count)

-- `push rbp; mov rbp, rsp` before an offset
pub record IsFrameSetUpBefore (text : List ℕ) (at : ℕ) : Type 0 where
  pub room : 4 ≤ at
  pub push : slice_get text (at - 4) ≡ Some 0x55
  pub rex : slice_get text (at - 3) ≡ Some 0x48
  pub mov : slice_get text (at - 2) ≡ Some 0x89
  pub registers : slice_get text (at - 1) ≡ Some 0xE5

-- ---- the next instruction

-- an instruction of a prologue begins with these bytes: `push`, `sub rsp, imm8`, `sub rsp, imm32` (each of them with or
-- without a prefix) or `mov rbp, rsp`
abbrev pub begins_prologue : ℕ → ℕ → ℕ → Bool
begins_prologue a b c =
    is_push a || (is_prefix a && is_push b)
    || ((a == 0x83) && (b == 0xEC)) || ((a == 0x48) && (b == 0x83) && (c == 0xEC))
    || ((a == 0x81) && (b == 0xEC)) || ((a == 0x48) && (b == 0x81) && (c == 0xEC))
    || ((a == 0x48) && (b == 0x89) && (c == 0xE5))

-- four bytes are left from the pc on, and they begin so
pub record IsNext (text : List ℕ) (pc : ℕ) : Type 0 where
  pub room : pc + 4 ≤ length text
  pub begins : begins_prologue (slice_index text pc) (slice_index text (pc + 1)) (slice_index text (pc + 2)) ≡ true

-- ---- the rule

-- the rule of so many pushes from a start: where the frame is set up before them, the frame pointer's; else the
-- caller's rsp lies above them and the return address
abbrev pub IsRuleOfPushes : List ℕ → ℕ → ℕ → UnwindRuleX86_64 → Type 0
IsRuleOfPushes text start count UseFramePointer = IsFrameSetUpBefore text start
IsRuleOfPushes text start count (OffsetSp x) = ¬ IsFrameSetUpBefore text start × (x ≡ count + 1) × (x < 2 ^ 16)
IsRuleOfPushes text start count _ = ⊥

-- the rule of a pc inside a prologue
pub record IsPrologueRule (text : List ℕ) (pc : ℕ) (rule : UnwindRuleX86_64) : Type 0 where
  pub next : IsNext text pc
  pub start : ℕ
  pub count : ℕ
  pub longest : AreLongestPushes text pc start count
  pub made : IsRuleOfPushes text start count rule

-- ---- what it undoes

-- where the instructions begin that have been read: with the frame's set-up before the pushes, or else with these
pub data BeginsAt (text : List ℕ) (pc start : ℕ) : Type 0 where
  framed : (count : ℕ) → AreLongestPushes text pc (start + 4) count → IsFrameSetUpBefore text (start + 4)
      → BeginsAt text pc start
  frameless : (count : ℕ) → AreLongestPushes text pc start count → ¬ IsFrameSetUpBefore text start
      → BeginsAt text pc start

-- The prologue undone: wherever the machine's run over its instructions leads from a state at the function's entry to
-- these registers over this memory, the address and the new registers are those of a return from the entry.
abbrev pub UndonePrologue : List ℕ → ℕ → Bool → Registers → Memory → ℕ → Registers → Type 0
UndonePrologue text pc first r memory address new =
    (start : ℕ) → BeginsAt text pc start → (entry here : State) (count : ℕ) → Run text count start pc entry here
    → HasRegisters r here → here.memory ≡ memory → Returns entry address new

-- the rule undoes the prologue
abbrev pub UndoesPrologue : List ℕ → ℕ → UnwindRuleX86_64 → Type 0
UndoesPrologue text pc rule = Does outcome (UndonePrologue text pc) rule

-- There are such instructions: from each state that has room on the stack the machine comes to the pc.
pub record ReachesFrom (text : List ℕ) (pc : ℕ) : Type 0 where
  pub start : ℕ
  pub count : ℕ
  pub begins : BeginsAt text pc start
  pub run : (entry : State) → 8 * count ≤ entry.sp → (here : State) × Run text count start pc entry here
