-- Prologues on aarch64: how far sp lies below the caller's, and what the unwind rule undoes (framehop 0.16.0,
-- `aarch64::instruction_analysis::prologue`).
use Rattle.std.specs.Prelude.{◌≡◌, ◌≢◌, ℕ, ◌+◌, ◌*◌, ◌/◌, ◌^◌, ◌<◌, ◌≤◌, ℤ, pos, ◌+ℤ◌, ◌-ℤ◌, Bool, true, not, ◌&&◌, ◌||◌, if◌then◌else◌, List, [], ◌∷◌, length, Some}
use Rattle.framehop_core.specs.Memory.{Memory}
use Rattle.framehop_core.specs.Aarch64.Registers.{Registers}
use Rattle.framehop_core.specs.Aarch64.Rules.{outcome}
use Rattle.framehop_core.specs.declared.aarch64.unwind_rule.UnwindRuleAarch64.{UnwindRuleAarch64}
use Rattle.framehop_core.specs.declared.aarch64.unwind_rule.UnwindRuleAarch64.TheVariants.{NoOp, OffsetSp}
use Rattle.framehop_analysis.specs.Answer.{Does}
use Rattle.framehop_analysis.specs.Aarch64.Words.{word_at, is_store, is_sub_sp, is_add_fp, is_pacibsp, is_indexed, pair_offset, immediate}
use Rattle.framehop_analysis.specs.Aarch64.Units.{IsUnitsOf16}
use Rattle.framehop_analysis.specs.Aarch64.Machine.{State, Run, HasRegisters}

-- ---- the run: the prologue's instructions that have been executed

-- an instruction of a run: the signing of lr, a store of a pair to the stack, or a `sub` of sp
abbrev pub is_run_word : ℕ → Bool
is_run_word word = is_pacibsp word || is_store word || is_sub_sp word

-- how many bytes an instruction of a run lowers sp by
abbrev pub lowered_by : ℕ → ℤ
lowered_by word =
    if is_store word then (if is_indexed word then pos 0 -ℤ pair_offset word else pos 0)
    else (if is_sub_sp word then pos (immediate word) else pos 0)

abbrev pub lowered : List ℕ → ℤ
lowered [] = pos 0
lowered (word ∷ words) = lowered_by word +ℤ lowered words

-- these instructions of a run lie one after another in the slice, from an offset on
abbrev pub IsRun : List ℕ → ℕ → List ℕ → Type 0
IsRun bytes at [] = Unit {0}
IsRun bytes at (word ∷ words) = (word_at bytes at ≡ Some word) × (is_run_word word ≡ true) × IsRun bytes (at + 4) words

-- The longest run that ends at the pc, which is the slice's end. Words are counted from the slice's start, and one that
-- the pc cuts in two belongs to no run. A run starts at the word with the number `start`.
pub record IsLongestRun (bytes : List ℕ) (run : List ℕ) : Type 0 where
  pub start : ℕ
  pub stands : IsRun bytes (4 * start) run
  pub ends : start + length run ≡ length bytes / 4
  pub longest : (other : ℕ) (words : List ℕ) → IsRun bytes (4 * other) words
      → other + length words ≡ length bytes / 4 → length words ≤ length run

-- ---- the next instruction

-- a store of a pair that leaves sp
abbrev pub is_plain_store : ℕ → Bool
is_plain_store word = is_store word && not (is_indexed word)

-- an instruction that is expected in a prologue; the last one sets the frame pointer
abbrev pub is_prologue_word : ℕ → Bool
is_prologue_word word = is_pacibsp word || is_store word || is_sub_sp word || is_add_fp word

-- The next instruction is expected in a prologue. A store that leaves sp is also found in function bodies, so it counts
-- only where the run has moved sp.
pub record IsNext (word : ℕ) (depth : ℤ) : Type 0 where
  pub expected : is_prologue_word word ≡ true
  pub moved : is_plain_store word ≡ true → depth ≢ pos 0

-- ---- the rule

-- The rule of a frame whose sp lies so many bytes below the caller's. There is none for a depth that is no multiple of
-- 16 bytes, below 0 or too great for the rule's field.
abbrev pub IsRuleOfDepth : ℤ → UnwindRuleAarch64 → Type 0
IsRuleOfDepth depth NoOp = depth ≡ pos 0
IsRuleOfDepth depth (OffsetSp x) = IsUnitsOf16 depth x × (0 < x)
IsRuleOfDepth depth _ = ⊥

-- the rule of a pc between the instructions before it and those from it on
pub record IsPrologueRule (before after : List ℕ) (rule : UnwindRuleAarch64) : Type 0 where
  pub run : List ℕ
  pub longest : IsLongestRun before run
  pub next : ℕ
  pub next_is : word_at after 0 ≡ Some next
  pub expected : IsNext next (lowered run)
  pub made : IsRuleOfDepth (lowered run) rule

-- So many instructions from an offset on undone, in a first frame: wherever they lead from a state at the function's
-- entry to these registers over this memory, the new registers are those of the entry, and the address is its return
-- address.
abbrev pub UndoneRun : List ℕ → ℕ → ℕ → Bool → Registers → Memory → ℕ → Registers → Type 0
UndoneRun before count at first r memory address new =
    first ≡ true → (entry here : State) → entry.sp < 2 ^ 64 → Run r.lr_mask before count at entry here
    → HasRegisters r here → here.memory ≡ memory
    → HasRegisters new entry × (new.lr_mask ≡ r.lr_mask) × (address ≡ new.lr)

abbrev pub UndonePrologue : List ℕ → Bool → Registers → Memory → ℕ → Registers → Type 0
UndonePrologue before first r memory address new =
    (run : List ℕ) → (longest : IsLongestRun before run)
    → UndoneRun before (length run) (4 * longest.start) first r memory address new

-- the rule undoes the prologue
abbrev pub UndoesPrologue : List ℕ → UnwindRuleAarch64 → Type 0
UndoesPrologue before rule = Does outcome (UndonePrologue before) rule

-- there is such a run, and from each state the machine goes through it
pub record ReachesFrom (before : List ℕ) : Type 0 where
  pub run : List ℕ
  pub longest : IsLongestRun before run
  pub reaches : (mask : ℕ) (entry : State)
      → (here : State) × Run mask before (length run) (4 * longest.start) entry here
