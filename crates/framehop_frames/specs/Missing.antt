-- The word for want of which a walk ended: its address (AVMA), where the end and the rows of the frames tell that. A row says
-- where the caller's registers are saved (DWARF 5 section 6.4.1).
use Rattle.std.specs.Prelude.{ℕ, ℤ, ◌+◌, ◌-◌, ◌%◌, ◌^◌, min, Bool, true, false, is_some, List, [], ◌∷◌, length, slice_get, Option, Some, None, option_and_then, if◌then◌else◌}
use Rattle.std.specs.Int.{cast_unsigned, w64}
use Rattle.std.specs.Option.{option_or}
use Rattle.framehop_core.specs.CodeAddress.{FrameLocation}
use Rattle.framehop_core.specs.Memory.{Memory}
use Rattle.framehop_core.specs.declared.error.Error.TheVariants.{CouldNotReadStack}
use Rattle.framehop_cfi.specs.Row.{rule_of}
use Rattle.framehop_cfi.specs.declared.rule.Register.{Register}
use Rattle.framehop_cfi.specs.declared.rule.RegisterRule.{RegisterRule}
use Rattle.framehop_cfi.specs.declared.rule.RegisterRule.TheVariants as rule
use Rattle.framehop_callers.specs.Base.{base_of}
use Rattle.framehop_callers.specs.Convention.{stack_pointer_of, return_address_of, keeps}
use Rattle.framehop_callers.specs.RegisterFile.{word_of}
use Rattle.framehop_callers.specs.Rules.{cfa_of, sum_of}
use Rattle.framehop_callers.specs.declared.base.CfaBase.{CfaBase}
use Rattle.framehop_callers.specs.declared.base.CfaBase.TheVariants as base
use Rattle.framehop_callers.specs.declared.convention.Convention.{Convention}
use Rattle.framehop_backtrace.specs.Backtrace.{Backtrace, FrameView}
use Rattle.framehop_backtrace.specs.Machine.{Machine}
use Rattle.framehop_backtrace.specs.Rows.{Finding, by_row, uncovered, no_row}
use Rattle.framehop_backtrace.specs.declared.frame.BacktraceEnd.{BacktraceEnd}
use Rattle.framehop_backtrace.specs.declared.frame.BacktraceEnd.TheVariants.{SignalFrameUnread, CfaUnknown, ReturnAddressUnknown, RegistersUnknown, Refused}

-- an address at which no word can be read
abbrev pub unread_at : Memory → ℕ → Option ℕ
unread_at memory address = if is_some (memory address) then None else Some address

-- where a register with a rule is saved, by the CFA
abbrev pub place_by : ℕ → RegisterRule → Option ℕ
place_by cfa (rule.Offset offset) = sum_of cfa offset
place_by cfa other = None

-- the caller's register is the frame's own: its rule says so, or it has none and functions keep it
abbrev pub is_own : Convention → Register → Option RegisterRule → Bool
is_own convention register (Some rule.SameValue) = true
is_own convention register (Some other) = false
is_own convention register None = keeps convention register.0

-- A register that isn't known in the caller of a frame: the word in which it is saved, or that for want of which the frame
-- itself does not know it.
abbrev pub missing_after : Convention → Memory → Register → List (Option ℕ) → Finding → Option ℕ → Option ℕ
missing_after convention memory register words (by_row section row) missing =
    if is_own convention register (rule_of row.rules register) then missing
    else option_and_then (unread_at memory) (option_and_then (λ cfa. option_and_then (place_by cfa) (rule_of row.rules register))
    (cfa_of (record { bytes = section; words = words; memory = memory }) row.cfa))
missing_after convention memory register words uncovered missing = None
missing_after convention memory register words no_row missing = None

module _ {Regs : Type 0} (convention : Convention) (memory : Memory) (rows : FrameLocation → Finding) (register : Register) where
  -- the same of a caller that may know it
  abbrev pub missing_in_caller : FrameView Regs → FrameView Regs → Option ℕ → Option ℕ
  missing_in_caller frame caller missing =
      if is_some (word_of caller.columns register) then None
      else missing_after convention memory register frame.columns (rows frame.location) missing

  -- after callers, one after another
  abbrev pub missing_over : Option ℕ → FrameView Regs → List (FrameView Regs) → Option ℕ
  missing_over missing frame [] = missing
  missing_over missing frame (caller ∷ callers) = missing_over (missing_in_caller frame caller missing) caller callers

  -- in the last of frames: of the first, all that is not known was not recorded
  abbrev pub missing_in_last : List (FrameView Regs) → Option ℕ
  missing_in_last [] = None
  missing_in_last (first ∷ callers) = missing_over None first callers

-- the last of frames
unfoldable pub last_of : {Frame : Type 0} → List Frame → Option Frame
last_of frames = slice_get frames (length frames - 1)

-- what a row's CFA counts from
abbrev pub base_in : Finding → Option CfaBase
base_in (by_row section row) = base_of section row.cfa
base_in uncovered = None
base_in no_row = None

-- the first register that is not known, of those that a step of the library needs
abbrev pub first_unknown : {Regs : Type 0} → Machine Regs → List (Option ℕ) → Register
first_unknown machine words =
    if is_some (word_of words (record { 0 = stack_pointer_of machine.convention }))
    then (if is_some (word_of words (record { 0 = machine.frame_pointer }))
    then record { 0 = return_address_of machine.convention } else record { 0 = machine.frame_pointer })
    else record { 0 = stack_pointer_of machine.convention }

-- the first or else the last word of a signal frame, which is at the stack pointer
abbrev pub unread_in : Memory → ℕ → ℕ → Option ℕ
unread_in memory size sp = option_or (unread_at memory sp) (unread_at memory (min (sp + (size - 8)) (2 ^ 64 - 1)))

module _ {Regs : Type 0} (convention : Convention) (memory : Memory) (rows : FrameLocation → Finding) where
  -- What a CFA counts from isn't known in the last of frames: the word of its register, or the word that its expression
  -- reads at a distance from the register, if that has a value.
  abbrev pub missing_word_at : List (FrameView Regs) → Register → ℤ → Option ℕ → Option ℕ
  missing_word_at frames register offset (Some value) =
      unread_at memory ((value + cast_unsigned w64 offset) % 2 ^ 64)
  missing_word_at frames register offset None = missing_in_last convention memory rows register frames

  abbrev pub missing_base : List (FrameView Regs) → List (Option ℕ) → CfaBase → Option ℕ
  missing_base frames words (base.Register register) = missing_in_last convention memory rows register frames
  missing_base frames words (base.Word register offset) = missing_word_at frames register offset (word_of words register)

module _ {Regs : Type 0} (machine : Machine Regs) (rows : FrameLocation → Finding) (memory : Memory) where
  -- the word that ends a walk at its last frame
  abbrev pub missing_at : List (FrameView Regs) → FrameView Regs → BacktraceEnd → Option ℕ
  missing_at frames frame SignalFrameUnread =
      option_and_then (unread_in memory machine.frame_size)
      (word_of frame.columns (record { 0 = stack_pointer_of machine.convention }))
  missing_at frames frame ReturnAddressUnknown =
      let register : Register = record { 0 = return_address_of machine.convention } in
      missing_after machine.convention memory register frame.columns (rows frame.location)
      (missing_in_last machine.convention memory rows register frames)
  missing_at frames frame CfaUnknown =
      option_and_then (missing_base machine.convention memory rows frames frame.columns) (base_in (rows frame.location))
  missing_at frames frame RegistersUnknown =
      missing_in_last machine.convention memory rows (first_unknown machine frame.columns) frames
  missing_at frames frame end = None

  abbrev pub missing_word : List (FrameView Regs) → BacktraceEnd → Option ℕ
  missing_word frames end = option_and_then (λ frame. missing_at frames frame end) (last_of frames)

-- a walk ends at a word that can't be read, where one is missing
abbrev pub end_for : BacktraceEnd → Option ℕ → BacktraceEnd
end_for end (Some address) = Refused (CouldNotReadStack address)
end_for end None = end

-- how a walk ended, by its frames
unfoldable pub end_of_walk : {Regs : Type 0} → Machine Regs → (FrameLocation → Finding) → Memory → Backtrace Regs → BacktraceEnd
end_of_walk machine rows memory backtrace =
    end_for backtrace.end (missing_word machine rows memory backtrace.frames backtrace.end)
