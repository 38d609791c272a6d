-- What the unwind rules of aarch64 do, as a table (framehop 0.16.0, documentation of `UnwindRuleAarch64`).
use Rattle.std.specs.Prelude.{◌≡◌, ℕ, ◌*◌, ◌^◌, ◌<◌, ◌≤◌, ℤ, pos, Bool, true, false, not, ◌&&◌, ◌||◌, ◌==◌, if◌then◌else◌, nat_le, List, [], ◌∷◌, OnSome, IfOk, Option, Result, Ok}
use Rattle.framehop_core.specs.Memory.{Memory}
use Rattle.framehop_core.specs.Outcome.{Outcome, answered, root, refused, after, address_at, word_from, above, beside}
use Rattle.framehop_core.specs.Runs.{IsCountWithinRise}
use Rattle.framehop_core.specs.Aarch64.Registers.{Registers, strip_ptr_auth}
use Rattle.framehop_core.specs.declared.error.Error.{Error}
use Rattle.framehop_core.specs.declared.error.Error.TheVariants.{DidNotAdvance, FramepointerUnwindingMovedBackwards}
use Rattle.framehop_core.specs.declared.aarch64.unwind_rule.UnwindRuleAarch64.{UnwindRuleAarch64}
use Rattle.framehop_core.specs.declared.aarch64.unwind_rule.UnwindRuleAarch64.TheVariants.{NoOp, NoOpIfFirstFrameOtherwiseFp, OffsetSp, OffsetSpIfFirstFrameOtherwiseStackEndsHere, OffsetSpAndRestoreLr, OffsetSpAndRestoreFpAndLr, UseFramePointer, UseFramepointerWithOffsets}

-- where the caller's value of a register is: still in the register, or in the stack word at an address
pub data Source : Type 0 where
  kept : ℕ → Source
  stored_at : ℤ → Source

-- what is asked of the caller's frame, beside that it is another frame
pub data Demand : Type 0 where
  nothing_more : Demand
  stack_pointer_rises : Demand
  frame_pointer_rises : Demand

-- A line of the table: there is no caller's frame to be had, or the stack ends here, or the caller's sp, lr and fp
-- are here.
pub data Line : Type 0 where
  no_advance : Line
  stack_end : Line
  caller : ℤ → Source → Source → Demand → Line

-- the table: of a rule in a first frame (`true`) or another, over the registers
abbrev pub line_of : UnwindRuleAarch64 → Bool → Registers → Line
line_of NoOp true r = caller (pos r.sp) (kept r.lr) (kept r.fp) nothing_more
line_of NoOp false r = no_advance
line_of NoOpIfFirstFrameOtherwiseFp true r = caller (pos r.sp) (kept r.lr) (kept r.fp) nothing_more
line_of NoOpIfFirstFrameOtherwiseFp false r =
    caller (above r.fp 16) (stored_at (above r.fp 8)) (stored_at (pos r.fp)) stack_pointer_rises
line_of (OffsetSp x) true r = caller (above r.sp (x * 16)) (kept r.lr) (kept r.fp) nothing_more
line_of (OffsetSp x) false r = no_advance
line_of (OffsetSpIfFirstFrameOtherwiseStackEndsHere x) true r =
    caller (above r.sp (x * 16)) (kept r.lr) (kept r.fp) nothing_more
line_of (OffsetSpIfFirstFrameOtherwiseStackEndsHere x) false r = stack_end
line_of (OffsetSpAndRestoreLr x z) first r =
    caller (above r.sp (x * 16)) (stored_at (beside r.sp z)) (kept r.fp) nothing_more
line_of (OffsetSpAndRestoreFpAndLr x y z) first r =
    caller (above r.sp (x * 16)) (stored_at (beside r.sp z)) (stored_at (beside r.sp y)) nothing_more
line_of UseFramePointer first r =
    caller (above r.fp 16) (stored_at (above r.fp 8)) (stored_at (pos r.fp)) frame_pointer_rises
line_of (UseFramepointerWithOffsets x y z) first r =
    caller (above r.fp (x * 8)) (stored_at (beside r.fp z)) (stored_at (beside r.fp y)) frame_pointer_rises

-- the value from a source: a stack word is read at its address
abbrev pub value_from : Memory → Source → Result ℕ Error
value_from memory (kept value) = Ok value
value_from memory (stored_at address) = word_from memory address

-- the test of a demand, before what follows it
abbrev pub demanded : Demand → Registers → ℕ → ℕ → Outcome Registers → Outcome Registers
demanded nothing_more r sp fp next = next
demanded stack_pointer_rises r sp fp next =
    if nat_le sp r.sp then refused FramepointerUnwindingMovedBackwards else next
demanded frame_pointer_rises r sp fp next =
    if fp == 0 then root
    else (if nat_le fp r.fp || nat_le sp r.sp then refused FramepointerUnwindingMovedBackwards
    else next)

-- The last step of each line: a return address 0 is the root, and the same sp in a frame that is not the first is
-- no advance; else the stripped return address is answered, and the registers are the caller's.
abbrev pub finished : Bool → Registers → ℕ → ℕ → ℕ → Outcome Registers
finished first r sp lr fp =
    let address = strip_ptr_auth r.lr_mask lr in
    if address == 0 then root
    else (if not first && (sp == r.sp) then refused DidNotAdvance
    else answered address (record r { lr = address; sp = sp; fp = fp }))

-- the last step of a line that asks the frame pointer to rise
abbrev pub finished_at_frame_pointer : Bool → Registers → ℕ → ℕ → ℕ → Outcome Registers
finished_at_frame_pointer first r sp lr fp = demanded frame_pointer_rises r sp fp (finished first r sp lr fp)

-- what a line of the table gives, its parts taken in order: sp, lr, fp, the demand, the last step
abbrev pub outcome_of_line : Line → Bool → Registers → Memory → Outcome Registers
outcome_of_line no_advance first r memory = refused DidNotAdvance
outcome_of_line stack_end first r memory = root
outcome_of_line (caller sp lr fp demand) first r memory =
    after (address_at sp) (λ new_sp.
    after (value_from memory lr) (λ new_lr.
    after (value_from memory fp) (λ new_fp.
    demanded demand r new_sp new_fp (finished first r new_sp new_lr new_fp))))

-- what a rule does to a frame of this kind (`true`: the first frame), over registers and memory
abbrev pub outcome : UnwindRuleAarch64 → Bool → Registers → Memory → Outcome Registers
outcome rule first r memory = outcome_of_line (line_of rule first r) first r memory

-- the line has the caller's sp at this address, whatever the stack holds
abbrev pub HasStackPointer : Line → ℕ → Type 0
HasStackPointer no_advance address = ⊥
HasStackPointer stack_end address = ⊥
HasStackPointer (caller sp lr fp demand) address = sp ≡ pos address

-- a step to the caller's frame: sp does not fall, and it rises in a frame that is not the first; it stays one of 64
-- bits
pub record MovesUp (first : Bool) (callee caller : Registers) : Type 0 where
  pub not_below : callee.sp ≤ caller.sp
  pub rises : first ≡ false → callee.sp < caller.sp
  pub fits : caller.sp < 2 ^ 64

-- such a step by a rule: sp is where the rule's line has it
pub record Advances (rule : UnwindRuleAarch64) (first : Bool) (callee caller : Registers) : Type 0 where
  pub up : MovesUp first callee caller
  pub stack_pointer : HasStackPointer (line_of rule first callee) caller.sp

-- where a call has answered an address, the registers have advanced by the rule
abbrev pub AdvancesWhereAnswered : UnwindRuleAarch64 → Bool → Result (Option ℕ) Error → Registers → Registers → Type 0
AdvancesWhereAnswered rule first result old new =
    IfOk result (λ answer. OnSome answer (Advances rule first old new))

-- the first of these rules leads from these registers to those, in a first frame
abbrev pub IsFirstStep : List UnwindRuleAarch64 → Registers → Registers → Type 0
IsFirstStep [] start first = ⊥
IsFirstStep (rule ∷ rules) start first = Advances rule true start first

-- So many of these rules lead from these registers to those: none leaves them, and else the first one leads to
-- registers from which no more follow than sp rises.
pub record IsBoundedRun (rules : List UnwindRuleAarch64) (count : ℕ) (start end : Registers) : Type 0 where
  pub first : Registers
  pub none : count ≡ 0 → end ≡ start
  pub step : 0 < count → IsFirstStep rules start first
  pub not_below : first.sp ≤ end.sp
  pub within : IsCountWithinRise count first.sp end.sp
