-- What the unwind rules of x86_64 do, as a table (framehop 0.16.0, documentation of `UnwindRuleX86_64`).
-- `frame_pointer_line_with`, of an eighth rule, is this project's.
use Rattle.std.specs.Prelude.{◌≡◌, ℕ, ◌*◌, ◌≤◌, ℤ, pos, negsuc, ◌-ℤ◌, Bool, true, false, ◌&&◌, ◌==◌, if◌then◌else◌, nat_le, List, [], ◌∷◌, Option, Some, None, option_map, OnSome, IfOk, unwrap_or, Result, Ok, Err}
use Rattle.framehop_core.specs.Memory.{Memory}
use Rattle.framehop_core.specs.Outcome.{Outcome, answered, root, refused, after, and_then, address_at, word_at, word_from, above, beside}
use Rattle.framehop_core.specs.X86_64.Registers.{Registers, with_register}
use Rattle.framehop_core.specs.X86_64.Ordering.{ordering, is_ordering, IsArrangement, IsEncoding}
use Rattle.framehop_core.specs.declared.error.Error.{Error}
use Rattle.framehop_core.specs.declared.error.Error.TheVariants.{DidNotAdvance, FramepointerUnwindingMovedBackwards}
use Rattle.framehop_core.specs.declared.x86_64.unwindregs.Reg.{Reg}
use Rattle.framehop_core.specs.declared.x86_64.unwind_rule.OffsetOrPop.{OffsetOrPop}
use Rattle.framehop_core.specs.declared.x86_64.unwind_rule.OffsetOrPop.TheVariants.{OffsetBy8, Pop}
use Rattle.framehop_core.specs.declared.x86_64.unwind_rule.UnwindRuleX86_64.{UnwindRuleX86_64}
use Rattle.framehop_core.specs.declared.x86_64.unwind_rule.UnwindRuleX86_64.TheVariants.{EndOfStack, JustReturn, JustReturnIfFirstFrameOtherwiseFp, OffsetSp, OffsetSpAndRestoreBp, UseFramePointer, UseFramePointerWithOffsets, OffsetSpAndPopRegisters}

-- where the caller's frame pointer is: still in the register; in the stack word at an address; in that word if it
-- can be read, else still in the register
pub data Source : Type 0 where
  kept : Source
  stored_at : ℤ → Source
  stored_if_readable_at : ℤ → Source

-- what is asked of the caller's stack pointer, beside that it is another frame
pub data Demand : Type 0 where
  nothing_more : Demand
  stack_pointer_rises : Demand

-- A line of the table: the stack ends here; or the caller's rsp and rbp are here; or registers are popped, the first
-- one at an address, and the caller's rsp is above them and the return address.
pub data Line : Type 0 where
  stack_end : Line
  caller : ℤ → Demand → Source → Line
  pops : ℤ → List Reg → Line

-- A word that is restored in a first frame from below the stack pointer may be unreadable: a function's end can have
-- popped it already, and unwind data often does not say so.
abbrev pub restored_at : Bool → ℤ → ℤ → Source
restored_at true (negsuc _) address = stored_if_readable_at address
restored_at true (pos _) address = stored_at address
restored_at false words address = stored_at address

-- the line of a step by the frame pointer
abbrev pub frame_pointer_line : Registers → Line
frame_pointer_line r = caller (above r.rbp 16) stack_pointer_rises (stored_at (pos r.rbp))

-- the same with the caller's rsp and the stored rbp at other offsets from the frame pointer, in words
abbrev pub frame_pointer_line_with : ℕ → ℤ → Registers → Line
frame_pointer_line_with x y r = caller (above r.rbp (x * 8)) stack_pointer_rises (stored_at (beside r.rbp y))

-- the table: of a rule in a first frame (`true`) or another, over the registers
abbrev pub line_of : UnwindRuleX86_64 → Bool → Registers → Line
line_of EndOfStack first r = stack_end
line_of JustReturn first r = caller (above r.rsp 8) nothing_more kept
line_of JustReturnIfFirstFrameOtherwiseFp true r = caller (above r.rsp 8) nothing_more kept
line_of JustReturnIfFirstFrameOtherwiseFp false r = frame_pointer_line r
line_of (OffsetSp x) first r = caller (above r.rsp (x * 8)) nothing_more kept
line_of (OffsetSpAndRestoreBp x y) first r =
    caller (above r.rsp (x * 8)) nothing_more (restored_at first y (beside r.rsp y))
line_of UseFramePointer first r = if r.rbp == 0 then stack_end else frame_pointer_line r
line_of (UseFramePointerWithOffsets x y) first r = if r.rbp == 0 then stack_end else frame_pointer_line_with x y r
line_of (OffsetSpAndPopRegisters x count n) first r = pops (above r.rsp (x * 8)) (ordering count n)

-- the rules that can be run: a list of registers to pop has an ordering
abbrev pub is_executable : UnwindRuleX86_64 → Bool
is_executable (OffsetSpAndPopRegisters x count n) = is_ordering count n
is_executable EndOfStack = true
is_executable JustReturn = true
is_executable JustReturnIfFirstFrameOtherwiseFp = true
is_executable (OffsetSp x) = true
is_executable (OffsetSpAndRestoreBp x y) = true
is_executable UseFramePointer = true
is_executable (UseFramePointerWithOffsets x y) = true

-- the value from a source, for a register that has this value now
abbrev pub value_from : Memory → ℕ → Source → Result ℕ Error
value_from memory value kept = Ok value
value_from memory value (stored_at address) = word_from memory address
value_from memory value (stored_if_readable_at address) =
    and_then (address_at address) (λ at. Ok (unwrap_or (memory at) value))

-- the test of a demand, before what follows it
abbrev pub demanded : Demand → Registers → ℕ → Outcome Registers → Outcome Registers
demanded nothing_more r sp next = next
demanded stack_pointer_rises r sp next = if nat_le sp r.rsp then refused FramepointerUnwindingMovedBackwards else next

-- The registers after pops from an address on, one word each, in order. The stack pointer is then above them and
-- the return address.
abbrev pub popped : Memory → ℕ → List Reg → Registers → Result Registers Error
popped memory address [] r = and_then (address_at (above address 8)) (λ sp. Ok (record r { rsp = sp }))
popped memory address (register ∷ registers) r =
    and_then (word_at memory address) (λ word.
    and_then (address_at (above address 8)) (λ next.
    popped memory next registers (with_register r register word)))

-- The return address, in the word below the caller's stack pointer: 0 is the root, and the same stack pointer with the
-- same address is no advance.
abbrev pub return_address : Registers → ℕ → Memory → Result (Option ℕ) Error
return_address r sp memory =
    and_then (word_from memory (pos sp -ℤ pos 8)) (λ address.
    if address == 0 then Ok None
    else (if sp == r.rsp && address == r.ip then Err DidNotAdvance
    else Ok (Some address)))

-- the answer at a return address, with the caller's registers
abbrev pub returned : Registers → Option ℕ → Outcome Registers
returned r None = root
returned r (Some address) = answered address (record r { ip = address })

-- the last step of each line, with the caller's registers but for its instruction pointer
abbrev pub finished : Registers → Registers → Memory → Outcome Registers
finished callee restored memory = after (return_address callee restored.rsp memory) (returned restored)

-- what a line of the table gives, its parts taken in order
abbrev pub outcome_of_line : Line → Registers → Memory → Outcome Registers
outcome_of_line stack_end r memory = root
outcome_of_line (caller sp demand bp) r memory =
    after (address_at sp) (λ new_sp.
    demanded demand r new_sp (after (value_from memory r.rbp bp) (λ new_bp.
    finished r (record r { rsp = new_sp; rbp = new_bp }) memory)))
outcome_of_line (pops address registers) r memory =
    after (address_at address) (λ first.
    after (popped memory first registers r) (λ restored.
    finished r restored memory))

-- what a rule does to a frame of this kind (`true`: the first frame), over registers and memory
abbrev pub outcome : UnwindRuleX86_64 → Bool → Registers → Memory → Outcome Registers
outcome rule first r memory = outcome_of_line (line_of rule first r) r memory

-- a step to the caller's frame: rsp does not fall
pub record Advances (first : Bool) (callee caller : Registers) : Type 0 where
  pub not_below : callee.rsp ≤ caller.rsp

-- the instruction pointer is the word below rsp, as it is after a step
abbrev pub StandsAfterReturn : Memory → Registers → Type 0
StandsAfterReturn memory r = word_from memory (pos r.rsp -ℤ pos 8) ≡ Ok r.ip

-- where a call has answered an address, rsp has not fallen
abbrev pub NotBelowWhereAnswered : Result (Option ℕ) Error → Registers → Registers → Type 0
NotBelowWhereAnswered result old new = IfOk result (λ answer. OnSome answer (old.rsp ≤ new.rsp))

-- ---- rules of operations

-- the registers of operations that are only pops
abbrev pub pops_of : List OffsetOrPop → Option (List Reg)
pops_of [] = Some []
pops_of (Pop register ∷ operations) = option_map (λ registers. register ∷ registers) (pops_of operations)
pops_of (_ ∷ operations) = None

-- the offset and the registers of operations that are at most one offset, then only pops
abbrev pub offset_and_pops_of : List OffsetOrPop → Option (ℕ × List Reg)
offset_and_pops_of (OffsetBy8 x ∷ operations) = option_map (λ registers. (x, registers)) (pops_of operations)
offset_and_pops_of operations = option_map (λ registers. (0, registers)) (pops_of operations)

-- the rule of an offset and the registers after it: without both a plain return
abbrev pub IsRuleOf : ℕ → List Reg → UnwindRuleX86_64 → Type 0
IsRuleOf x registers JustReturn = (x ≡ 0) × (registers ≡ [])
IsRuleOf x registers (OffsetSpAndPopRegisters y count n) =
    (y ≡ x) × IsEncoding registers count n × ¬ ((x ≡ 0) × (registers ≡ []))
IsRuleOf x registers _ = ⊥

-- the rule of operations, or none where they are no offset and pops, or their registers have no ordering
abbrev pub IsRuleOfOperations : List OffsetOrPop → Option UnwindRuleX86_64 → Type 0
IsRuleOfOperations operations None =
    (x : ℕ) (registers : List Reg) → offset_and_pops_of operations ≡ Some (x, registers) → ¬ IsArrangement registers
IsRuleOfOperations operations (Some rule) =
    (x : ℕ) × (registers : List Reg) × (offset_and_pops_of operations ≡ Some (x, registers)) × IsRuleOf x registers rule
