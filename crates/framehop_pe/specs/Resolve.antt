-- Resolve: operations undone one by one, on sixteen registers and memory (Microsoft, "x64 exception handling", "Unwind
-- procedure").
use Rattle.std.specs.Prelude.{ℕ, ◌+◌, ◌-◌, ◌^◌, Bool, true, false, nat_le, nat_lt, if◌then◌else◌, List, [], ◌∷◌, Option, Some, None, Result, Ok, Err}
use Rattle.std.specs.declared.ops.ControlFlow.{ControlFlow}
use Rattle.std.specs.declared.ops.ControlFlow.TheVariants.{Continue, Break}
use Rattle.framehop_core.specs.Memory.{Memory}
use Rattle.framehop_core.specs.declared.x86_64.unwindregs.Reg.{Reg}
use Rattle.framehop_core.specs.X86_64.Registers.{Registers, register, with_register}
use Rattle.framehop_pe.specs.declared.pe.PeUnwinderError.{PeUnwinderError}
use Rattle.framehop_pe.specs.declared.pe.PeUnwinderError.TheVariants.{MissingStackData}
use Rattle.framehop_pe.specs.declared.unwind_info.chain.FrameBase.{FrameBase}
use Rattle.framehop_pe.specs.declared.unwind_info.chain.FramedOperation.{FramedOperation}
use Rattle.framehop_pe.specs.declared.unwind_info.info.FrameRegister.{FrameRegister}
use Rattle.framehop_pe.specs.declared.unwind_info.operation.UnwindOperation.{UnwindOperation}
use Rattle.framehop_pe.specs.declared.unwind_info.operation.UnwindOperation.TheVariants.{UnStackAlloc, PopNonVolatile, RestoreSp, Read, Skip, MachineFrame}

-- one step that may fail, then another
infixl 10 ◌>>=◌
abbrev pub ◌>>=◌ : {A B : Type 0} → Option A → (A → Option B) → Option B
(Some x) >>= f = f x
None >>= f = None

-- a sum, if it fits 64 bits
abbrev pub sum : ℕ → ℕ → Option ℕ
sum a b = if nat_lt (a + b) (2 ^ 64) then Some (a + b) else None

-- a difference, if it is not below 0
abbrev pub difference : ℕ → ℕ → Option ℕ
difference a b = if nat_le b a then Some (a - b) else None

-- the base of a frame with a frame register
abbrev pub base_of : FrameRegister → Registers → Option ℕ
base_of frame r = difference (register r frame.register) frame.offset

-- what the frame register says of rsp; without one nothing
abbrev pub restored_sp : Option FrameRegister → Registers → Option ℕ
restored_sp None r = None
restored_sp (Some frame) r = base_of frame r

-- what saved registers are counted from: the frame's base where it is established, else rsp
abbrev pub saves_base : Option FrameRegister → Bool → Registers → Option ℕ
saves_base (Some frame) true r = base_of frame r
saves_base (Some frame) false r = Some r.rsp
saves_base None established r = Some r.rsp

-- the address of a machine frame: above an error code, if there is one
abbrev pub machine_frame_at : Bool → Registers → Option ℕ
machine_frame_at false r = Some r.rsp
machine_frame_at true r = sum r.rsp 8

-- the registers after an operation, if it can be undone, and whether the list ends
abbrev pub Undone : Type 0
Undone = Option (ControlFlow ℕ (Unit {0}) × Registers)

-- a pop of a register
abbrev pub popped_register : Memory → Reg → Registers → Undone
popped_register memory reg r = do
  word ← memory r.rsp
  sp ← sum r.rsp 8
  Some (Continue tt, record (with_register r reg word) { rsp = sp })

-- a machine frame: it has the return address, and rsp above it by 24
abbrev pub undone_machine_frame : Memory → Bool → Registers → Undone
undone_machine_frame memory error_code r = do
  at ← machine_frame_at error_code r
  address ← memory at
  sp_at ← sum at 24
  sp ← memory sp_at
  Some (Break address, record r { rsp = sp })

-- The registers after an operation is undone, and whether it ends the list, with a return address (`Break`). None where
-- a word can't be read, or a sum does not fit.
abbrev pub undone : Memory → UnwindOperation → FrameBase → Registers → Undone
undone memory (UnStackAlloc size) base r = do
  sp ← sum r.rsp size
  Some (Continue tt, record r { rsp = sp })
undone memory (PopNonVolatile reg) base r = popped_register memory reg r
undone memory RestoreSp base r = do
  sp ← restored_sp base.frame_register r
  Some (Continue tt, record r { rsp = sp })
undone memory (Read reg offset) base r = do
  from ← saves_base base.frame_register base.is_established r
  at ← sum from offset
  word ← memory at
  Some (Continue tt, with_register r reg word)
undone memory Skip base r = Some (Continue tt, r)
undone memory (MachineFrame error_code) base r = undone_machine_frame memory error_code r

-- a return address and the caller's registers, or why there are none
abbrev pub Caller : Type 0
Caller = Result (ℕ × Registers) PeUnwinderError

-- a word at rsp that may not be there, popped: rsp rises to a sum that may not fit
abbrev pub popped_at : Option ℕ → Option ℕ → Registers → Caller
popped_at None sp r = Err (MissingStackData (Some r.rsp))
popped_at (Some word) None r = Err (MissingStackData None)
popped_at (Some word) (Some sp) r = Ok (word, record r { rsp = sp })

-- the word at rsp, and the registers after it is popped
abbrev pub popped_word : Memory → Registers → Caller
popped_word memory r = popped_at (memory r.rsp) (sum r.rsp 8) r

-- the return address and the caller's registers but for ip, once an operation is undone
abbrev pub and_then : Undone → (Registers → Caller) → Caller
and_then None next = Err (MissingStackData None)
and_then (Some (Continue _, r)) next = next r
and_then (Some (Break address, r)) next = Ok (address, r)

-- The return address and the caller's registers but for ip, by operations in their order. Where none of them ends the
-- list, the return address is popped last.
abbrev pub resolved : Memory → List FramedOperation → Registers → Caller
resolved memory [] r = popped_word memory r
resolved memory (o ∷ operations) r = and_then (undone memory o.operation o.base r) (resolved memory operations)
