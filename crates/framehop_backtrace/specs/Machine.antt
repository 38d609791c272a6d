-- What a backtrace needs of an architecture.
-- (System V ABI for AMD64, figure 3.36; DWARF for the Arm 64-bit Architecture, section 4.1; Linux, `struct
-- sigcontext`.)
use Rattle.std.specs.Prelude.{ℕ, Bool, true, ◌&&◌, is_some, List, [], ◌∷◌, ◌++◌, slice_get, Option, Some, option_map, unwrap_or}
use Rattle.framehop_core.specs.Memory.{Memory}
use Rattle.framehop_core.specs.Outcome.{Outcome}
use Rattle.framehop_core.specs.X86_64.Registers.{Registers as RegistersX86_64, words_of}
use Rattle.framehop_core.specs.declared.x86_64.unwindregs.Reg.{Reg}
use Rattle.framehop_core.specs.declared.x86_64.unwindregs.Reg.TheVariants as reg
use Rattle.framehop_core.specs.X86_64.Rules.{outcome as outcome_x86_64}
use Rattle.framehop_core.specs.declared.x86_64.unwind_rule.UnwindRuleX86_64.TheVariants.{JustReturn, UseFramePointer as UseFramePointerX86_64}
use Rattle.framehop_core.specs.Aarch64.Registers.{Registers as RegistersAarch64, strip_ptr_auth}
use Rattle.framehop_core.specs.Aarch64.Rules.{outcome as outcome_aarch64}
use Rattle.framehop_core.specs.declared.aarch64.unwind_rule.UnwindRuleAarch64.TheVariants.{NoOp, UseFramePointer as UseFramePointerAarch64}
use Rattle.framehop_cfi.specs.Aarch64.{X29, X30, SP, PC}
use Rattle.framehop_cfi.specs.X86_64.{RBX, RBP, RSP, R12, R15, RA}
use Rattle.framehop_callers.specs.RegisterFile.{unknown}
use Rattle.framehop_callers.specs.declared.convention.Convention.{Convention}
use Rattle.framehop_callers.specs.declared.convention.Convention.TheVariants.{X86_64, Aarch64}
use Rattle.framehop_callers.specs.Run.{caller_by_runs}
use Rattle.framehop_callers.specs.Step.{Source as RunSource}
use Rattle.framehop_callers.specs.declared.run.RunCaller.{RunCaller}
use Rattle.framehop_backtrace.specs.Call.{is_after_call_x86_64, is_after_call_aarch64, call_target_x86_64, call_target_aarch64, has_set_x86_64, has_set_aarch64}
use Rattle.framehop_backtrace.specs.Columns.{columns_by, column, with_column}
use Rattle.framehop_backtrace.specs.Restored.{with_restored, with_completed}
use Rattle.framehop_backtrace.specs.Signal.{interrupted_x86_64, interrupted_aarch64}

-- `strip`: a pointer to code without its pointer authentication bits, by the mask of the registers. `columns`: what the
-- library's step to an address leaves exactly. `merged`: the library's registers with the columns that are known.
-- `can_step`: whether the columns that each step of the library may need are known. `frame_size`, `saved`: how much of
-- a signal frame is read, and the interrupted instruction pointer and columns that it has. `is_after_call`: an address
-- lies right after a call, by the bytes of code. `call_target`: where that call leads, if it is a direct one.
-- `has_set`: a function from a start on has set its frame pointer before an address.
-- `frame_pointer`: its column. `fallback`: the step by the frame pointer, of a first frame (`true`) or another. `start`: that of a first frame at the
-- first instruction of a function. `run`: the caller of a frame by running its code from an address on over its columns.
-- `restored`, `completed`: a caller's columns by a row, with those of a function's own, or all, that a run of the code from there tells.
pub record Machine (Regs : Type 0) : Type 0 where
  pub convention : Convention
  pub strip : Regs → ℕ → ℕ
  pub columns : ℕ → Regs → List (Option ℕ)
  pub merged : Regs → List (Option ℕ) → Regs
  pub can_step : List (Option ℕ) → Bool
  pub frame_size : ℕ
  pub saved : List ℕ → Option (ℕ × List (Option ℕ))
  pub is_after_call : (ℕ → ℕ → Option (List ℕ)) → ℕ → Bool
  pub call_target : (ℕ → ℕ → Option (List ℕ)) → ℕ → Option ℕ
  pub has_set : (ℕ → ℕ → Option (List ℕ)) → ℕ → ℕ → Bool
  pub frame_pointer : ℕ
  pub fallback : Bool → Regs → Memory → Outcome Regs
  pub start : Regs → Memory → Outcome Regs
  pub run : RunSource → ℕ → List (Option ℕ) → Option RunCaller
  pub restored : RunSource → ℕ → List (Option ℕ) → List (Option ℕ) → List (Option ℕ)
  pub completed : RunSource → ℕ → List (Option ℕ) → List (Option ℕ) → List (Option ℕ)

-- ---- x86_64

-- the columns of the general registers (System V ABI for AMD64, figure 3.36)
abbrev pub column_of : Reg → ℕ
column_of reg.RAX = 0
column_of reg.RDX = 1
column_of reg.RCX = 2
column_of reg.RBX = RBX
column_of reg.RSI = 4
column_of reg.RDI = 5
column_of reg.RBP = RBP
column_of reg.RSP = RSP
column_of reg.R8 = 8
column_of reg.R9 = 9
column_of reg.R10 = 10
column_of reg.R11 = 11
column_of reg.R12 = R12
column_of reg.R13 = 13
column_of reg.R14 = 14
column_of reg.R15 = R15

-- all registers, by their columns: the general ones, then rip
abbrev pub all_columns : RegistersX86_64 → List (Option ℕ)
all_columns r = columns_by (slice_get (words_of r ++ r.ip ∷ []))

-- rip, rsp and rbp
abbrev pub columns_x86_64 : ℕ → RegistersX86_64 → List (Option ℕ)
columns_x86_64 address r =
    with_column (with_column (with_column unknown RA (Some address)) RSP (Some r.rsp)) RBP (Some r.rbp)

-- registers with the columns that are known in their places
unfoldable pub merged_x86_64 : RegistersX86_64 → List (Option ℕ) → RegistersX86_64
merged_x86_64 r columns = record {
  ip = unwrap_or (column columns RA) r.ip;
  rax = unwrap_or (column columns (column_of reg.RAX)) r.rax;
  rdx = unwrap_or (column columns (column_of reg.RDX)) r.rdx;
  rcx = unwrap_or (column columns (column_of reg.RCX)) r.rcx;
  rbx = unwrap_or (column columns (column_of reg.RBX)) r.rbx;
  rsi = unwrap_or (column columns (column_of reg.RSI)) r.rsi;
  rdi = unwrap_or (column columns (column_of reg.RDI)) r.rdi;
  rbp = unwrap_or (column columns (column_of reg.RBP)) r.rbp;
  rsp = unwrap_or (column columns (column_of reg.RSP)) r.rsp;
  r8 = unwrap_or (column columns (column_of reg.R8)) r.r8;
  r9 = unwrap_or (column columns (column_of reg.R9)) r.r9;
  r10 = unwrap_or (column columns (column_of reg.R10)) r.r10;
  r11 = unwrap_or (column columns (column_of reg.R11)) r.r11;
  r12 = unwrap_or (column columns (column_of reg.R12)) r.r12;
  r13 = unwrap_or (column columns (column_of reg.R13)) r.r13;
  r14 = unwrap_or (column columns (column_of reg.R14)) r.r14;
  r15 = unwrap_or (column columns (column_of reg.R15)) r.r15;
}

-- rsp and rbp are known
abbrev pub can_step_x86_64 : List (Option ℕ) → Bool
can_step_x86_64 columns = is_some (column columns RSP) && is_some (column columns RBP)

-- the registers of a signal frame, as columns
abbrev pub saved_x86_64 : List ℕ → Option (ℕ × List (Option ℕ))
saved_x86_64 frame = option_map (λ r. (r.ip, all_columns r)) (interrupted_x86_64 frame)

-- x86_64
abbrev pub machine_x86_64 : Machine RegistersX86_64
machine_x86_64 = record {
  convention = X86_64;
  strip = λ r address. address;
  columns = columns_x86_64;
  merged = merged_x86_64;
  can_step = can_step_x86_64;
  frame_size = 176;
  saved = saved_x86_64;
  is_after_call = is_after_call_x86_64;
  call_target = call_target_x86_64;
  has_set = has_set_x86_64;
  frame_pointer = RBP;
  fallback = outcome_x86_64 UseFramePointerX86_64;
  start = outcome_x86_64 JustReturn true;
  run = caller_by_runs;
  restored = with_restored;
  completed = with_completed;
}

-- ---- aarch64

-- pc, sp, fp (x29) and lr (x30)
abbrev pub columns_aarch64 : ℕ → RegistersAarch64 → List (Option ℕ)
columns_aarch64 address r =
    with_column (with_column (with_column (with_column unknown PC (Some address)) SP (Some r.sp)) X29 (Some r.fp)) X30
    (Some r.lr)

-- registers with the columns that are known in their places, lr stripped
abbrev pub merged_aarch64 : RegistersAarch64 → List (Option ℕ) → RegistersAarch64
merged_aarch64 r columns = record {
  lr_mask = r.lr_mask;
  lr = strip_ptr_auth r.lr_mask (unwrap_or (column columns X30) r.lr);
  sp = unwrap_or (column columns SP) r.sp;
  fp = unwrap_or (column columns X29) r.fp;
}

-- sp, fp and lr are known
abbrev pub can_step_aarch64 : List (Option ℕ) → Bool
can_step_aarch64 columns = is_some (column columns SP) && is_some (column columns X29) && is_some (column columns X30)

-- aarch64
abbrev pub machine_aarch64 : Machine RegistersAarch64
machine_aarch64 = record {
  convention = Aarch64;
  strip = λ r address. strip_ptr_auth r.lr_mask address;
  columns = columns_aarch64;
  merged = merged_aarch64;
  can_step = can_step_aarch64;
  frame_size = 576;
  saved = interrupted_aarch64;
  is_after_call = is_after_call_aarch64;
  call_target = call_target_aarch64;
  has_set = has_set_aarch64;
  frame_pointer = X29;
  fallback = outcome_aarch64 UseFramePointerAarch64;
  start = outcome_aarch64 NoOp true;
  run = caller_by_runs;
  restored = λ source address registers columns. columns;
  completed = λ source address registers columns. columns;
}
