-- How the stacks of a machine are walked.
use Rattle.std.specs.Prelude.{ℕ, Bool, List, Option}
use Rattle.framehop_core.specs.CodeAddress.{FrameLocation, at_instruction_pointer}
use Rattle.framehop_core.specs.Memory.{Memory}
use Rattle.framehop_core.specs.Outcome.{Outcome}
use Rattle.framehop_core.specs.Aarch64.Registers.{Registers as RegistersAarch64}
use Rattle.framehop_core.specs.X86_64.Registers.{Registers as RegistersX86_64}
use Rattle.framehop.specs.Aarch64.{aarch64, aarch64_readers}
use Rattle.framehop.specs.Fresh.{step}
use Rattle.framehop_cfi.specs.declared.storage.StorageLimits.{StorageLimits}
use Rattle.framehop.specs.Modules.{ModuleView, UnwindData}
use Rattle.framehop.specs.Policy.{without_allocation}
use Rattle.framehop.specs.X86_64.{x86_64, x86_64_readers}
use Rattle.framehop_backtrace.specs.Backtrace.{Backtrace, FrameView, Stack, backtrace_of}
use Rattle.framehop_backtrace.specs.Code.{Code}
use Rattle.framehop_backtrace.specs.Covers.{is_covered}
use Rattle.framehop_backtrace.specs.Info.{is_by_info}
use Rattle.framehop_backtrace.specs.Machine.{Machine, machine_x86_64, machine_aarch64}
use Rattle.framehop_backtrace.specs.Rows.{Finding, finding_in, rows_of}
use Rattle.framehop_backtrace.specs.declared.frame.FoundBy.TheVariants.{First}
use Rattle.framehop_frames.specs.declared.machine.Start.{Start}

-- `machine`: what a backtrace needs of the architecture. By the bytes of modules, read afresh: what a step of the library
-- does, whether PE or compact unwind info unwinds a frame, and the rows of call frame information: in a module's unwind data, for
-- a relative address in a frame of this kind, and in all modules.
pub record Walker (Regs : Type 0) : Type 0 where
  pub machine : Machine Regs
  pub step : List ModuleView → FrameLocation → Regs → Memory → Outcome Regs
  pub is_by_info : List ModuleView → FrameLocation → Regs → Memory → Bool
  pub row_in : Option StorageLimits → UnwindData → ℕ → Bool → Finding
  pub rows : List ModuleView → FrameLocation → Finding

-- Rows of stacks take no memory while they are made: of 192 register rules, and 3 remembered rows.
abbrev pub row_limits : Option StorageLimits
row_limits = without_allocation.rows

abbrev pub x86_64_walker : Walker RegistersX86_64
x86_64_walker = record {
  machine = machine_x86_64;
  step = step (x86_64 without_allocation);
  is_by_info = λ modules location regs memory. is_by_info x86_64_readers regs memory modules location;
  row_in = finding_in x86_64_readers.compact;
  rows = rows_of x86_64_readers.compact row_limits;
}

abbrev pub aarch64_walker : Walker RegistersAarch64
aarch64_walker = record {
  machine = machine_aarch64;
  step = step (aarch64 without_allocation);
  is_by_info = λ modules location regs memory. is_by_info aarch64_readers regs memory modules location;
  row_in = finding_in aarch64_readers.compact;
  rows = rows_of aarch64_readers.compact row_limits;
}

module _ {Regs : Type 0} (walker : Walker Regs) where
  -- a stack by the modules of its process, its rows, its memory and its code: the modules tell which functions are covered
  abbrev pub stack_in : List ModuleView → (FrameLocation → Finding) → Memory → Code → Stack Regs
  stack_in modules rows memory code = record {
    machine = walker.machine;
    step = walker.step modules;
    is_by_info = walker.is_by_info modules;
    rows = rows;
    covers = is_covered modules;
    memory = memory;
    code = code;
  }

  -- the frame with which a walk begins
  abbrev pub first_frame : Start Regs → FrameView Regs
  first_frame start = record {
    location = at_instruction_pointer start.pc;
    columns = start.columns;
    regs = start.regs;
    found = First;
  }

  -- the backtrace from there on, at most so many frames
  abbrev pub backtrace_from : ℕ → List ModuleView → (FrameLocation → Finding) → Memory → Code → Start Regs → Backtrace Regs
  backtrace_from limit modules rows memory code start =
      backtrace_of (stack_in modules rows memory code) limit (first_frame start)
