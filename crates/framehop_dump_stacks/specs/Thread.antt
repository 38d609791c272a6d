-- The stacks of threads.
use Rattle.std.specs.Prelude.{ℕ, ◌==◌, List, [], drop, slice_get, Option, Some, None, option_map, unwrap_or, bit_and, codes, if◌then◌else◌}
use Rattle.framehop_core.specs.Aarch64.Registers.{Registers as RegistersAarch64}
use Rattle.framehop_core.specs.X86_64.Registers.{Registers as RegistersX86_64}
use Rattle.framehop_dump_files.specs.Coredump.Registers as kernel
use Rattle.framehop_dump_files.specs.Minidump.Registers as context
use Rattle.framehop.specs.Modules.{ModuleView}
use Rattle.framehop_backtrace.specs.Code.{Code}
use Rattle.framehop_memory.specs.Memory.{bytes_after}
use Rattle.framehop_processes.specs.declared.mapping.Mapping.{Mapping}
use Rattle.framehop_processes.specs.declared.files.Files.{Files}
use Rattle.framehop_frames.specs.Code.{code_of}
use Rattle.framehop_frames.specs.Rows.{rows_in}
use Rattle.framehop_frames.specs.Stack.{StackView, no_stack, stack_from}
use Rattle.framehop_frames.specs.Walker.{Walker}
use Rattle.framehop_frames.specs.Start.{x86_64_start, aarch64_start}
use Rattle.framehop_frames.specs.declared.machine.Start.{Start}
use Rattle.framehop_dumps.specs.Dump.{RegistersView, of_kernel, of_context, ThreadView, DumpView, memory_in, is_code_at}

-- The registers with which the walk of a thread begins. On aarch64 return addresses are without their signatures.
abbrev pub begins_x86_64 : RegistersView → Option (Start RegistersX86_64)
begins_x86_64 (of_kernel values pac_mask) = option_map x86_64_start (kernel.x86_64_registers values)
begins_x86_64 (of_context values code_mask) = option_map x86_64_start (context.x86_64_registers values)

-- A context has x0 to x28 where the bit 2 of its flags says it, that of CONTEXT_ARM64_INTEGER: from its byte 8 on.
abbrev pub general_words : List ℕ → List ℕ
general_words values = if bit_and (unwrap_or (slice_get values 0) 0) 2 == 2 then drop 8 values else []

-- in a core file x0 comes first
abbrev pub begins_aarch64 : RegistersView → Option (Start RegistersAarch64)
begins_aarch64 (of_kernel values pac_mask) =
    option_map (aarch64_start values) (kernel.aarch64_registers (kernel.code_mask_of pac_mask) values)
begins_aarch64 (of_context values code_mask) =
    option_map (aarch64_start (general_words values)) (context.aarch64_registers code_mask values)

-- the code of a process, by its mappings
abbrev pub code_in : DumpView → Files → List Mapping → Code
code_in dump files mappings = code_of (bytes_after dump.memory) (is_code_at dump) files mappings

module _ {Regs : Type 0} (walker : Walker Regs) (begins : RegistersView → Option (Start Regs)) (limit : ℕ) (files : Files)
    (mappings : List Mapping) (modules : List ModuleView) (dump : DumpView) where
  -- the stack over the memory of a process by the bytes of modules, from the registers with which it begins
  abbrev pub dumped_from : Option (Start Regs) → StackView
  dumped_from (Some start) =
      stack_from walker limit modules (rows_in walker files mappings modules) (memory_in dump) (code_in dump files mappings) start
  dumped_from None = no_stack (codes "no-registers")

  -- the stack of a thread
  abbrev pub thread_stack : ThreadView → StackView
  thread_stack thread = dumped_from (begins thread.registers)
