-- Of which threads of a core file the top of the stack is read at once.
use Rattle.std.specs.Prelude.{ℕ, Option, None, option_map}
use Rattle.framehop_dump_files.specs.Coredump.Registers.{x86_64_registers, aarch64_registers, code_mask_of}
use Rattle.framehop_dump_files.specs.declared.coredump.core_file.Machine.{Machine}
use Rattle.framehop_dump_files.specs.declared.coredump.core_file.Machine.TheVariants.{X86_64, Aarch64}
use Rattle.framehop_dumps.specs.declared.dump.Registers.{Registers}
use Rattle.framehop_dumps.specs.declared.dump.Registers.TheVariants.{Kernel, Context}

-- the stack pointer of a thread, if it has its registers
abbrev pub stack_pointer : Machine → Registers → Option ℕ
stack_pointer X86_64 (Kernel values pac_mask) = option_map (λ registers. registers.rsp) (x86_64_registers values.now)
stack_pointer Aarch64 (Kernel values pac_mask) = option_map (λ registers. registers.1.sp) (aarch64_registers (code_mask_of pac_mask) values.now)
stack_pointer machine (Context values code_mask) = None
