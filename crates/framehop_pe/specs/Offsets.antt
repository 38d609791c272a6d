-- Operations and instructions as offsets and pops, of which rules are made.
use Rattle.std.specs.Prelude.{ℕ, ◌/◌, ◌%◌, ◌^◌, ◌==◌, ◌&&◌, nat_lt, if◌then◌else◌}
use Rattle.framehop_core.specs.declared.x86_64.unwind_rule.OffsetOrPop.{OffsetOrPop}
use Rattle.framehop_core.specs.declared.x86_64.unwind_rule.OffsetOrPop.TheVariants.{OffsetBy8, Pop, None}
use Rattle.framehop_pe.specs.declared.unwind_info.epilog.FunctionEpilogInstruction.{FunctionEpilogInstruction}
use Rattle.framehop_pe.specs.declared.unwind_info.epilog.FunctionEpilogInstruction.TheVariants.{AddSP, AddSPFromFP, Pop as PopOf}
use Rattle.framehop_pe.specs.declared.unwind_info.operation.UnwindOperation.{UnwindOperation}
use Rattle.framehop_pe.specs.declared.unwind_info.operation.UnwindOperation.TheVariants.{UnStackAlloc, PopNonVolatile, RestoreSp, Read, Skip, MachineFrame}

-- bytes that rsp rises by: an offset where they are whole words of 8 bytes, of a count that fits 16 bits
abbrev pub offset_of : ℕ → OffsetOrPop
offset_of bytes = if (bytes % 8 == 0) && nat_lt (bytes / 8) (2 ^ 16) then OffsetBy8 (bytes / 8) else None

-- an operation that undoes a code, and an instruction of an epilog, as an offset or a pop
abbrev pub of_operation : UnwindOperation → OffsetOrPop
of_operation (UnStackAlloc bytes) = offset_of bytes
of_operation (PopNonVolatile register) = Pop register
of_operation RestoreSp = None
of_operation (Read register offset) = None
of_operation Skip = None
of_operation (MachineFrame error_code) = None

abbrev pub of_instruction : FunctionEpilogInstruction → OffsetOrPop
of_instruction (AddSP bytes) = offset_of bytes
of_instruction (AddSPFromFP offset) = None
of_instruction (PopOf register) = Pop register
