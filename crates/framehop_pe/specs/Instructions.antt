-- What is left of the instructions of an epilog.
use Rattle.std.specs.Prelude.{List}
use Rattle.framehop_pe.specs.Epilog.{instructions_of, pops_in}
use Rattle.framehop_pe.specs.declared.unwind_info.epilog.EpilogInstructions.{EpilogInstructions}
use Rattle.framehop_pe.specs.declared.unwind_info.epilog.FunctionEpilogInstruction.{FunctionEpilogInstruction}

-- the release, if it has not run, then the pops that are left
abbrev pub left_instructions : EpilogInstructions → List FunctionEpilogInstruction
left_instructions e = instructions_of e.release (pops_in 0 e.bytes.now).0
