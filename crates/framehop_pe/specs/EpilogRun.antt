-- A run of what is left of an epilog, on sixteen registers and memory.
use Rattle.std.specs.Prelude.{ℕ, ℤ, List, [], ◌∷◌, Option, Some, None, Result, Ok, Err}
use Rattle.framehop_core.specs.AddSigned.{fitting, sum_with}
use Rattle.framehop_core.specs.Memory.{Memory}
use Rattle.framehop_core.specs.X86_64.Registers.{Registers, register, with_register}
use Rattle.framehop_core.specs.declared.x86_64.unwindregs.Reg.{Reg}
use Rattle.framehop_pe.specs.Resolve.{Caller, sum, popped_word}
use Rattle.framehop_pe.specs.declared.pe.PeUnwinderError.{PeUnwinderError}
use Rattle.framehop_pe.specs.declared.pe.PeUnwinderError.TheVariants.{MissingStackData}
use Rattle.framehop_pe.specs.declared.unwind_info.epilog.FunctionEpilogInstruction.{FunctionEpilogInstruction}
use Rattle.framehop_pe.specs.declared.unwind_info.epilog.FunctionEpilogInstruction.TheVariants.{AddSP, AddSPFromFP, Pop}

-- the registers with another rsp, if there is one
abbrev pub with_sp : Option ℕ → Registers → Result Registers PeUnwinderError
with_sp (Some sp) r = Ok (record r { rsp = sp })
with_sp None r = Err (MissingStackData None)

-- the address at some bytes from the frame register, if it fits 64 bits; without a frame register none
abbrev pub beside_register : Option Reg → ℤ → Registers → Option ℕ
beside_register None offset r = None
beside_register (Some frame) offset r = fitting 64 (sum_with (register r frame) offset)

-- the registers with a popped word in one of them
abbrev pub with_popped : Reg → Caller → Result Registers PeUnwinderError
with_popped reg (Ok (word, r)) = Ok (with_register r reg word)
with_popped reg (Err error) = Err error

-- the registers after one instruction
abbrev pub stepped : Memory → Option Reg → FunctionEpilogInstruction → Registers → Result Registers PeUnwinderError
stepped memory frame (AddSP offset) r = with_sp (sum r.rsp offset) r
stepped memory frame (AddSPFromFP offset) r = with_sp (beside_register frame offset r) r
stepped memory frame (Pop reg) r = with_popped reg (popped_word memory r)

-- one step, then what follows it
abbrev pub stepped_then : Result Registers PeUnwinderError → (Registers → Caller) → Caller
stepped_then (Ok r) next = next r
stepped_then (Err error) next = Err error

-- The return address and the caller's registers but for ip, by the instructions in their order and the one that leaves
-- the function, which pops the return address.
abbrev pub ran : Memory → Option Reg → List FunctionEpilogInstruction → Registers → Caller
ran memory frame [] r = popped_word memory r
ran memory frame (instruction ∷ instructions) r =
    stepped_then (stepped memory frame instruction r) (ran memory frame instructions)
