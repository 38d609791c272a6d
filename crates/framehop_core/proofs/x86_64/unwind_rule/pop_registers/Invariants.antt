use Rattle.std.proofs.Common.{◌≡◌, ◌≤◌, drop}
use Rattle.framehop_core.specs.Memory.{Answering}
use Rattle.framehop_core.specs.X86_64.Rules.{popped}
use Rattle.framehop_core.proofs.x86_64.unwind_rule.pop_registers.Given as goal

abbrev pub invariant-loop-register : goal.invariant-loop-register
invariant-loop-register g l =
    goal.F-IsAlwaysCallable g l.read_stack
    × (l.first ≤ l.address)
    × Answering g.F.FnMut l.fn.read_stack l.read_stack (λ memory. popped memory l.address (drop l.register-index l.registers) l.regs ≡ popped memory l.first l.registers l.fn.regs)
