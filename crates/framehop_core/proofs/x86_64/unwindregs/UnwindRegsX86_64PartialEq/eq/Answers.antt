use Rattle.std.proofs.Common.{rules}
use Rattle.framehop_core.proofs.RegisterFile.{eq-registers}
use Rattle.framehop_core.proofs.x86_64.unwindregs.UnwindRegsX86_64PartialEq.eq.Goals as goal

pub returns : goal.returns
returns c = search (rules, eq-registers)
