use Rattle.std.proofs.Common.{◌≡◌, ◌+◌, ◌-◌, ◌≤◌, ◌++◌, length, map, take, drop}
use Rattle.framehop_processes.proofs.ExchangeLemmas.{IsRising}
use Rattle.framehop_processes.proofs.exchange.exchange_modules.Given as goal

abbrev pub invariant-loop-step : goal.invariant-loop-step
invariant-loop-step g l =
    (l.changes ≤ 64)
    × (l.gone ≤ length l.old)
    × (l.come ≤ length l.new)
    × ((g.U.Unwinder.unwinder_view l.unwinder).modules ≡ map (g.M.ModuleMaker.module_of l.maker) (take l.come l.new ++ drop l.gone l.old))
    × IsRising 0 (take l.come l.new ++ drop l.gone l.old)
    × (length l.old ≤ l.gone → (g.U.Unwinder.unwinder_view l.unwinder).generation ≡ l.generation)

abbrev pub decreases-loop-step : goal.decreases-loop-step
decreases-loop-step g l = (length l.old - l.gone) + (length l.new - l.come)
