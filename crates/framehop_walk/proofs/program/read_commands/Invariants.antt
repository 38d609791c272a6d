use Rattle.std.proofs.Common.{◌≡◌, List, ℕ, [], drop, map}
use Rattle.serde_json.specs.View.{items_view}
use Rattle.framehop_walk.specs.Fields.{each}
use Rattle.framehop_walk.specs.Commands.{Written}
use Rattle.framehop_walk.specs.Program.{read_next, AreSaid}
use Rattle.framehop_walk.proofs.program.read_commands.Given as goal

abbrev pub invariant-loop-command : goal.invariant-loop-command
invariant-loop-command g l =
    (written : List (List ℕ × Written g.row.A-UnwindRegs.Denot))
    × (each (read_next g.A.Registers.reading) [] (items_view l.items.items)
    ≡ each (read_next g.A.Registers.reading) written (items_view (drop l.command-index l.items.items)))
    × (map (λ (w : List ℕ × Written g.row.A-UnwindRegs.Denot). w.0) written ≡ map (λ v. v.now) l.verbs.items)
    × AreSaid written l.commands.items
