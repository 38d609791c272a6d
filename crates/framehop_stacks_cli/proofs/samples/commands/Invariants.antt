use Rattle.std.proofs.Common.{◌≡◌, map, take}
use Rattle.framehop_stacks_cli.proofs.samples.commands.Given as goal

-- the names so far are the first words
abbrev pub invariant-loop-name : goal.invariant-loop-name
invariant-loop-name l = map (λ name. name.now) l.commands.items ≡ map (λ word. word.now) (take l.name-index l.name-items)
