use Rattle.std.proofs.Common.{◌≡◌}
use Rattle.std.specs.Prelude.{take}
use Rattle.std.specs.Option.{option_copied}
use Rattle.framehop.specs.Modules.{last_of, starting_by}
use Rattle.framehop_explain.proofs.uncovered.last_module_by.Given as goal

-- the last among the modules before the place
abbrev pub invariant-loop-loaded : goal.invariant-loop-loaded
invariant-loop-loaded g l = option_copied l.last ≡ last_of (starting_by l.address (take l.loaded-index l.modules))
