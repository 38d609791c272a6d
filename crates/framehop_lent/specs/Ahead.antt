-- A stack that has no word, or only one, by which the words are found that a step asks for first.
use Rattle.std.specs.Prelude.{ℕ, ◌==◌, if◌then◌else◌, Option, Some, None}
use Rattle.framehop.specs.Memory.{Memory}

-- no word, but for a 0 at the address, if there is one
abbrev pub zero_at : Option ℕ → Memory
zero_at None address = None
zero_at (Some known) address = if address == known then Some 0 else None
