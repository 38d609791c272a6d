-- What came of a walk over all threads, before it is written.
use Rattle.std.specs.Prelude.{ℕ, ⊤, List, Bool, true, false}
use Rattle.framehop_dump_stacks.specs.declared.program.Walk.{Walk}
use Rattle.framehop_dump_stacks.specs.declared.program.Walk.TheVariants.{Kept, Long, Asked}

-- what is kept is a report, and what is said after it; else nothing is
abbrev pub IsWalkOf : (List ℕ → Type 0) → (List ℕ → Type 0) → Walk → Type 0
IsWalkOf is_report is_said (Kept written) = is_report written.out.items × is_said written.said.items
IsWalkOf is_report is_said Long = ⊤
IsWalkOf is_report is_said Asked = ⊤

-- memory that was left out was asked for
abbrev pub is_asked : Walk → Bool
is_asked (Kept written) = false
is_asked Long = false
is_asked Asked = true
