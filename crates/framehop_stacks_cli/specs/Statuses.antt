-- With which status the program ends: 0; 1 where a file can't be read, or nothing was counted that could be drawn; 2 where memory
-- or generations run out. Of several files it is the greatest.
use Rattle.std.specs.Prelude.{ℕ, ◌≡◌, List, [], ◌∷◌, Result, Ok, Err, max}
use Rattle.std.specs.Borrow.{Bor}
use Rattle.std.specs.Fn.{Mut, CalledAt}
use Rattle.framehop_dump_stacks.specs.declared.error.DumpStacksError.{DumpStacksError}
use Rattle.framehop_dump_stacks.specs.declared.error.DumpStacksError.TheVariants as dump
use Rattle.framehop_folded.specs.declared.flame_graph.error.FlameGraphError.{FlameGraphError}
use Rattle.framehop_folded.specs.declared.flame_graph.error.FlameGraphError.TheVariants as graph
use Rattle.framehop_folded.specs.declared.error.FoldedError.{FoldedError}
use Rattle.framehop_folded.specs.declared.error.FoldedError.TheVariants as folded
use Rattle.framehop_folded.specs.declared.error.TextError.{TextError}
use Rattle.framehop_folded.specs.declared.error.TextError.TheVariants as text
use Rattle.framehop_perf_stacks.specs.declared.error.StacksError.{StacksError}
use Rattle.framehop_perf_stacks.specs.declared.error.StacksError.TheVariants as stacks

-- of a recording, a core file or a minidump, a flame graph, and folded stacks
abbrev pub stacks_status : StacksError → ℕ
stacks_status stacks.OutOfMemory = 2
stacks_status stacks.GenerationsExhausted = 2
stacks_status refusal = 1

abbrev pub dump_status : DumpStacksError → ℕ
dump_status dump.OutOfMemory = 2
dump_status dump.GenerationsExhausted = 2
dump_status refusal = 1

abbrev pub graph_status : FlameGraphError → ℕ
graph_status graph.OutOfMemory = 2
graph_status refusal = 1

abbrev pub folded_status : FoldedError → ℕ
folded_status folded.OutOfMemory = 2
folded_status refusal = 1

abbrev pub text_status : TextError → ℕ
text_status text.OutOfMemory = 2
text_status refusal = 1

-- of what was done, or why it was not
abbrev pub status_after : {T E : Type 0} → (E → ℕ) → Result T E → ℕ
status_after status (Ok done) = 0
status_after status (Err refusal) = status refusal

-- the greatest of the statuses that calls at items give, one after another; 0 where there are none
module _ {F T E : Type 0} (calls : Mut F (Bor T × Unit {0}) (Result ℕ E)) where
  abbrev pub IsGreatestOf : F → List T → ℕ → Type 0
  IsGreatestOf call [] greatest = greatest ≡ 0
  IsGreatestOf call (item ∷ items) greatest = (status : ℕ) × (next : F) × (others : ℕ)
      × CalledAt calls call item (Ok status) next × IsGreatestOf next items others × (greatest ≡ max status others)
