-- What gives files by their names and their build ids, as a disk does.
use Rattle.std.specs.Prelude.{ℕ, List, Option, Result}
use Rattle.framehop_processes.specs.declared.read_refusal.ReadRefusal.{ReadRefusal}

-- What it can give: for the name of a file and the build id that is wanted of it, or why it does not; for the build id of one that a profiler has
-- copied; and for the path, the build id and the link of one that has a debug file.
pub record SourceView : Type 1 where
  pub gives : List ℕ → List ℕ → Result (List ℕ) ReadRefusal → Type 0
  pub gives_copied : List ℕ → Option (List ℕ) → Type 0
  pub gives_debug : List ℕ → List ℕ → List ℕ → Option (List ℕ) → Type 0
