-- What a run answers to its input: the lines of `framehop-walk`, with notes under them.
use Rattle.std.specs.Prelude.{◌≡◌, ℕ, List, Option, Ok}
use Rattle.std.specs.List.{AllByRecursion}
use Rattle.std.specs.Io.KnownBytes.{Appends}
use Rattle.serde_json.specs.Data.{Data}
use Rattle.framehop_walk.specs.Answers.{Answers, IsJson}
use Rattle.framehop_explain.specs.Annotated.{annotated}
use Rattle.framehop_explain.specs.Note.{IsNote}
use Rattle.framehop_explain_cli.specs.SessionNotes.{AreSessionNotes}

-- the answer of `framehop-walk` to these bytes, with the notes of the commands under its lines
pub record IsExplained (bytes output : List ℕ) : Type 0 where
  pub lines : List ℕ
  pub notes : List (List ℕ)
  pub answers : Answers bytes (Ok lines)
  pub are_notes : AllByRecursion IsNote notes
  pub of_commands : (value : Data) × IsJson bytes value × AreSessionNotes value notes
  pub is_annotated : output ≡ annotated lines notes

-- a writer's bytes, where they are known, have grown by that
abbrev pub IsPrinted : Option (List ℕ) → Option (List ℕ) → List ℕ → Type 0
IsPrinted old new bytes = (output : List ℕ) × IsExplained bytes output × Appends old new output
