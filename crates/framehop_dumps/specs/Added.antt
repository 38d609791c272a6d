-- The files of a process, added one after another.
use Rattle.std.specs.Prelude.{◌≡◌, ◌⊎◌, ℕ, List, [], ◌∷◌, Bool, true, false, Option, option_and_then}
use Rattle.framehop_processes.specs.Files.{number_in, object_in, is_left_out, IsWithoutFiles, IsAdded, IsAddedLeftOut, IsRead}
use Rattle.framehop_processes.specs.Source.{SourceView}
use Rattle.framehop_processes.specs.declared.object_file.ObjectFile.{ObjectFile}
use Rattle.framehop_processes.specs.declared.files.Files.{Files}

-- what was read of the file of a name
abbrev pub object_called : Files → List ℕ → Option ObjectFile
object_called files name = option_and_then (λ number. object_in files number) (number_in files name)

-- files are left out by their names
abbrev pub AreAddedLeftOut : List (List ℕ) → Files → Files → Type 0
AreAddedLeftOut [] old new = new ≡ old
AreAddedLeftOut (name ∷ others) old new =
    (between : Files) × IsAddedLeftOut name old between × AreAddedLeftOut others between new

-- these files, each once, of which nothing was read
abbrev pub AreLeftOut : List (List ℕ) → Files → Type 0
AreLeftOut names files = (none : Files) × IsWithoutFiles none × AreAddedLeftOut names none files

module _ (source : SourceView) where
  -- A file is as it was, or it was left out and has been read since. Where all are to be read, one that is as it was was not
  -- left out.
  abbrev pub IsReadSince : Bool → List ℕ × List ℕ → Files → Files → Type 0
  IsReadSince all wanted old new =
      ((new ≡ old) × (all ≡ true → is_left_out old wanted.0 ≡ false))
      ⊎ ((is_left_out old wanted.0 ≡ true) × IsRead source wanted.0 wanted.1 old new)

  -- the same of files, one after another, by their names and the build ids that they are to have
  abbrev pub AreReadSince : Bool → List (List ℕ × List ℕ) → Files → Files → Type 0
  AreReadSince all [] old new = new ≡ old
  AreReadSince all (wanted ∷ others) old new =
      (between : Files) × IsReadSince all wanted old between × AreReadSince all others between new

  -- the same round after round, from files that were left out on
  pub data AreReadByRounds (wanted : List (List ℕ × List ℕ)) (left_out : Files) : Files → Type 0 where
    none : AreReadByRounds wanted left_out left_out
    more : (all : Bool) (old : Files) {new : Files} → AreReadByRounds wanted left_out old → AreReadSince all wanted old new
        → AreReadByRounds wanted left_out new

  -- files are added by their names and the build ids that they are to have
  abbrev pub AreAdded : List (List ℕ × List ℕ) → Files → Files → Type 0
  AreAdded [] old new = new ≡ old
  AreAdded (wanted ∷ others) old new =
      (between : Files) × IsAdded source wanted.0 wanted.1 old between × AreAdded others between new

  -- these files, each once
  abbrev pub AreFiles : List (List ℕ × List ℕ) → Files → Type 0
  AreFiles wanted files = (none : Files) × IsWithoutFiles none × AreAdded wanted none files
