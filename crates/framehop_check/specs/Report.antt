-- What a check found.
use Rattle.std.specs.Prelude.{List, [], ◌∷◌, Option, Some, None}
use Rattle.framehop_check.specs.declared.report.Counts.{Counts}

-- nothing was found and nothing counted
abbrev pub no_counts : Counts
no_counts =
    record {
      functions = 0;
      unread = 0;
      instructions = 0;
      checked = 0;
      believed = 0;
      jumps = 0;
      calls = 0;
      alarmed = 0;
    }

-- the value that there is, if there is one
abbrev pub list_of : {A : Type 0} → Option A → List A
list_of None = []
list_of (Some value) = value ∷ []
