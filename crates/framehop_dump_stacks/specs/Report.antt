-- Reports of a dump: what comes before its threads, a text for each thread, and what comes after them.
use Rattle.std.specs.Prelude.{ℕ, List, [], ◌∷◌, ◌++◌, Bool, true}
use Rattle.framehop_processes.specs.declared.files.Files.{Files}
use Rattle.framehop_dumps.specs.Dump.{DumpView}
use Rattle.framehop_dump_stacks.specs.Walked.{WalkedThread, AreThreadsOf}

-- the texts of items in their order: a text may depend on whether it is a later one (`true`) or the first
abbrev pub texts_of : {X : Type 0} → (Bool → X → List ℕ) → Bool → List X → List ℕ
texts_of text later [] = []
texts_of text later (x ∷ others) = text later x ++ texts_of text true others

-- a text is made of the threads of a process with their stacks, as a report makes it of them
abbrev pub IsReportOf : (List WalkedThread → List ℕ → Type 0) → Bool → ℕ → DumpView → Files → List ℕ → Type 0
IsReportOf is_text explains limit dump files text =
    (threads : List WalkedThread) × AreThreadsOf explains limit dump files threads × is_text threads text
