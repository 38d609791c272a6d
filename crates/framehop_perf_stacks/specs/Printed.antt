-- What is made of a recording.
use Rattle.std.specs.Prelude.{◌≡◌, ℕ, ⊤, Bool, true, false, List, map, count_by, Option, None}
use Rattle.std.specs.Io.KnownBytes.{Appends}
use Rattle.framehop_folded.specs.Folded.{entries_of}
use Rattle.framehop_folded.specs.declared.folded.Folded.{Folded}
use Rattle.framehop_recording.specs.Attributes.{AttributeView, attribute_view}
use Rattle.framehop_recording.specs.Records.{RecordView}
use Rattle.framehop_frames.specs.TakenText.{IsNoteX86_64, IsNoteAarch64}
use Rattle.framehop_frames.specs.Walker.{x86_64_walker, aarch64_walker}
use Rattle.framehop_frames.specs.declared.json_files.FilePaths.{FilePaths}
use Rattle.framehop_processes.specs.Files.{module_at}
use Rattle.framehop_recording.specs.declared.error.RecordingError.{RecordingError}
use Rattle.framehop_perf_stacks.specs.Bodies.{IsCompleted}
use Rattle.framehop_perf_stacks.specs.Ended.{first_refusal, before_refusal, MayEnd}
use Rattle.framehop_perf_stacks.specs.Json.{head_line, counted_lines}
use Rattle.framehop_perf_stacks.specs.Problems.{AreProblems}
use Rattle.framehop_perf_stacks.specs.Recording.{are_of_aarch64, records_in}
use Rattle.framehop_perf_stacks.specs.Run.{is_sample}
use Rattle.framehop_perf_stacks.specs.Samples.{State, beginning, drawn_over, samples_from, Told, Each, IsToldOf, IsMade, AreSummed}
use Rattle.framehop_perf_stacks.specs.Start.{StartsX86_64, StartsAarch64}
use Rattle.framehop_processes.specs.declared.files.Files.{Files}
use Rattle.framehop_perf_stacks.specs.Counts.{summary_text}
use Rattle.framehop_perf_stacks.specs.declared.counts.Counts.{Counts}
use Rattle.framehop_perf_stacks.specs.declared.error.StacksError.{StacksError}
use Rattle.framehop_perf_stacks.specs.declared.error.StacksError.TheVariants.{Recording as Refused}
use Rattle.framehop_perf_stacks.specs.declared.recording.Recording.{Recording}
use Rattle.framehop_perf_stacks.specs.declared.run.Options.{Options}

-- this is told of a sample of one of the two architectures, by the modules of the files
abbrev pub IsToldIn : Bool → Options → Files → List AttributeView → RecordView × State → Told → Type 0
IsToldIn true options files attributes =
    IsToldOf (module_at files) aarch64_walker IsNoteAarch64 StartsAarch64 options files attributes
IsToldIn false options files attributes =
    IsToldOf (module_at files) x86_64_walker IsNoteX86_64 StartsX86_64 options files attributes

-- what is told of the samples of records, of each by the state that the records before it lead to
abbrev pub AreToldOf : List AttributeView → List RecordView → Files → Options → List Told → Type 0
AreToldOf attributes records files options samples =
    Each (IsToldIn (are_of_aarch64 attributes) options files attributes)
    (samples_from files beginning records) samples

-- what is said of files of which nothing was read
abbrev pub AreTold : Files → Option (List ℕ) → Option (List ℕ) → Type 0
AreTold files before after = (problems : List ℕ) × AreProblems files problems × Appends before after problems

-- what is said of samples is their summary
abbrev pub IsSaid : List Told → List RecordView → Option (List ℕ) → Option (List ℕ) → Type 0
IsSaid samples records before after =
    (counts : Counts) × AreSummed samples records counts × Appends before after (summary_text counts)

-- their texts are folded, or shown as blocks, and their summary is said
abbrev pub IsMadeFrom : List AttributeView → List RecordView → Files → Options → Folded → Option (List ℕ) → Option (List ℕ)
    → Option (List ℕ) → Option (List ℕ) → Type 0
IsMadeFrom attributes records files options folded before after unsaid said =
    (samples : List Told) × AreToldOf attributes records files options samples
    × IsMade options.frames samples folded before after × IsSaid samples records unsaid said

-- the same of all records of a recording
abbrev pub IsMadeOf : Recording → Files → Options → Folded → Option (List ℕ) → Option (List ℕ)
    → Option (List ℕ) → Option (List ℕ) → Type 0
IsMadeOf recording files options folded before after unsaid said =
    IsMadeFrom (map attribute_view recording.events.attributes.items) (records_in recording.records.items) files options folded before after unsaid said

-- none of them is refused, and the refusal at their end is the recording's
pub record IsWhole (recording : Recording) (refusal : Option RecordingError) : Type 0 where
  pub at_end : refusal ≡ recording.refusal
  pub none : first_refusal (records_in recording.records.items) ≡ None

-- What is made where a run ends with an error: at the first record that is refused, of the samples before it.
abbrev pub IsMadeUntil : StacksError → Recording → Files → Options → Folded → Option (List ℕ) → Option (List ℕ)
    → Option (List ℕ) → Option (List ℕ) → Type 0
IsMadeUntil (Refused refusal) recording files options folded before after unsaid said =
    IsMadeFrom (map attribute_view recording.events.attributes.items)
    (before_refusal (records_in recording.records.items)) files options folded before after unsaid said
IsMadeUntil error recording files options folded before after unsaid said = ⊤

-- The same of records with bodies that are given for their samples.
abbrev pub IsMadeFromWith : (RecordView → List ℕ → Type 0) → List AttributeView → List RecordView → Files → Options → Folded
    → Option (List ℕ) → Option (List ℕ) → Option (List ℕ) → Option (List ℕ) → Type 0
IsMadeFromWith gives attributes records files options folded before after unsaid said =
    (whole : List RecordView) × Each (IsCompleted gives) records whole
    × IsMadeFrom attributes whole files options folded before after unsaid said

-- of a recording's records, and of those before the first that is refused
abbrev pub IsMadeWith : (RecordView → List ℕ → Type 0) → Recording → Files → Options → Folded → Option (List ℕ)
    → Option (List ℕ) → Option (List ℕ) → Option (List ℕ) → Type 0
IsMadeWith gives recording files options folded before after unsaid said =
    IsMadeFromWith gives (map attribute_view recording.events.attributes.items) (records_in recording.records.items)
    files options folded before after unsaid said

abbrev pub IsMadeUntilWith : (RecordView → List ℕ → Type 0) → StacksError → Recording → Files → Options → Folded
    → Option (List ℕ) → Option (List ℕ) → Option (List ℕ) → Option (List ℕ) → Type 0
IsMadeUntilWith gives (Refused refusal) recording files options folded before after unsaid said =
    IsMadeFromWith gives (map attribute_view recording.events.attributes.items)
    (before_refusal (records_in recording.records.items)) files options folded before after unsaid said
IsMadeUntilWith gives error recording files options folded before after unsaid said = ⊤

-- a run over the records of a recording may end with an error, where a write has failed or not
abbrev pub MayEndAt : Bool → Recording → Files → StacksError → Type 0
MayEndAt failed recording files error =
    let records = records_in recording.records.items in
    MayEnd failed (first_refusal records) (drawn_over files records beginning) (count_by is_sample recording.records.items) error

-- the line of a recording's files in JSON, by where they were read
abbrev pub head_of : Recording → Files → List FilePaths → List ℕ
head_of recording files paths =
    head_line (are_of_aarch64 (map attribute_view recording.events.attributes.items)) paths files.list.items

-- What is made of a recording as JSON: a line of its files, the lines of its samples, where each is shown, and then those of
-- the stacks that were counted. What is said is as of text.
abbrev pub IsJsonBy : (Folded → Option (List ℕ) → Option (List ℕ) → Option (List ℕ) → Option (List ℕ) → Type 0) → Recording → Files
    → List FilePaths → Option (List ℕ) → Option (List ℕ) → Option (List ℕ) → Option (List ℕ) → Type 0
IsJsonBy made recording files paths before after unsaid said =
    (told : Option (List ℕ)) × AreTold files unsaid told × ((begun : Option (List ℕ)) × Appends before begun (head_of recording files paths)
    × ((folded : Folded) × ((shown : Option (List ℕ)) × made folded begun shown told said
    × Appends shown after (counted_lines (entries_of folded)))))

-- of a recording's records with bodies that are given, and, where a record is refused, of those before it
abbrev pub IsJsonWith : (RecordView → List ℕ → Type 0) → Recording → Files → List FilePaths → Options → Option (List ℕ)
    → Option (List ℕ) → Option (List ℕ) → Option (List ℕ) → Type 0
IsJsonWith gives recording files paths options before after unsaid said =
    IsJsonBy (IsMadeWith gives recording files options) recording files paths before after unsaid said

abbrev pub IsJsonUntilWith : (RecordView → List ℕ → Type 0) → StacksError → Recording → Files → List FilePaths → Options
    → Option (List ℕ) → Option (List ℕ) → Option (List ℕ) → Option (List ℕ) → Type 0
IsJsonUntilWith gives (Refused refusal) recording files paths options before after unsaid said =
    IsJsonBy (IsMadeUntilWith gives (Refused refusal) recording files options) recording files paths before after unsaid said
IsJsonUntilWith gives error recording files paths options before after unsaid said = ⊤
