-- The files of a recording.
use Rattle.std.specs.Prelude.{◌≡◌, ℕ, nat_eq, unwrap_or, option_map, List, [], ◌∷◌, Option}
use Rattle.std.specs.BTreeMap.{BTreeMap, get_by}
use Rattle.std.specs.Cmp.Lexicographic.{pointwise, slice_cmp}
use Rattle.std.specs.Ordering.{nat_cmp}
use denote.Ref.{Bor}
use Rattle.std.specs.List.{find}
use Rattle.framehop_recording.specs.Attributes.{AttributeView}
use Rattle.framehop_recording.specs.BuildIds.{FileBuildIdView}
use Rattle.framehop_recording.specs.Mapping.{MappingView}
use Rattle.framehop_recording.specs.Records.{RecordView}
use Rattle.framehop_processes.specs.Files.{IsWithoutFiles, IsAdded}
use Rattle.framehop_processes.specs.Source.{SourceView}
use Rattle.framehop_processes.specs.declared.files.Files.{Files}
use Rattle.framehop_perf_stacks.specs.PerfMap.{IsMapRead}
use Rattle.framehop_perf_stacks.specs.Sampled.{sampled_mappings}

-- the build id that a recording has of the file of a name: the first, or no bytes
abbrev pub build_id_for : List FileBuildIdView → List ℕ → List ℕ
build_id_for build_ids name =
    unwrap_or (option_map (λ b. b.build_id) (find (λ b. pointwise nat_eq b.name name) build_ids)) []

-- the build id that a map has by the name of a file, or no bytes
abbrev pub build_id_in : BTreeMap (Bor (List ℕ)) (Bor (List ℕ)) → List ℕ → List ℕ
build_id_in by_name name =
    unwrap_or (option_map (λ b. b.now) (get_by (λ key. slice_cmp nat_cmp name key.now) by_name)) []

-- it has of each name what the recording has
abbrev pub HasBuildIds : List FileBuildIdView → BTreeMap (Bor (List ℕ)) (Bor (List ℕ)) → Type 0
HasBuildIds build_ids by_name = (name : List ℕ) → build_id_in by_name name ≡ build_id_for build_ids name

-- the build id that the file of a mapping must have: its own, or else the recording's
abbrev pub wanted_by : List FileBuildIdView → List ℕ → List ℕ → List ℕ
wanted_by build_ids name [] = build_id_for build_ids name
wanted_by build_ids name (byte ∷ bytes) = byte ∷ bytes

abbrev pub wanted_for : List FileBuildIdView → MappingView → List ℕ
wanted_for build_ids m = wanted_by build_ids m.name m.build_id

-- `gives_map`: what can be given as the map of a process
module _ (source : SourceView) (gives_map : ℕ → Option (List ℕ) → Type 0) where
  -- The files after a mapping of code: its file is added. The build id that is wanted of it is the mapping's, or else the one
  -- that the recording has of its name. Where the mapping is of no file, the map of its process is added.
  abbrev pub IsAddedFor : List FileBuildIdView → MappingView → Files → Files → Type 0
  IsAddedFor build_ids m old new =
      (between : Files) × IsAdded source m.name (wanted_for build_ids m) old between × IsMapRead gives_map m between new

  -- the same of mappings, one after another
  abbrev pub AreAdded : List FileBuildIdView → List MappingView → Files → Files → Type 0
  AreAdded build_ids [] old new = new ≡ old
  AreAdded build_ids (m ∷ mappings) old new =
      (between : Files) × IsAddedFor build_ids m old between × AreAdded build_ids mappings between new

  -- the files whose code is mapped at samples, each once
  abbrev pub AreFilesOf : List AttributeView → List FileBuildIdView → List RecordView → Files → Type 0
  AreFilesOf attributes build_ids records files =
      (none : Files) × IsWithoutFiles none × AreAdded build_ids (sampled_mappings attributes records) none files
