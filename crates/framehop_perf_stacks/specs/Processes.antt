-- The processes of a recording at a time, and what a change does to them.
use Rattle.std.specs.Prelude.{◌≡◌, ◌⊎◌, ℕ, ◌<◌, ◌≤◌, ◌==◌, false, if◌then◌else◌, List, [], Option, Some, None, option_map, option_and_then, unwrap_or, IfSome}
use Rattle.std.specs.List.{list_any}
use Rattle.std.specs.BTreeMap.{BTreeMap, get}
use Rattle.std.specs.Ordering.{nat_cmp}
use Rattle.framehop.specs.Modules.{ModuleView, UnwinderView}
use Rattle.framehop.specs.Soundness.{AreApart}
use Rattle.framehop_processes.specs.Mappings.{with_mapping, overlaps, starting_elsewhere, left_by}
use Rattle.framehop_processes.specs.Process.{ProcessView, HasModules}
use Rattle.framehop_processes.specs.declared.mapping.Mapping.{Mapping}
use Rattle.framehop_perf_stacks.specs.declared.processes.Exchange.{Exchange}
use Rattle.framehop_perf_stacks.specs.declared.processes.MadeOf.{MadeOf}
use Rattle.framehop_perf_stacks.specs.declared.processes.MappedProcess.{MappedProcess}
use Rattle.framehop_perf_stacks.specs.declared.processes.Version.{Version}
use Rattle.framehop_perf_stacks.specs.declared.changes.Change.{Change}
use Rattle.framehop_perf_stacks.specs.declared.changes.Change.TheVariants.{Map, Begin, Fork}

-- the mappings of each process, by its number: one that is not known has none
abbrev pub Mapped : Type 0
Mapped = ℕ → List Mapping

abbrev pub mapped_in : BTreeMap ℕ MappedProcess → Mapped
mapped_in processes pid = unwrap_or (option_map (λ process. process.mappings) (get nat_cmp processes pid)) []

-- the process that is ready for the mappings of a number
abbrev pub ready_in : BTreeMap ℕ MappedProcess → BTreeMap ℕ ProcessView → ℕ → Option ProcessView
ready_in processes ready pid = option_and_then (λ process. get nat_cmp ready process.version.number) (get nat_cmp processes pid)

-- a mapping that has an address makes mappings out of those that are given, of which it overlaps none
abbrev pub IsOneMore : Mapping → List Mapping → List Mapping → Type 0
IsOneMore mapping others mappings = (mapping.start < mapping.end) × (list_any (overlaps mapping) others ≡ false)
    × (with_mapping mapping others ≡ mappings)

-- an exchange makes mappings out of others
abbrev pub LeadsTo : Exchange → List Mapping → List Mapping → Type 0
LeadsTo exchange old new = IsOneMore exchange.come (left_by exchange.gone old) new

-- mappings are those of the number of a process, and one more
abbrev pub IsMadeOf : BTreeMap ℕ MappedProcess → List Mapping → MadeOf → Type 0
IsMadeOf processes mappings of = IsOneMore of.mapping (starting_elsewhere of.mapping.start mappings) mappings
    × ((pid : ℕ) × (process : MappedProcess) × (get nat_cmp processes pid ≡ Some process) × (process.version.number ≡ of.number)
    × (process.mappings ≡ starting_elsewhere of.mapping.start mappings))

-- the mappings of a number, as those of a version tell them: these themselves, or what they were made of
abbrev pub Tells : Version → List Mapping → ℕ → List Mapping → Type 0
Tells version mappings number told = ((number ≡ version.number) × (told ≡ mappings))
    ⊎ ((of : MadeOf) × (version.made_of ≡ Some of) × (number ≡ of.number) × (told ≡ starting_elsewhere of.mapping.start mappings))

-- a process has mappings of a version, or the last that was made ready has
abbrev pub AreKnown : BTreeMap ℕ MappedProcess → BTreeMap ℕ ProcessView → Version → Version → List Mapping → Type 0
AreKnown processes ready latest version mappings =
    ((pid : ℕ) × (get nat_cmp processes pid ≡ Some (record { version = version; mappings = mappings })))
    ⊎ ((version ≡ latest) × (made : ProcessView) × (get nat_cmp ready latest.number ≡ Some made) × (mappings ≡ made.mappings))

-- the numbers that they tell of were drawn from a counter before
abbrev pub AreDrawn : BTreeMap ℕ MappedProcess → BTreeMap ℕ ProcessView → Version → ℕ → Type 0
AreDrawn processes ready latest next = (version : Version) (mappings told : List Mapping) (number : ℕ)
    → AreKnown processes ready latest version mappings → Tells version mappings number told → number < next

-- they tell the same of one number
abbrev pub HaveSame : BTreeMap ℕ MappedProcess → BTreeMap ℕ ProcessView → Version → Type 0
HaveSame processes ready latest = (version other : Version) (mappings others told same : List Mapping) (number : ℕ)
    → AreKnown processes ready latest version mappings → AreKnown processes ready latest other others
    → Tells version mappings number told → Tells other others number same → told ≡ same

-- and they were made by one mapping more
abbrev pub AreMade : BTreeMap ℕ MappedProcess → BTreeMap ℕ ProcessView → Version → Type 0
AreMade processes ready latest = (version : Version) (mappings : List Mapping) (of : MadeOf)
    → AreKnown processes ready latest version mappings → version.made_of ≡ Some of
    → IsOneMore of.mapping (starting_elsewhere of.mapping.start mappings) mappings

-- one that is ready for the number of a process has its mappings
abbrev pub HaveReady : BTreeMap ℕ MappedProcess → BTreeMap ℕ ProcessView → Type 0
HaveReady processes ready = (pid : ℕ) (process : MappedProcess) (made : ProcessView) → get nat_cmp processes pid ≡ Some process
    → get nat_cmp ready process.version.number ≡ Some made → made.mappings ≡ process.mappings

-- none is ready for a number that was not drawn
abbrev pub AreEarlier : BTreeMap ℕ ProcessView → ℕ → Type 0
AreEarlier ready next = (number : ℕ) → next ≤ number → get nat_cmp ready number ≡ None

-- those of one process are others
abbrev pub with_process : ℕ → List Mapping → Mapped → Mapped
with_process pid mappings mapped number = if number == pid then mappings else mapped number

-- the mappings after a change
abbrev pub after : Change → Mapped → Mapped
after (Map pid mapping) mapped = with_process pid (with_mapping mapping (mapped pid)) mapped
after (Begin pid) mapped = with_process pid [] mapped
after (Fork pid parent) mapped = with_process pid (mapped parent) mapped

-- What holds of a process whose unwinder shares a cache with those of others, under a counter of generations: its unwinder
-- has exactly the modules of its mappings, its generation was drawn, the cache changes none of its answers, and the
-- unwinders of one generation have the same modules.
pub record IsFit (module_of : Mapping → ModuleView) (is_sound : UnwinderView → Type 0) (processes : BTreeMap ℕ ProcessView)
    (next : ℕ) (process : ProcessView) : Type 0 where
  pub modules : HasModules module_of process
  pub drawn : process.unwinder.generation < next
  pub sound : is_sound process.unwinder
  pub apart : (pid : ℕ) → IfSome (get nat_cmp processes pid) (λ other. AreApart process.unwinder other.unwinder)

-- it holds of each process, and the cache changes no answer of an unwinder of a later generation
pub record IsServed (module_of : Mapping → ModuleView) (is_sound : UnwinderView → Type 0)
    (processes : BTreeMap ℕ ProcessView) (next : ℕ) : Type 0 where
  pub each : (pid : ℕ) → IfSome (get nat_cmp processes pid) (IsFit module_of is_sound processes next)
  pub later : (unwinder : UnwinderView) → next ≤ unwinder.generation → is_sound unwinder
