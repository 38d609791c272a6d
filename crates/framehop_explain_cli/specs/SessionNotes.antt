-- The notes of a session: those of the reply to each command, one for each of its lines.
use Rattle.std.specs.Prelude.{◌≡◌, ℕ, ◌+◌, ◌-◌, ◌^◌, ◌&&◌, nat_lt, if◌then◌else◌, MatchBool, List, [], ◌∷◌, ◌++◌, length, slice_set, slice_index_or, codes, Option, Some, None, Result, Ok, Err, ⊤}
use Rattle.std.specs.Global.{Global}
use Rattle.std.specs.List.{AllZip}
use Rattle.std.specs.declared.vec.Vec.{Vec}
use Rattle.serde_json.specs.Data.{Data, Items, no_items, item}
use Rattle.serde_json.specs.Find.{as_array}
use Rattle.framehop_core.specs.CodeAddress.{FrameLocation, location_of, at_instruction_pointer}
use Rattle.framehop_core.specs.Memory.{Memory}
use Rattle.framehop_core.specs.Outcome.{Outcome}
use Rattle.framehop.specs.Aarch64.{aarch64}
use Rattle.framehop.specs.CachedWorld.{step_of}
use Rattle.framehop.specs.Modules.{ModuleView, UnwinderView, with_module, has_start, without_module}
use Rattle.framehop.specs.Policy.{Policy}
use Rattle.framehop.specs.Unwinding.{Unwinding}
use Rattle.framehop.specs.World.{memory_of}
use Rattle.framehop.specs.X86_64.{x86_64}
use Rattle.framehop.specs.declared.session.commands.Command.{Command}
use Rattle.framehop.specs.declared.session.commands.Command.TheVariants.{New, Clone, Add, Remove, Step, Walk, Stats}
use Rattle.framehop_explain.specs.Architectures.{explaining_aarch64, explaining_x86_64}
use Rattle.framehop_explain.specs.Callers.{frames_from}
use Rattle.framehop_explain.specs.DataText.{IsDataText}
use Rattle.framehop_explain.specs.Found.{Explaining}
use Rattle.framehop_explain.specs.FrameNotes.{IsFrameNote}
use Rattle.framehop_explain.specs.FrameText.{name_text}
use Rattle.framehop_explain.specs.Kind.{kind_of}
use Rattle.framehop_explain.specs.Note.{note_line}
use Rattle.framehop_explain.specs.Pieces.{text_of}
use Rattle.framehop_explain.specs.SourceText.{hexadecimal}
use Rattle.framehop_walk.specs.Answers.{read_arch, read_policy}
use Rattle.framehop_walk.specs.Commands.{Written, Says}
use Rattle.framehop_walk.specs.Fields.{field_as}
use Rattle.framehop_walk.specs.Program.{read_next}
use Rattle.framehop_walk.specs.Refusals.{Reading}
use Rattle.framehop_walk.specs.Registers.{read_aarch64, read_x86_64}
use Rattle.framehop_walk.specs.declared.program.Arch.{Arch}
use Rattle.framehop_walk.specs.declared.program.Arch.TheVariants.{Aarch64, X86_64}
use Rattle.framehop_explain_cli.specs.Remarks.{remark_line, section_lines}

-- the line of a module that is added: its name, and what unwind data it has
abbrev pub module_line : ModuleView → List ℕ → List ℕ
module_line m unwind_data = note_line (text_of (name_text m.name ∷ codes ": " ∷ unwind_data ∷ []))

-- that the base of a module is above its start, if it is
abbrev pub base_lines : ModuleView → List ℕ
base_lines m =
    if nat_lt m.start m.base_avma then remark_line (text_of (
    codes "the base 0x" ∷ hexadecimal m.base_avma ∷ codes " is above the start 0x" ∷ hexadecimal m.start
    ∷ codes ": addresses below the base are not covered" ∷ []))
    else []

-- the note of a module that a command adds: its line, then remarks on its base and on the sections of the command
abbrev pub IsModuleNote : ModuleView → Data → List ℕ → Type 0
IsModuleNote m command note =
    (unwind_data : List ℕ) × IsDataText m.unwind_data unwind_data
    × (note ≡ (module_line m unwind_data ++ base_lines m) ++ section_lines (kind_of m.unwind_data) command)

-- the unwinders that were made, and the next generation
pub record Unwinders : Type 0 where
  pub unwinders : List UnwinderView
  pub next : ℕ

-- the unwinder of a number
abbrev pub unwinder_at : Unwinders → ℕ → UnwinderView
unwinder_at state number = slice_index_or state.unwinders number (record { modules = []; generation = 0 })

-- with other modules, and the next generation
abbrev pub with_modules : Unwinders → ℕ → List ModuleView → Unwinders
with_modules state number modules = record {
  unwinders = slice_set state.unwinders number (record { modules = modules; generation = state.next });
  next = state.next + 1;
}

-- The unwinders after a command: one that names none of them, or that draws a generation where none is left, changes
-- nothing.
abbrev pub state_after : {D S : Type 0} → Unwinders → Command D S → Unwinders
state_after state New =
    if nat_lt state.next (2 ^ 64 - 1) then record {
      unwinders = state.unwinders ++ (record { modules = []; generation = state.next }) ∷ [];
      next = state.next + 1;
    }
    else state
state_after state (Clone unwinder) =
    if nat_lt unwinder (length state.unwinders)
    then record state { unwinders = state.unwinders ++ unwinder_at state unwinder ∷ [] } else state
state_after state (Add unwinder added) =
    if nat_lt unwinder (length state.unwinders) && nat_lt state.next (2 ^ 64 - 1)
    then with_modules state unwinder (with_module added (unwinder_at state unwinder).modules) else state
state_after state (Remove unwinder start) =
    if nat_lt unwinder (length state.unwinders) && has_start start (unwinder_at state unwinder).modules
    && nat_lt state.next (2 ^ 64 - 1)
    then with_modules state unwinder (without_module start (unwinder_at state unwinder).modules) else state
state_after state (Step unwinder cache address regs memory) = state
state_after state (Walk unwinder cache pc regs memory limit) = state
state_after state (Stats cache) = state

module _ {D R S : Type 0} (explaining : Explaining R S) (unwinding : Unwinding R S) where
  -- The notes of the reply to a command: one for its one line, which says nothing, or that of the module that is added;
  -- under a step the note of its frame, and nothing under its registers; under a walk the notes of its frames, and
  -- nothing under its end and its registers. The command is read from these fields.
  abbrev pub AreReplyNotes : Data → Unwinders → Command D S → List (List ℕ) → Type 0
  AreReplyNotes fields state New notes = notes ≡ [] ∷ []
  AreReplyNotes fields state (Clone unwinder) notes = notes ≡ [] ∷ []
  AreReplyNotes fields state (Remove unwinder start) notes = notes ≡ [] ∷ []
  AreReplyNotes fields state (Stats cache) notes = notes ≡ [] ∷ []
  AreReplyNotes fields state (Add unwinder added) notes =
      (note : List ℕ) × IsModuleNote added fields note × (notes ≡ note ∷ [])
  AreReplyNotes fields state (Step unwinder cache address regs memory) notes =
      MatchBool (nat_lt unwinder (length state.unwinders))
      ((note : List ℕ) × IsFrameNote explaining (unwinder_at state unwinder).modules (memory_of memory)
      (location_of address) regs note × (notes ≡ note ∷ [] ∷ []))
      (notes ≡ [] ∷ [])
  AreReplyNotes fields state (Walk unwinder cache pc regs memory limit) notes =
      MatchBool (nat_lt unwinder (length state.unwinders))
      ((frames : List (List ℕ)) × AllZip (λ frame note. IsFrameNote explaining (unwinder_at state unwinder).modules
      (memory_of memory) frame.0 frame.1 note)
      (frames_from (step_of unwinding (unwinder_at state unwinder) (memory_of memory)) limit
      (Some (at_instruction_pointer pc, regs))) frames
      × (notes ≡ frames ++ [] ∷ [] ∷ []))
      (notes ≡ [] ∷ [] ∷ [])

  -- a command that is read from these fields was noted: the notes have grown by those of its reply, and the unwinders
  -- are those after it
  pub record IsNoted (fields : Data) (command : Command D S) (old new : Unwinders) (before after : List (List ℕ))
      : Type 0 where
    pub notes : List (List ℕ)
    pub are : AreReplyNotes fields old command notes
    pub grown : after ≡ before ++ notes
    pub state : new ≡ state_after old command

-- a command in memory is what is read, if it can be read
abbrev pub IsAccepted : {S : Type 0} → Reading (List ℕ × Written S) → Option (Command (Vec ℕ Global) S) → Type 0
IsAccepted reading None = (refusal : List ℕ) × (reading ≡ Err refusal)
IsAccepted {S} reading (Some command) =
    (written : List ℕ × Written S) × (reading ≡ Ok written) × Says (Ok written.1) command

-- the notes of the commands of the input, up to the first that can't be read
module _ {R S : Type 0} (registers : Data → Reading S) (explaining : Explaining R S) (unwinding : Unwinding R S) where
  abbrev pub AreNotesBy : Data → Unwinders → (Unwinders → List (List ℕ) → Type 0) → Reading (List ℕ × Written S)
      → List (List ℕ) → Type 0
  AreNotesBy fields state Others (Err refusal) notes = notes ≡ []
  AreNotesBy fields state Others (Ok written) notes =
      (command : Command (Vec ℕ Global) S) × (first : List (List ℕ)) × (others : List (List ℕ))
      × Says (Ok written.1) command × AreReplyNotes explaining unwinding fields state command first
      × Others (state_after state command) others × (notes ≡ first ++ others)

  unfoldable pub AreNotesOf : Items → Unwinders → List (List ℕ) → Type 0
  AreNotesOf no_items state notes = notes ≡ []
  AreNotesOf (item fields items) state notes =
      AreNotesBy fields state (AreNotesOf items) (read_next registers [] fields) notes

  -- those of a list of commands, from no unwinder on
  abbrev pub AreNotesIn : Reading Items → List (List ℕ) → Type 0
  AreNotesIn (Ok items) notes = AreNotesOf items (record { unwinders = []; next = 0 }) notes
  AreNotesIn (Err refusal) notes = notes ≡ []

-- the notes under a policy and on an architecture, where these can be read
abbrev pub AreNotesUnder : {R S : Type 0} → (Data → Reading S) → (Policy → Explaining R S) → (Policy → Unwinding R S) → Data
    → Reading Policy → List (List ℕ) → Type 0
AreNotesUnder registers explaining unwinding fields (Ok policy) notes =
    AreNotesIn registers (explaining policy) (unwinding policy) (field_as as_array (codes "commands") fields) notes
AreNotesUnder registers explaining unwinding fields (Err refusal) notes = ⊤

abbrev pub AreNotesOn : Data → Reading Arch → List (List ℕ) → Type 0
AreNotesOn fields (Ok Aarch64) notes =
    AreNotesUnder read_aarch64 explaining_aarch64 aarch64 fields (read_policy fields) notes
AreNotesOn fields (Ok X86_64) notes =
    AreNotesUnder read_x86_64 explaining_x86_64 x86_64 fields (read_policy fields) notes
AreNotesOn fields (Err refusal) notes = ⊤

-- the notes of the JSON value of the input
unfoldable pub AreSessionNotes : Data → List (List ℕ) → Type 0
AreSessionNotes fields notes = AreNotesOn fields (read_arch fields) notes
