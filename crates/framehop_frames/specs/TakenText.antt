-- The note of a frame: what a walk took for its caller, as text.
use Rattle.std.specs.Prelude.{◌≡◌, ℕ, List, [], ◌∷◌, codes, Option, Some, None, unwrap_or, Result}
use Rattle.framehop_core.specs.CodeAddress.{FrameLocation, address_of, lookup_address}
use Rattle.framehop_core.specs.Memory.{Memory}
use Rattle.framehop_core.specs.Aarch64.Registers.{Registers as RegistersAarch64}
use Rattle.framehop_core.specs.X86_64.Registers.{Registers as RegistersX86_64}
use Rattle.framehop_core.specs.declared.aarch64.unwind_rule.UnwindRuleAarch64.TheVariants as aarch64_rule
use Rattle.framehop_core.specs.declared.x86_64.unwind_rule.UnwindRuleX86_64.TheVariants as x86_64_rule
use Rattle.framehop.specs.Modules.{ModuleView}
use Rattle.framehop.specs.Policy.{without_allocation}
use Rattle.framehop_backtrace.specs.declared.frame.BacktraceEnd.{BacktraceEnd}
use Rattle.framehop_backtrace.specs.declared.frame.FoundBy.{FoundBy}
use Rattle.framehop_explain.specs.Architectures.{explaining_x86_64, explaining_aarch64}
use Rattle.framehop_explain.specs.Found.{Explaining, FrameFinding, IsFinding}
use Rattle.framehop_explain.specs.FrameText.{frame_text}
use Rattle.framehop_explain.specs.Note.{note_line}
use Rattle.framehop_explain.specs.Pieces.{text_of}
use Rattle.framehop_explain.specs.SourceText.{hexadecimal, source_text}
use Rattle.framehop_explain.specs.declared.source.Source.{Source}
use Rattle.framehop_frames.specs.Taken.{data_of, taken_by, taken_outside}
use Rattle.framehop_frames.specs.declared.note.Taken.{Taken}
use Rattle.framehop_frames.specs.declared.note.Taken.TheVariants.{Step, Row, DebugFrame, Call, Run, FramePointer}

-- where a frame is in its module, where that has what unwinds it, and what was taken: a row over all registers, a row of
-- `.debug_frame`, the code up to its return, or, after a guess, the frame pointer, with the text of the fallback rule
abbrev pub row_text : ℕ → Source → List ℕ
row_text address source =
    text_of (codes "0x" ∷ hexadecimal address ∷ codes ": " ∷ source_text source ∷ codes ": over all registers" ∷ [])

abbrev pub debug_frame_text : ℕ → Source → List ℕ
debug_frame_text address source = text_of (
    codes "0x" ∷ hexadecimal address ∷ codes ": " ∷ source_text source
    ∷ codes "; row of .debug_frame: over all registers" ∷ [])

abbrev pub run_text : ℕ → Source → List ℕ
run_text address source = text_of (
    codes "0x" ∷ hexadecimal address ∷ codes ": " ∷ source_text source ∷ codes ": by its code, up to its return" ∷ [])

abbrev pub fallback_text : ℕ → Source → List ℕ → List ℕ
fallback_text address source fallback = text_of (
    codes "0x" ∷ hexadecimal address ∷ codes ": " ∷ source_text source ∷ codes ": no likelier call: fallback: "
    ∷ fallback ∷ [])

-- what a walk took for the caller of a frame in a module, where it did not take the library's step
abbrev pub taken_text : {Rule : Type 0} → List ℕ → FrameFinding Rule → Taken → Option (List ℕ)
taken_text fallback found Row = Some (row_text found.relative_address found.source)
taken_text fallback found DebugFrame = Some (debug_frame_text found.relative_address found.source)
taken_text fallback found Run = Some (run_text found.relative_address found.source)
taken_text fallback found FramePointer = Some (fallback_text found.relative_address found.source fallback)
taken_text fallback found Step = None
taken_text fallback found Call = None

-- the same in no module, with the text of the rule of a function's start
abbrev pub outside_text : List ℕ → ℕ → Taken → Option (List ℕ)
outside_text start address Call =
    Some (text_of (codes "0x" ∷ hexadecimal address ∷ codes ": no code, a call led there: " ∷ start ∷ []))
outside_text start address Step = None
outside_text start address Row = None
outside_text start address DebugFrame = None
outside_text start address Run = None
outside_text start address FramePointer = None

-- the rules of an architecture as text, the fallback rule, and the rule of a function's start
pub record Texts (Rule : Type 0) : Type 0 where
  pub text : Rule → List ℕ
  pub fallback : Rule
  pub start : Rule

module _ {Rule : Type 0} (texts : Texts Rule) where
  -- by what is found of the frame, and how its caller was found or how the walk ended there
  abbrev pub taken_for : FrameLocation → Result FoundBy BacktraceEnd → Option (FrameFinding Rule) → Option (List ℕ)
  taken_for location caller (Some found) =
      taken_text (texts.text texts.fallback) found (taken_by (data_of found.source found.told) caller)
  taken_for location caller None =
      outside_text (texts.text texts.start) (address_of location) (taken_outside caller)

  -- the line of a frame: what the walk took, or else what the library's step has for it
  abbrev pub line_for : List ModuleView → FrameLocation → Result FoundBy BacktraceEnd → Option (FrameFinding Rule) → List ℕ
  line_for modules location caller found = unwrap_or (taken_for location caller found)
      (frame_text texts.text texts.fallback modules (lookup_address location) found)

  -- a note is that of a frame at a location that is in no trampoline, from registers over a memory
  abbrev pub IsNoteOf : {Regs : Type 0} → Explaining Rule Regs → List ModuleView → Memory → FrameLocation → Regs
      → Result FoundBy BacktraceEnd → List ℕ → Type 0
  IsNoteOf explaining modules memory location regs caller note =
      (found : Option (FrameFinding Rule)) × IsFinding explaining modules memory location regs found
      × (note ≡ note_line (line_for modules location caller found))

-- the same on both architectures
abbrev pub IsNoteX86_64 : List ModuleView → Memory → FrameLocation → RegistersX86_64 → Result FoundBy BacktraceEnd → List ℕ
    → Type 0
IsNoteX86_64 = let explaining = explaining_x86_64 without_allocation in
    IsNoteOf (record { text = explaining.text; fallback = explaining.fallback; start = x86_64_rule.JustReturn }) explaining

abbrev pub IsNoteAarch64 : List ModuleView → Memory → FrameLocation → RegistersAarch64 → Result FoundBy BacktraceEnd
    → List ℕ → Type 0
IsNoteAarch64 = let explaining = explaining_aarch64 without_allocation in
    IsNoteOf (record { text = explaining.text; fallback = explaining.fallback; start = aarch64_rule.NoOp }) explaining
