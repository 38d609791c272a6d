-- What a frame came from, as text: what the module that covers it tells, or why no module does.
use Rattle.std.specs.Prelude.{ℕ, List, [], ◌∷◌, ◌++◌, codes, Option, Some, None}
use Rattle.framehop.specs.Modules.{ModuleView, last_of, starting_by}
use Rattle.framehop_explain.specs.declared.told.Told.{Told}
use Rattle.framehop_explain.specs.declared.told.Told.TheVariants.{Rule, Computed, Refused}
use Rattle.framehop_explain.specs.declared.uncovered.Uncovered.{Uncovered}
use Rattle.framehop_explain.specs.declared.uncovered.Uncovered.TheVariants.{NoModule, PastEnd, BelowBase, FarAboveBase}
use Rattle.framehop_explain.specs.Found.{FrameFinding}
use Rattle.framehop_explain.specs.Pieces.{text_of}
use Rattle.framehop_explain.specs.ReasonText.{reason_text}
use Rattle.framehop_explain.specs.SourceText.{hexadecimal, source_text}
use Rattle.framehop_explain.specs.Uncovered.{uncovered_by}

-- the name of a module, or what stands for one that has none
abbrev pub name_text : List ℕ → List ℕ
name_text [] = codes "a module"
name_text (byte ∷ bytes) = byte ∷ bytes

-- where an address is in a module: `m+0x100`, or `0x100` in one that has no name
abbrev pub place_text : List ℕ → ℕ → List ℕ
place_text [] relative = codes "0x" ++ hexadecimal relative
place_text (byte ∷ bytes) relative = text_of ((byte ∷ bytes) ∷ codes "+0x" ∷ hexadecimal relative ∷ [])

-- why a module does not cover an address
abbrev pub not_covering_text : ModuleView → ℕ → Uncovered → List ℕ
not_covering_text m address NoModule = codes "no module starts at or below 0x" ++ hexadecimal address
not_covering_text m address PastEnd = text_of (
    codes "0x" ∷ hexadecimal address ∷ codes " is past the end 0x" ∷ hexadecimal m.end ∷ codes " of "
    ∷ name_text m.name ∷ [])
not_covering_text m address BelowBase = text_of (
    codes "the base 0x" ∷ hexadecimal m.base_avma ∷ codes " of " ∷ name_text m.name
    ∷ codes " is above the address 0x" ∷ hexadecimal address ∷ [])
not_covering_text m address FarAboveBase = text_of (
    codes "0x" ∷ hexadecimal address ∷ codes " is 4 GiB or more above the base 0x" ∷ hexadecimal m.base_avma
    ∷ codes " of " ∷ name_text m.name ∷ [])

-- why none does, by the last one that starts at or below the address
abbrev pub last_text : Option ModuleView → ℕ → List ℕ
last_text None address = codes "no module starts at or below 0x" ++ hexadecimal address
last_text (Some m) address = not_covering_text m address (uncovered_by (Some m) address)

abbrev pub uncovered_text : List ModuleView → ℕ → List ℕ
uncovered_text modules address = last_text (last_of (starting_by address modules)) address

-- what is told of a frame, over the text of rules and the fallback rule
abbrev pub told_text : {R : Type 0} → (R → List ℕ) → R → Told R → List ℕ
told_text text fallback (Rule rule) = text rule
told_text text fallback (Computed address) = codes "computed: return address 0x" ++ hexadecimal address
told_text text fallback (Refused error) = text_of (reason_text error ∷ codes ": fallback: " ∷ text fallback ∷ [])

-- what the covering module tells: its place, the source, and what is told
abbrev pub finding_text : {R : Type 0} → (R → List ℕ) → R → FrameFinding R → List ℕ
finding_text text fallback found = text_of (
    place_text found.«module».name found.relative_address ∷ codes ": " ∷ source_text found.source ∷ codes ": "
    ∷ told_text text fallback found.told ∷ [])

-- what a frame with this lookup address came from, among modules
abbrev pub frame_text : {R : Type 0} → (R → List ℕ) → R → List ModuleView → ℕ → Option (FrameFinding R) → List ℕ
frame_text text fallback modules address (Some found) = finding_text text fallback found
frame_text text fallback modules address None =
    text_of (uncovered_text modules address ∷ codes ": fallback: " ∷ text fallback ∷ [])
