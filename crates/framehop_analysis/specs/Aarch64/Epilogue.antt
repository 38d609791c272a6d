-- Epilogues on aarch64: where the remaining instructions leave sp, and from where they restore fp and lr (framehop
-- 0.16.0, `aarch64::instruction_analysis::epilogue`).
use Rattle.std.specs.Prelude.{◌≡◌, ◌≢◌, ℕ, ◌+◌, ◌-◌, ◌*◌, ◌^◌, ◌<◌, ◌≤◌, ℤ, pos, ◌+ℤ◌, Bool, true, false, ◌&&◌, ◌||◌, ◌==◌, if◌then◌else◌, List, [], ◌∷◌, ◌++◌, length, Option, Some, None}
use Rattle.framehop_core.specs.Memory.{Memory}
use Rattle.framehop_core.specs.Aarch64.Registers.{Registers}
use Rattle.framehop_core.specs.Aarch64.Rules.{outcome}
use Rattle.framehop_core.specs.declared.aarch64.unwind_rule.UnwindRuleAarch64.{UnwindRuleAarch64}
use Rattle.framehop_core.specs.declared.aarch64.unwind_rule.UnwindRuleAarch64.TheVariants.{NoOp, OffsetSp, OffsetSpAndRestoreLr, OffsetSpAndRestoreFpAndLr}
use Rattle.framehop_analysis.specs.Answer.{Does}
use Rattle.framehop_analysis.specs.Aarch64.Words.{word_at, AreWordsAt, is_load, is_add_sp, is_indexed, addressing, pair_offset, first_register, second_register, immediate, is_return, is_b, is_br, is_braa, is_mov}
use Rattle.framehop_analysis.specs.Aarch64.Units.{IsUnitsOf16, IsUnitsOf8}
use Rattle.framehop_analysis.specs.Aarch64.Machine.{State, RunOut, HasRegisters}

-- ---- what is restored

-- where sp is, and where the last loads have found fp and lr, if any: in bytes from sp at the pc
pub record Places : Type 0 where
  pub sp : ℤ
  pub fp : Option ℤ
  pub lr : Option ℤ

-- the places at the pc: nothing has been restored
abbrev pub at_pc : Places
at_pc = record { sp = pos 0; fp = None; lr = None }

-- an instruction that restores: a load of a pair from the stack, or an `add` of sp
abbrev pub is_restoring : ℕ → Bool
is_restoring word = is_load word || is_add_sp word

-- the place of a register after a load of a pair from a place
abbrev pub place_after_load : ℕ → ℕ → ℤ → Option ℤ → Option ℤ
place_after_load word register place old =
    if second_register word == register then Some (place +ℤ pos 8)
    else (if first_register word == register then Some place else old)

-- the places after an instruction: a post-indexed load finds its pair at sp, the others at sp plus their offset, and
-- all but a plain one move sp by it
abbrev pub places_after : Places → ℕ → Places
places_after p word =
    if is_load word then
    (let place = if addressing word == 1 then p.sp else p.sp +ℤ pair_offset word in
    record {
      sp = if addressing word == 2 then p.sp else p.sp +ℤ pair_offset word;
      fp = place_after_load word 29 place p.fp;
      lr = place_after_load word 30 place p.lr;
    })
    else record p { sp = p.sp +ℤ pos (immediate word) }

abbrev pub places_after_all : Places → List ℕ → Places
places_after_all p [] = p
places_after_all p (word ∷ words) = places_after_all (places_after p word) words

-- each of the instructions restores
abbrev pub AllRestoring : List ℕ → Type 0
AllRestoring [] = Unit {0}
AllRestoring (word ∷ words) = (is_restoring word ≡ true) × AllRestoring words

-- ---- how it ends

-- `autibsp`, and the check of lr after it: `eor x16, x30, x30, lsl #1`, `tbz x16, #62, #8` and `brk #0xc471`
abbrev pub check_words : List ℕ
check_words = 0xD50323FF ∷ 0xCA1E07D0 ∷ 0xB6F00050 ∷ 0xD4388E20 ∷ []

-- a tail call after lr has been authenticated: `b`, or `mov x16` and `braa`
pub data IsAuthenticatedCall (words : List ℕ) : Type 0 where
  by_b : (b : ℕ) → is_b b ≡ true → words ≡ check_words ++ b ∷ [] → IsAuthenticatedCall words
  by_braa : (mov braa : ℕ) → is_mov mov ≡ true → is_braa braa ≡ true → words ≡ check_words ++ mov ∷ braa ∷ []
      → IsAuthenticatedCall words

-- whether a word can be in such a call after so many others
abbrev pub is_call_word : ℕ → ℕ → Bool
is_call_word before word =
    if before == 0 then word == 0xD50323FF
    else (if before == 1 then word == 0xCA1E07D0
    else (if before == 2 then word == 0xB6F00050
    else (if before == 3 then word == 0xD4388E20
    else (if before == 4 then is_b word || is_mov word
    else (if before == 5 then is_braa word else false)))))

-- The end of an epilogue whose instructions have moved sp by so many bytes: a return, a branch where sp has moved,
-- which is taken for a tail call, or an authenticated call.
pub data IsEnd (moved : ℤ) (words : List ℕ) : Type 0 where
  returns : (word : ℕ) → is_return word ≡ true → words ≡ word ∷ [] → IsEnd moved words
  branches : (word : ℕ) → is_b word ≡ true → moved ≢ pos 0 → words ≡ word ∷ [] → IsEnd moved words
  calls : IsAuthenticatedCall words → IsEnd moved words

-- ---- where everything has been restored before the pc

-- an instruction that moves sp in an epilogue
abbrev pub moves_sp : ℕ → Bool
moves_sp word = (is_load word && is_indexed word) || is_add_sp word

-- the pc is inside an authenticated call, after so many of its words
pub record IsInsideCallAfter (text : List ℕ) (pc before : ℕ) : Type 0 where
  pub start : ℕ
  pub words : List ℕ
  pub stands : AreWordsAt text start words
  pub call : IsAuthenticatedCall words
  pub place : pc ≡ start + 4 * before
  pub inside : before < length words

abbrev pub IsInsideCall : List ℕ → ℕ → Type 0
IsInsideCall text pc = (before : ℕ) × IsInsideCallAfter text pc before

-- the pc is at a branch after an instruction that moves sp, as a tail call's does
pub record IsAtTailCall (text : List ℕ) (pc : ℕ) : Type 0 where
  pub branch : ℕ
  pub branch_is : word_at text pc ≡ Some branch
  pub branches : (is_b branch || is_br branch) ≡ true
  pub before : ℕ
  pub preceded : 4 ≤ pc
  pub before_is : word_at text (pc - 4) ≡ Some before
  pub moves : moves_sp before ≡ true

-- nothing is left to restore
pub data IsRestored (text : List ℕ) (pc : ℕ) : Type 0 where
  inside_call : IsInsideCall text pc → IsRestored text pc
  at_tail_call : IsAtTailCall text pc → IsRestored text pc

-- ---- the rule

-- a register's place in words of 8 bytes
abbrev pub IsPlaceInWords : Option ℤ → ℤ → Type 0
IsPlaceInWords None y = ⊥
IsPlaceInWords (Some place) y = IsUnitsOf8 place y

-- The rule of the places. There is none where fp is restored and lr is not, or where an offset has no exact field.
abbrev pub IsRuleOfPlaces : Places → UnwindRuleAarch64 → Type 0
IsRuleOfPlaces p NoOp = (p.sp ≡ pos 0) × (p.fp ≡ None) × (p.lr ≡ None)
IsRuleOfPlaces p (OffsetSp x) = IsUnitsOf16 p.sp x × (0 < x) × (p.fp ≡ None) × (p.lr ≡ None)
IsRuleOfPlaces p (OffsetSpAndRestoreLr x z) = IsUnitsOf16 p.sp x × (p.fp ≡ None) × IsPlaceInWords p.lr z
IsRuleOfPlaces p (OffsetSpAndRestoreFpAndLr x y z) = IsUnitsOf16 p.sp x × IsPlaceInWords p.fp y × IsPlaceInWords p.lr z
IsRuleOfPlaces p _ = ⊥

-- the rest of an epilogue, from an offset on where the places are these, and its rule
pub record IsRestOfEpilogue (text : List ℕ) (at : ℕ) (places : Places) (rule : UnwindRuleAarch64) : Type 0 where
  pub restoring : List ℕ
  pub end : List ℕ
  pub stands : AreWordsAt text at (restoring ++ end)
  pub restore : AllRestoring restoring
  pub ends : IsEnd (places_after_all places restoring).sp end
  pub made : IsRuleOfPlaces (places_after_all places restoring) rule

-- the rule of a pc inside an epilogue: words are cut from the pc
pub data IsEpilogueRule (text : List ℕ) (pc : ℕ) (rule : UnwindRuleAarch64) : Type 0 where
  restored : IsRestored text pc → rule ≡ NoOp → IsEpilogueRule text pc rule
  restores : (IsRestored text pc → ⊥) → IsRestOfEpilogue text pc at_pc rule → IsEpilogueRule text pc rule

-- from each state at the pc the machine comes to the function's end
abbrev pub EndsFrom : List ℕ → ℕ → Type 0
EndsFrom text pc = (mask : ℕ) (here : State) → (count : ℕ) × (out : State) × RunOut mask text count pc here out

-- The epilogue done, in a frame of either kind: wherever the instructions from the pc up to the first branch lead from
-- these registers over this memory, the new registers are those after the branch, all known, and the address is the
-- return address.
abbrev pub DoneEpilogue : List ℕ → ℕ → Bool → Registers → Memory → ℕ → Registers → Type 0
DoneEpilogue text pc first r memory address new =
    (here out : State) (count : ℕ) → here.sp < 2 ^ 64 → HasRegisters r here → here.memory ≡ memory
    → RunOut r.lr_mask text count pc here out
    → HasRegisters new out × (new.lr_mask ≡ r.lr_mask) × (address ≡ new.lr)

-- the rule does what the epilogue does
abbrev pub DoesEpilogue : List ℕ → ℕ → UnwindRuleAarch64 → Type 0
DoesEpilogue text pc rule = Does outcome (DoneEpilogue text pc) rule
