-- The check of a function: its instructions one after another, each with what its row says, and the alarms that they give.
use Rattle.std.specs.Prelude.{ℕ, zero, suc, ◌+◌, ◌-◌, ◌^◌, Bool, true, false, not, ◌&&◌, ◌||◌, List, [], ◌∷◌, ◌++◌, length, Option, Some, None, option_map, ℤ, pos, ◌+ℤ◌, ◌-ℤ◌, nat_le, nat_lt, if◌then◌else◌}
use Rattle.std.specs.Ordering.{int_eq}
use Rattle.framehop_core.specs.AddSigned.{fitting}
use Rattle.framehop_cfi.specs.Section.{Section}
use Rattle.framehop_cfi.specs.declared.storage.StorageLimits.{StorageLimits}
use Rattle.framehop_cfi.specs.declared.entry.FrameDescriptionEntry.{FrameDescriptionEntry}
use Rattle.framehop_code.specs.declared.effect.Base.{Base}
use Rattle.framehop_code.specs.declared.effect.Effect.{Effect}
use Rattle.framehop_code.specs.declared.effect.Flow.{Flow}
use Rattle.framehop_code.specs.declared.effect.Flow.TheVariants.{Branch, Jump}
use Rattle.framehop_check.specs.declared.claim.Claim.{Claim}
use Rattle.framehop_check.specs.declared.check.Item.{Item}
use Rattle.framehop_check.specs.declared.check.Pass.{Pass}
use Rattle.framehop_check.specs.declared.report.Alarm.{Alarm}
use Rattle.framehop_check.specs.declared.tracked.Fault.{Fault}
use Rattle.framehop_check.specs.declared.tracked.Fault.TheVariants.{Differs, Overwritten, Returns, Jumps}
use Rattle.framehop_check.specs.declared.tracked.Tracked.{Tracked}
use Rattle.framehop_check.specs.Known.{agreed}
use Rattle.framehop_check.specs.Report.{list_of}
use Rattle.framehop_check.specs.Rows.{claim_of_address}
use Rattle.framehop_check.specs.Tracked.{beginning, arriving, same_claim, fault_at, step, fault_of_return, fault_of_jump, is_passed}

-- ---- instructions with their rows

-- an address of a function that begins at one and has so many bytes
abbrev pub inside : ℕ → ℕ → Option ℕ → Option ℕ
inside start size (Some target) = if nat_le start target && nat_lt (target - start) size then Some target else None
inside start size None = None

-- where an instruction jumps to inside the function, from the address after it
abbrev pub target_of : ℕ → ℕ → ℕ → Flow → Option ℕ
target_of start size next (Branch distance) = inside start size (fitting 64 (pos next +ℤ distance))
target_of start size next (Jump distance) = inside start size (fitting 64 (pos next +ℤ distance))
target_of start size next _ = None

-- a target with what its row says; none at all where a target has no row
abbrev pub target_with : (ℕ → Option Claim) → Option ℕ → Option (Option (ℕ × Claim))
target_with claims (Some target) = option_map (λ claim. Some (target, claim)) (claims target)
target_with claims None = Some None

-- the row of the instruction's last byte says otherwise
abbrev pub says_otherwise : Claim → Option Claim → Bool
says_otherwise claim (Some last) = not (same_claim last claim)
says_otherwise claim None = false

-- an instruction at an address with what its row says, where its row can be read and its end fits 64 bits
abbrev pub item_by : (ℕ → Option Claim) → ℕ → ℕ → ℕ → Option Effect → Option Claim → Option Item
item_by claims start size address (Some effect) (Some claim) =
    if nat_lt (address + effect.size) (2 ^ 64)
    then option_map (λ target. record {
      address = address;
      effect = effect;
      claim = claim;
      splits = says_otherwise claim (claims (address + effect.size - 1));
      target = target;
    }) (target_with claims (target_of start size (address + effect.size) effect.flow))
    else None
item_by claims start size address (Some effect) None = None
item_by claims start size address None claim = None

unfoldable pub item_at : (List ℕ → ℕ → Option Effect) → (ℕ → Option Claim) → ℕ → List ℕ → ℕ → Option Item
item_at instruction claims start code at =
    if nat_lt (start + at) (2 ^ 64)
    then item_by claims start (length code) (start + at) (instruction code at) (claims (start + at))
    else None

-- what there is of an item, or something else
abbrev pub on_item : {A : Type 0} → Option Item → A → (Item → A) → A
on_item None other f = other
on_item (Some item) other f = f item

-- the items from an offset on, up to the end or to the first instruction that can't be read; and whether all can be
abbrev pub items_from : (ℕ → Option Item) → ℕ → ℕ → ℕ → List Item
items_from item size zero at = []
items_from item size (suc n) at =
    if nat_le size at then [] else on_item (item at) [] (λ i. i ∷ items_from item size n (at + i.effect.size))

-- all instructions from an offset on can be read, up to the end
abbrev pub all_from : (ℕ → Option Item) → ℕ → ℕ → ℕ → Bool
all_from item size zero at = true
all_from item size (suc n) at =
    if nat_le size at then true else on_item (item at) false (λ i. all_from item size n (at + i.effect.size))

-- the items of a function's code that begins at an address
unfoldable pub items_of : (List ℕ → ℕ → Option Effect) → (ℕ → Option Claim) → ℕ → List ℕ → List Item
items_of instruction claims start code =
    items_from (item_at instruction claims start code) (length code) (length code) 0

unfoldable pub all_of : (List ℕ → ℕ → Option Effect) → (ℕ → Option Claim) → ℕ → List ℕ → Bool
all_of instruction claims start code =
    all_from (item_at instruction claims start code) (length code) (length code) 0

-- ---- alarms

-- how the pass over a function begins
abbrev pub first_pass : ℕ → Pass
first_pass start = record { tracked = beginning; before = start; differed = None }

-- by how much a row and the code differ
abbrev pub difference : Option Fault → Option ℤ
difference (Some (Differs base row code)) = Some (code -ℤ row)
difference (Some (Overwritten base row)) = None
difference (Some (Returns code)) = None
difference (Some (Jumps target base row code)) = None
difference None = None

-- two differences are the same
abbrev pub goes_on : Option ℤ → Option ℤ → Bool
goes_on (Some one) (Some other) = int_eq one other
goes_on (Some one) None = false
goes_on None other = false

-- an alarm at an address, if there is a fault
abbrev pub alarm_of : ℕ → ℕ → Option Fault → Option Alarm
alarm_of address before (Some fault) = Some (record { address = address; before = before; fault = fault })
alarm_of address before None = None

-- rows that go on differing by as much are told once
abbrev pub row_alarm : Pass → Item → Option Alarm
row_alarm pass item =
    let fault = fault_at pass.tracked item.claim in
    if goes_on (difference fault) pass.differed then None else alarm_of item.address pass.before fault

-- the alarm of a return
abbrev pub return_alarm : ℤ → Pass → Item → Option Alarm
return_alarm entry pass item =
    alarm_of item.address pass.before
    (fault_of_return entry (agreed (arriving pass.tracked item.claim) item.claim) item.effect.flow)

-- the fault of a jump, if its target has a row
abbrev pub jump_fault : Tracked → Option (ℕ × Claim) → Option Fault
jump_fault tracked (Some target) = fault_of_jump tracked.known target.0 target.1
jump_fault tracked None = None

-- by what is known after the jump
abbrev pub jump_alarm : Tracked → Item → Option Alarm
jump_alarm tracked item = alarm_of item.address item.address (jump_fault tracked item.target)

-- what is known after an item
abbrev pub step_of : Pass → Item → Tracked
step_of pass item = step pass.tracked item.claim item.effect

-- the alarms of an instruction: of its row, of a return, and of a jump
unfoldable pub alarms_at : ℤ → Pass → Item → List Alarm
alarms_at entry pass item =
    if is_passed pass.tracked item.effect then []
    else ((list_of (row_alarm pass item) ++ list_of (return_alarm entry pass item))
    ++ list_of (jump_alarm (step_of pass item) item))

-- a row that begins inside an instruction is a note
unfoldable pub notes_at : Pass → Item → List ℕ
notes_at pass item = if is_passed pass.tracked item.effect || not item.splits then [] else item.address ∷ []

-- how the pass goes on after an item; padding that is come to from nowhere is passed over
unfoldable pub pass_after : Pass → Item → Pass
pass_after pass item =
    if is_passed pass.tracked item.effect then pass
    else record {
      tracked = step_of pass item;
      before = item.address;
      differed = difference (fault_at pass.tracked item.claim);
    }

-- the alarms and notes of items one after another
abbrev pub alarms_from : ℤ → Pass → List Item → List Alarm
alarms_from entry pass [] = []
alarms_from entry pass (item ∷ items) = alarms_at entry pass item ++ alarms_from entry (pass_after pass item) items

abbrev pub notes_from : Pass → List Item → List ℕ
notes_from pass [] = []
notes_from pass (item ∷ items) = notes_at pass item ++ notes_from (pass_after pass item) items

-- ---- functions

-- the items of an FDE, whose addresses end within 64 bits
unfoldable pub items_of_fde : (List ℕ → ℕ → Option Effect) → (ℕ → Option Base) → ℕ → Option StorageLimits → Section
    → FrameDescriptionEntry → List ℕ → List Item
items_of_fde instruction numbered return_column limits section fde code =
    if nat_lt (fde.initial_address + fde.address_range) (2 ^ 64)
    then items_of instruction (claim_of_address numbered return_column limits section fde) fde.initial_address code
    else []

-- whether all of an FDE's rows and code can be read
unfoldable pub all_of_fde : (List ℕ → ℕ → Option Effect) → (ℕ → Option Base) → ℕ → Option StorageLimits → Section
    → FrameDescriptionEntry → List ℕ → Bool
all_of_fde instruction numbered return_column limits section fde code =
    if nat_lt (fde.initial_address + fde.address_range) (2 ^ 64)
    then all_of instruction (claim_of_address numbered return_column limits section fde) fde.initial_address code
    else false
