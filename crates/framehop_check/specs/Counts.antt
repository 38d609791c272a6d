-- The numbers of the summary.
use Rattle.std.specs.Prelude.{ℕ, zero, suc, ◌+◌, Bool, true, false, not, ◌&&◌, List, [], ◌∷◌, is_some}
use Rattle.std.specs.Io.Iter.{u64_saturate}
use Rattle.framehop_check.specs.declared.claim.Claim.{Claim}
use Rattle.framehop_check.specs.declared.claim.Claim.TheVariants.{Above, Other}
use Rattle.framehop_check.specs.declared.check.Item.{Item}
use Rattle.framehop_check.specs.declared.check.Pass.{Pass}
use Rattle.framehop_check.specs.declared.report.Alarm.{Alarm}
use Rattle.framehop_check.specs.declared.report.Counts.{Counts}
use Rattle.framehop_check.specs.declared.tracked.Came.{Came}
use Rattle.framehop_check.specs.declared.tracked.Came.TheVariants as came
use Rattle.framehop_check.specs.declared.tracked.Tracked.{Tracked}
use Rattle.framehop_check.specs.Check.{pass_after}
use Rattle.framehop_check.specs.Known.{known_of}
use Rattle.framehop_check.specs.Tracked.{arriving, same_claim, is_passed}

-- a count with more added: it stays at the greatest number of 64 bits
abbrev pub plus : ℕ → ℕ → ℕ
plus count zero = count
plus count (suc more) = u64_saturate (count + suc more)

-- one, if something is so
abbrev pub one_if : Bool → ℕ
one_if true = 1
one_if false = 0

-- ---- what is counted

-- each instruction
abbrev pub is_instruction : Tracked → Item → Bool
is_instruction tracked item = true

-- a row whose register the code tells of, and one that is believed
abbrev pub compares : Tracked → Claim → Bool
compares tracked (Above base offset) = is_some (known_of (arriving tracked (Above base offset)) base)
compares tracked Other = false

abbrev pub believes : Tracked → Claim → Bool
believes tracked (Above base offset) = not (is_some (known_of (arriving tracked (Above base offset)) base))
believes tracked Other = false

abbrev pub is_checked : Tracked → Item → Bool
is_checked tracked item = compares tracked item.claim

abbrev pub is_believed : Tracked → Item → Bool
is_believed tracked item = believes tracked item.claim

-- a jump inside the function
abbrev pub is_jump : Tracked → Item → Bool
is_jump tracked item = is_some item.target

-- after a call a row that says otherwise than the call's
abbrev pub is_returned : Came → Bool
is_returned came.Returned = true
is_returned _ = false

abbrev pub changes : Tracked → Claim → Bool
changes tracked (Above base offset) = is_returned tracked.came && not (same_claim tracked.claim (Above base offset))
changes tracked Other = false

abbrev pub is_changed : Tracked → Item → Bool
is_changed tracked item = changes tracked item.claim

-- how many instructions are so; padding that is passed over does not count
abbrev pub number : (Tracked → Item → Bool) → Pass → List Item → ℕ
number is pass [] = 0
number is pass (item ∷ items) =
    one_if (not (is_passed pass.tracked item.effect) && is pass.tracked item) + number is (pass_after pass item) items

-- ---- counts

-- the counts with those of instructions added
abbrev pub counted : Counts → Pass → List Item → Counts
counted old pass items =
    record {
      functions = old.functions;
      unread = old.unread;
      instructions = plus old.instructions (number is_instruction pass items);
      checked = plus old.checked (number is_checked pass items);
      believed = plus old.believed (number is_believed pass items);
      jumps = plus old.jumps (number is_jump pass items);
      calls = plus old.calls (number is_changed pass items);
      alarmed = old.alarmed;
    }

abbrev pub is_empty : List Alarm → Bool
is_empty [] = true
is_empty (alarm ∷ alarms) = false

-- the counts with a function added, whether all of it was read, its instructions and its alarms
abbrev pub with_function : Counts → Bool → Pass → List Item → List Alarm → Counts
with_function old whole pass items alarms =
    record (counted old pass items) {
      functions = plus old.functions 1;
      unread = plus old.unread (one_if (not whole));
      alarmed = plus old.alarmed (one_if (not (is_empty alarms)));
    }
