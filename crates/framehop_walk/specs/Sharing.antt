-- Commands for a session that clones an unwinder only where one of those that are the same is to be changed, and the
-- replies to the commands of the input by its replies.
use Rattle.std.specs.Prelude.{◌≡◌, ◌<◌, ◌≤◌, ◌⊎◌, ◌==◌, ◌+◌, ℕ, List, [], ◌∷◌, ◌++◌, length, map, slice_index_or, slice_set, Bool, true, false, Option, Some, None, Result, Ok, Err}
use Rattle.std.specs.Global.{Global}
use Rattle.std.specs.declared.vec.Vec.{Vec}
use Rattle.framehop.specs.Modules.{UnwinderView}
use Rattle.framehop.specs.Unwinding.{Unwinding}
use Rattle.framehop.specs.World.{made}
use Rattle.framehop.specs.CachedWorld.{CachedWorld, CachedReply, of_world, cached_replies}
use Rattle.framehop.specs.declared.session.Command.{Command}
use Rattle.framehop.specs.declared.session.Command.TheVariants.{Clone}
use Rattle.framehop.specs.declared.session.SessionError.{SessionError}
use Rattle.framehop_walk.specs.declared.sharing.Told.{Told}
use Rattle.framehop_walk.specs.declared.sharing.Told.TheVariants.{Next, AfterClone, Made, Numbered}
use Rattle.framehop_walk.specs.declared.sharing.Sharing.{Sharing}

-- the first of a list, where there is one, and the others
abbrev pub first_of : {A : Type 0} → List A → List A
first_of [] = []
first_of (x ∷ xs) = x ∷ []

abbrev pub others_of : {A : Type 0} → List A → List A
others_of [] = []
others_of (x ∷ xs) = xs

-- a value, where there is one, as a list
abbrev pub listed : {A : Type 0} → Option A → List A
listed None = []
listed (Some x) = x ∷ []

-- the reply to a command of the input, by the replies of the session that are left
abbrev pub told_reply : {Regs : Type 0} → Told → List (CachedReply Regs) → List (CachedReply Regs)
told_reply Next replies = first_of replies
told_reply AfterClone replies = first_of (others_of replies)
told_reply (Made number) replies = of_world (made number) ∷ []
told_reply (Numbered number) replies = of_world (made number) ∷ []

-- what is left of them after it
abbrev pub left_after : {Regs : Type 0} → Told → List (CachedReply Regs) → List (CachedReply Regs)
left_after Next replies = others_of replies
left_after AfterClone replies = others_of (others_of replies)
left_after (Made number) replies = replies
left_after (Numbered number) replies = others_of replies

-- the replies to the commands of the input, by those of the session
unfoldable pub tell : {Regs : Type 0} → List Told → List (CachedReply Regs) → List (CachedReply Regs)
tell [] replies = []
tell (one ∷ told) replies = told_reply one replies ++ tell told (left_after one replies)

-- the same where the session can be refused
abbrev pub told_by : {Regs : Type 0} → List Told → Result (List (CachedReply Regs)) SessionError
    → Result (List (CachedReply Regs)) SessionError
told_by told (Ok replies) = Ok (tell told replies)
told_by told (Err error) = Err error

-- what is made of the commands of the input so far: for each of its unwinders the one of the session that it is
-- (`places`), for each of the session how many of the input it is (`counts`), the commands for the session, and where
-- the replies are
pub record Plan (Regs : Type 0) : Type 0 where
  pub places : List ℕ
  pub counts : List ℕ
  pub commands : List (Command (Vec ℕ Global) Regs)
  pub told : List Told

abbrev pub plan_of : {Regs : Type 0} → Sharing Regs → Plan Regs
plan_of sharing = record {
  places = sharing.places.items;
  counts = sharing.counts.items;
  commands = sharing.commands.items;
  told = sharing.told.items;
}

-- how often a number is in a list
abbrev pub one_if : Bool → ℕ
one_if true = 1
one_if false = 0

unfoldable pub times : ℕ → List ℕ → ℕ
times place [] = 0
times place (other ∷ places) = one_if (other == place) + times place places

-- each unwinder of the input is one of the session, and each of the session is as many of the input as its count says
pub record IsCounted (places counts : List ℕ) : Type 0 where
  pub within : (unwinder : ℕ) → unwinder < length places → slice_index_or places unwinder 0 < length counts
  pub counted : (place : ℕ) → place < length counts → slice_index_or counts place 0 ≡ times place places

-- the number of the session's unwinder for one of the input: that of none where there is none
abbrev pub place_in : List ℕ → List ℕ → ℕ → ℕ
place_in places counts unwinder = slice_index_or places unwinder (length counts)

-- the unwinders of the input, by those of the session
abbrev pub unwinder_in : List UnwinderView → ℕ → UnwinderView
unwinder_in unwinders place = slice_index_or unwinders place (record { modules = []; generation = 0 })

abbrev pub seen_by : {Rule : Type 0} → List ℕ → CachedWorld Rule → CachedWorld Rule
seen_by places state = record state { unwinders = map (unwinder_in state.unwinders) places }

-- However the commands for the session go on: if from each state on its replies tell those to the commands that are
-- left, then from the start on they tell those to all commands.
unfoldable pub Continues : {Rule Regs : Type 0} → Unwinding Rule Regs → CachedWorld Rule → Plan Regs
    → List (Command (Vec ℕ Global) Regs) → List (Command (Vec ℕ Global) Regs) → Type 0
Continues {Rule} {Regs} unwinding start plan rest all =
    (more : List (Command (Vec ℕ Global) Regs)) (more_told : List Told)
    → ((state : CachedWorld Rule) → length plan.counts ≡ length state.unwinders
    → cached_replies unwinding (seen_by plan.places state) rest
    ≡ told_by more_told (cached_replies unwinding state more))
    → cached_replies unwinding start all
    ≡ told_by (plan.told ++ more_told) (cached_replies unwinding start (plan.commands ++ more))

-- a command of the input is taken into the plan
unfoldable pub Takes : {Rule Regs : Type 0} → Unwinding Rule Regs → Command (Vec ℕ Global) Regs → Plan Regs → Plan Regs
    → Type 0
Takes {Rule} {Regs} unwinding command old new =
    (start : CachedWorld Rule) (rest all : List (Command (Vec ℕ Global) Regs))
    → Continues unwinding start old (command ∷ rest) all → Continues unwinding start new rest all

-- `place` is the session's unwinder for one of the input that is to be changed: it is only that one, or there is none;
-- or the session clones it first, and the clone is only that one
unfoldable pub Owns : {Regs : Type 0} → Plan Regs → Plan Regs → ℕ → ℕ → Told → Type 0
Owns old new unwinder place one =
    ((new ≡ old) × (place ≡ place_in old.places old.counts unwinder) × (one ≡ Next)
    × (unwinder < length old.places → times place old.places ≡ 1))
    ⊎ ((unwinder < length old.places) × (place ≡ length old.counts) × (one ≡ AfterClone)
    × (new.places ≡ slice_set old.places unwinder place) × (length new.counts ≡ length old.counts + 1)
    × (new.commands ≡ old.commands ++ Clone (place_in old.places old.counts unwinder) ∷ []) × (new.told ≡ old.told))

-- a clone of an unwinder of the input is the same one of the session, which is one more of the input; where there is no
-- such unwinder the session is asked for a clone of none
unfoldable pub IsSharedBy : {Regs : Type 0} → Plan Regs → Plan Regs → ℕ → Type 0
IsSharedBy old new unwinder =
    ((unwinder < length old.places) × (new.places ≡ old.places ++ slice_index_or old.places unwinder 0 ∷ [])
    × (new.counts ≡ slice_set old.counts (slice_index_or old.places unwinder 0)
    (slice_index_or old.counts (slice_index_or old.places unwinder 0) 0 + 1))
    × (new.commands ≡ old.commands) × (new.told ≡ old.told ++ Made (length old.places) ∷ []))
    ⊎ ((length old.places ≤ unwinder) × (new.places ≡ old.places) × (new.counts ≡ old.counts)
    × (new.commands ≡ old.commands ++ Clone (length old.counts) ∷ []) × (new.told ≡ old.told ++ Next ∷ []))
