-- A session and its replies in memory, as what they tell: the capacities of their vectors do not count.
use Rattle.std.specs.Prelude.{ℕ, List, map, Result, Ok, Err}
use Rattle.std.specs.Global.{Global}
use Rattle.std.specs.declared.vec.Vec.{Vec}
use Rattle.framehop_core.specs.CodeAddress.{location_of}
use Rattle.framehop_core.specs.declared.code_address.FrameAddress.{FrameAddress}
use Rattle.framehop.specs.Walk.{Walk, End, at_root, at_refusal, at_limit}
use Rattle.framehop.specs.World.{made, done, stepped, walked}
use Rattle.framehop.specs.CachedWorld.{CachedWorld, CachedReply, of_world, counts}
use Rattle.framehop.specs.declared.session.commands.Reply.{Reply}
use Rattle.framehop.specs.declared.session.commands.Reply.TheVariants.{Made, Done, Step as StepReply, Walk as WalkReply, Stats}
use Rattle.framehop.specs.declared.session.commands.SessionError.{SessionError}
use Rattle.framehop.specs.declared.walk.WalkEnd.{WalkEnd}
use Rattle.framehop.specs.declared.walk.WalkEnd.TheVariants.{Root, Refused, Limit}
use Rattle.framehop.specs.declared.session.world.Session.{Session}

-- the unwinders and the caches of a session, with the next generation
abbrev pub state_of : {D A P Regs Rule Rows Values Stack : Type 0} → Session D A P Regs Rule Rows Values Stack → ℕ
    → CachedWorld Rule
state_of session next = record { unwinders = session.unwinders.items; next = next; caches = session.caches.items }

-- how a walk ended
abbrev pub end_of : WalkEnd → End
end_of Root = at_root
end_of (Refused error) = at_refusal error
end_of Limit = at_limit

-- the frames, the end and the registers of a walk
abbrev pub walk_of : {Regs : Type 0} → List FrameAddress → WalkEnd → Regs → Walk Regs
walk_of frames end regs = record { frames = map location_of frames; end = end_of end; regs = regs }

-- what a reply tells
abbrev pub reply_view : {Regs : Type 0} → Reply Regs → CachedReply Regs
reply_view (Made unwinder) = of_world (made unwinder)
reply_view Done = of_world done
reply_view (StepReply result regs) = of_world (stepped result regs)
reply_view (WalkReply frames end regs) = of_world (walked (walk_of frames.items end regs))
reply_view (Stats stats) = counts stats

-- what a session answers
abbrev pub result_view : {Regs : Type 0} → Result (Vec (Reply Regs) Global) SessionError
    → Result (List (CachedReply Regs)) SessionError
result_view (Ok replies) = Ok (map reply_view replies.items)
result_view (Err error) = Err error
