-- Why a walk on aarch64 ends: each frame after the second raises sp, which stays below 2^64.
use Rattle.std.proofs.Common.{◌≡◌, ◌≢◌, ℕ, ◌+◌, ◌-◌, ◌^◌, ◌<◌, ◌≤◌, List, [], ◌∷◌, ◌++◌, length, Option, Some, None, option_map, Result, Ok, Err, IfNone, inl, refl, sym, ap, ◌∙◌, arith}
use Rattle.std.proofs.lemmas.List.{length_push}
use Rattle.framehop_core.specs.CodeAddress.{FrameLocation, at_instruction_pointer, at_return_address, location_of}
use Rattle.framehop_core.specs.declared.code_address.FrameAddress.{FrameAddress}
use Rattle.framehop_core.specs.Aarch64.Registers.{Registers}
use Rattle.framehop_core.specs.Memory.{Memory}
use Rattle.framehop_core.specs.Outcome.{registers_after}
use Rattle.framehop_core.specs.Laws.Aarch64.{raises}
use Rattle.framehop.specs.Policy.{Policy}
use Rattle.framehop.specs.Modules.{UnwinderView}
use Rattle.framehop_dwarf.specs.Aarch64.{Ascends}
use Rattle.framehop.specs.Aarch64.{aarch64, aarch64_step}
use Rattle.framehop.specs.Laws.Aarch64.{rises-as-said, always_rises-is}
use Rattle.framehop.specs.Rise.{IsWalkWithinRise}
use Rattle.framehop.proofs.RiseLemmas.{walk-rise}
use Rattle.framehop_core.specs.declared.error.Error.{Error}
use Rattle.framehop.specs.Walk.{End, at_limit, walk_from}
use Rattle.framehop.specs.SessionView.{end_of}
use Rattle.framehop.specs.declared.walk.WalkEnd.{WalkEnd}
use Rattle.framehop.specs.Iterator.{Progress, before, at_frame, at_end, Moves, end_in}

-- how many calls can still follow, with the one that finds the end
abbrev pub calls_left : Progress → Registers → ℕ
calls_left (before pc) regs = 2 ^ 64 + 2
calls_left (at_frame (at_instruction_pointer pc)) regs = 2 ^ 64 + 1
calls_left (at_frame (at_return_address address)) regs = 2 ^ 64 - regs.sp
calls_left at_end regs = 1

-- sp fits 64 bits, where a step has led
abbrev pub Fits : Progress → Registers → Type 0
Fits (before pc) regs = Unit {0}
Fits (at_frame (at_instruction_pointer pc)) regs = Unit {0}
Fits (at_frame (at_return_address address)) regs = regs.sp < 2 ^ 64
Fits at_end regs = Unit {0}

-- one frame more, and fewer calls can follow
pub fewer-left : (progress : Progress) (location : FrameLocation) (old new : Registers) → Fits progress old → Moves Ascends progress old location new → Fits (at_frame location) new × (calls_left (at_frame location) new < calls_left progress old)
fewer-left (before pc) (at_instruction_pointer p) old new fits moves = (tt, omega arith)
fewer-left (before pc) (at_return_address a) old new fits moves = absurd (let is = moves.0 in cc)
fewer-left (at_frame callee) (at_instruction_pointer p) old new fits moves = cc
fewer-left (at_frame (at_instruction_pointer p)) (at_return_address a) old new fits moves =
    (moves.1.fits, omega arith)
fewer-left (at_frame (at_return_address b)) (at_return_address a) old new fits moves =
    (moves.1.fits, omega (arith, moves.1.rises refl, fits))
fewer-left at_end location old new fits moves = absurd moves

-- what a loop over an iterator keeps: it ends after at most 2^64 + 2 calls
pub record StillEnds (frames : List FrameAddress) (progress : Progress) (regs : Registers) : Type 0 where
  pub fits : Fits progress regs
  pub few : length frames + calls_left progress regs ≤ 2 ^ 64 + 2

pub record EndsSooner (frames frames' : List FrameAddress) (progress progress' : Progress) (old new : Registers) : Type 0 where
  pub longer : length frames' ≡ length frames + 1
  pub fewer : calls_left progress' new < calls_left progress old
  pub still : StillEnds frames' progress' new

pub StillEnds-next : (frames frames' : List FrameAddress) (progress progress' : Progress) (old new : Registers) (ended : Option WalkEnd) → ended ≡ None → IfNone ended ((frame : FrameAddress) × (frames' ≡ frames ++ frame ∷ []) × (progress' ≡ at_frame (location_of frame)) × Moves Ascends progress old (location_of frame) new) → StillEnds frames progress old → EndsSooner frames frames' progress progress' old new
StillEnds-next frames frames' progress progress' old new (Some end) none moved so_far = cc
StillEnds-next frames frames' progress progress' old new None none (frame, pushed, at, moves) so_far =
    let left = fewer-left progress (location_of frame) old new so_far.fits moves in
    let longer : length frames' ≡ length frames + 1 = ap length pushed ∙ length_push frames frame in
    let fewer : calls_left progress' new < calls_left progress old = rw at left.1 in
    record { longer = longer; fewer = fewer; still = record { fits = rw at left.0; few = omega (arith, longer, fewer, so_far.few) } }

pub some-left : (progress : Progress) (regs : Registers) → Fits progress regs → 1 ≤ calls_left progress regs
some-left (before pc) regs fits = omega arith
some-left (at_frame (at_instruction_pointer pc)) regs fits = omega arith
some-left (at_frame (at_return_address address)) regs fits = omega (arith, fits)
some-left at_end regs fits = omega arith

-- no answer ends a walk at a limit
end_in-not-limit : (answer : Result (Option FrameLocation) Error) (end : End) → Some end ≡ end_in answer → end ≢ at_limit
end_in-not-limit (Ok (Some location)) end e = cc
end_in-not-limit (Ok None) end e = λ limit. cc
end_in-not-limit (Err error) end e = λ limit. cc

pub ended-not-limit : (ended : Option WalkEnd) (answer : Result (Option FrameLocation) Error) → option_map end_of ended ≡ end_in answer → (end : WalkEnd) → ended ≡ Some end → end_of end ≢ at_limit
ended-not-limit ended answer is_end end some = end_in-not-limit answer (end_of end) (sym (ap (option_map end_of) some) ∙ is_end)

-- the walk of a limit is within the rise of sp since its first step
pub walk-within : (policy : Policy) (unwinder : UnwinderView) (memory : Memory) (limit pc : ℕ) (regs : Registers) → IsWalkWithinRise (λ (r : Registers). r.sp) (registers_after regs (aarch64_step policy unwinder memory (at_instruction_pointer pc) regs)) (walk_from (aarch64_step policy unwinder memory) limit pc regs)
unfolding aarch64
walk-within policy unwinder memory limit pc regs =
    walk-rise (aarch64 policy) (λ memory r. Unit {0}) raises (rises-as-said policy) unwinder.modules memory limit pc regs (inl (always_rises-is policy))
