-- Where a backtrace is the library's walk.
use Rattle.std.proofs.Common.{◌≡◌, ℕ, zero, suc, ◌∷◌, [], Bool, true, false, map, Option, Some, None, Ok, Err, refl, ap, sym, ◌∙◌, inl, inr, subst, ◌⊎◌, ◌==◌, ◌&&◌, if◌then◌else◌}
use Rattle.std.proofs.lemmas.Bool.{true≢false}
use Rattle.framehop_core.specs.CodeAddress.{FrameLocation, lookup_address, at_instruction_pointer, at_return_address}
use Rattle.framehop_core.specs.Outcome.{Outcome, answered, root, refused}
use Rattle.framehop_core.specs.declared.error.Error.{Error}
use Rattle.framehop.specs.Walk.{Walk, End, at_root, at_refusal, at_limit, onward, callers, walk_from, frame_before}
use Rattle.framehop_backtrace.specs.Code.{Code, is_in_trampoline, is_in_code}
use Rattle.framehop_backtrace.specs.Rows.{Finding, by_row, uncovered, no_row}
use Rattle.framehop_backtrace.specs.Library.{IsWithoutRow, AfterStep, IsPlain, IsPlainWalk, EndsAs, IsWalk, walk_of, IsLibraryWalk}
use Rattle.framehop_backtrace.specs.Backtrace.{Stack, FrameView, Backtrace, Next, next_of, by_finding, at_entry, end_at_entry, stepped_by, onward as further, callers_of, backtrace_of, root_of, is_by_frame_pointer, has_no_frame_pointer}
use Rattle.framehop_backtrace.specs.declared.frame.FoundBy.{FoundBy}
use Rattle.framehop_backtrace.specs.declared.frame.FoundBy.TheVariants.{First, Cfi, Signal, Run, FramePointer, Guess}
use Rattle.framehop_backtrace.specs.declared.frame.BacktraceEnd.{BacktraceEnd}
use Rattle.framehop_backtrace.specs.declared.frame.BacktraceEnd.TheVariants.{FramePointerZero, Refused}

-- where a step has answered: 0 ends both, and else both go on
answered-by : {Regs : Type 0} (code : Code) (b c : Bool) (ended on : Walk Regs) (rest : FrameView Regs → Backtrace Regs) (next : FrameView Regs)
    (refusal outside : BacktraceEnd) → IsWalk code ended (record { frames = []; end = refusal })
    → (b ≡ false → (c ≡ true) × IsWalk code on (further rest (Ok next)))
    → IsWalk code (if b then ended else on) (further rest (if b then Err refusal else (if c then Ok next else Err outside)))
answered-by code true c ended on rest next refusal outside ends goes = ends
answered-by code false true ended on rest next refusal outside ends goes = (goes refl).1
answered-by code false false ended on rest next refusal outside ends goes = absurd (true≢false (sym (goes refl).0))

root-is : (code : Code) (found : FoundBy) → EndsAs code at_root (root_of found)
root-is code FramePointer = inr refl
root-is code Guess = inr refl
root-is code Run = inr refl
root-is code First = inl refl
root-is code Cfi = inl refl
root-is code Signal = inl refl

error-is : (code : Code) (zero_is : Bool) (error : Error)
    → EndsAs code (at_refusal error) (if zero_is then FramePointerZero else Refused error)
error-is code true error = inr (inl refl)
error-is code false error = inl refl

-- an end stays that of the walk where a process begins
entry-end : (code : Code) (address : ℕ) (b : Bool) → code.is_entry address ≡ b → (walked : End) (end : BacktraceEnd)
    → EndsAs code walked end → EndsAs code walked (end_at_entry b end)
entry-end code address true is at_root end (inl ends) = inl (ap (end_at_entry true) ends)
entry-end code address true is at_root end (inr ends) = inl (ap (end_at_entry true) ends)
entry-end code address false is at_root end (inl ends) = inl (ap (end_at_entry false) ends)
entry-end code address false is at_root end (inr ends) = inr (ap (end_at_entry false) ends)
entry-end code address true is (at_refusal error) end (inl ends) = inl (ap (end_at_entry true) ends)
entry-end code address true is (at_refusal error) end (inr (inl ends)) = inr (inr ((address, is), ap (end_at_entry true) ends))
entry-end code address true is (at_refusal error) end (inr (inr ends)) = inr (inr (ends.0, ap (end_at_entry true) ends.1))
entry-end code address false is (at_refusal error) end (inl ends) = inl (ap (end_at_entry false) ends)
entry-end code address false is (at_refusal error) end (inr (inl ends)) = inr (inl (ap (end_at_entry false) ends))
entry-end code address false is (at_refusal error) end (inr (inr ends)) = inr (inr (ends.0, ap (end_at_entry false) ends.1))
entry-end code address true is at_limit end ends = ap (end_at_entry true) ends
entry-end code address false is at_limit end ends = ap (end_at_entry false) ends

entry-is : {Regs : Type 0} (code : Code) (address : ℕ) (walk : Walk Regs) (rest : FrameView Regs → Backtrace Regs)
    (next : Next Regs) → IsWalk code walk (further rest next) → IsWalk code walk (further rest (at_entry code address next))
entry-is code address walk rest (Ok frame) is = is
entry-is code address walk rest (Err end) is =
    record { frames = is.frames; end = entry-end code address (code.is_entry address) refl walk.end end is.end }

module _ {Regs : Type 0} (stack : Stack Regs)
    (can : (address : ℕ) (regs : Regs) → stack.machine.can_step (stack.machine.columns address regs) ≡ true) where
  -- the library's step over the memory
  abbrev steps : FrameLocation → Regs → Outcome Regs
  steps location regs = stack.step location regs stack.memory

  next-by : (callee : Option (FrameView Regs)) (frame : FrameView Regs) (finding : Finding) → IsWithoutRow stack frame.location finding
      → stack.machine.can_step frame.columns ≡ true → (found : FoundBy)
      × (by_finding stack callee frame finding ≡ at_entry stack.code (lookup_address frame.location)
      (stepped_by stack.machine stack.code found frame (steps frame.location frame.regs)))
  next-by callee frame no_row without known =
      (if stack.is_by_info frame.location frame.regs stack.memory then Cfi else FramePointer, rw without (rw known refl))
  next-by callee frame uncovered without known = (FramePointer, rw (without.1 frame.columns) (rw without.0 (rw known refl)))
  next-by callee frame (by_row section row) without known = absurd without

  next-of : (callee : Option (FrameView Regs)) (frame : FrameView Regs) → is_in_trampoline stack.code frame.location ≡ false
      → next_of stack callee frame ≡ by_finding stack callee frame (stack.rows frame.location)
  unfolding next_of
  next-of callee frame apart = rw apart refl

  walk-suc : (n : ℕ) (location : FrameLocation) (regs : Regs)
      → callers steps (suc n) location regs ≡ onward (callers steps n) regs (steps location regs)
  unfolding callers
  walk-suc n location regs = refl

  stack-suc : (n : ℕ) (callee : Option (FrameView Regs)) (frame : FrameView Regs)
      → callers_of stack (suc n) callee frame ≡ further (callers_of stack n (Some frame)) (next_of stack callee frame)
  unfolding callers_of
  stack-suc n callee frame = refl

  none-is : (callee : Option (FrameView Regs)) (frame : FrameView Regs)
      → IsWalk stack.code (callers steps zero frame.location frame.regs) (callers_of stack zero callee frame)
  unfolding callers callers_of
  none-is callee frame = record { frames = refl; end = refl }

  before-is : (location : FrameLocation) (frame : FrameView Regs) (walk : Walk Regs) (rest : Backtrace Regs)
      → frame.location ≡ location → IsWalk stack.code walk rest
      → IsWalk stack.code (frame_before location walk) (record rest { frames = frame ∷ rest.frames })
  before-is location frame walk rest here is = record {
    frames = ap (λ l. l ∷ map (λ (f : FrameView Regs). f.location) rest.frames) here ∙ ap (λ ls. location ∷ ls) is.frames;
    end = is.end;
  }

  arrived-in : (n : ℕ) → ((callee : Option (FrameView Regs)) (frame : FrameView Regs) → IsPlain stack n frame.location frame.regs
      → stack.machine.can_step frame.columns ≡ true
      → IsWalk stack.code (callers steps n frame.location frame.regs) (callers_of stack n callee frame))
      → (found : FoundBy) (frame : FrameView Regs) (address : ℕ) (new : Regs)
      → (address ≡ 0) ⊎ ((is_in_code stack.code address ≡ true) × IsPlain stack n (at_return_address address) new)
      → (address == 0) ≡ false → (is_in_code stack.code address ≡ true)
      × IsWalk stack.code (frame_before (at_return_address address) (callers steps n (at_return_address address) new))
      (further (callers_of stack n (Some frame)) (Ok (record { location = at_return_address address; columns = stack.machine.columns address new; regs = new; found = found })))
  arrived-in n go found frame address new (inl zero-is) some = absurd (true≢false (sym (ap (λ a. a == 0) zero-is) ∙ some))
  arrived-in n go found frame address new (inr plain) some =
      let next : FrameView Regs = record { location = at_return_address address; columns = stack.machine.columns address new; regs = new; found = found } in
      (plain.0, before-is (at_return_address address) next _ _ refl (go (Some frame) next plain.1 (can address new)))

  after-is : (n : ℕ) → ((callee : Option (FrameView Regs)) (frame : FrameView Regs) → IsPlain stack n frame.location frame.regs
      → stack.machine.can_step frame.columns ≡ true
      → IsWalk stack.code (callers steps n frame.location frame.regs) (callers_of stack n callee frame))
      → (found : FoundBy) (frame : FrameView Regs) (outcome : Outcome Regs) → AfterStep stack (IsPlain stack n) outcome
      → IsWalk stack.code (onward (callers steps n) frame.regs outcome)
      (further (callers_of stack n (Some frame)) (stepped_by stack.machine stack.code found frame outcome))
  after-is n go found frame (answered address new) plain =
      answered-by stack.code (address == 0) (is_in_code stack.code address) _ _ (callers_of stack n (Some frame)) _ _ _
      (record { frames = refl; end = inl refl }) (λ some. arrived-in n go found frame address new plain some)
  after-is n go found frame root plain = record { frames = refl; end = root-is stack.code found }
  after-is n go found frame (refused error) plain =
      record { frames = refl; end = error-is stack.code (is_by_frame_pointer found && has_no_frame_pointer stack.machine frame.columns) error }

  callers-are : (n : ℕ) (callee : Option (FrameView Regs)) (frame : FrameView Regs)
      → IsPlain stack n frame.location frame.regs → stack.machine.can_step frame.columns ≡ true
      → IsWalk stack.code (callers steps n frame.location frame.regs) (callers_of stack n callee frame)
  callers-are zero callee frame plain known = none-is callee frame
  callers-are (suc n) callee frame plain known =
      let next = next-by callee frame (stack.rows frame.location) plain.1 known in
      let there = after-is n (callers-are n) next.0 frame (steps frame.location frame.regs) plain.2 in
      let begun = entry-is stack.code (lookup_address frame.location) _ (callers_of stack n (Some frame)) _ there in
      rw (walk-suc n frame.location frame.regs) (rw (stack-suc n callee frame ∙ ap (further (callers_of stack n (Some frame))) (next-of callee frame plain.0 ∙ next.1)) begun)

  backtrace-is : (limit pc : ℕ) (frame : FrameView Regs) → frame.location ≡ at_instruction_pointer pc
      → IsPlainWalk stack limit frame.location frame.regs → stack.machine.can_step frame.columns ≡ true
      → IsWalk stack.code (walk_of stack limit pc frame.regs) (backtrace_of stack limit frame)
  unfolding walk_from backtrace_of callers callers_of
  backtrace-is zero pc frame here plain known = record { frames = refl; end = refl }
  backtrace-is (suc n) pc frame here plain known =
      before-is (at_instruction_pointer pc) frame _ _ here
      (subst (λ location. IsWalk stack.code (callers steps n location frame.regs) (callers_of stack n None frame)) here (callers-are n None frame plain known))

  -- so is what is equal to that backtrace
  pub library-is : (limit : ℕ) (frame : FrameView Regs) (found : Backtrace Regs) → found ≡ backtrace_of stack limit frame
      → IsLibraryWalk stack limit frame found
  library-is limit frame found is pc here known plain =
      subst (λ backtrace. IsWalk stack.code (walk_of stack limit pc frame.regs) backtrace) (sym is)
      (backtrace-is limit pc frame here plain known)
