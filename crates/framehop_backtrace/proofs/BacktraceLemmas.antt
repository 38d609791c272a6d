-- The callers of a frame one after another.
use Rattle.std.proofs.Common.{◌≡◌, ℕ, zero, suc, ◌++◌, ◌∷◌, [], List, Option, Some, None, Ok, Err, refl, ap, sym, ◌∙◌, append_assoc}
use Rattle.std.proofs.lemmas.List.{append-nil}
use Rattle.framehop_backtrace.specs.Backtrace.{FrameView, Stack, Backtrace, Next, next_of, frame_before, onward, callers_of, backtrace_of}
use Rattle.framehop_backtrace.specs.declared.frame.BacktraceEnd.{BacktraceEnd}
use Rattle.framehop_backtrace.specs.declared.frame.BacktraceEnd.TheVariants.{Limit}

-- frames, then a backtrace
abbrev pub joined : {Regs : Type 0} → List (FrameView Regs) → Backtrace Regs → Backtrace Regs
joined frames rest = record { frames = frames ++ rest.frames; end = rest.end }

module _ {Regs : Type 0} (stack : Stack Regs) where
  callers-suc : (n : ℕ) (callee : Option (FrameView Regs)) (frame : FrameView Regs)
      → callers_of stack (suc n) callee frame ≡ onward (callers_of stack n (Some frame)) (next_of stack callee frame)
  unfolding callers_of
  callers-suc n callee frame = refl

  callers-zero : (callee : Option (FrameView Regs)) (frame : FrameView Regs)
      → callers_of stack zero callee frame ≡ record { frames = []; end = Limit }
  unfolding callers_of
  callers-zero callee frame = refl

  backtrace-suc : (n : ℕ) (frame : FrameView Regs)
      → backtrace_of stack (suc n) frame ≡ frame_before frame (callers_of stack n None frame)
  unfolding backtrace_of
  backtrace-suc n frame = refl

  backtrace-zero : (frame : FrameView Regs) → backtrace_of stack zero frame ≡ record { frames = []; end = Limit }
  unfolding backtrace_of
  backtrace-zero frame = refl

  callers-by : (n m : ℕ) (callee : Option (FrameView Regs)) (frame : FrameView Regs) (next : Next Regs) → n ≡ suc m
      → next ≡ next_of stack callee frame → callers_of stack n callee frame ≡ onward (callers_of stack m (Some frame)) next
  callers-by n m callee frame next fuel is =
      ap (λ k. callers_of stack k callee frame) fuel ∙ callers-suc m callee frame
      ∙ ap (onward (callers_of stack m (Some frame))) (sym is)

  pub none : (limit : ℕ) (frame : FrameView Regs) → limit ≡ zero
      → record { frames = []; end = Limit } ≡ backtrace_of stack limit frame
  none limit frame fuel = sym (ap (λ k. backtrace_of stack k frame) fuel ∙ backtrace-zero frame)

  pub first : (limit n : ℕ) (frame : FrameView Regs) (frames : List (FrameView Regs)) → limit ≡ suc n → frames ≡ frame ∷ []
      → joined frames (callers_of stack n None frame) ≡ backtrace_of stack limit frame
  first limit n frame frames fuel is =
      ap (λ fs. joined fs (callers_of stack n None frame)) is
      ∙ sym (ap (λ k. backtrace_of stack k frame) fuel ∙ backtrace-suc n frame)

  pub one-more : (n m : ℕ) (callee : Option (FrameView Regs)) (frame caller : FrameView Regs) (frames new : List (FrameView Regs))
      (whole : Backtrace Regs) → n ≡ suc m → Ok caller ≡ next_of stack callee frame → new ≡ frames ++ caller ∷ []
      → joined frames (callers_of stack n callee frame) ≡ whole → joined new (callers_of stack m (Some frame) caller) ≡ whole
  one-more n m callee frame caller frames new whole fuel is pushed so =
      ap (λ fs. joined fs (callers_of stack m (Some frame) caller)) pushed
      ∙ ap (λ fs. record { frames = fs; end = (callers_of stack m (Some frame) caller).end })
      (append_assoc frames (caller ∷ []) (callers_of stack m (Some frame) caller).frames)
      ∙ ap (joined frames) (sym (callers-by n m callee frame (Ok caller) fuel is)) ∙ so

  pub ended : (n m : ℕ) (callee : Option (FrameView Regs)) (frame : FrameView Regs) (end : BacktraceEnd)
      (frames : List (FrameView Regs)) (whole : Backtrace Regs) → n ≡ suc m → Err end ≡ next_of stack callee frame
      → joined frames (callers_of stack n callee frame) ≡ whole → record { frames = frames; end = end } ≡ whole
  ended n m callee frame end frames whole fuel is so =
      ap (λ fs. record { frames = fs; end = end }) (sym (append-nil frames))
      ∙ ap (joined frames) (sym (callers-by n m callee frame (Err end) fuel is)) ∙ so

  pub limited : (n : ℕ) (callee : Option (FrameView Regs)) (frame : FrameView Regs) (frames : List (FrameView Regs))
      (whole : Backtrace Regs) → n ≡ zero → joined frames (callers_of stack n callee frame) ≡ whole
      → record { frames = frames; end = Limit } ≡ whole
  limited n callee frame frames whole fuel so =
      ap (λ fs. record { frames = fs; end = Limit }) (sym (append-nil frames))
      ∙ ap (joined frames) (sym (ap (λ k. callers_of stack k callee frame) fuel ∙ callers-zero callee frame)) ∙ so
