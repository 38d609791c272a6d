-- What C is told of why there is no next frame.
use Rattle.std.proofs.Common.{◌≡◌, ◌≢◌, ◌↔◌, ℤ, Option, Some, None, Result, Ok, Err, refl, sym, ap, ◌∙◌}
use Rattle.framehop_core.specs.CodeAddress.{FrameLocation}
use Rattle.framehop_core.specs.declared.error.Error.{Error}
use Rattle.framehop_core.specs.declared.error.Error.TheVariants.{OutOfMemory}
use Rattle.framehop.specs.Walk.{End, at_root, at_refusal}
use Rattle.framehop.specs.SessionView.{end_of}
use Rattle.framehop.specs.Iterator.{Next, end_in}
use Rattle.framehop.specs.declared.walk.WalkEnd.TheVariants.{Refused}
use Rattle.framehop_lent.specs.Walk.{IsCallerOrEnd}
use Rattle.framehop_lent.specs.declared.walk.WalkStop.{WalkStop}
use Rattle.framehop_lent.specs.declared.walk.WalkStop.TheVariants.{Ended, Missing}
use Rattle.framehop_c.specs.Status.{out_of_memory, missing_word, status_of_end, unreadable_at, status_of_stop, unreadable_at_stop}
use Rattle.framehop_c.specs.Ahead.{IsToldNext, status_of_next, address_in_next, unreadable_in_next}
use Rattle.framehop_c.specs.declared.next.FramehopNext.{FramehopNext}

-- the numbers of an answer that ends a walk
by-end : (answer : Result (Option FrameLocation) Error) (end : End) → end_in answer ≡ Some end → (status_of_next answer ≡ status_of_end end) × (unreadable_in_next answer ≡ unreadable_at end) × (address_in_next answer ≡ 0)
by-end (Ok (Some location)) end is = cc
by-end (Ok None) end is = let same : at_root ≡ end = cc in (ap status_of_end same, ap unreadable_at same, refl)
by-end (Err error) end is = let same : at_refusal error ≡ end = cc in (ap status_of_end same, ap unreadable_at same, refl)

module _ {Regs : Type 0} (next : Next Regs) (status : ℤ) (told : FramehopNext) (regs : Regs) where
  -- by the numbers of the stop
  pub told-next : (stop : WalkStop) → IsCallerOrEnd next (Err stop) regs → status ≡ status_of_stop stop → told.return_address ≡ 0 → told.unreadable ≡ unreadable_at_stop stop → ((status ≡ out_of_memory) ↔ (stop ≡ Ended (Refused OutOfMemory))) → status ≢ out_of_memory → status ≢ missing_word → IsToldNext next status told regs
  told-next (Missing address) found is none word memory fine other = absurd (other is)
  told-next (Ended end) found is none word memory fine other =
      let all = found (λ out. fine (memory.1 (ap Ended out))) in
      let numbers = by-end next.answer (end_of end) all.0 in
      record {
        ends = is ∙ sym numbers.0;
        return_address = none ∙ sym numbers.2;
        unreadable = word ∙ sym numbers.1;
        registers = all.2;
      }
