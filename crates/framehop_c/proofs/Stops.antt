-- What C is told of why a walk over windows has stopped.
use Rattle.std.proofs.Common.{◌≡◌, ◌↔◌, ◌⊎◌, inl, inr, ℕ, ℤ, List, ap, ◌∙◌}
use Rattle.framehop_core.specs.Outcome.{Outcome}
use Rattle.framehop_core.specs.CodeAddress.{FrameLocation}
use Rattle.framehop_core.specs.declared.error.Error.TheVariants.{OutOfMemory}
use Rattle.framehop.specs.Walk.{callers}
use Rattle.framehop.specs.declared.walk.WalkEnd.TheVariants.{Refused}
use Rattle.framehop_lent.specs.Walk.{IsWrittenUpTo}
use Rattle.framehop_lent.specs.declared.walk.WalkStop.{WalkStop}
use Rattle.framehop_lent.specs.declared.walk.WalkStop.TheVariants.{Ended, Missing}
use Rattle.framehop_c.specs.Status.{out_of_memory, missing_word, status_of_end, unreadable_at, status_of_stop, unreadable_at_stop}
use Rattle.framehop_c.specs.Told.{IsToldPart, IsToldUpTo}
use Rattle.framehop_c.specs.declared.calls.FramehopWalk.{FramehopWalk}

module _ {Regs : Type 0} (step : FrameLocation → Regs → Outcome Regs) (limit : ℕ) (location : FrameLocation) (old : Regs) (frames : List ℕ) (new : Regs) (status : ℤ) (told : FramehopWalk) where
  -- by what is written, and the numbers of the stop
  pub told-up-to : (stop : WalkStop) → IsWrittenUpTo step limit location old told.frame_count frames stop new → status ≡ status_of_stop stop → told.unreadable ≡ unreadable_at_stop stop → ((status ≡ out_of_memory) ↔ (stop ≡ Ended (Refused OutOfMemory))) → ((status ≡ missing_word) ↔ (stop ≡ Missing told.unreadable)) → IsToldUpTo step limit location old status told frames new
  told-up-to (Missing address) written is word memory missing = record {
    whole = λ other _. elim (other is) [ ];
    part = λ _. record { counted = written.counted; addresses = written.addresses; registers = written.registers };
  }
  told-up-to (Ended end) written is word memory missing = record {
    whole = λ _ fine.
        let all = written.1 (λ out. fine (memory.1 (ap Ended out))) in
        record {
          counted = all.counted;
          addresses = all.addresses;
          ends = is ∙ ap status_of_end all.ends;
          unreadable = word ∙ ap unreadable_at all.ends;
          registers = all.registers;
        };
    part = part-of;
  }
    where
      part-of : (status ≡ missing_word) ⊎ (status ≡ out_of_memory) → IsToldPart (callers step told.frame_count location old) told frames new
      part-of (inl word-is-missing) = let same = missing.0 word-is-missing in cc
      part-of (inr out) =
          let same = memory.0 out in
          let end-is : end ≡ Refused OutOfMemory = cc in
          let first = written.0 end-is in
          record { counted = first.counted; addresses = first.addresses; registers = first.registers }
