-- The frame that was found and the words of the step from it, or why there is none.
use Rattle.std.proofs.Common.{rules, ◌≡◌, refl, sym, ap, ◌∙◌, to_z, of_z}
use mir.Val.{SFits}
use mir.Syntax.{w32}
use Rattle.std.proofs.lemmas.Int.{to_z-of_z}
use Rattle.framehop_core.specs.CodeAddress.{at_return_address}
use Rattle.framehop_c.specs.Told.{location_at}
use Rattle.framehop_c.proofs.Nexts.{told-next}
use Rattle.framehop_c.proofs.next.next_frame.Goals as goal

pub returns-in-Ok-clause-asked : goal.returns-in-Ok-clause-asked
returns-in-Ok-clause-asked g c = λ sound is_ok.
    let same = c.in-Ok.ensures.is_caller ∙ ap at_return_address (sym c.address.ensures) in
    let cached : c.caller_over-found.new.cache ≡ g.U.Unwinder.cache_after c.args.unwinder.now c.args.cache.now (location_at c.args.address c.args.is_return_address) = rw c.in-Some.ensures.1 at c.in-Ok.ensures.cached in
    let sound_yet = c.in-Ok.ensures.stays_sound (g.U.Unwinder.unwinder_view c.args.unwinder.now) (λ e. refl) sound in (
      rw cached at sound_yet,
      rw same at c.words_ahead.ensures.asked sound_yet,
      rw (same, cached) at (c.words_ahead.ensures.whole sound_yet),
    )

pub returns-in-Ok-clause-looked_up_ahead : goal.returns-in-Ok-clause-looked_up_ahead
returns-in-Ok-clause-looked_up_ahead g c = λ is_ok.
    let same = c.in-Ok.ensures.is_caller ∙ ap at_return_address (sym c.address.ensures) in
    let cached : c.caller_over-found.new.cache ≡ g.U.Unwinder.cache_after c.args.unwinder.now c.args.cache.now (location_at c.args.address c.args.is_return_address) = rw c.in-Some.ensures.1 at c.in-Ok.ensures.cached in
    rw (same, cached) at c.words_ahead.ensures.looked_up

pub returns-in-Err-clause-answers : goal.returns-in-Err-clause-answers
returns-in-Err-clause-answers g c = λ callee sound fine other memory agrees.
    let found = rw c.in-Some.ensures.1 at c.in-Err.ensures.answers sound memory agrees in
    let told = c.stop_status-status in
    let fits : SFits w32 told.result.0 = search rules in
    let same : to_z w32 (of_z w32 told.result.0) ≡ told.result.0 = to_z-of_z w32 told.result.0 fits in
    rw same (told-next _ _ _ _ c.in-Err.stop found told.ensures.status c.without.ensures.return_address (c.without.ensures.unreadable ∙ told.ensures.address) told.ensures.memory (rw same at fine) (rw same at other))
