use Rattle.std.proofs.Common.{◌≡◌, None, refl, rules}
use Rattle.framehop_lent.proofs.Reading.{over-read}
use Rattle.framehop_lent.proofs.walk.step_on.Goals as goal

pub returns-in-None-Ok-clause-answers : goal.returns-in-None-Ok-clause-answers
returns-in-None-Ok-clause-answers g c = λ sound not_out memory agrees.
    over-read (λ f. f.0.now.windows.now) (λ f. f.2.now) (λ f. f.2.ghost_name) _ (c.unwind_frame-answer.ensures.answers sound)
    (λ f a r f' call. record { gives = search rules; notes = search rules; windows = search rules; place = search rules })
    memory None refl (λ place _. let noted : c.unwind_frame-answer.new.read_stack.2.now ≡ None = search (rules, place) in rw noted tt)
    agrees not_out

pub returns-in_default-clause-answers : goal.returns-in_default-clause-answers
returns-in_default-clause-answers g c = λ sound not_out memory read.
    over-read (λ f. f.0.now.windows.now) (λ f. f.2.now) (λ f. f.2.ghost_name) _ (c.unwind_frame-answer.ensures.answers sound)
    (λ f a r f' call. record { gives = search rules; notes = search rules; windows = search rules; place = search rules })
    memory c.missing_word.result refl (λ place none. let told = c.missing_word.ensures.none none in search (rules, place, told))
    read not_out
