-- The step over a memory of one word at most is what the callback leads to.
use Rattle.std.proofs.Common.{◌≡◌, ◌∙◌, ap, rules}
use Rattle.framehop.specs.CodeAddress.{location_of}
use Rattle.framehop.specs.Memory.{reply}
use Rattle.framehop_lent.specs.Ahead.{zero_at}
use Rattle.framehop_lent.specs.Window.{unreadable_word}
use Rattle.framehop_lent.proofs.Wanting.{over-kept, wanted-some, wanted-none}
use Rattle.framehop_lent.proofs.ahead.wanted_word.Goals as goal

pub returns-clause-some : goal.returns-clause-some
returns-clause-some g c = λ sound.
    let stepped = over-kept _ (c.unwind_frame-answer.ensures.answers sound) (zero_at c.args.known) (λ f a r f' same call. (
      (let word : r ≡ reply (zero_at f.0.now a.0) = search rules in rw same at word),
      (let kept : f'.0 ≡ f.0 = search rules in kept ∙ same),
    )) in
    wanted-some (Unit {0}) (g.U.Unwinder.step c.args.unwinder.now (location_of c.args.callee) c.args.regs.now (zero_at c.args.known)) c.unreadable-address.result c.unwind_frame-answer.result c.unreadable-address.ensures (λ fine. (stepped fine).0)

pub returns-clause-none : goal.returns-clause-none
returns-clause-none g c = λ sound.
    let stepped = over-kept _ (c.unwind_frame-answer.ensures.answers sound) (zero_at c.args.known) (λ f a r f' same call. (
      (let word : r ≡ reply (zero_at f.0.now a.0) = search rules in rw same at word),
      (let kept : f'.0 ≡ f.0 = search rules in kept ∙ same),
    )) in
    wanted-none (g.U.Unwinder.may_run_out c.args.unwinder.now c.args.cache.now (location_of c.args.callee)) (g.U.Unwinder.step c.args.unwinder.now (location_of c.args.callee) c.args.regs.now (zero_at c.args.known)) c.unreadable-address.result c.unwind_frame-answer.result c.unreadable-address.ensures (λ fine. (stepped fine).0) c.unwind_frame-answer.ensures.may_run_out

pub returns-clause-cached : goal.returns-clause-cached
returns-clause-cached g c = λ some. c.unwind_frame-answer.ensures.cached (λ out. some (c.unreadable-address.ensures ∙ ap unreadable_word out))
