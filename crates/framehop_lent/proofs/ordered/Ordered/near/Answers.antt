use Rattle.std.proofs.Common.{length, refl, sym, ◌∙◌}
use Rattle.std.proofs.lemmas.Bool.{ltb-true}
use Rattle.std.proofs.lemmas.Option.{slice_get_read}
use Rattle.framehop_lent.proofs.Order.{told-in-order}
use Rattle.framehop_lent.proofs.ordered.Ordered.near.Goals as goal

pub invariant_of-result : goal.invariant_of-result
invariant_of-result c =
    let windows = c.args.self.now.windows.now in
    let lookup = c.in-Some.ensures.lookup in
    let found = slice_get_read windows (length windows) c.args.number c.in-Some.window.now refl (ltb-true _ _ (sym lookup.0)) lookup.1 in
    record { told = λ address word has. told-in-order 0 windows (sym c.args.self.now.order ∙ c.if-self.true) c.args.number c.in-Some.window.now found address word has }
