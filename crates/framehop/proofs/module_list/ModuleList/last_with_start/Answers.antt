use Rattle.std.proofs.Common.{◌≡◌, ◌+◌, ◌<◌, [], None, length, sym, ◌∙◌, arith}
use Rattle.framehop.specs.Modules.{ModuleView, AreInOrder, starts_of, no_unwind_data}
use Rattle.framehop.proofs.ModuleLemmas.{no-start, start-at, start-nowhere, start-of}
use Rattle.framehop.proofs.module_list.ModuleList.last_with_start.Goals as goal

pub returns-in_err-index : goal.returns-in_err-index
returns-in_err-index g c =
    rw c.from_residual.ensures (no-start c.args.start c.args.self.now c.place_after.result c.place_after.ensures.point (omega (arith, c.in_err-index.ensures)))

pub returns-then-index-start : goal.returns-then-index-start
returns-then-index-start g c =
    let modules = c.args.self.now in
    let index = c.in_ok-index.index in
    let last : index + 1 ≡ c.place_after.result = omega (arith, c.in_ok-index.ensures) in
    let within : index < length modules = omega (arith, c.place_after.ensures.within) in
    let starts : c.self.inside.starts.items ≡ starts_of modules = rw (← c.self.view_is) c.self.invariant.1 in
    let read = rw starts at c.index.ensures in
    let unread : ModuleView = record { name = []; start = 0; end = 0; base_avma = 0; unwind_data = no_unwind_data None } in
    let found = start-at c.args.start modules c.place_after.result c.place_after.ensures.point index unread last within (sym (start-of modules index unread _ within) ∙ sym read ∙ c.if-index-start.true) in
    (within, found.0, found.1)

pub returns-else-index-start : goal.returns-else-index-start
returns-else-index-start g c =
    let modules = c.args.self.now in
    let index = c.in_ok-index.index in
    let last : index + 1 ≡ c.place_after.result = omega (arith, c.in_ok-index.ensures) in
    let within : index < length modules = omega (arith, c.place_after.ensures.within) in
    let ordered : AreInOrder modules = rw (← c.self.view_is) c.self.invariant.0 in
    let starts : c.self.inside.starts.items ≡ starts_of modules = rw (← c.self.view_is) c.self.invariant.1 in
    let read = rw starts at c.index.ensures in
    start-nowhere c.args.start modules c.place_after.result c.place_after.ensures.point ordered index last within (λ d is. c.if-index-start.false (read ∙ start-of modules index d _ within ∙ is))
