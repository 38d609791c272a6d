use Rattle.std.proofs.Common.{rules, ◌≡◌, ◌==◌, true, None, cond, ap, sym, ◌∙◌}
use Rattle.std.specs.List.{list_any}
use Rattle.framehop_perf_stacks.specs.Window.{before_byte, after_byte, bound_of, window_by}
use Rattle.framehop_perf_stacks.proofs.window.window_of.Goals as goal

pub returns : goal.returns
returns c =
    let text = c.args.text.now in
    let comma : list_any (λ b. b == 44) text ≡ true = search rules in
    c.window_by.ensures
    ∙ ap (λ first. window_by first c.in_ok-last.last) (c.in_ok-first.ensures ∙ ap bound_of c.before_byte.ensures)
    ∙ ap (λ last. window_by (bound_of (before_byte 44 text)) last) (c.in_ok-last.ensures ∙ ap bound_of c.after_byte.ensures)
    ∙ ap (λ b. cond b (window_by (bound_of (before_byte 44 text)) (bound_of (after_byte 44 text))) None) (sym comma)
