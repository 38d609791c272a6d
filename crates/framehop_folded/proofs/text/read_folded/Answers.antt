use Rattle.std.proofs.Common.{arith, ◌≡◌, ◌∙◌, ap, sym, length, drop, map, ◌+◌, ◌++◌, ◌∷◌, [], refl, inl, inr, ⊎_elim}
use Rattle.std.proofs.lemmas.List.{map-append, length-drop}
use Rattle.std.proofs.lemmas.Result.{err_from_is_err_and}
use Rattle.framehop_folded.specs.Text.{counted}
use Rattle.framehop_folded.proofs.TextLemmas.{after, left, turn_taken, turn_refused, turn_empty}
use Rattle.framehop_folded.proofs.text.read_folded.Goals as goal
use Rattle.framehop_folded.proofs.text.read_folded.Goals.{then-end-gt0+in_ok-read_line+in_ok-push, else-end-gt0}

pub returns-in_err-read_line : goal.returns-in_err-read_line
returns-in_err-read_line c =
    let p = err_from_is_err_and c.from_residual.result c.from_residual.ensures.1 in
    let refused = turn_refused c.args.text.now c.loop-rest.rest.now (drop (c.line_len-end.result + 1) c.loop-rest.rest.now) c.line_len-end.result
    (map counted c.loop-rest.lines.items) c.loop-rest.invariant.0 c.line_len-end.ensures.len c.line_len-end.ensures.within refl
    c.in_err-read_line.field-0.0 (omega arith) in
    rw (p.1, p.2) (⊎_elim (λ h. inl h) (λ h. inr (c.loop-rest.invariant.1 ∙ refused h)) c.in_err-read_line.ensures)

pub loop-rest-preserved : goal.loop-rest-preserved
loop-rest-preserved c =
    let whole = c.args.text.now in
    let text = c.loop-rest.rest.now in
    let rest = c.rest_from-rest.result.now in
    let end = c.line_len-end.result in
    let lines = map counted c.loop-rest.lines.items in
    let size : length rest ≡ length (drop (end + 1) text) = ap length c.rest_from-rest.ensures in (
      omega (arith, size, length-drop (end + 1) text),
      elim c.if-end-gt0.branch [
        | then-end-gt0+in_ok-read_line+in_ok-push w ↦
            let made = counted w.in_ok-read_line.field-0 in
            let pushed : map counted c.if-end-gt0.lines.items ≡ lines ++ made ∷ [] =
            ap (λ (v : _). map counted v.items) w.lines-is ∙ ap (map counted) w.in_ok-push.ensures.items
            ∙ map-append counted c.loop-rest.lines.items (w.in_ok-read_line.field-0 ∷ []) in
            c.loop-rest.invariant.1
            ∙ turn_taken whole text rest end lines c.loop-rest.invariant.0 c.line_len-end.ensures.len c.line_len-end.ensures.within c.rest_from-rest.ensures
            made w.if-end-gt0.true w.in_ok-read_line.ensures
            ∙ ap (λ all. after all (left whole rest)) (sym pushed)
        | else-end-gt0 w ↦
            let kept : map counted c.if-end-gt0.lines.items ≡ lines = ap (λ (v : _). map counted v.items) w.lines-is in
            c.loop-rest.invariant.1
            ∙ turn_empty whole text rest end lines c.loop-rest.invariant.0 c.line_len-end.ensures.len c.line_len-end.ensures.within c.rest_from-rest.ensures
            (omega (arith, w.if-end-gt0.false))
            ∙ ap (λ all. after all (left whole rest)) (sym kept)
      ],
    )
