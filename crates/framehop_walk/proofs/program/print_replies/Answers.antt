use Rattle.std.proofs.Common.{◌≡◌, ◌+◌, ◌<◌, ◌≤◌, ◌++◌, ◌∙◌, ap, sym, rules, length, get_or, map, drop, append-nil, string_bytes}
use Rattle.framehop.specs.SessionView.{reply_view}
use Rattle.framehop_walk.specs.Text.{reply_lines}
use Rattle.framehop_walk.specs.Program.{lines_of}
use Rattle.framehop_walk.proofs.Outputs.{lines-next, lines-without_verbs, lines-end, printed-more}
use Rattle.framehop_walk.proofs.program.print_replies.Goals as goal
use Rattle.framehop_walk.proofs.program.print_replies.Goals.{in-Some+in_ok-print_reply, in_default}

pub loop-i-preserved : goal.loop-i-preserved
loop-i-preserved g c =
    let text = g.A.Registers.text in
    let verbs = c.args.verbs.now.items in
    let replies = c.args.replies.now.items in
    let within : c.loop-i.i < length replies = rw c.deref-reply-items.ensures.value at c.loop-i-test.true in
    let item : c.reply-item.result ≡ get_or replies c.loop-i.i c.reply-item.result = rw c.deref-reply-items.ensures.value at c.reply-item.is in
    let rest = lines_of text (drop (c.loop-i.i + 1) (map (λ v. v.now) verbs)) (drop (c.loop-i.i + 1) (map reply_view replies)) in
    let all = lines_of text (map (λ v. v.now) verbs) (map reply_view replies) in
    elim c.match-get.branch [
      | in-Some+in_ok-print_reply w ↦
          let in_verbs : c.loop-i.i < length verbs = search rules in
          let is_verb : w.in-Some.verb.now ≡ get_or verbs c.loop-i.i w.in-Some.verb.now = search rules in
          let line = reply_lines text w.in-Some.verb.now.now (reply_view c.reply-item.result) in
          printed-more (string_bytes c.loop-i.out) (string_bytes c.match-get.out) line rest all
          (ap string_bytes w.out-is ∙ w.in_ok-print_reply.ensures)
          (ap (λ l. string_bytes c.loop-i.out ++ l) (sym (lines-next text verbs replies c.loop-i.i w.in-Some.verb.now c.reply-item.result in_verbs is_verb within item)) ∙ c.loop-i.invariant)
      | in_default w ↦
          let past : length verbs ≤ c.loop-i.i = search rules in
          ap (λ o. string_bytes o ++ rest) w.out-is
          ∙ ap (λ l. string_bytes c.loop-i.out ++ l) (sym (lines-without_verbs text verbs (drop c.loop-i.i (map reply_view replies)) (drop (c.loop-i.i + 1) (map reply_view replies)) c.loop-i.i past))
          ∙ c.loop-i.invariant
    ]

pub returns : goal.returns
returns g c =
    let past : length c.args.replies.now.items ≤ c.loop-i.i = rw c.deref-reply-items.ensures.value at c.loop-i-test.false in
    sym (append-nil (string_bytes c.loop-i.out))
    ∙ ap (λ l. string_bytes c.loop-i.out ++ l) (sym (lines-end g.A.Registers.text (drop c.loop-i.i (map (λ v. v.now) c.args.verbs.now.items)) c.args.replies.now.items c.loop-i.i past))
    ∙ c.loop-i.invariant
