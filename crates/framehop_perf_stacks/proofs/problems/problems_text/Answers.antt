use Rattle.std.proofs.Common.{◌+◌, ◌≤◌, ◌++◌, length, ap, sym, ◌∙◌, subst}
use Rattle.std.proofs.lemmas.List.{drop_all}
use Rattle.framehop_perf_stacks.proofs.ProblemLemmas.{AreLinesSoFar, one-line-more, all-lines}
use Rattle.framehop_perf_stacks.proofs.problems.problems_text.Goals as goal

pub loop-file-preserved : goal.loop-file-preserved
loop-file-preserved c =
    let l = c.loop-file in
    let files = c.args.files.now.list.items in
    let test = c.loop-file-test.true in
    let same = c.list-file-items.ensures in
    let text = c.in_ok-extend_from_slice.ensures.items ∙ ap (λ line. l.text.items ++ line) c.as_slice.ensures.value in
    subst (λ all. AreLinesSoFar files (l.file-index + 1) all) (sym text)
    (one-line-more c.list-file-items.result.now files l.file-index _ c.file-item.result c.in_ok-line.line.items l.text.items same test
    c.file-item.is c.in_ok-line.ensures l.invariant)

pub returns : goal.returns
returns c =
    let l = c.loop-file in
    let files = c.args.files.now.list.items in
    let test = c.loop-file-test.false in
    let same = c.list-file-items.ensures in
    all-lines files l.file-index l.text.items (drop_all l.file-index files (subst (λ list. length list ≤ l.file-index) same test)) l.invariant
