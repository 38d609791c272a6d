use Rattle.std.proofs.Common.{◌∙◌, map, ap}
use Rattle.std.proofs.lemmas.List.{take_all}
use Rattle.framehop_perf_stacks.specs.Chain.{name_from}
use Rattle.framehop_perf_stacks.specs.Kallsyms.{function_view, functions_in, last_name}
use Rattle.framehop_perf_stacks.proofs.KallsymsLemmas.{one-name-more, no-name-more}
use Rattle.framehop_perf_stacks.proofs.LinesLemmas.{now_of}
use Rattle.framehop_perf_stacks.proofs.kallsyms.read_kallsyms.Goals.{in-Some+in_ok-add, in_default}
use Rattle.framehop_perf_stacks.proofs.kallsyms.read_kallsyms.Goals as goal

pub loop-line-init : goal.loop-line-init
loop-line-init c = c.new-names.ensures

pub loop-line-preserved : goal.loop-line-preserved
loop-line-preserved c =
    let lines = c.as_slice-line-items.result.now in
    let l = c.loop-line in
    elim c.match-function_of.branch [ in-Some+in_ok-add w ↦ one-name-more lines l.line-index _ (function_view w.in-Some.function) l.names.by_start c.match-function_of.names.by_start c.loop-line-test.true w.in-Some.ensures l.invariant (λ start. ap (λ names. name_from names.by_start start) w.names-is ∙ w.in_ok-add.ensures start) | in_default w ↦ λ start. ap (λ names. name_from names.by_start start) w.names-is ∙ no-name-more lines l.line-index _ l.names.by_start c.loop-line-test.true w.in_default.ensures l.invariant start ]

pub returns : goal.returns
returns c = λ start.
    c.loop-line.invariant start
    ∙ ap (λ lines. last_name (functions_in (map now_of lines)) start)
    (take_all c.loop-line.line-index c.as_slice-line-items.result.now c.loop-line-test.false ∙ c.as_slice-line-items.ensures.value)
    ∙ ap (λ lines. last_name (functions_in lines) start) c.in_ok-lines.ensures
