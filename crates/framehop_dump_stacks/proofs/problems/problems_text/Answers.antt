use Rattle.std.proofs.Common.{◌<◌, ◌≤◌, ◌++◌, length, ap, ◌∙◌, subst, arith}
use Rattle.std.proofs.lemmas.List.{at_drop_all}
use Rattle.framehop_processes.specs.declared.files.NamedFile.{NamedFile}
use Rattle.framehop_dumps.specs.Dump.{dump_view}
use Rattle.framehop_dump_stacks.specs.Problems.{IsLineOf}
use Rattle.framehop_dump_stacks.proofs.ProblemLemmas.{next-line, all-lines}
use Rattle.framehop_dump_stacks.proofs.problems.problems_text.Goals as goal

pub loop-file-preserved : goal.loop-file-preserved
loop-file-preserved c =
    let l = c.loop-file in
    let dump = dump_view c.args.modules.now.dump.now in
    let items = c.list-file-items.result.now in
    let within : l.file-index < length items = omega arith in
    let told = subst (λ (file : NamedFile). IsLineOf dump c.args.modules.now.files.now c.args.mappings.now file.name.items file.object file.problem c.in_ok-line.line.items) c.file-item.is (rw c.in_ok-first.ensures at c.in_ok-line.ensures) in
    next-line dump c.args.modules.now.files.now c.args.mappings.now c.args.modules.now.files.now.list.items items c.list-file-items.ensures l.file-index _ within
    l.text.items c.in_ok-line.line.items _ told (c.in_ok-extend_from_slice.ensures.items ∙ ap (λ some. l.text.items ++ some) c.as_slice.ensures.value) l.invariant

pub returns : goal.returns
returns c =
    let l = c.loop-file in
    let list = c.args.modules.now.files.now.list.items in
    all-lines (dump_view c.args.modules.now.dump.now) c.args.modules.now.files.now c.args.mappings.now list l.file-index l.text.items
    (at_drop_all (λ xs. xs) list l.file-index (subst (λ some. length some ≤ l.file-index) c.list-file-items.ensures c.loop-file-test.false)) l.invariant
