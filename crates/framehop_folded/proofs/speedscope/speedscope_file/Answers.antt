use Rattle.std.proofs.Common.{◌≡◌, ◌∙◌, ap, map, string_bytes, []}
use Rattle.serde_json.specs.View.{view}
use Rattle.framehop_folded.specs.Folded.{entries_of}
use Rattle.framehop_folded.specs.Speedscope.{file_of, names_among, stack_view, stacks_of}
use Rattle.framehop_folded.proofs.SpeedscopeLemmas.{file-none, file_is, text_by_thread, text_is}
use Rattle.framehop_folded.proofs.speedscope.speedscope_file.Goals as goal

pub returns-clause-whole : goal.returns-clause-whole
returns-clause-whole c = λ single.
    let stacks = stacks_of c.args.title.now c.args.by_thread (entries_of c.args.folded.now) in
    let one : map stack_view c.as_slice.result.now ≡ stacks = ap (map stack_view) c.as_slice.ensures.value ∙ c.in_ok-stacks.ensures in
    let two : map stack_view c.as_slice-2.result.now ≡ stacks = ap (map stack_view) c.as_slice-2.ensures.value ∙ c.in_ok-stacks.ensures in
    let names = names_among [] (map stack_view c.as_slice.result.now) in
    let made = c.in_ok-profiles.ensures.whole names c.in_ok-frames.ensures single in
    let is : view c.in_ok-file.file ≡ file_of c.args.title.now stacks =
    file_is c.args.title.now stacks (map stack_view c.as_slice.result.now) (map stack_view c.as_slice-2.result.now)
    (map view c.in_ok-profiles.profiles.items) (view c.in_ok-file.file) one two made (c.in_ok-file.ensures names c.in_ok-frames.ensures) in
    text_is (λ text. string_bytes text) (view c.in_ok-file.file) (file_of c.args.title.now stacks) c.to_string.result c.to_string.ensures.text is
    (file-none c.args.title.now stacks)

pub returns-clause-threads : goal.returns-clause-threads
returns-clause-threads c = λ apart.
    let stacks = stacks_of c.args.title.now c.args.by_thread (entries_of c.args.folded.now) in
    let one : map stack_view c.as_slice.result.now ≡ stacks = ap (map stack_view) c.as_slice.ensures.value ∙ c.in_ok-stacks.ensures in
    let two : map stack_view c.as_slice-2.result.now ≡ stacks = ap (map stack_view) c.as_slice-2.ensures.value ∙ c.in_ok-stacks.ensures in
    let names = names_among [] (map stack_view c.as_slice.result.now) in
    let made = c.in_ok-profiles.ensures.threads names c.in_ok-frames.ensures apart in
    text_by_thread (λ text. string_bytes text) c.args.title.now stacks (map stack_view c.as_slice.result.now) (map stack_view c.as_slice-2.result.now)
    (map view c.in_ok-profiles.profiles.items) (view c.in_ok-file.file) one two made (c.in_ok-file.ensures names c.in_ok-frames.ensures)
    c.to_string.result c.to_string.ensures.text
