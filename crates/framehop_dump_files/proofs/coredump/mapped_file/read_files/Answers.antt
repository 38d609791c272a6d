use Rattle.std.proofs.Common.{◌≡◌, ◌+◌, ◌++◌, ◌∷◌, [], map, drop, length, ap, ◌∙◌, rules}
use Rattle.std.proofs.Math.Seq.{drop-length}
use Rattle.std.proofs.lemmas.Result.{err_from_is_err_and}
use Rattle.framehop_dump_files.specs.Coredump.MappedFile.{mapped_file_view}
use Rattle.framehop_dump_files.proofs.GatherLemmas.{items-are, read-more, read-refused, refusal-due, made-all, given-up}
use Rattle.framehop_dump_files.proofs.FileLemmas.{files-more, files-no-path, files-refused, files-none}
use Rattle.framehop_dump_files.proofs.coredump.mapped_file.read_files.Goals as goal

pub returns-in_err-path : goal.returns-in_err-path
returns-in_err-path c =
    let l = c.loop-entry in
    let a = c.args in
    let is = items-are a.entries.now l.entry-index [] (search rules) in
    let p = err_from_is_err_and c.from_residual.result c.from_residual.ensures.1 in
    rw (p.1, p.2) (refusal-due _ c.in_err-path.field-0.0 (read-refused _ _ _ c.in_err-path.field-0.0 l.invariant.2
    (files-no-path a.offset a.page_size (drop l.entry-index a.entries.now) (drop (l.entry-index + 1) a.entries.now) _ l.rest.now is c.in_err-path.field-0.0 c.in_err-path.ensures.exact)))

pub returns-in_err-file : goal.returns-in_err-file
returns-in_err-file c =
    let l = c.loop-entry in
    let a = c.args in
    let is = items-are a.entries.now l.entry-index [] (search rules) in
    let p = err_from_is_err_and c.from_residual-in_err-file.result c.from_residual-in_err-file.ensures.1 in
    rw (p.1, p.2) (refusal-due _ c.in_err-file.field-0.0 (read-refused _ _ _ c.in_err-file.field-0.0 l.invariant.2
    (files-refused a.offset a.page_size (drop l.entry-index a.entries.now) (drop (l.entry-index + 1) a.entries.now) _ l.rest.now is c.in_ok-path.path.now c.in_ok-path.later.now c.in_err-file.field-0.0 c.in_ok-path.ensures.exact c.in_err-file.ensures.exact)))

pub loop-entry-preserved : goal.loop-entry-preserved
loop-entry-preserved c =
    let l = c.loop-entry in
    let a = c.args in
    let is = items-are a.entries.now l.entry-index _ (search rules) in
    let before = l.invariant.0 in
    let file = c.in_ok-file.file in (
      before ++ file ∷ [],
      c.pushed-files.ensures before l.invariant.1,
      read-more mapped_file_view _ _ _ before (file ∷ []) l.invariant.2
          (files-more a.offset a.page_size (drop l.entry-index a.entries.now) (drop (l.entry-index + 1) a.entries.now) _ l.rest.now is c.in_ok-path.path.now c.in_ok-path.later.now (mapped_file_view file) c.in_ok-path.ensures.exact c.in_ok-file.ensures.exact),
    )

pub returns-in-Some : goal.returns-in-Some
returns-in-Some c =
    let l = c.loop-entry in
    let a = c.args in
    let over : l.entry-index ≡ length a.entries.now = search rules in
    let none = files-none a.offset a.page_size (drop l.entry-index a.entries.now) l.rest.now (ap (λ i. drop i a.entries.now) over ∙ drop-length a.entries.now) in
    made-all mapped_file_view _ _ l.invariant.0 l.files c.in-Some.files l.invariant.2 none l.invariant.1 c.in-Some.is

pub returns-in-None : goal.returns-in-None
returns-in-None c =
    let l = c.loop-entry in
    let a = c.args in
    let over : l.entry-index ≡ length a.entries.now = search rules in
    let none = files-none a.offset a.page_size (drop l.entry-index a.entries.now) l.rest.now (ap (λ i. drop i a.entries.now) over ∙ drop-length a.entries.now) in
    given-up _ _ (map mapped_file_view l.invariant.0) l.invariant.2 none
