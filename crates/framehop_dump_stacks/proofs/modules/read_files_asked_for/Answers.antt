use Rattle.std.proofs.Common.{◌≡◌, ◌<◌, ◌+◌, ℕ, List, [], true, false, inl, inr, map, drop, length, refl, sym, ◌∙◌, subst, arith}
use Rattle.std.proofs.lemmas.List.{at_drop_all}
use Rattle.framehop_processes.specs.declared.files.Files.{Files}
use Rattle.framehop_dump_stacks.proofs.DumpLemmas.{code-left}
use Rattle.framehop_dumps.specs.Added.{AreReadSince}
use Rattle.framehop_dumps.specs.Dump.{MappedCodeView, mapped_code_view}
use Rattle.framehop_dump_stacks.proofs.modules.read_files_asked_for.Goals as goal
use Rattle.framehop_dump_stacks.proofs.modules.read_files_asked_for.Goals.{then-is_to_be_read+in_ok-read_left_out, else-is_to_be_read}

-- what is wanted of the file of mapped code
abbrev wanted : MappedCodeView → List ℕ × List ℕ
wanted code = (code.path, code.build_id)

pub loop-code-init : goal.loop-code-init
loop-code-init g c = (λ last read. read, λ none. refl)

pub loop-code-preserved : goal.loop-code-preserved
loop-code-preserved g c =
    let l = c.loop-code in
    let read = AreReadSince (g.S.FileSource.source c.args.source.now) c.args.all in
    let items = c.deref-code-items.result.now in
    let within : l.code-index < length items = omega arith in
    let left = code-left items c.args.dump.now.code.items c.deref-code-items.ensures.value l.code-index _ within in
    let later = map wanted (map mapped_code_view (drop (l.code-index + 1) c.args.dump.now.code.items)) in
    elim c.if-is_to_be_read.branch [
      | then-is_to_be_read+in_ok-read_left_out w ↦
          let out = c.is_to_be_read.ensures.left_out w.if-is_to_be_read.true in (
            λ last rest. l.invariant.0 last
                (subst (λ (code : List MappedCodeView). read (map wanted code) l.files last) (sym left)
                (w.read_left_out.new.self, inr (out, w.in_ok-read_left_out.ensures.read out), subst (λ (files : Files). read later files last) w.files-is rest)),
            λ none. let never : true ≡ false = sym w.is_any_read-is ∙ none in cc,
          )
      | else-is_to_be_read w ↦ (
        λ last rest. l.invariant.0 last
            (subst (λ (code : List MappedCodeView). read (map wanted code) l.files last) (sym left)
            (l.files, inl (refl, c.is_to_be_read.ensures.all w.if-is_to_be_read.false), subst (λ (files : Files). read later files last) w.files-is rest)),
        λ none. w.files-is ∙ l.invariant.1 (sym w.is_any_read-is ∙ none),
      )
    ]

pub returns-clause-read : goal.returns-clause-read
returns-clause-read g c =
    let l = c.loop-code in
    let read = AreReadSince (g.S.FileSource.source c.args.source.now) c.args.all in
    let code = c.args.dump.now.code.items in
    let none : map mapped_code_view (drop l.code-index code) ≡ [] = at_drop_all (map mapped_code_view) code l.code-index (omega arith) in
    l.invariant.0 l.files (subst (λ (code : List MappedCodeView). read (map wanted code) l.files l.files) (sym none) refl)
