use Rattle.std.proofs.Common.{◌≡◌, ◌<◌, ℕ, List, [], map, drop, length, refl, sym, subst, arith}
use Rattle.std.proofs.lemmas.List.{at_drop_all}
use Rattle.framehop_dump_stacks.proofs.DumpLemmas.{code-left}
use Rattle.framehop_dumps.specs.Added.{AreAddedLeftOut}
use Rattle.framehop_dumps.specs.Dump.{MappedCodeView, mapped_code_view}
use Rattle.framehop_dump_stacks.proofs.modules.leave_out_files.Goals as goal

abbrev named : MappedCodeView → List ℕ
named code = code.path

pub loop-code-init : goal.loop-code-init
loop-code-init c = (c.in_ok-files.files, c.in_ok-files.ensures, λ last added. added)

pub loop-code-preserved : goal.loop-code-preserved
loop-code-preserved c =
    let l = c.loop-code in
    let items = c.deref-code-items.result.now in
    let within : l.code-index < length items = omega arith in
    let left = code-left items c.args.dump.now.code.items c.deref-code-items.ensures.value l.code-index _ within in (
      l.invariant.0,
      l.invariant.1,
      λ last rest. l.invariant.2 last
          (subst (λ (code : List MappedCodeView). AreAddedLeftOut (map named code) l.files last) (sym left) (c.leave_out.new.self, c.in_ok-leave_out.ensures.either, rest)),
    )

pub returns : goal.returns
returns c =
    let l = c.loop-code in
    let code = c.args.dump.now.code.items in
    let none : map mapped_code_view (drop l.code-index code) ≡ [] = at_drop_all (map mapped_code_view) code l.code-index (omega arith) in (
      l.invariant.0,
      l.invariant.1,
      l.invariant.2 l.files (subst (λ (code : List MappedCodeView). AreAddedLeftOut (map named code) l.files l.files) (sym none) refl),
    )
