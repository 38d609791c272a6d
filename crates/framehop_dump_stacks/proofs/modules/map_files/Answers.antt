use Rattle.std.proofs.Common.{◌≡◌, [], map, drop, ap, sym, ◌∙◌, arith}
use Rattle.std.proofs.lemmas.List.{at_drop_all}
use Rattle.framehop_dumps.specs.Dump.{mapped_code_view}
use Rattle.framehop_dump_stacks.specs.Modules.{mappings_over}
use Rattle.framehop_dump_stacks.proofs.modules.map_files.Goals as goal

pub returns-clause-mapped : goal.returns-clause-mapped
returns-clause-mapped g c =
    let l = c.loop-code in
    let code = c.args.dump.now.code.items in
    let none : map mapped_code_view (drop l.code-index code) ≡ [] = at_drop_all (map mapped_code_view) code l.code-index (omega arith) in
    ap (λ left. mappings_over c.args.files.now left l.process.mappings) (sym none) ∙ l.invariant.1
