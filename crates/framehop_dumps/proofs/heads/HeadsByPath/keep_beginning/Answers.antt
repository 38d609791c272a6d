use Rattle.std.proofs.Common.{◌≡◌, ◌∙◌, false, true, ap, sym, arith}
use Rattle.std.specs.Prelude.{nat_eq}
use Rattle.std.proofs.lemmas.Bool.Decides.{nat_tests}
use Rattle.framehop_dump_files.specs.Coredump.MappedFile.{mapped_file_view}
use Rattle.framehop_memory.specs.Memory.{memory_view}
use Rattle.framehop_dumps.specs.Heads.{file_head_of}
use Rattle.framehop_dumps.proofs.HeadLemmas.{passed-over, kept-before, kept-now}
use Rattle.framehop_dumps.proofs.heads.HeadsByPath.keep_beginning.Goals as goal

pub returns-then-mapped-ne0 : goal.returns-then-mapped-ne0
returns-then-mapped-ne0 c = λ path.
    let m = mapped_file_view c.args.mapped.now in
    let offset = c.if-mapped-ne0.true in
    let no : nat_eq m.offset 0 ≡ false = grind (arith, nat_tests) in
    passed-over c.args.self.now.by_path (memory_view c.args.memory.now) m path no

pub returns-then-contains_key : goal.returns-then-contains_key
returns-then-contains_key c = λ path.
    kept-before c.args.self.now.by_path (memory_view c.args.memory.now) (mapped_file_view c.args.mapped.now) path
    (sym c.contains_key.ensures ∙ c.if-contains_key.true)

pub returns : goal.returns
returns c = λ path.
    let m = mapped_file_view c.args.mapped.now in
    let offset = c.if-mapped-ne0.false in
    let first : nat_eq m.offset 0 ≡ true = grind (arith, nat_tests) in
    kept-now c.args.self.now.by_path (memory_view c.args.memory.now) m path _ _ first
    (sym c.contains_key.ensures ∙ c.if-contains_key.false) (c.in_ok-file.ensures ∙ ap file_head_of c.head_at.ensures) (c.in_ok-insert.ensures path)
