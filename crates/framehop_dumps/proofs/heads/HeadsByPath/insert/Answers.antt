use Rattle.std.proofs.Common.{Some, ap, ◌∙◌}
use Rattle.std.specs.Cmp.Lexicographic.{pointwise}
use Rattle.std.specs.Prelude.{nat_eq, option_map}
use Rattle.std.proofs.lemmas.Map.Text.{btree_map_updates_str}
use Rattle.framehop_dumps.specs.Heads.{file_head_view}
use Rattle.framehop_dumps.proofs.HeadLemmas.{map-cond}
use Rattle.framehop_dumps.proofs.heads.HeadsByPath.insert.Goals as goal

pub returns : goal.returns
returns c = λ other.
    ap (option_map file_head_view) (btree_map_updates_str c.args.path.now c.args.self.now.by_path c.insert.new.self (Some c.args.file) c.in_ok-insert.ensures.updates other)
    ∙ map-cond file_head_view (pointwise nat_eq c.args.path.now other) c.args.file _
