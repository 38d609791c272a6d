use Rattle.std.proofs.lemmas.Map.Text.{btree_map_updates_str}
use Rattle.std.proofs.Common.{Some}
use Rattle.framehop_dump_stacks.proofs.frame_headers.FrameHeaders.insert.Goals as goal

pub returns : goal.returns
returns c = λ other.
    btree_map_updates_str c.args.path.now c.args.self.now.by_path c.insert.new.self (Some c.args.header) c.in_ok-insert.ensures.updates other
