use Rattle.std.proofs.Common.{◌≡◌, ◌∙◌, sym, arith}
use Rattle.std.specs.Str.{bytes_eq}
use Rattle.framehop_folded.proofs.StackLemmas.{common-past}
use Rattle.framehop_folded.proofs.flame_graph.stacks.shared_frames.Goals as goal

pub returns : goal.returns
returns c =
    let ended : c.min-most.result ≡ c.loop-at.at = omega arith in
    ended ∙ sym (c.loop-at.invariant ∙ common-past (λ x y. bytes_eq x.now y.now) c.args.before.now c.args.frames.now c.loop-at.at (omega arith))
