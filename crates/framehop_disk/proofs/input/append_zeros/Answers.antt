use Rattle.std.proofs.Common.{◌≡◌, ◌/◌, ◌∙◌, arith}
use Rattle.framehop_disk.proofs.InputLemmas.{blocks-more, blocks-last}
use Rattle.framehop_disk.proofs.input.append_zeros.Goals as goal

pub loop-block-preserved : goal.loop-block-preserved
loop-block-preserved c =
    c.in_ok-extend_from_slice.ensures.items
    ∙ blocks-more c.args.bytes.now.items c.loop-block.bytes.items c.loop-block._block c.loop-block.invariant

pub returns : goal.returns
returns c =
    let whole : c.loop-block._block ≡ c.args.count / 4096 = omega arith in
    c.in_ok-extend_from_slice-2.ensures.items
    ∙ blocks-last c.args.bytes.now.items c.loop-block.bytes.items c.loop-block._block c.args.count whole c.loop-block.invariant
