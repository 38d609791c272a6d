use Rattle.std.proofs.Common.{◌∙◌}
use Rattle.framehop_walk.proofs.Tables.{two_addresses-none}
use Rattle.framehop_walk.proofs.sections.two_addresses.Goals as goal

pub returns-then-len-ne2 : goal.returns-then-len-ne2
returns-then-len-ne2 c =
    two_addresses-none c.args.items.now.items (λ two. c.if-len-ne2.true (c.len.ensures ∙ (c.args.items.now.ok.0 ∙ two)))
