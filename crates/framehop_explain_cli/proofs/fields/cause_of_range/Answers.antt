use Rattle.std.proofs.Common.{◌∙◌, ap}
use Rattle.framehop_walk.proofs.Tables.{two_addresses-none}
use Rattle.framehop_explain_cli.specs.Faults.{unless}
use Rattle.framehop_explain_cli.specs.declared.fault.Cause.TheVariants.{NoRange}
use Rattle.framehop_explain_cli.proofs.fields.cause_of_range.Goals as goal

pub returns-then-len-ne2 : goal.returns-then-len-ne2
returns-then-len-ne2 c =
    ap (unless NoRange) (two_addresses-none c.args.items.now.items (λ two. c.if-len-ne2.true (c.len.ensures ∙ (c.args.items.now.ok.0 ∙ two))))
