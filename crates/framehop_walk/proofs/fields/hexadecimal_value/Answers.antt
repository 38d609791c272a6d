use Rattle.std.proofs.Common.{◌∙◌, ap}
use Rattle.std.specs.Prelude.{option_and_then}
use Rattle.framehop_walk.specs.Fields.{address, hexadecimal}
use Rattle.framehop_walk.proofs.Hexadecimal.{hexadecimal-is}
use Rattle.framehop_walk.proofs.fields.hexadecimal_value.Goals as goal

pub returns-in-Some : goal.returns-in-Some
unfolding address
returns-in-Some c =
    hexadecimal-is c.in-Some.text.now c.parse_hexadecimal.result c.parse_hexadecimal.ensures
    ∙ ap (option_and_then hexadecimal) c.in-Some.ensures
