use Rattle.std.proofs.Common.{false, ap, ◌∙◌, arith}
use Rattle.std.proofs.lemmas.List.{drop_all}
use Rattle.std.specs.Fmt.{digits_onto}
use Rattle.framehop_walk.proofs.Digits.{digits-none}
use Rattle.framehop_walk.proofs.printing.write_digits.Goals as goal

pub loop-start-init : goal.loop-start-init
loop-start-init c = record {
  within = omega arith;
  room = c.told-text;
  written = ap (digits_onto 64 16 false c.args.number) (drop_all 64 c.args.text.now (omega (arith, c.told-text))) ∙ digits-none c.args.number;
}
