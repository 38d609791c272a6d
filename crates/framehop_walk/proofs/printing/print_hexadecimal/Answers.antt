use Rattle.std.proofs.Common.{◌≡◌, ◌-◌, ◌≤◌, ◌∙◌, drop, take, length, length-drop, false, sym, subst, arith}
use Rattle.std.specs.Fmt.{digits}
use Rattle.std.specs.Str.{IsUtf8}
use Rattle.std.proofs.lemmas.List.{take_all}
use Rattle.framehop_walk.proofs.Digits.{digits-text, read-text}
use Rattle.framehop_walk.proofs.printing.print_hexadecimal.Goals as goal

pub unwrap-requires : goal.unwrap-requires
unwrap-requires c =
    let start = c.write_digits-start.result in
    let text = c.write_digits-start.new.text in
    let short : length (drop start text) ≤ 64 - start = omega (arith, length-drop start text, c.write_digits-start.array_long) in
    let whole : take (64 - start) (drop start text) ≡ digits 16 false c.args.number = take_all (64 - start) (drop start text) short ∙ c.write_digits-start.ensures.digits in
    let is_text = subst IsUtf8 (sym whole) (digits-text c.args.number (omega (arith, c.ranges.number.fits))) in
    read-text _ _ (IsUtf8 (take (64 - start) (drop start text))) c.from_utf8.result is_text c.from_utf8.ensures.cases
