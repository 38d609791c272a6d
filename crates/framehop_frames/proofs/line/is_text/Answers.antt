use Rattle.std.proofs.Common.{rules, ◌≡◌, true, false}
use Rattle.std.specs.Str.{is_utf8}
use Rattle.std.proofs.lemmas.Bool.{false_from_ne_true}
use Rattle.std.proofs.lemmas.Str.{IsUtf8-from_is_utf8, is_utf8-from_IsUtf8}
use Rattle.framehop_frames.specs.Line.{is_text}
use Rattle.framehop_frames.proofs.line.is_text.Goals as goal

pub returns-in-Ok : goal.returns-in-Ok
unfolding is_text
returns-in-Ok c =
    let valid : is_utf8 c.args.name.now ≡ true = is_utf8-from_IsUtf8 c.args.name.now c.in-Ok.ensures.cases.1 in
    search (rules, valid)

pub returns-in-Err : goal.returns-in-Err
unfolding is_text
returns-in-Err c =
    let invalid : is_utf8 c.args.name.now ≡ false =
    false_from_ne_true (is_utf8 c.args.name.now) (λ valid. c.in-Err.ensures.cases.0 (IsUtf8-from_is_utf8 c.args.name.now valid)) in
    search (rules, invalid)
