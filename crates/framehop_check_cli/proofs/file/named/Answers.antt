use Rattle.std.proofs.Common.{rules, ◌≡◌, true, false}
use Rattle.std.specs.Str.{is_utf8}
use Rattle.std.proofs.lemmas.Bool.{false_from_ne_true}
use Rattle.std.proofs.lemmas.Str.{IsUtf8-from_is_utf8, is_utf8-from_IsUtf8}
use Rattle.framehop_check_cli.proofs.file.named.Goals as goal

pub returns-in-Ok : goal.returns-in-Ok
returns-in-Ok c =
    let valid : is_utf8 c.name_in.result.now ≡ true = is_utf8-from_IsUtf8 c.name_in.result.now c.in-Ok.ensures.cases.1 in
    search (rules, valid)

pub returns-in-Err : goal.returns-in-Err
returns-in-Err c =
    let invalid : is_utf8 c.name_in.result.now ≡ false =
    false_from_ne_true (is_utf8 c.name_in.result.now) (λ valid. c.in-Err.ensures.cases.0 (IsUtf8-from_is_utf8 c.name_in.result.now valid)) in
    search (rules, invalid)
