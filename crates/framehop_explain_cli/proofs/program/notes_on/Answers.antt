use Rattle.std.proofs.lemmas.Bool.Decides.{when_true, when_false}
use Rattle.serde_json.specs.View.{view}
use Rattle.framehop_explain_cli.proofs.SessionLemmas.{on-aarch64-ok, on-other-ok}
use Rattle.framehop_explain_cli.proofs.program.notes_on.Goals as goal

pub returns-then-is_word : goal.returns-then-is_word
returns-then-is_word c =
    on-aarch64-ok (view c.args.value.now) c.notes_under.result (when_true _ _ c.if-is_word.true c.is_word.ensures) c.notes_under.ensures

pub returns : goal.returns
returns c =
    on-other-ok (view c.args.value.now) c.notes_under-2.result (when_false _ _ c.if-is_word.false c.is_word.ensures) c.notes_under-2.ensures
