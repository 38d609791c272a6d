use Rattle.std.proofs.Common.{string_bytes}
use Rattle.framehop_explain_cli.proofs.SessionLemmas.{based}
use Rattle.framehop_explain_cli.proofs.notes.with_base.Goals as goal

pub returns : goal.returns
returns c =
    let formatted = rw (c.in_radix.ensures, c.in_radix-2.ensures) at c.in_ok-text.ensures.ok in
    based c.args.«module».now c.avma_range-start.result.start c.base_avma-base.result c.args.note c.in_ok-more.more c.as_str.result.now (string_bytes c.in_ok-text.text)
    c.avma_range-start.ensures.start c.base_avma-base.ensures c.if-base-start.false c.in_ok-more.ensures c.as_str.ensures.value formatted
