use Rattle.std.proofs.Common.{string_bytes}
use Rattle.framehop_explain_cli.proofs.SessionLemmas.{lined}
use Rattle.framehop_explain_cli.proofs.notes.module_line.Goals as goal

pub returns : goal.returns
returns c = (
  string_bytes c.in_ok-unwind_data.unwind_data,
  c.in_ok-unwind_data.ensures,
  lined c.args.«module».now c.in_ok-note.note c.new.result c.as_str-2.result.now (string_bytes c.in_ok-line.line) c.module_name-name.result.now c.as_str.result.now (string_bytes c.in_ok-unwind_data.unwind_data)
      c.in_ok-note.ensures c.new.ensures c.as_str-2.ensures.value c.in_ok-line.ensures.ok c.as_str.ensures.value c.module_name-name.ensures,
)
