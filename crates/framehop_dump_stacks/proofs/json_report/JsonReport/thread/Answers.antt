use Rattle.std.proofs.Common.{◌∙◌, ap, rules}
use Rattle.serde_json.specs.Written.{compact_text, has_float}
use Rattle.framehop_dumps.specs.Dump.{thread_view}
use Rattle.framehop_frames.specs.Stack.{option_stack_view}
use Rattle.framehop_dump_stacks.proofs.JsonFloats.{thread-none}
use Rattle.framehop_dump_stacks.proofs.json_report.JsonReport.thread.Goals as goal
use Rattle.framehop_dump_stacks.proofs.json_report.JsonReport.thread.Goals.{then-is_later+in_ok-push, else-is_later}

pub returns : goal.returns
returns g c =
    let no_float = ap has_float c.in_ok-value.ensures
    ∙ thread-none c.args.files.now c.args.mappings.now (thread_view c.args.thread) (option_stack_view c.args.stack.now) in
    let text = c.as_bytes.ensures.value ∙ c.in_ok-to_string.ensures.text no_float ∙ ap compact_text c.in_ok-value.ensures in
    elim c.if-is_later.branch [
      | then-is_later+in_ok-push w ↦ search (rules, text, w.text-is)
      | else-is_later w ↦ search (rules, text, w.text-is)
    ]
