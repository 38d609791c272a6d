use Rattle.std.proofs.Common.{◌∷◌, [], ◌++◌, ap, ◌∙◌}
use Rattle.serde_json.specs.Written.{compact_text, has_float}
use Rattle.framehop_perf_stacks.proofs.JsonLemmas.{head-none}
use Rattle.framehop_perf_stacks.proofs.json_report.head_line.Goals as goal

pub returns : goal.returns
returns c =
    let no_float = ap has_float c.in_ok-value.ensures ∙ head-none c.args.is_aarch64 c.args.paths.now c.args.files.now in
    c.in_ok-push.ensures.items ∙ ap (λ text. text ++ 10 ∷ [])
    (ap (λ v. v.items) c.into_bytes-line.ensures.value ∙ c.in_ok-to_string.ensures.text no_float ∙ ap compact_text c.in_ok-value.ensures)
