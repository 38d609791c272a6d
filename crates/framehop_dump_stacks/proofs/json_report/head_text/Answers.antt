use Rattle.std.proofs.Common.{◌≡◌, ◌∙◌, ◌++◌, ◌-◌, codes, ap, length, take, arith}
use Rattle.std.specs.Vec.{vec_len}
use Rattle.serde_json.specs.Data.{object, no_members}
use Rattle.serde_json.specs.Written.{compact_text, has_float}
use Rattle.framehop_dumps.specs.Dump.{dump_view}
use Rattle.framehop_dump_stacks.specs.JsonReport.{dump_members}
use Rattle.framehop_dump_stacks.proofs.JsonHeadLemmas.{without-brace}
use Rattle.framehop_dump_stacks.proofs.JsonFloats.{head-none}
use Rattle.framehop_dump_stacks.proofs.json_report.head_text.Goals as goal

pub returns : goal.returns
returns c =
    let dump = dump_view c.args.dump.now in
    let files = c.args.files.now in
    let mappings = c.args.mappings.now in
    let paths = c.args.paths.now in
    let members = dump_members paths dump files mappings no_members in
    let text = c.into_bytes-text.result.items in
    let no_float = ap has_float c.in_ok-value.ensures ∙ head-none paths dump files mappings in
    let whole : text ≡ compact_text (object members) =
    ap (λ v. v.items) c.into_bytes-text.ensures.value ∙ c.in_ok-to_string.ensures.text no_float ∙ ap compact_text c.in_ok-value.ensures in
    let size : vec_len c.into_bytes-text.result ≡ length text = omega arith in
    c.in_ok-extend_from_slice.ensures.items
    ∙ ap (λ front. front ++ codes ",\"threads\":[")
    (without-brace members text c.pop.new.self.items whole (c.pop.ensures.rest ∙ ap (λ n. take (n - 1) text) size))
