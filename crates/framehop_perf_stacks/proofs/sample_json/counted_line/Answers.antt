use Rattle.std.proofs.Common.{rules, ◌≡◌, ap, ◌∙◌}
use Rattle.framehop_perf_stacks.specs.Json.{counted_line}
use Rattle.framehop_perf_stacks.proofs.JsonLemmas.{line-is}
use Rattle.framehop_perf_stacks.proofs.sample_json.counted_line.Goals as goal

pub returns-clause-json : goal.returns-clause-json
returns-clause-json c = λ members is.
    let line : c.push.new.self.items ≡ counted_line c.args.count c.args.text.now = search rules in
    line ∙ ap (counted_line c.args.count) is ∙ line-is c.args.count members
