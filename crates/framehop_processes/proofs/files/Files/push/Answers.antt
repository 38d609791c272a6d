use Rattle.std.proofs.Common.{rules, ◌∙◌}
use Rattle.framehop_processes.proofs.MapLemmas.{lookup-insert_other}
use Rattle.framehop_processes.proofs.files.Files.push.Goals as goal

pub returns-clause-added : goal.returns-clause-added
returns-clause-added c = record {
  list = search rules;
  number = search rules;
  others = λ other ne.
      let a = lookup-insert_other other c.in_ok-key.key c.in-Ok.number (λ same. ne (same ∙ c.in_ok-key.ensures.items ∙ c.as_slice.ensures.value)) c.args.self.now.numbers.entries in
      search (rules, a);
  maps = search rules;
}
