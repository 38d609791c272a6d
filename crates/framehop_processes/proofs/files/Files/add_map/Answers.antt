use Rattle.std.proofs.Common.{rules, ◌≡◌, Some, None, length, inr, refl, ap, ◌∙◌}
use Rattle.framehop_processes.specs.Files.{map_number_in}
use Rattle.framehop_processes.proofs.CodeMapLemmas.{key-other}
use Rattle.framehop_processes.proofs.MapLemmas.{none-found}
use Rattle.framehop_processes.proofs.files.Files.add_map.Goals as goal

pub returns-clause-added : goal.returns-clause-added
returns-clause-added c =
    let none : map_number_in c.args.self.now c.args.pid ≡ None =
    none-found c.get.result (map_number_in c.args.self.now c.args.pid) c.is_some.result c.get.ensures.value c.is_some.ensures c.if-is_some.false in
    let number : c.in-Ok.number ≡ length c.args.self.now.list.items = search rules in
    inr (
      none,
      record {
        file = (
          record { name = c.args.name; object = None; code_map = Some c.args.code_map; problem = None; left_out = None },
          c.in_ok-push.ensures.items,
          record { called = refl; told = refl; no_object = refl; no_problem = refl },
        );
        number = c.in_ok-insert.ensures.updates.1 ∙ ap Some number;
        others = λ other ne. c.in_ok-insert.ensures.updates.2 other (key-other c.args.pid other ne);
        numbers = refl;
      },
    )
