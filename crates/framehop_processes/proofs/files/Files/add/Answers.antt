use Rattle.std.proofs.Common.{◌≡◌, None, inr}
use Rattle.framehop_processes.specs.Files.{number_in}
use Rattle.framehop_processes.proofs.MapLemmas.{none-found}
use Rattle.framehop_processes.proofs.files.Files.add.Goals as goal

pub returns-clause-added : goal.returns-clause-added
returns-clause-added g c = λ none. (c.in_ok-file.file, c.in_ok-file.ensures, c.in_ok-push.ensures.added)

pub returns-clause-either : goal.returns-clause-either
returns-clause-either g c =
    let none : number_in c.args.self.now c.args.name.now ≡ None =
    none-found c.get.result (number_in c.args.self.now c.args.name.now) c.is_some.result c.get.ensures.value c.is_some.ensures c.if-is_some.false in
    inr (none, returns-clause-added g c none)
