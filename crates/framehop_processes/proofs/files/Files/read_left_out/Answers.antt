use Rattle.std.proofs.Common.{refl}
use Rattle.framehop_processes.proofs.files.Files.read_left_out.Goals as goal

pub returns-clause-read : goal.returns-clause-read
returns-clause-read g c = λ _.
    let some = c.left_out_number.ensures.some c.in-Some.number c.in-Some.is in
    record {
      number = c.in-Some.number;
      numbered = some.0;
      file = (c.in_ok-self.field-0, refl, c.in_ok-self.ensures);
      numbers = refl;
      maps = refl;
    }
