use Rattle.framehop_dump_stacks.proofs.FirstMappingLemmas.{none-numbered}
use Rattle.framehop_dump_stacks.proofs.first_mappings.FirstMappings.of_file.Goals as goal

pub returns-in-None : goal.returns-in-None
returns-in-None c = rw c.in-None.is (none-numbered c.args.self.now.mappings.now)
