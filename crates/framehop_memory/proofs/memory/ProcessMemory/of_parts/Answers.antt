use Rattle.framehop_memory.proofs.PartLemmas.{bytes-same, after-same}
use Rattle.framehop_memory.proofs.memory.ProcessMemory.of_parts.Goals as goal

pub returns-clause-whole : goal.returns-clause-whole
returns-clause-whole c = λ file are address size after some.
    rw (c.in_ok-ranges-2.ensures.listed, c.in_ok-ranges.ensures)
    (bytes-same file c.args.bytes.now c.args.parts.now are address size after some)

pub returns-clause-rest : goal.returns-clause-rest
returns-clause-rest c = λ file are address after.
    rw (c.in_ok-ranges-2.ensures.listed, c.in_ok-ranges.ensures)
    (after-same file c.args.bytes.now c.args.parts.now are address after)
