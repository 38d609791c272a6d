use Rattle.framehop_walk.proofs.Readings.{json-told, refused-told}
use Rattle.framehop_walk.proofs.program.read_value.Goals as goal

pub returns-clause-reading : goal.returns-clause-reading
returns-clause-reading g c =
    json-told c.args.input.now.remaining c.in_ok-bytes.bytes.items c.parse.result c.in_ok-bytes.ensures.bytes (rw c.as_slice.ensures.value at c.parse.ensures.reading)

pub returns-clause-refused : goal.returns-clause-refused
returns-clause-refused g c =
    refused-told c.args.input.now.remaining c.in_ok-bytes.bytes.items c.read_all.new.self.has_failed c.parse.result c.in_ok-bytes.ensures.bytes (rw c.as_slice.ensures.value at c.parse.ensures.refused)
