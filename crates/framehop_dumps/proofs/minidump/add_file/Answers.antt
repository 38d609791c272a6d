use Rattle.framehop_dumps.proofs.minidump.add_file.Goals as goal

pub returns : goal.returns
returns g c = rw (c.as_slice-build_id.ensures.value, c.as_slice.ensures.value) at c.in_ok-add.ensures.either
