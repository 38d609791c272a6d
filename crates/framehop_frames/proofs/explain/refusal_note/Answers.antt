use Rattle.framehop_frames.proofs.explain.refusal_note.Goals as goal

pub returns : goal.returns
returns c = rw (c.new.ensures, c.as_str.ensures.value, c.in_ok-line.ensures.ok) at c.with_line.ensures
