use Rattle.std.proofs.KnownBytes.{Appends-trans}
use Rattle.framehop_perf_stacks.proofs.program.write_ends.Goals as goal

-- what the five writes append, one after another
pub returns-clause-written : goal.returns-clause-written
returns-clause-written g c =
    Appends-trans _ _ _ _ _
    (Appends-trans _ _ _ _ _
    (Appends-trans _ _ _ _ _
    (Appends-trans _ _ _ _ _ c.in_ok-write_samples.ensures.written c.in_ok-write_unsure.ensures.written)
    c.in_ok-write_guessed.ensures.written)
    c.in_ok-writeln.ensures.bytes)
    c.in_ok-write.ensures.written
