use Rattle.std.proofs.lemmas.Result.{IfOk-weaker}
use Rattle.framehop_perf_stacks.proofs.program.write_recording_stacks.Goals as goal

pub returns-clause-made : goal.returns-clause-made
returns-clause-made g c = IfOk-weaker c.unwind_recording.result _ _
    (λ unwound made. (c.in_ok-files.files, c.in_ok-files.ensures.read, (c.write_problems.new.err.bytes, c.in_ok-write_problems.ensures.written, made)))
    c.unwind_recording.ensures.made
