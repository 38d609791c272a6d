use Rattle.std.proofs.lemmas.Result.{IfOk-weaker}
use Rattle.framehop_perf_stacks.proofs.PrintedLemmas.{made-own}
use Rattle.framehop_perf_stacks.proofs.program.write_stacks.Goals as goal

pub returns-clause-made : goal.returns-clause-made
returns-clause-made g c = IfOk-weaker c.write_recording_stacks.result _ _
    (λ unwound made. (
      c.in_ok-read_recording.field-0,
      c.in_ok-read_recording.ensures.exact,
      (
        c.in_ok-recording.recording,
        c.in_ok-recording.ensures.chosen,
        (
          made.0,
          made.1,
          (
            made.2.0,
            made.2.1,
            made-own _ c.in_ok-recording.recording made.0 c.args.options unwound.folded c.args.out.now.bytes
                c.write_recording_stacks.new.out.bytes made.2.0 c.write_recording_stacks.new.err.bytes unwound.ended made.2.2,
          ),
        ),
      ),
    ))
    c.write_recording_stacks.ensures.made
