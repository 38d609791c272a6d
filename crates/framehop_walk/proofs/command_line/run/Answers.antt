use Rattle.std.proofs.Common.{Some, None, Ok, Err, refl, subst, option_map, string_bytes}
use Rattle.framehop_walk.specs.Refusals.{refusal_text, of_kind}
use Rattle.std.specs.IoError.{error_kind}
use Rattle.framehop_walk.specs.Streams.{input_over, outputs}
use Rattle.framehop_walk.specs.Runs.{IsRun, IsRunOver}
use Rattle.framehop_walk.specs.declared.refusal.Refusal.{Refusal}
use Rattle.framehop_walk.specs.Streams.{InputView}
use Rattle.framehop_walk.proofs.Writes.{Keeps-same}
use Rattle.framehop_walk.proofs.CommandLines.{usage-run, opened-run}
use Rattle.framehop_walk.proofs.command_line.run.Goals as goal

pub returns-in-Err : goal.returns-in-Err
returns-in-Err g c = record {
  run = usage-run _ _ c.refuse.result (outputs c.args.out.now c.args.err.now) (outputs c.args.out.now c.refuse.new.err)
      (refusal_text c.in-Err.refusal) c.in-Err.refusal c.in-Err.ensures.path c.in-Err.ensures.usage c.refuse.ensures.status
      (record { told = c.refuse.ensures.told; unwritten = λ none. Keeps-same c.args.out.now.bytes });
}

pub returns-in-Ok-opener : goal.returns-in-Ok-opener
returns-in-Ok-opener g c =
    let P : InputView → Type 0 = λ input. IsRun c.walk_program-status.result input c.walk_program-status.new.input
    (outputs c.args.out.now c.args.err.now) (outputs c.walk_program-status.new.out c.walk_program-status.new.err) in
    record {
      run = opened-run _ _ c.walk_program-status.result (outputs c.args.out.now c.args.err.now)
          (outputs c.walk_program-status.new.out c.walk_program-status.new.err)
          (option_map (λ path. string_bytes path) c.in-Ok.path) (Ok (input_over (g.R.Read.remaining c.in-Ok-opener.reader)))
          (Some c.walk_program-status.new.input) c.in-Ok.ensures.path
          (c.as_deref.result, Ok c.in-Ok-opener.reader, c.as_deref.ensures.value, c.in-Ok-opener.ensures, refl)
          (rw c.new-input.ensures at c.walk_program-status.ensures.run);
    }

pub returns : goal.returns
returns g c =
    let P : Refusal → Type 0 = λ r. IsRunOver (Err r) c.refuse-in-Err-opener.result None (outputs c.args.out.now c.args.err.now) (outputs c.args.out.now c.refuse-in-Err-opener.new.err) in
    record {
      run = opened-run _ _ c.refuse-in-Err-opener.result (outputs c.args.out.now c.args.err.now)
          (outputs c.args.out.now c.refuse-in-Err-opener.new.err)
          (option_map (λ path. string_bytes path) c.in-Ok.path) (Err (of_kind (error_kind c.in-Err-opener.error)))
          None c.in-Ok.ensures.path
          (c.as_deref.result, Err c.in-Err-opener.error, c.as_deref.ensures.value, c.in-Err-opener.ensures, refl)
          (subst P c.from.ensures (refl, c.refuse-in-Err-opener.ensures.status, record { told = c.refuse-in-Err-opener.ensures.told; unwritten = λ none. Keeps-same c.args.out.now.bytes }));
    }
