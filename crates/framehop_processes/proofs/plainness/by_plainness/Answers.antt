use Rattle.std.proofs.Common.{◌≡◌, ◌<◌, ◌==◌, ℕ, length, arith, ap, sym, ◌∙◌}
use Rattle.framehop_processes.specs.ObjectFiles.{is_so_plain}
use Rattle.framehop_processes.proofs.PlainnessLemmas.{passes, fails}
use Rattle.framehop_processes.proofs.plainness.by_plainness.Goals as goal
use Rattle.framehop_processes.proofs.plainness.by_plainness.Goals.{in-0+in_ok-push-in-0, in-1+in_ok-push-in-1, in_default+in_ok-push-in_default}

pub loop-function-preserved : goal.loop-function-preserved
loop-function-preserved c =
    let l = c.loop-function in
    let names = c.args.names.now in
    let items = c.args.functions.now in
    let i = l.function-index in
    let within : i < length items = omega arith in
    elim c.match-plainness_in.branch [
      | in-0+in_ok-push-in-0 w ↦
          let plain = sym c.plainness_in.ensures.exact ∙ w.in-0.is in (
            passes (is_so_plain names 0) items i _ within l.ordered.items _ l.invariant.0 (ap (λ (k : ℕ). k == 0) plain) (ap (λ v. v.items) w.ordered-is ∙ w.in_ok-push-in-0.ensures.items),
            fails (is_so_plain names 1) items i _ within l.underscored.items _ l.invariant.1 (ap (λ (k : ℕ). k == 1) plain) (ap (λ v. v.items) w.underscored-is),
            fails (is_so_plain names 2) items i _ within l.plainest.items _ l.invariant.2 (ap (λ (k : ℕ). k == 2) plain) (ap (λ v. v.items) w.plainest-is),
          )
      | in-1+in_ok-push-in-1 w ↦
          let plain = sym c.plainness_in.ensures.exact ∙ w.in-1.is in (
            fails (is_so_plain names 0) items i _ within l.ordered.items _ l.invariant.0 (ap (λ (k : ℕ). k == 0) plain) (ap (λ v. v.items) w.ordered-is),
            passes (is_so_plain names 1) items i _ within l.underscored.items _ l.invariant.1 (ap (λ (k : ℕ). k == 1) plain) (ap (λ v. v.items) w.underscored-is ∙ w.in_ok-push-in-1.ensures.items),
            fails (is_so_plain names 2) items i _ within l.plainest.items _ l.invariant.2 (ap (λ (k : ℕ). k == 2) plain) (ap (λ v. v.items) w.plainest-is),
          )
      | in_default+in_ok-push-in_default w ↦
          let two : c.plainness_in.result ≡ 2 = omega arith in
          let plain = sym c.plainness_in.ensures.exact ∙ two in (
            fails (is_so_plain names 0) items i _ within l.ordered.items _ l.invariant.0 (ap (λ (k : ℕ). k == 0) plain) (ap (λ v. v.items) w.ordered-is),
            fails (is_so_plain names 1) items i _ within l.underscored.items _ l.invariant.1 (ap (λ (k : ℕ). k == 1) plain) (ap (λ v. v.items) w.underscored-is),
            passes (is_so_plain names 2) items i _ within l.plainest.items _ l.invariant.2 (ap (λ (k : ℕ). k == 2) plain) (ap (λ v. v.items) w.plainest-is ∙ w.in_ok-push-in_default.ensures.items),
          )
    ]
