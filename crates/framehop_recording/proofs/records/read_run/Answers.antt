use Rattle.std.proofs.Common.{◌≡◌, ◌+◌, ◌<◌, [], ◌∷◌, ◌++◌, Option, length, map, refl, ap, sym, ◌∙◌, arith, rules}
use Rattle.std.proofs.lemmas.List.{length-drop, map-append}
use Rattle.framehop_recording.specs.declared.error.RecordingError.{RecordingError}
use Rattle.framehop_recording.specs.Records.{Run, record_view, run_in}
use Rattle.framehop_recording.proofs.RunLemmas.{joined, joined-more, joined-refused, joined-end}
use Rattle.framehop_recording.proofs.records.read_run.Goals as goal

pub loop-rest-preserved : goal.loop-rest-preserved
loop-rest-preserved c =
    let l = c.loop-rest in
    let rest = c.back-rest.result.now in
    let end = l.offset + c.in-Ok.size in
    let pushed : c.push.new.self.items ≡ l.records.items ++ c.in-Ok.record ∷ [] = search rules in
    let viewed = ap (map record_view) pushed ∙ map-append record_view l.records.items (c.in-Ok.record ∷ []) in
    let shorter = ap length c.back-rest.ensures ∙ length-drop c.in-Ok.size l.rest.now in
    let more = joined-more c.args.is_cut l.offset end l.rest.now rest (map record_view l.records.items)
    (record_view c.in-Ok.record) c.in-Ok.size c.in-Ok.ensures.exact c.in-Ok.ensures.within refl
    c.back-rest.ensures in (
      (let within = c.in-Ok.ensures.within in let so_far = l.invariant.0 in omega (arith, shorter, within.1, so_far)),
      l.invariant.1 ∙ more ∙ ap (λ before. joined before (run_in c.args.is_cut 0 end rest)) (sym viewed),
    )

pub returns-in-Err-clause-exact : goal.returns-in-Err-clause-exact
returns-in-Err-clause-exact c =
    let l = c.loop-rest in
    let some : 0 < length l.rest.now = search rules in
    sym (l.invariant.1 ∙ joined-refused c.args.is_cut l.offset l.rest.now (map record_view l.records.items) c.in-Err.error c.in-Err.ensures.exact some)

pub returns-clause-exact : goal.returns-clause-exact
returns-clause-exact c =
    let l = c.loop-rest in
    let none : length l.rest.now ≡ 0 = search rules in
    let run : Option RecordingError → Run = λ refusal. record { records = map record_view l.records.items; refusal = refusal } in
    ap run c.refusal_at_end-refusal.ensures
    ∙ sym (l.invariant.1 ∙ joined-end c.args.is_cut l.offset l.rest.now (map record_view l.records.items) none)
