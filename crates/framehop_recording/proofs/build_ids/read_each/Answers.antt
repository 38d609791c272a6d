use Rattle.std.proofs.Common.{◌≡◌, ℕ, ◌+◌, ◌<◌, ◌++◌, ◌∷◌, [], List, map, drop, length, suc, inr, ap, ◌∙◌, get_or, arith, rules}
use Rattle.std.proofs.Math.Seq.{drop-cons, drop-length}
use Rattle.std.proofs.lemmas.Result.{err_from_is_err_and}
use Rattle.framehop_recording.specs.Bytes.{each_of}
use Rattle.framehop_recording.specs.Records.{record_view}
use Rattle.framehop_recording.specs.BuildIds.{file_build_id_at, file_build_id_view}
use Rattle.framehop_recording.specs.declared.records.Record.{Record}
use Rattle.framehop_recording.proofs.EachLemmas.{each-pushed, each-refused, each-whole}
use Rattle.framehop_recording.proofs.build_ids.read_each.Goals as goal

next-is : (records : List Record) (i : ℕ) (default : Record) → i < length records → map record_view (drop i records) ≡ record_view (get_or records i default) ∷ map record_view (drop (i + 1) records)
next-is records i default below =
    ap (map record_view) (drop-cons records i default below)
    ∙ ap (λ j. record_view (get_or records i default) ∷ map record_view (drop j records)) (let more : suc i ≡ i + 1 = omega arith in more)

pub loop-index-preserved : goal.loop-index-preserved
loop-index-preserved c =
    let l = c.loop-index in
    let records = c.args.records.now in
    let below : l.index < length records = search rules in
    let pushed : c.push.new.self.items ≡ l.build_ids.items ++ c.in_ok-build_id.build_id ∷ [] = search rules in
    each-pushed file_build_id_at file_build_id_view (each_of file_build_id_at (map record_view records))
    l.build_ids.items c.push.new.self.items c.in_ok-build_id.build_id _ (map record_view (drop l.index records)) (map record_view (drop (l.index + 1) records))
    l.invariant (next-is records l.index _ below) c.in_ok-build_id.ensures.exact pushed

pub returns-in_err-build_id : goal.returns-in_err-build_id
returns-in_err-build_id c =
    let l = c.loop-index in
    let records = c.args.records.now in
    let below : l.index < length records = search rules in
    let p = err_from_is_err_and c.from_residual.result c.from_residual.ensures.1 in
    rw (p.1, p.2) (record {
      exact = inr (each-refused file_build_id_at (each_of file_build_id_at (map record_view records))
          (map file_build_id_view l.build_ids.items) _ (map record_view (drop l.index records)) (map record_view (drop (l.index + 1) records)) c.in_err-build_id.field-0.0
          l.invariant (next-is records l.index _ below) c.in_err-build_id.ensures.exact);
    })

pub returns : goal.returns
returns c =
    let l = c.loop-index in
    let records = c.args.records.now in
    let over : l.index ≡ length records = omega arith in
    record {
      exact = each-whole file_build_id_at (each_of file_build_id_at (map record_view records))
          (map file_build_id_view l.build_ids.items) (map record_view (drop l.index records)) l.invariant
          (ap (map record_view) (ap (λ i. drop i records) over ∙ drop-length records));
    }
