use Rattle.std.proofs.Common.{◌≡◌, ◌+◌, ◌<◌, ◌-◌, [], ◌∷◌, map, drop, length, Some, None, ap, sym, append-nil, ◌∙◌, arith}
use Rattle.std.proofs.lemmas.List.{map-append}
use Rattle.framehop_recording.specs.Attributes.{attribute_view}
use Rattle.framehop_recording.specs.Mapping.{mapping_view}
use Rattle.framehop_recording.specs.declared.mapping.Mapping.{Mapping}
use Rattle.framehop_perf_stacks.specs.Recording.{records_in}
use Rattle.framehop_perf_stacks.specs.Sampled.{sampled_mappings}
use Rattle.framehop_perf_stacks.proofs.SampledLemmas.{sampled-left, mappings-left, reverse-map}
use Rattle.framehop_perf_stacks.proofs.sampled.sampled_mappings.Goals as goal
use Rattle.framehop_perf_stacks.proofs.sampled.sampled_mappings.Goals.{in-Some+in_ok-push, in_default}

pub loop-left-preserved : goal.loop-left-preserved
loop-left-preserved c =
    let l = c.loop-left in
    let records = c.args.records.now in
    let attributes = map attribute_view c.args.events.now.attributes.items in
    let left = l.left - 1 in
    let test = c.loop-left-test.true in
    let bound = l.invariant.0 in
    let next : left + 1 ≡ l.left = omega (arith, test) in
    let within : left < length records = omega (arith, test, bound) in
    let before = map (λ mapping. mapping_view mapping) l.mappings.items in (
      omega (arith, bound),
      λ pid. c.in_ok-note.ensures.noted pid ∙ sampled-left attributes records left l.left _ within next _ l.invariant.1 pid,
      elim c.match-mapping_in.branch [
        | in-Some+in_ok-push w ↦ mappings-left attributes records left l.left _ within next _ l.invariant.1 before _ (Some (mapping_view w.in-Some.mapping)) w.in-Some.ensures
            (ap (λ list. map (λ mapping. mapping_view mapping) list.items) w.mappings-is ∙ ap (map (λ mapping. mapping_view mapping)) w.in_ok-push.ensures.items ∙ map-append (λ mapping. mapping_view mapping) l.mappings.items (w.in-Some.mapping ∷ []))
            l.invariant.2
        | in_default w ↦ mappings-left attributes records left l.left _ within next _ l.invariant.1 before _ None w.in_default.ensures
            (ap (λ list. map (λ mapping. mapping_view mapping) list.items) w.mappings-is ∙ sym (append-nil before)) l.invariant.2
      ],
    )

pub returns-clause-sampled : goal.returns-clause-sampled
returns-clause-sampled c =
    let l = c.loop-left in
    let view = λ (mapping : Mapping). mapping_view mapping in
    let attributes = map attribute_view c.args.events.now.attributes.items in
    let none : l.left ≡ 0 = omega arith in
    ap (map view) c.reverse.ensures.items ∙ sym (reverse-map view l.mappings.items) ∙ l.invariant.2
    ∙ ap (λ n. sampled_mappings attributes (records_in (drop n c.args.records.now))) none
