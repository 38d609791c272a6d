use Rattle.std.proofs.Common.{◌≡◌, ◌<◌, List, [], map, drop, length, refl, ap, sym, ◌∙◌, subst, arith}
use Rattle.std.proofs.lemmas.List.{at_drop_all, at_drop_more}
use Rattle.framehop_recording.specs.Attributes.{attribute_view}
use Rattle.framehop_recording.specs.BuildIds.{file_build_id_view}
use Rattle.framehop_recording.specs.Mapping.{MappingView, mapping_view}
use Rattle.framehop_recording.specs.declared.mapping.Mapping.{Mapping}
use Rattle.framehop_perf_stacks.specs.Files.{HasBuildIds, AreAdded}
use Rattle.framehop_perf_stacks.specs.Recording.{records_in}
use Rattle.framehop_perf_stacks.specs.Sampled.{sampled_mappings}
use Rattle.framehop_perf_stacks.proofs.recording.read_files.Goals as goal

pub loop-mapping-init : goal.loop-mapping-init
loop-mapping-init g c = (c.in_ok-files.files, c.in_ok-files.ensures, λ last added. added)

pub loop-mapping-preserved : goal.loop-mapping-preserved
loop-mapping-preserved g c =
    let l = c.loop-mapping in
    let source = g.S.FileSource.source c.args.source.now in
    let gives_map = g.S.MapSource.gives_map c.args.source.now in
    let build_ids = map file_build_id_view c.args.recording.now.build_ids.items in
    let views = λ (list : List Mapping). map (λ mapping. mapping_view mapping) list in
    let items = c.deref-mapping-items.result.now in
    let within : l.mapping-index < length items = omega arith in
    let has : HasBuildIds build_ids c.in_ok-build_ids.build_ids.by_name =
    subst (λ ids. HasBuildIds (map file_build_id_view ids) c.in_ok-build_ids.build_ids.by_name) c.as_slice.ensures.value
    c.in_ok-build_ids.ensures in (
      l.invariant.0,
      l.invariant.1,
      λ last rest. l.invariant.2 last
          (subst (λ (all : List MappingView). AreAdded source gives_map build_ids all l.files last) (sym (at_drop_more views items l.mapping-index _ within))
          (c.add_file.new.files, c.in_ok-add_file.ensures.added build_ids has, rest)),
    )

pub returns-clause-read : goal.returns-clause-read
returns-clause-read g c =
    let l = c.loop-mapping in
    let build_ids = map file_build_id_view c.args.recording.now.build_ids.items in
    let attributes = map attribute_view c.args.recording.now.events.attributes.items in
    let views = λ (list : List Mapping). map (λ mapping. mapping_view mapping) list in
    let items = c.deref-mapping-items.result.now in
    let Added = AreAdded (g.S.FileSource.source c.args.source.now) (g.S.MapSource.gives_map c.args.source.now) build_ids in
    let none : views (drop l.mapping-index items) ≡ [] = at_drop_all views items l.mapping-index (omega arith) in
    let all = ap views c.deref-mapping-items.ensures.value ∙ c.in_ok-mappings.ensures.sampled
    ∙ ap (λ list. sampled_mappings attributes (records_in list)) c.as_slice-2.ensures.value in (
      l.invariant.0,
      l.invariant.1,
      subst (λ (list : List MappingView). Added list l.invariant.0 l.files) all
          (l.invariant.2 l.files (subst (λ (list : List MappingView). Added list l.files l.files) (sym none) refl)),
    )
