use Rattle.std.proofs.Common.{◌≡◌, ℕ, List, ◌<◌, ◌-◌, suc, ◌∷◌, [], map, drop, length, get_or, Some, refl, ap, sym, ◌∙◌, arith}
use Rattle.std.specs.Borrow.{Bor}
use Rattle.std.proofs.Math.Seq.{drop-cons}
use Rattle.std.proofs.lemmas.Map.Text.{btree_map_updates_str}
use Rattle.framehop_recording.specs.BuildIds.{file_build_id_view}
use Rattle.framehop_recording.specs.declared.build_ids.FileBuildId.{FileBuildId}
use Rattle.framehop_perf_stacks.specs.Files.{build_id_for}
use Rattle.framehop_perf_stacks.proofs.BuildIdLemmas.{entered}
use Rattle.framehop_perf_stacks.proofs.recording.build_ids_by_name.Goals as goal

pub loop-left-preserved : goal.loop-left-preserved
loop-left-preserved c =
    let l = c.loop-left in
    let ids = c.args.build_ids.now in
    let left = l.left - 1 in
    let none : Bor (List ℕ) = record { ref_ptr = (0, 0); now = [] } in
    let default : FileBuildId = record { pid = 0; build_id = none; name = none } in
    let b = get_or ids left default in
    let test = c.loop-left-test.true in
    let bound = l.invariant.0 in
    let one : l.left ≡ suc left = omega (arith, test) in
    let within : left < length ids = omega (arith, test, bound) in
    let parted : map file_build_id_view (drop left ids) ≡ file_build_id_view b ∷ map file_build_id_view (drop l.left ids) =
    ap (map file_build_id_view) (drop-cons ids left default within)
    ∙ ap (λ n. file_build_id_view b ∷ map file_build_id_view (drop n ids)) (sym one) in (
      omega (arith, bound),
      λ name. entered (file_build_id_view b) b.build_id name _ _ (map file_build_id_view (drop l.left ids)) refl (l.invariant.1 name)
          (btree_map_updates_str b.name.now l.by_name c.insert.new.self (Some b.build_id) c.in_ok-insert.ensures.updates name)
          ∙ ap (λ bs. build_id_for bs name) (sym parted),
    )
