use Rattle.std.proofs.Common.{◌≡◌, ◌++◌, map, ap, ◌∙◌}
use Rattle.std.specs.Prelude.{codes, flat_map}
use Rattle.framehop_disk.specs.Places.{SYSTEM, beside, in_root}
use Rattle.framehop_disk.proofs.PlacesLemmas.{all-mapped, last-place}
use Rattle.framehop_disk.proofs.places.linked_places.Goals as goal

pub returns : goal.returns
returns c =
    let dirs = c.args.debug_dirs.now in
    let inside = c.args.folder.now ++ (codes "/" ++ c.args.link.now) in
    let front = flat_map (beside c.args.folder.now c.args.link.now) (map (λ root. root.now) c.args.roots.now) in
    let done = all-mapped (in_root inside) (λ folder. folder.now) c.loop-debug_dir.places.items
    (front ++ map (in_root inside) (map (λ folder. folder.now) dirs)) dirs c.loop-debug_dir.debug_dir-index c.loop-debug_dir-test.false c.loop-debug_dir.invariant in
    let is : c.in_ok-in_root-4.field-0 ≡ in_root inside SYSTEM =
    c.in_ok-in_root-4.ensures ∙ ap (λ path. in_root path SYSTEM) (c.as_str-2.ensures.value ∙ c.in_ok-inside.ensures.ok) in
    c.in_ok-push-4.ensures.items
    ∙ last-place (in_root inside) front c.loop-debug_dir.places.items (map (λ folder. folder.now) dirs) c.in_ok-in_root-4.field-0 SYSTEM done is
