use Rattle.std.proofs.Common.{◌≡◌, ◌++◌, drop, map}
use Rattle.std.specs.Prelude.{codes, flat_map}
use Rattle.framehop_disk.specs.Places.{beside, in_root}
use Rattle.framehop_disk.proofs.places.linked_places.Given as goal

abbrev pub invariant-loop-root : goal.invariant-loop-root
invariant-loop-root l =
    l.places.items ++ flat_map (beside l.folder l.link) (map (λ root. root.now) (drop l.root-index l.roots))
    ≡ flat_map (beside l.folder l.link) (map (λ root. root.now) l.roots)

abbrev pub invariant-loop-debug_dir : goal.invariant-loop-debug_dir
invariant-loop-debug_dir l =
    l.places.items
    ++ map (in_root (l.folder ++ (codes "/" ++ l.link))) (map (λ root. root.now) (drop l.debug_dir-index l.debug_dirs))
    ≡ flat_map (beside l.folder l.link) (map (λ root. root.now) l.roots)
    ++ map (in_root (l.folder ++ (codes "/" ++ l.link))) (map (λ root. root.now) l.debug_dirs)
