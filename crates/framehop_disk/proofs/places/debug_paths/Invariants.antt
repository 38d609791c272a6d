use Rattle.std.proofs.Common.{◌≡◌, ◌++◌, drop, map, string_bytes}
use Rattle.std.specs.Prelude.{codes}
use Rattle.framehop_disk.specs.Paths.{build_id_path}
use Rattle.framehop_disk.proofs.places.debug_paths.Given as goal

abbrev pub invariant-loop-folder : goal.invariant-loop-folder
invariant-loop-folder l =
    map (λ path. string_bytes path) l.paths.items
    ++ map (λ folder. build_id_path folder l.build_id ++ codes ".debug") (map (λ folder. folder.now) (drop l.folder-index l.debug_dirs))
    ≡ map (λ folder. build_id_path folder l.build_id ++ codes ".debug") (map (λ folder. folder.now) l.debug_dirs)
