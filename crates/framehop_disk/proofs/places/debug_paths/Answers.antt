use Rattle.std.proofs.Common.{ℕ, List, ◌++◌, [], map, ap, ◌∙◌, string_bytes}
use Rattle.std.specs.Prelude.{codes}
use Rattle.framehop_disk.specs.Paths.{build_id_path}
use Rattle.framehop_disk.specs.Places.{SYSTEM}
use Rattle.framehop_disk.proofs.PlacesLemmas.{all-mapped, last-given}
use Rattle.framehop_disk.proofs.places.debug_paths.Goals as goal

pub returns : goal.returns
returns c =
    let dirs = c.args.debug_dirs.now in
    let paths = c.loop-folder.paths.items in
    let one : List ℕ → List ℕ = λ folder. build_id_path folder c.args.build_id.now ++ codes ".debug" in
    let done = all-mapped one (λ folder. folder.now) (map (λ path. string_bytes path) paths)
    (map one (map (λ folder. folder.now) dirs)) dirs c.loop-folder.folder-index c.loop-folder-test.false c.loop-folder.invariant in
    ap (map (λ path. string_bytes path)) c.in_ok-push-2.ensures.items
    ∙ last-given (λ path. string_bytes path) one [] paths
    (map (λ folder. folder.now) dirs) c.in_ok-debug_path-2.field-0 SYSTEM done c.in_ok-debug_path-2.ensures
