-- Build ids by the names of their files.
use Rattle.std.proofs.Common.{◌≡◌, ℕ, Bool, true, false, cond, List, [], ◌∷◌, Option, Some}
use Rattle.std.specs.Borrow.{Bor}
use Rattle.std.specs.Cmp.Lexicographic.{pointwise}
use Rattle.std.specs.Prelude.{nat_eq, unwrap_or, option_map}
use Rattle.std.specs.List.{find}
use Rattle.framehop_recording.specs.BuildIds.{FileBuildIdView}
use Rattle.framehop_perf_stacks.specs.Files.{build_id_for}

by-name : (is_named : Bool) (b : FileBuildIdView) (value : Bor (List ℕ)) (old new : Option (Bor (List ℕ))) (found : Option FileBuildIdView)
    → value.now ≡ b.build_id
    → unwrap_or (option_map (λ v. v.now) old) [] ≡ unwrap_or (option_map (λ b. b.build_id) found) []
    → new ≡ cond is_named (Some value) old
    → unwrap_or (option_map (λ v. v.now) new) [] ≡ unwrap_or (option_map (λ b. b.build_id) (cond is_named (Some b) found)) []
by-name true b value old new found is same put = rw put is
by-name false b value old new found is same put = rw put same

-- the build id of a name after one more was entered
pub entered : (b : FileBuildIdView) (value : Bor (List ℕ)) (name : List ℕ) (old new : Option (Bor (List ℕ))) (others : List FileBuildIdView)
    → value.now ≡ b.build_id
    → unwrap_or (option_map (λ v. v.now) old) [] ≡ build_id_for others name
    → new ≡ cond (pointwise nat_eq b.name name) (Some value) old
    → unwrap_or (option_map (λ v. v.now) new) [] ≡ build_id_for (b ∷ others) name
entered b value name old new others is same put =
    by-name (pointwise nat_eq b.name name) b value old new (find (λ other. pointwise nat_eq other.name name) others) is same put
