use Rattle.std.proofs.Common.{◌≡◌, ℕ, List, map, take}
use Rattle.std.specs.Prelude.{unwrap_or}
use Rattle.serde_json.specs.View.{view}
use Rattle.framehop_folded.specs.Speedscope.{AreFrames, number_data, number_in}
use Rattle.framehop_folded.proofs.speedscope.numbers_of.Given as goal

abbrev pub invariant-loop-name : goal.invariant-loop-name
invariant-loop-name l = (names : List (List ℕ)) → AreFrames names l.frames
    → map view l.numbers.items ≡ map (λ name. number_data (unwrap_or (number_in names name) 0)) (map (λ name. name.now) (take l.name-index l.stack))
