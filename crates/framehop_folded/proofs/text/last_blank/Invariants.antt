use Rattle.std.proofs.Common.{◌≡◌, ◌≢◌, ◌<◌, ℕ, get_or}
use Rattle.std.specs.Option.{MatchOption}
use Rattle.framehop_folded.proofs.text.last_blank.Given as goal

abbrev pub invariant-loop-at : goal.invariant-loop-at
invariant-loop-at l = MatchOption l.blank ((k : ℕ) → k < l.at → get_or l.line k 0 ≢ 32)
    (λ blank. (blank < l.at) × (get_or l.line blank 0 ≡ 32) × ((k : ℕ) → blank < k → k < l.at → get_or l.line k 0 ≢ 32))
