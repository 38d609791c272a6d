use Rattle.std.proofs.Common.{arith, ◌≡◌, ◌≢◌, ◌<◌, ℕ, length, get_or, Option, Some, None, false, List}
use Rattle.std.specs.Option.{MatchOption}
use Rattle.std.specs.Prelude.{◌==◌}
use Rattle.std.specs.List.{list_any}
use Rattle.framehop_folded.specs.Text.{IsLastBlank}
use Rattle.framehop_folded.proofs.TextLemmas.{no_blank}
use Rattle.framehop_folded.proofs.text.last_blank.Goals as goal

pub at_end : (line : List ℕ) (found : Option ℕ) (at : ℕ) → at ≡ length line
    → MatchOption found ((k : ℕ) → k < at → get_or line k 0 ≢ 32)
    (λ blank. (blank < at) × (get_or line blank 0 ≡ 32) × ((k : ℕ) → blank < k → k < at → get_or line k 0 ≢ 32))
    → MatchOption found (list_any (λ byte. byte == 32) line ≡ false) (λ blank. IsLastBlank line blank)
at_end line None at e h = no_blank line (λ k below. h k (omega arith))
at_end line (Some blank) at e (fits, is, last) = (omega arith, is, λ k from below. last k from (omega arith))

pub returns : goal.returns
returns c = at_end c.args.line.now c.loop-at.blank c.loop-at.at (omega arith) c.loop-at.invariant
