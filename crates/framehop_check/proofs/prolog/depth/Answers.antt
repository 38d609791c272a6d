use Rattle.std.proofs.Common.{◌≡◌, ◌+◌, ◌<◌, ◌^◌, ℕ, List, subst, ◌∙◌, arith}
use Rattle.std.specs.Io.Iter.{u64_saturate}
use Rattle.framehop_pe.specs.Info.{left_codes}
use Rattle.framehop_pe.specs.declared.unwind_info.operation.UnwindCode.{UnwindCode}
use Rattle.framehop_check.specs.Prolog.{depth}
use Rattle.framehop_check.proofs.prolog.depth.Goals as goal

within : (n : ℕ) → n < 2 ^ 64 → n ≡ u64_saturate (n + 0)
within n fits = grind (arith, fits)

pub returns : goal.returns
returns c =
    let inv = c.loop-code.invariant in
    within c.loop-code.sum inv.1
    ∙ subst (λ (codes : List UnwindCode). u64_saturate (c.loop-code.sum + depth codes) ≡ u64_saturate (depth (left_codes c.args.codes)))
    c.in-None.ensures.steps.0 inv.0
