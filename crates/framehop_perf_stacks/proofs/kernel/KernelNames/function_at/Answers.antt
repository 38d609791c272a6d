use Rattle.std.proofs.Common.{ℕ, ◌≡◌, ◌++◌, ◌∷◌, List, [], Some, refl, ap, sym, ◌∙◌}
use Rattle.std.specs.Prelude.{option_map}
use Rattle.std.specs.Global.{Global}
use Rattle.std.specs.Option.{option_or}
use Rattle.std.specs.declared.vec.Vec.{Vec}
use Rattle.framehop_perf_stacks.specs.Chain.{last_of, function_at}
use Rattle.framehop_perf_stacks.proofs.kernel.KernelNames.function_at.Goals as goal

last-one : {A : Type 0} (xs : List A) (x : A) → last_of (xs ++ x ∷ []) ≡ Some x
last-one [] x = refl
last-one (y ∷ xs) x = ap (λ found. option_or found (Some y)) (last-one xs x)

pub returns : goal.returns
unfolding function_at
returns c =
    let view : ℕ × Vec ℕ Global → ℕ × List ℕ = λ entry. (entry.0, entry.1.items) in
    ap (λ name. Some (c.in_ok-start.start.now, name)) c.as_slice.ensures.value
    ∙ ap (option_map view) (sym (last-one c.next_back.new.self (c.in_ok-start.start.now, c.in_ok-start.name.now)))
    ∙ ap (λ entries. option_map view (last_of entries)) (sym c.in_ok-start.ensures.steps)
    ∙ ap (λ entries. option_map view (last_of entries)) (c.range.ensures.between tt)
