use Rattle.std.proofs.Common.{◌≡◌, ℕ, suc, ◌+◌, ◌<◌, ◌==◌, true, false, List, ◌∷◌, length, drop, get_or, ap, ◌∙◌, arith, rules}
use Rattle.std.proofs.Math.Seq.{drop-cons}
use Rattle.framehop_object.proofs.StringLemmas.{is_name, name-more}
use Rattle.framehop_object.proofs.elf.elf_file.is_string.Goals as goal

left-are : (bytes : List ℕ) (i : ℕ) → i < length bytes → drop i bytes ≡ get_or bytes i 0 ∷ drop (i + 1) bytes
left-are bytes i within =
    drop-cons bytes i 0 within
    ∙ ap (λ j. get_or bytes i 0 ∷ drop j bytes) (let more : suc i ≡ i + 1 = omega arith in more)

pub loop-index-preserved : goal.loop-index-preserved
loop-index-preserved c =
    let bytes = c.args.bytes.now in
    let name = c.args.name.now in
    let i = c.loop-index.index in
    let b = get_or bytes i 0 in
    let equal : get_or name i 0 ≡ b = search rules in
    let other : (b == 0) ≡ false = search rules in
    let same : (b == b) ≡ true = search rules in
    c.loop-index.invariant
    ∙ ap (λ left. is_name left (drop i name)) (left-are bytes i (omega arith))
    ∙ ap (is_name (b ∷ drop (i + 1) bytes)) (left-are name i c.loop-index-test.true ∙ ap (λ n. n ∷ drop (i + 1) name) equal)
    ∙ name-more b (drop (i + 1) bytes) (drop (i + 1) name) other same
