use Rattle.std.proofs.Common.{◌≡◌, ◌∙◌, ◌<◌, ◌≤◌, ◌+◌, ◌-◌, ◌*◌, ℕ, List, [], ◌∷◌, ◌++◌, drop, length, get_or, length-drop, sym, ap, append_assoc, append-nil, drop-cons, codes, refl, rules, arith}
use Rattle.std.proofs.Math.ListN.{drop_of_length-le}
use Rattle.std.proofs.Output.{has_written_append, has_written_of_eq}
use Rattle.std.specs.Fmt.{decimal}
use Rattle.framehop_core.specs.declared.x86_64.unwindregs.Reg.{Reg}
use Rattle.framehop_explain.specs.RuleText.{pops_text, register_name}
use Rattle.framehop_explain.proofs.rule_text.write_pops.Goals as goal

-- a register, then the others
pub pops-more : (register : Reg) (registers : List Reg)
    → pops_text (register ∷ registers) ≡ codes "; " ++ (register_name register ++ (codes " at CFA - " ++ (decimal ((length registers + 2) * 8) ++ pops_text registers)))
unfolding pops_text
pops-more register registers = refl

-- the next register
next : (registers : List Reg) (register : Reg) (name : List ℕ) (i : ℕ) (written : List ℕ) → i < length registers → register ≡ get_or registers i register
    → name ≡ register_name register → written ++ pops_text (drop i registers) ≡ pops_text registers
    → (written ++ (codes "; " ++ (name ++ (codes " at CFA - " ++ decimal ((length registers - i + 1) * 8))))) ++ pops_text (drop (i + 1) registers) ≡ pops_text registers
next registers register name i written within is named whole =
    let others = drop (i + 1) registers in
    let left : drop i registers ≡ register ∷ others = grind (arith, drop-cons) in
    let count : length others + 2 ≡ length registers - i + 1 = omega (arith, length-drop (i + 1) registers) in
    let piece : ℕ → List ℕ = λ n. codes "; " ++ (name ++ (codes " at CFA - " ++ decimal (n * 8))) in
    let more : pops_text (register ∷ others) ≡ piece (length others + 2) ++ pops_text others =
    pops-more register others
    ∙ ap (λ n. codes "; " ++ (n ++ (codes " at CFA - " ++ (decimal ((length others + 2) * 8) ++ pops_text others)))) (sym named)
    ∙ ap (λ text. codes "; " ++ text) (sym (append_assoc name (codes " at CFA - " ++ decimal ((length others + 2) * 8)) (pops_text others))) in
    append_assoc written (piece (length registers - i + 1)) (pops_text others)
    ∙ ap (λ n. written ++ (piece n ++ pops_text others)) (sym count)
    ∙ ap (λ text. written ++ text) (sym more) ∙ ap (λ these. written ++ pops_text these) (sym left) ∙ whole

pub loop-i-preserved : goal.loop-i-preserved
loop-i-preserved g c = λ plain.
    let met = c.loop-i.invariant plain in
    let written = c.in_ok-write.ensures.writes met.1.plain (search rules) in (
      met.0 ++ (codes "; " ++ (c.register_name.result.now ++ (codes " at CFA - " ++ decimal ((length c.args.registers.now - c.loop-i.i + 1) * 8)))),
      has_written_append _ _ _ _ _ _ met.1 written,
      next c.args.registers.now _ c.register_name.result.now c.loop-i.i met.0 (search rules) (search rules) c.register_name.ensures met.2,
    )

pub returns : goal.returns
unfolding pops_text
returns g c = λ plain ok.
    let past : length c.args.registers.now ≤ c.loop-i.i = search rules in
    let met = c.loop-i.invariant plain in
    let none : drop c.loop-i.i c.args.registers.now ≡ [] = drop_of_length-le c.args.registers.now past in
    has_written_of_eq _ _ _ _ _ (sym (append-nil met.0) ∙ ap (λ others. met.0 ++ pops_text others) (sym none) ∙ met.2) met.1
