use Rattle.std.proofs.Common.{◌≡◌, ℕ, zero, suc, ◌<◌, ◌+◌, ◌-◌, ◌++◌, ◌∷◌, [], List, refl, ap, sym, ◌∙◌, append_assoc, append-nil, arith, rules}
use Rattle.framehop_bytes.specs.Bytes.{le8}
use Rattle.framehop_recording.specs.Chain.{words_from, words_of}
use Rattle.framehop_recording.proofs.chain.words_of.Goals as goal

pub loop-left-init : goal.loop-left-init
loop-left-init c =
    let none : c.new-words.result.items ≡ [] = search rules in
    rw none (refl, omega arith)

words-more : (bytes : List ℕ) (at left : ℕ) → 0 < left → words_from bytes at left ≡ le8 bytes at ∷ words_from bytes (at + 8) (left - 1)
words-more bytes at zero h = absurd (omega (arith, h))
words-more bytes at (suc n) h = ap (λ m. le8 bytes at ∷ words_from bytes (at + 8) m) (let same : n ≡ suc n - 1 = omega arith in same)

words-next : (bytes all words pushed : List ℕ) (at left word : ℕ) → words ++ words_from bytes at left ≡ all → 0 < left
    → word ≡ le8 bytes at → pushed ≡ words ++ word ∷ [] → pushed ++ words_from bytes (at + 8) (left - 1) ≡ all
words-next bytes all words pushed at left word so_far h is push =
    ap (λ list. list ++ words_from bytes (at + 8) (left - 1)) push
    ∙ append_assoc words (word ∷ []) (words_from bytes (at + 8) (left - 1))
    ∙ ap (λ w. words ++ w ∷ words_from bytes (at + 8) (left - 1)) is
    ∙ ap (λ list. words ++ list) (sym (words-more bytes at left h))
    ∙ so_far

words-done : (bytes all words : List ℕ) (at left : ℕ) → words ++ words_from bytes at left ≡ all → left ≡ 0 → words ≡ all
words-done bytes all words at left so_far none =
    sym (append-nil words) ∙ ap (λ n. words ++ words_from bytes at n) (sym none) ∙ so_far

pub loop-left-preserved : goal.loop-left-preserved
loop-left-preserved c =
    let l = c.loop-left in
    let h : 0 < l.left = omega (arith, c.loop-left-test.true) in
    let pushed : c.push.new.self.items ≡ l.words.items ++ c.word_at.result ∷ [] = search rules in (
      words-next c.args.bytes.now (words_of c.args.bytes.now) l.words.items c.push.new.self.items l.at l.left c.word_at.result
          l.invariant.0 h c.word_at.ensures pushed,
      omega (arith, l.invariant.1, h),
    )

pub returns : goal.returns
returns c =
    let l = c.loop-left in
    words-done c.args.bytes.now (words_of c.args.bytes.now) l.words.items l.at l.left l.invariant.0 (omega (arith, c.loop-left-test.false))
