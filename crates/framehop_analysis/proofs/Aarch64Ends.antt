-- The detector of an epilogue on aarch64: each end, each instruction and the walk forwards.
use Rattle.std.proofs.Common.{
  ◌≡◌,
  ◌≢◌,
  ◌↔◌,
  ℕ,
  ◌+◌,
  ◌*◌,
  ℤ,
  pos,
  ◌+ℤ◌,
  ◌≤ℤ◌,
  Bool,
  true,
  false,
  ◌==◌,
  IsTrue,
  cond,
  List,
  [],
  ◌∷◌,
  length,
  Option,
  Some,
  None,
  MatchOption,
  is_some,
  refl,
  sym,
  ap,
  ◌∙◌,
  subst,
  arith,
}
use Rattle.std.proofs.lemmas.Int.{ints}
use Rattle.std.proofs.lemmas.Option.{same_Some}
use Rattle.framehop_core.specs.declared.aarch64.unwind_rule.UnwindRuleAarch64.{UnwindRuleAarch64}
use Rattle.framehop_analysis.specs.Answer.{IsOnly}
use Rattle.framehop_analysis.specs.Aarch64.Words.{word_at, AreWordsAt, is_load, is_return, is_b, addressing, pair_offset}
use Rattle.framehop_analysis.specs.Aarch64.Epilogue.{
  Places,
  at_pc,
  is_restoring,
  places_after,
  place_after_load,
  IsAuthenticatedCall,
  IsEnd,
  returns,
  branches,
  calls,
  IsRestored,
  IsRuleOfPlaces,
  IsRestOfEpilogue,
  IsEpilogueRule,
  restored,
  restores,
}
use Rattle.framehop_analysis.specs.Laws.Answer.{only-map}
use Rattle.framehop_analysis.specs.Laws.Aarch64.Ends.{Ends, rest-forward, rest-back, rest-end, end-rest}

-- ---- ends

pub end-return : (text : List ℕ) (at word : ℕ) (by : ℤ) → Some word ≡ word_at text at → is_return word ≡ true → Ends text at by
end-return text at word by there is = (word ∷ [], (sym there, tt), returns word is refl)

pub end-branch : (text : List ℕ) (at word : ℕ) (by : ℤ) → Some word ≡ word_at text at → is_b word ≡ true → by ≢ pos 0 → Ends text at by
end-branch text at word by there is apart = (word ∷ [], (sym there, tt), branches word is apart refl)

-- where the word is neither a return nor a branch after sp has moved, an end is a call
pub end-call : (text : List ℕ) (at word : ℕ) (by : ℤ) (found : Option ℕ) → Some word ≡ word_at text at
    → (is_return word ≡ true → ⊥) → (is_b word ≡ true → by ≢ pos 0 → ⊥)
    → MatchOption found ((words : List ℕ) → AreWordsAt text at words → IsAuthenticatedCall words → ⊥)
    (λ len. (words : List ℕ) × AreWordsAt text at words × IsAuthenticatedCall words × (len ≡ length words))
    → IsTrue (is_some found) ↔ Ends text at by
end-call text at word by (Some len) there no_return no_branch call = (λ t. (call.0, call.1, calls call.2), λ e. refl)
end-call text at word by None there no_return no_branch call = (λ t. cc, λ e. absurd (no_end e.0 e.1 e.2)) where
  no_end : (words : List ℕ) → AreWordsAt text at words → IsEnd by words → ⊥
  no_end words stands (returns w is e) =
      let P : List ℕ → Type 0 = AreWordsAt text at in
      no_return (ap is_return (same_Some word w (there ∙ (subst P e stands).0)) ∙ is)
  no_end words stands (branches w is apart e) =
      let P : List ℕ → Type 0 = AreWordsAt text at in
      no_branch (ap is_b (same_Some word w (there ∙ (subst P e stands).0)) ∙ is) apart
  no_end words stands (calls is) = call words stands is

-- ---- one instruction

cond-true : {A : Type 0} (b : Bool) (x y : A) → b ≡ true → cond b x y ≡ x
cond-true true x y e = refl
cond-true false x y e = cc

chosen : (test : Bool) (a b c d : ℤ) → a ≡ b → c ≡ d → cond test a c ≡ cond test b d
chosen true a b c d p q = p
chosen false a b c d p q = q

same-places : (a b : ℤ) (c d e f : Option ℤ) → a ≡ b → c ≡ d → e ≡ f → ◌≡◌ {A = Places} (record { sp = a; fp = c; lr = e }) (record { sp = b; fp = d; lr = f })
same-places a b c d e f p q r = cc

-- the places after an instruction, from the tests of its shape
pub places-load : (p : Places) (word : ℕ) (old moved sp sp' old' moved' place place' : ℤ) (fp lr : Option ℤ) → is_load word ≡ true
    → sp' ≡ cond (addressing word == 2) old moved → sp ≡ sp' → old ≡ p.sp → moved ≡ p.sp +ℤ pair_offset word
    → place' ≡ cond (addressing word == 1) old' moved' → place ≡ place' → old' ≡ p.sp → moved' ≡ p.sp +ℤ pair_offset word
    → fp ≡ place_after_load word 29 place p.fp → lr ≡ place_after_load word 30 place p.lr
    → record { sp = sp; fp = fp; lr = lr } ≡ places_after p word
places-load p word old moved sp sp' old' moved' place place' fp lr load sp_is sp_same old_is moved_is place_is place_same old_is' moved_is' fp_is lr_is =
    let at : place ≡ cond (addressing word == 1) p.sp (p.sp +ℤ pair_offset word) =
    place_same ∙ place_is ∙ chosen (addressing word == 1) old' p.sp moved' (p.sp +ℤ pair_offset word) old_is' moved_is' in
    same-places sp _ fp _ lr _
    (sp_same ∙ sp_is ∙ chosen (addressing word == 2) old p.sp moved (p.sp +ℤ pair_offset word) old_is moved_is)
    (fp_is ∙ ap (λ q. place_after_load word 29 q p.fp) at)
    (lr_is ∙ ap (λ q. place_after_load word 30 q p.lr) at)
    ∙ sym (cond-true (is_load word) _ _ load)

-- ---- the walk forwards

-- what the walk has read so far: the rules of the rest are those of the epilogue, and sp has not moved far
pub record IsReadUpTo (text : List ℕ) (pc at : ℕ) (places : Places) : Type 0 where
  pub forward : (rule : UnwindRuleAarch64) → IsRestOfEpilogue text pc at_pc rule → IsRestOfEpilogue text at places rule
  pub back : (rule : UnwindRuleAarch64) → IsRestOfEpilogue text at places rule → IsRestOfEpilogue text pc at_pc rule
  pub low : pos 0 ≤ℤ (places.sp +ℤ pos (128 * at))
  pub high : places.sp ≤ℤ pos (4194304 * at)

pub read-none : (text : List ℕ) (pc : ℕ) (places : Places) → places ≡ at_pc → IsReadUpTo text pc pc places
read-none text pc places e = record {
  forward = λ rule rest. (let P : Places → Type 0 = λ p. IsRestOfEpilogue text pc p rule in subst P (sym e) rest);
  back = λ rule rest. (let P : Places → Type 0 = λ p. IsRestOfEpilogue text pc p rule in subst P e rest);
  low = (let sp : places.sp ≡ pos 0 = ap (λ p. p.sp) e in omega (arith, ints));
  high = (let sp : places.sp ≡ pos 0 = ap (λ p. p.sp) e in omega (arith, ints));
}

pub read-more : (text : List ℕ) (pc at word : ℕ) (places next : Places) → IsReadUpTo text pc at places
    → word_at text at ≡ Some word → is_restoring word ≡ true → next ≡ places_after places word
    → places.sp ≤ℤ (next.sp +ℤ pos 512) → next.sp ≤ℤ (places.sp +ℤ pos 16777216) → IsReadUpTo text pc (at + 4) next
read-more text pc at word places next r there is e least most =
    let P : UnwindRuleAarch64 → Places → Type 0 = λ rule p. IsRestOfEpilogue text (at + 4) p rule in
    let low = r.low in let high = r.high in
    record {
      forward = λ rule rest. subst (P rule) (sym e) (rest-forward text at word places there is rule (r.forward rule rest));
      back = λ rule rest. r.back rule (rest-back text at word places there is rule (subst (P rule) e rest));
      low = omega (arith, ints);
      high = omega (arith, ints);
    }

-- ---- the rule of an epilogue

pub no-end : (text : List ℕ) (pc at : ℕ) (places : Places) → (IsRestored text pc → ⊥) → IsReadUpTo text pc at places
    → ((word : ℕ) → word_at text at ≡ Some word → is_restoring word ≡ true → ⊥) → (Ends text at places.sp → ⊥)
    → (rule : UnwindRuleAarch64) → IsEpilogueRule text pc rule → ⊥
no-end text pc at places not_restored r none no_end rule (restored here e) = not_restored here
no-end text pc at places not_restored r none no_end rule (restores not_here rest) =
    no_end (rest-end text at places none rule (r.forward rule rest)).0

pub only-end : (text : List ℕ) (pc at : ℕ) (places : Places) (found : Option UnwindRuleAarch64)
    → (IsRestored text pc → ⊥) → IsReadUpTo text pc at places
    → ((word : ℕ) → word_at text at ≡ Some word → is_restoring word ≡ true → ⊥) → Ends text at places.sp
    → IsOnly (IsRuleOfPlaces places) found → IsOnly (IsEpilogueRule text pc) found
only-end text pc at places found not_restored r none ends only =
    only-map (IsRuleOfPlaces places) (IsEpilogueRule text pc) found
    (λ rule made. restores not_restored (r.back rule (end-rest text at places ends rule made)))
    (λ rule p. made_by rule p) only where
      made_by : (rule : UnwindRuleAarch64) → IsEpilogueRule text pc rule → IsRuleOfPlaces places rule
      made_by rule (restored here e) = absurd (not_restored here)
      made_by rule (restores not_here rest) = (rest-end text at places none rule (r.forward rule rest)).1

pub never : IsTrue false → ⊥
never t = cc

pub ends-at : (text : List ℕ) (at : ℕ) (a b : ℤ) → a ≡ b → Ends text at a → Ends text at b
ends-at text at a b e ends = let P : ℤ → Type 0 = Ends text at in subst P e ends
