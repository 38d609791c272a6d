-- Pops on x86_64, read forwards from the pc.
use Rattle.std.proofs.Common.{◌≡◌, inl, inr, ◌↔◌, ℕ, ◌+◌, ◌/◌, ◌<◌, ◌≤◌, Bool, true, ◌||◌, ◌==◌, cond, IsTrue, List, [], ◌∷◌, slice_get, Option, Some, refl, sym, ap, ◌∙◌, subst, arith}
use Rattle.std.proofs.lemmas.Bool.{eqb-true, and_parts, or_cases}
use Rattle.std.proofs.lemmas.Option.{same_Some}
use Rattle.framehop_core.specs.declared.x86_64.unwind_rule.UnwindRuleX86_64.{UnwindRuleX86_64}
use Rattle.framehop_analysis.specs.Answer.{IsOnly}
use Rattle.framehop_analysis.specs.X86_64.Bytes.{is_pop_opcode}
use Rattle.framehop_analysis.specs.X86_64.Epilogue.{is_plain_pop, IsPopBytes, alone, after_40, after_41, ArePops, Popped, none_popped, after_pop, after_pops, is_jump, FollowsPop, IsEnd, returns, jumps, IsRuleOfPopped, IsRestOfEpilogue, IsEpilogueRule}
use Rattle.framehop_analysis.specs.Laws.Answer.{only-map}

-- ---- the first byte

plain-code : (opcode : ℕ) → is_plain_pop opcode ≡ true → opcode / 8 ≡ 11
plain-code opcode is = eqb-true _ _ (and_parts _ _ is).0

pop-code : (opcode : ℕ) → is_pop_opcode opcode ≡ true → opcode / 8 ≡ 11
pop-code opcode is = eqb-true _ _ is

-- a pop begins with a lower byte than an end
pub pop-low : (text : List ℕ) (at size : ℕ) (is_bp : Bool) → IsPopBytes text at size is_bp
    → (byte : ℕ) × (slice_get text at ≡ Some byte) × (byte < 96) × (0 < size)
pop-low text at size is_bp (alone opcode there is size_is bp_is) =
    let code = plain-code opcode is in (opcode, there, omega arith, omega arith)
pop-low text at size is_bp (after_40 opcode first there is size_is bp_is) = (0x40, first, omega arith, omega arith)
pop-low text at size is_bp (after_41 opcode first there is size_is bp_is) = (0x41, first, omega arith, omega arith)

-- a pop is read in one way
pub pop-same : (text : List ℕ) (at m n : ℕ) (b c : Bool) → IsPopBytes text at m b → IsPopBytes text at n c
    → (m ≡ n) × (b ≡ c)
pop-same text at m n b c (alone x first is m_is b_is) (alone y first' is' n_is c_is) =
    let same = same_Some x y (sym first ∙ first') in
    (m_is ∙ sym n_is, b_is ∙ ap (λ byte. byte == 0x5D) same ∙ sym c_is)
pop-same text at m n b c (alone x first is m_is b_is) (after_40 y first' there is' n_is c_is) =
    let same = same_Some x 0x40 (sym first ∙ first') in let code = plain-code x is in absurd (omega arith)
pop-same text at m n b c (alone x first is m_is b_is) (after_41 y first' there is' n_is c_is) =
    let same = same_Some x 0x41 (sym first ∙ first') in let code = plain-code x is in absurd (omega arith)
pop-same text at m n b c (after_40 x first there is m_is b_is) (alone y first' is' n_is c_is) =
    let same = same_Some y 0x40 (sym first' ∙ first) in let code = plain-code y is' in absurd (omega arith)
pop-same text at m n b c (after_40 x first there is m_is b_is) (after_40 y first' there' is' n_is c_is) =
    let same = same_Some x y (sym there ∙ there') in
    (m_is ∙ sym n_is, b_is ∙ ap (λ byte. byte == 0x5D) same ∙ sym c_is)
pop-same text at m n b c (after_40 x first there is m_is b_is) (after_41 y first' there' is' n_is c_is) =
    let same = same_Some 0x40 0x41 (sym first ∙ first') in absurd (omega arith)
pop-same text at m n b c (after_41 x first there is m_is b_is) (alone y first' is' n_is c_is) =
    let same = same_Some y 0x41 (sym first' ∙ first) in let code = plain-code y is' in absurd (omega arith)
pop-same text at m n b c (after_41 x first there is m_is b_is) (after_40 y first' there' is' n_is c_is) =
    let same = same_Some 0x41 0x40 (sym first ∙ first') in absurd (omega arith)
pop-same text at m n b c (after_41 x first there is m_is b_is) (after_41 y first' there' is' n_is c_is) =
    (m_is ∙ sym n_is, b_is ∙ sym c_is)

-- no pop is at an offset
abbrev pub NoPop : List ℕ → ℕ → Type 0
NoPop text at = (size : ℕ) (is_bp : Bool) → IsPopBytes text at size is_bp → ⊥

pub jump-high : (opcode : ℕ) → is_jump opcode ≡ true → 96 ≤ opcode
jump-high opcode e = elim (or_cases ((opcode == 0xEB) || (opcode == 0xE9)) (opcode == 0xFF) e) [
  | inl first ↦ elim (or_cases (opcode == 0xEB) (opcode == 0xE9) first) [
    | inl eb ↦ (let same : opcode ≡ 0xEB = eqb-true _ _ eb in omega arith)
    | inr e9 ↦ (let same : opcode ≡ 0xE9 = eqb-true _ _ e9 in omega arith)
  ]
  | inr ff ↦ (let same : opcode ≡ 0xFF = eqb-true _ _ ff in omega arith)
]

-- an end begins with a higher byte
pub end-high : (text : List ℕ) (pc at count : ℕ) → IsEnd text pc at count
    → (byte : ℕ) × (slice_get text at ≡ Some byte) × (96 ≤ byte)
end-high text pc at count (returns there) = (0xC3, there, omega arith)
end-high text pc at count (jumps opcode there is follows) = (opcode, there, jump-high opcode is)

end-not-pop : (text : List ℕ) (pc at count size : ℕ) (is_bp : Bool) → IsEnd text pc at count
    → IsPopBytes text at size is_bp → ⊥
end-not-pop text pc at count size is_bp ends pop =
    let high = end-high text pc at count ends in
    let low = pop-low text at size is_bp pop in
    let same = same_Some high.0 low.0 (sym high.1 ∙ low.1) in
    let above = high.2 in let below = low.2 in omega arith

-- ---- the end

pub end-jump : (text : List ℕ) (pc at pops opcode : ℕ) (follows : Bool) → Some opcode ≡ slice_get text at
    → (opcode ≡ 0xC3 → ⊥) → is_jump opcode ≡ true → IsTrue follows ↔ FollowsPop text pc pops
    → IsTrue follows ↔ IsEnd text pc at pops
end-jump text pc at pops opcode follows there no_return jump iff =
    (λ t. jumps opcode (sym there) jump (iff.0 t), λ e. from_end e) where
      from_end : IsEnd text pc at pops → IsTrue follows
      from_end (returns here) = absurd (no_return (same_Some opcode 0xC3 (there ∙ here)))
      from_end (jumps other here is follow) = iff.1 follow

-- ---- the rest of an epilogue

rest-forward : (text : List ℕ) (pc at size : ℕ) (is_bp : Bool) (p : Popped) → IsPopBytes text at size is_bp
    → (rule : UnwindRuleX86_64) → IsRestOfEpilogue text pc at p rule
    → IsRestOfEpilogue text pc (at + size) (after_pop p is_bp) rule
rest-forward text pc at size is_bp p there rule rest =
    forward rest.pops rest.end rest.stand rest.ends rest.made where
      forward : (pops : List Bool) (end : ℕ) → ArePops text at pops end → IsEnd text pc end (after_pops p pops).count
          → IsRuleOfPopped (after_pops p pops) rule → IsRestOfEpilogue text pc (at + size) (after_pop p is_bp) rule
      forward [] end same ends made =
          let P : ℕ → Type 0 = λ n. IsEnd text pc n p.count in
          absurd (end-not-pop text pc at p.count size is_bp (subst P (sym same) ends) there)
      forward (b ∷ pops) end (n, pop, stand) ends made =
          let same = pop-same text at n size b is_bp pop there in
          let P : ℕ → Type 0 = λ m. IsRestOfEpilogue text pc (at + m) (after_pop p b) rule in
          let Q : Bool → Type 0 = λ c. IsRestOfEpilogue text pc (at + size) (after_pop p c) rule in
          subst Q same.1 (subst P same.0 (record { pops = pops; end = end; stand = stand; ends = ends; made = made }))

rest-back : (text : List ℕ) (pc at size : ℕ) (is_bp : Bool) (p : Popped) → IsPopBytes text at size is_bp
    → (rule : UnwindRuleX86_64) → IsRestOfEpilogue text pc (at + size) (after_pop p is_bp) rule
    → IsRestOfEpilogue text pc at p rule
rest-back text pc at size is_bp p there rule rest = record {
  pops = is_bp ∷ rest.pops;
  end = rest.end;
  stand = (size, there, rest.stand);
  ends = rest.ends;
  made = rest.made;
}

rest-end : (text : List ℕ) (pc at : ℕ) (p : Popped) → NoPop text at → (rule : UnwindRuleX86_64)
    → IsRestOfEpilogue text pc at p rule → IsEnd text pc at p.count × IsRuleOfPopped p rule
rest-end text pc at p none rule rest = at_end rest.pops rest.end rest.stand rest.ends rest.made where
  at_end : (pops : List Bool) (end : ℕ) → ArePops text at pops end → IsEnd text pc end (after_pops p pops).count
      → IsRuleOfPopped (after_pops p pops) rule → IsEnd text pc at p.count × IsRuleOfPopped p rule
  at_end [] end same ends made = (let P : ℕ → Type 0 = λ n. IsEnd text pc n p.count in subst P (sym same) ends, made)
  at_end (b ∷ pops) end (n, pop, stand) ends made = absurd (none n b pop)

-- ---- the walk

pub record IsReadUpTo (text : List ℕ) (pc at : ℕ) (p : Popped) : Type 0 where
  pub forward : (rule : UnwindRuleX86_64) → IsEpilogueRule text pc rule → IsRestOfEpilogue text pc at p rule
  pub back : (rule : UnwindRuleX86_64) → IsRestOfEpilogue text pc at p rule → IsEpilogueRule text pc rule
  pub small : p.count ≤ at

pub read-none : (text : List ℕ) (pc : ℕ) → IsReadUpTo text pc pc none_popped
read-none text pc = record { forward = λ rule rest. rest; back = λ rule rest. rest; small = omega arith }

pub read-more : (text : List ℕ) (pc at size : ℕ) (is_bp : Bool) (p q : Popped) → IsReadUpTo text pc at p
    → IsPopBytes text at size is_bp → q ≡ after_pop p is_bp
    → IsReadUpTo text pc (at + size) q
read-more text pc at size is_bp p q r there e =
    let P : Popped → Type 0 = IsReadUpTo text pc (at + size) in
    let small = r.small in let above = (pop-low text at size is_bp there).3 in
    subst P (sym e) (record {
      forward = λ rule rest. rest-forward text pc at size is_bp p there rule (r.forward rule rest);
      back = λ rule rest. r.back rule (rest-back text pc at size is_bp p there rule rest);
      small = omega arith;
    })

pub no-end : (text : List ℕ) (pc at : ℕ) (p : Popped) → IsReadUpTo text pc at p → NoPop text at
    → (IsEnd text pc at p.count → ⊥) → (rule : UnwindRuleX86_64) → IsEpilogueRule text pc rule → ⊥
no-end text pc at p r none no_end rule e = no_end (rest-end text pc at p none rule (r.forward rule e)).0

pub only-end : (text : List ℕ) (pc at : ℕ) (p : Popped) (found : Option UnwindRuleX86_64) → IsReadUpTo text pc at p
    → NoPop text at → IsEnd text pc at p.count → IsOnly (IsRuleOfPopped p) found
    → IsOnly (IsEpilogueRule text pc) found
only-end text pc at p found r none ends only =
    only-map (IsRuleOfPopped p) (IsEpilogueRule text pc) found
    (λ rule made. r.back rule (record { pops = []; end = at; stand = refl; ends = ends; made = made }))
    (λ rule e. (rest-end text pc at p none rule (r.forward rule e)).1) only

-- what has been popped after one more pop
pub popped-same : (p : Popped) (is_bp : Bool) (before : Option ℕ) → before ≡ cond is_bp (Some p.count) p.before_bp
    → ◌≡◌ {A = Popped} (record { count = p.count + 1; before_bp = before }) (after_pop p is_bp)
popped-same p is_bp before e =
    ap (λ (b : Option ℕ). let q : Popped = record { count = p.count + 1; before_bp = b } in q) e
