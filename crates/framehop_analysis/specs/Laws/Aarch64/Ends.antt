-- Epilogues on aarch64, read forwards word by word: the rest of an epilogue from one place to the next.
use Rattle.std.proofs.Common.{◌≡◌, ◌↔◌, ℕ, ◌+◌, ◌-◌, ◌*◌, ◌<◌, ◌≤◌, ℤ, true, false, IsTrue, nat_lt, List, [], ◌∷◌, ◌++◌, length, Some, sym, ap, ◌∙◌, subst, arith}
use Rattle.std.proofs.lemmas.Bool.Decides.{nat_tests}
use Rattle.std.proofs.lemmas.Option.{same_Some}
use Rattle.framehop_core.specs.declared.aarch64.unwind_rule.UnwindRuleAarch64.{UnwindRuleAarch64}
use Rattle.framehop_analysis.specs.Aarch64.Words.{word_at, AreWordsAt}
use Rattle.framehop_analysis.specs.Aarch64.Epilogue.{Places, is_restoring, places_after, places_after_all, AllRestoring, IsAuthenticatedCall, IsEnd, IsInsideCallAfter, IsRuleOfPlaces, IsRestOfEpilogue}
use Rattle.framehop_analysis.specs.Laws.Aarch64.Calls.{call-same, call-short, end-not-restoring}

-- what an epilogue ends with, at an offset where its instructions have moved sp by so many bytes
abbrev pub Ends : List ℕ → ℕ → ℤ → Type 0
Ends text at by = (words : List ℕ) × AreWordsAt text at words × IsEnd by words

-- ---- calls

lt-of : (m n : ℕ) → IsTrue (nat_lt m n) → m < n
lt-of m n test = grind (arith, nat_tests)

of-lt : (m n : ℕ) → m < n → IsTrue (nat_lt m n)
of-lt m n below = grind (arith, nat_tests)

pub inside-iff : (text : List ℕ) (pc before len : ℕ) → 4 * before ≤ pc
    → ((words : List ℕ) × AreWordsAt text (pc - 4 * before) words × IsAuthenticatedCall words × (len ≡ length words))
    → IsTrue (nat_lt before len) ↔ IsInsideCallAfter text pc before
inside-iff text pc before len room found = (
  λ test. record {
    start = pc - 4 * before;
    words = found.0;
    stands = found.1;
    call = found.2;
    place = omega arith;
    inside = (let e = found.3 in let below = lt-of before len test in omega arith);
  },
  λ i.
      let at : i.start ≡ pc - 4 * before = (let e = i.place in omega arith) in
      let P : ℕ → Type 0 = λ n. AreWordsAt text n i.words in
      let same : i.words ≡ found.0 =
      call-same text (pc - 4 * before) i.words found.0 (subst P at i.stands) i.call found.1 found.2 in
      let n : length i.words ≡ length found.0 = ap length same in
      let e = found.3 in let inside = i.inside in of-lt before len (omega arith),
)

pub not-inside : (text : List ℕ) (pc before : ℕ)
    → ((words : List ℕ) → AreWordsAt text (pc - 4 * before) words → IsAuthenticatedCall words → ⊥)
    → IsInsideCallAfter text pc before → ⊥
not-inside text pc before none i =
    let at : i.start ≡ pc - 4 * before = (let e = i.place in omega arith) in
    let P : ℕ → Type 0 = λ n. AreWordsAt text n i.words in
    none i.words (subst P at i.stands) i.call

pub inside-short : (text : List ℕ) (pc before : ℕ) → IsInsideCallAfter text pc before → before < 6
inside-short text pc before i = let short = call-short i.words i.call in let inside = i.inside in omega arith

-- ---- the rest of an epilogue

pub rest-forward : (text : List ℕ) (at word : ℕ) (places : Places) → word_at text at ≡ Some word
    → is_restoring word ≡ true → (rule : UnwindRuleAarch64) → IsRestOfEpilogue text at places rule
    → IsRestOfEpilogue text (at + 4) (places_after places word) rule
rest-forward text at word places there is rule rest =
    forward rest.restoring rest.end rest.stands rest.restore rest.ends rest.made where
      forward : (restoring end : List ℕ) → AreWordsAt text at (restoring ++ end) → AllRestoring restoring
          → IsEnd (places_after_all places restoring).sp end → IsRuleOfPlaces (places_after_all places restoring) rule
          → IsRestOfEpilogue text (at + 4) (places_after places word) rule
      forward [] end stands restore ends made =
          let unlike : is_restoring word ≡ false = end-not-restoring text at word places.sp end ends stands there in cc
      forward (w ∷ restoring) end stands restore ends made =
          let same : w ≡ word = same_Some w word (sym stands.0 ∙ there) in
          let P : ℕ → Type 0 = λ v. IsRestOfEpilogue text (at + 4) (places_after places v) rule in
          subst P same (record {
            restoring = restoring;
            end = end;
            stands = stands.1;
            restore = restore.1;
            ends = ends;
            made = made;
          })

pub rest-back : (text : List ℕ) (at word : ℕ) (places : Places) → word_at text at ≡ Some word → is_restoring word ≡ true
    → (rule : UnwindRuleAarch64) → IsRestOfEpilogue text (at + 4) (places_after places word) rule
    → IsRestOfEpilogue text at places rule
rest-back text at word places there is rule rest = record {
  restoring = word ∷ rest.restoring;
  end = rest.end;
  stands = (there, rest.stands);
  restore = (is, rest.restore);
  ends = rest.ends;
  made = rest.made;
}

-- where nothing restores any more, the end is there, and the rule is that of the places
pub rest-end : (text : List ℕ) (at : ℕ) (places : Places)
    → ((word : ℕ) → word_at text at ≡ Some word → is_restoring word ≡ true → ⊥) → (rule : UnwindRuleAarch64)
    → IsRestOfEpilogue text at places rule → Ends text at places.sp × IsRuleOfPlaces places rule
rest-end text at places none rule rest =
    at_end rest.restoring rest.end rest.stands rest.restore rest.ends rest.made where
      at_end : (restoring end : List ℕ) → AreWordsAt text at (restoring ++ end) → AllRestoring restoring
          → IsEnd (places_after_all places restoring).sp end → IsRuleOfPlaces (places_after_all places restoring) rule
          → Ends text at places.sp × IsRuleOfPlaces places rule
      at_end [] end stands restore ends made = ((end, stands, ends), made)
      at_end (w ∷ restoring) end stands restore ends made = absurd (none w stands.0 restore.0)

pub end-rest : (text : List ℕ) (at : ℕ) (places : Places) → Ends text at places.sp → (rule : UnwindRuleAarch64)
    → IsRuleOfPlaces places rule → IsRestOfEpilogue text at places rule
end-rest text at places (words, stands, ends) rule made = record {
  restoring = [];
  end = words;
  stands = stands;
  restore = tt;
  ends = ends;
  made = made;
}
