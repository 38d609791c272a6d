-- Texts that are taken one after another.
use Rattle.std.proofs.Common.{◌≡◌, ℕ, zero, suc, ◌+◌, Bool, true, false, nat_eq, List, [], ◌∷◌, ◌++◌, Option, Some, None, Result, Ok, Err, OnOk, cond, refl, ap, sym, ◌∙◌, subst, append-nil, true≢false, arith}
use Rattle.std.specs.Prelude.{unwrap_or, not, length}
use Rattle.std.specs.Cmp.Lexicographic.{pointwise, same_text, other_text}
use Rattle.std.specs.Io.KnownBytes.{Appends}
use Rattle.std.specs.Result.{IfOk, is_err, result_and}
use Rattle.std.proofs.lemmas.List.{flat_map_more, map_push, length-append}
use Rattle.std.proofs.lemmas.List.Sums.{sum_by_push}
use Rattle.std.proofs.KnownBytes.{Appends-trans}
use Rattle.framehop_folded.specs.Folded.{entry_of, count_in, IsInOrderOfBytes}
use Rattle.framehop_folded.specs.declared.folded.Folded.{Folded}
use Rattle.framehop_perf_stacks.specs.Counts.{CountsOneMore, HasSameSamples}
use Rattle.framehop_perf_stacks.specs.declared.counts.Counts.{Counts}
use Rattle.framehop_recording.specs.Records.{RecordView}
use Rattle.framehop_perf_stacks.specs.Samples.{Told, Each, occurrences, more, IsTextTaken, AreTextsTaken, IsTaken, AreTaken, HasSamplesMore, AreSummed, texts_of, shown_of, ends_of, unsure_among, guessed_among, in_vdso_among, cut_among, lost_over, IsMade}

-- one more of each list
pub Each-more : {A B : Type 0} (R : A → B → Type 0) (xs : List A) (ys : List B) (a : A) (b : B) → Each R xs ys → R a b
    → Each R (xs ++ a ∷ []) (ys ++ b ∷ [])
Each-more R [] [] a b each last = (last, tt)
Each-more R [] (y ∷ ys) a b each last = absurd each
Each-more R (x ∷ xs) [] a b each last = absurd each
Each-more R (x ∷ xs) (y ∷ ys) a b each last = (each.0, Each-more R xs ys a b each.1 last)

occurrences-more : (line : List ℕ) (texts : List (List ℕ)) (text : List ℕ) (b : Bool) → b ≡ pointwise nat_eq line text
    → occurrences line (texts ++ text ∷ []) ≡ occurrences line texts + cond b 1 0
occurrences-more line texts text b e =
    sum_by_push (λ t. cond (pointwise nat_eq line t) 1 0) texts text
    ∙ ap (λ c. occurrences line texts + cond c 1 0) (sym e)

more-one : (entry : Option ℕ) (n : ℕ) → Some (unwrap_or (more entry n) 0 + 1) ≡ more entry (n + 1)
more-one entry zero = refl
more-one entry (suc n) =
    let next : suc n + 1 ≡ suc (suc n) = omega arith in
    let sum : unwrap_or entry 0 + suc n + 1 ≡ unwrap_or entry 0 + suc (suc n) = omega arith in
    ap Some sum ∙ ap (more entry) (sym next)

module _ (texts : List (List ℕ)) (text : List ℕ) (old mid new : Folded)
    (before : (line : List ℕ) → entry_of mid line ≡ more (entry_of old line) (occurrences line texts))
    (one : CountsOneMore mid new text) where
  counted-by : (line : List ℕ) (b : Bool) → b ≡ pointwise nat_eq line text
      → entry_of new line ≡ more (entry_of old line) (occurrences line texts + cond b 1 0)
  counted-by line true e =
      let same : line ≡ text = same_text line text e in
      ap (entry_of new) same ∙ one.counted ∙ ap (λ l. Some (count_in mid l + 1)) (sym same)
      ∙ ap (λ entry. Some (unwrap_or entry 0 + 1)) (before line) ∙ more-one (entry_of old line) (occurrences line texts)
  counted-by line false e =
      one.others line (other_text line text e) ∙ before line
      ∙ ap (more (entry_of old line)) (omega arith)

  pub counted-more : (line : List ℕ) → entry_of new line ≡ more (entry_of old line) (occurrences line (texts ++ text ∷ []))
  counted-more line =
      counted-by line (pointwise nat_eq line text) refl
      ∙ ap (more (entry_of old line)) (sym (occurrences-more line texts text (pointwise nat_eq line text) refl))

-- a sample whose text is taken after others
texts-more : (frames : Bool) (samples : List Told) (told : Told) (old mid new : Folded) (first before after : Option (List ℕ))
    → AreTextsTaken frames samples old mid first before → IsTextTaken frames told mid new before after
    → AreTextsTaken frames (samples ++ told ∷ []) old new first after
texts-more true samples told old mid new first before after taken one = (
  one.0 ∙ taken.0,
  subst (λ bytes. Appends first after bytes) (flat_map_more (λ (t : Told). t.shown) [] samples told)
      (Appends-trans first before after (shown_of samples) told.shown taken.1 one.1),
)
texts-more false samples told old mid new first before after taken one = (
  λ line. counted-more (texts_of samples) told.text old mid new taken.0 one.0 line
      ∙ ap (λ texts. more (entry_of old line) (occurrences line texts)) (sym (map_push (λ (t : Told). t.text) samples told)),
  one.1 ∙ taken.1,
)

-- nothing that is taken
texts-none : (frames : Bool) (folded : Folded) (bytes : Option (List ℕ)) → AreTextsTaken frames [] folded folded bytes bytes
texts-none true folded None = (refl, tt)
texts-none true folded (Some bytes) = (refl, sym (append-nil bytes))
texts-none false folded bytes = (λ line. refl, refl)

-- ---- samples

not-sure : (sure : Bool) → ◌≡◌ {A = ℕ} (cond (not sure) 1 0) (cond sure 0 1)
not-sure true = refl
not-sure false = refl

-- a sample that is taken after others
pub AreTaken-more : (frames : Bool) (samples : List Told) (told : Told) (old mid new : Counts) (first before after : Option (List ℕ))
    → AreTaken frames samples old mid first before → IsTaken frames told mid new before after
    → AreTaken frames (samples ++ told ∷ []) old new first after
AreTaken-more frames samples told old mid new first before after taken one =
    let unsure : unsure_among (samples ++ told ∷ []) ≡ unsure_among samples + cond (not told.is_sure) 1 0 =
    sum_by_push (λ (t : Told). cond (not t.is_sure) 1 0) samples told in
    let guessed : guessed_among (samples ++ told ∷ []) ≡ guessed_among samples + cond told.has_guess 1 0 =
    sum_by_push (λ (t : Told). cond t.has_guess 1 0) samples told in
    let cut : cut_among (samples ++ told ∷ []) ≡ cut_among samples + cond told.is_cut 1 0 =
    sum_by_push (λ (t : Told). cond t.is_cut 1 0) samples told in
    let vdso : in_vdso_among (samples ++ told ∷ []) ≡ in_vdso_among samples + cond told.in_vdso 1 0 =
    sum_by_push (λ (t : Told). cond t.in_vdso 1 0) samples told in
    let size : length (samples ++ told ∷ []) ≡ length samples + 1 = length-append samples (told ∷ []) in (
      record {
        count = omega (arith, one.0.samples, taken.0.count, size);
        unsure = omega (arith, one.0.unsure, taken.0.unsure, unsure, not-sure told.is_sure);
        guessed = omega (arith, one.0.guessed, taken.0.guessed, guessed);
        cut = omega (arith, one.0.cut, taken.0.cut, cut);
        in_vdso = omega (arith, one.0.in_vdso, taken.0.in_vdso, vdso);
        ends = λ end. counted-more (ends_of samples) told.end old.ends mid.ends new.ends taken.0.ends one.0.ends end
            ∙ ap (λ ends. more (entry_of old.ends end) (occurrences end ends)) (sym (map_push (λ (t : Told). t.end) samples told));
      },
      texts-more frames samples told old.stacks mid.stacks new.stacks first before after taken.1 one.1,
    )

-- nothing that is taken
pub AreTaken-none : (frames : Bool) (counts : Counts) (bytes : Option (List ℕ)) → AreTaken frames [] counts counts bytes bytes
AreTaken-none frames counts bytes =
    (record { count = omega arith; unsure = omega arith; guessed = omega arith; cut = omega arith; in_vdso = omega arith; ends = λ end. refl }, texts-none frames counts.stacks bytes)

-- what is taken where another record is passed over
pub AreTaken-same : (frames : Bool) (samples : List Told) (old mid new : Counts) (first before after : Option (List ℕ))
    → AreTaken frames samples old mid first before → HasSameSamples mid new → after ≡ before
    → AreTaken frames samples old new first after
AreTaken-same frames samples old mid new first before after taken same kept = (
  record {
    count = same.samples ∙ taken.0.count;
    unsure = same.unsure ∙ taken.0.unsure;
    guessed = same.guessed ∙ taken.0.guessed;
    cut = same.cut ∙ taken.0.cut;
    in_vdso = same.in_vdso ∙ taken.0.in_vdso;
    ends = λ end. ap (λ folded. entry_of folded end) same.ends ∙ taken.0.ends end;
  },
  subst (λ folded. AreTextsTaken frames samples old.stacks folded first after) (sym same.stacks)
      (subst (λ bytes. AreTextsTaken frames samples old.stacks mid.stacks first bytes) (sym kept) taken.1),
)

-- the counts of all samples, from none on
pub summed : (samples : List Told) (records : List RecordView) (old new : Counts) → HasSamplesMore samples old new
    → old.samples ≡ 0 → old.unsure ≡ 0 → old.guessed ≡ 0 → old.cut ≡ 0 → old.in_vdso ≡ 0 → ((end : List ℕ) → entry_of old.ends end ≡ None) → new.lost ≡ lost_over records 0
    → IsInOrderOfBytes new.ends → AreSummed samples records new
summed samples records old new more-of none sure unguessed uncut outside endless lost ordered = record {
  count = omega (arith, more-of.count, none);
  unsure = omega (arith, more-of.unsure, sure);
  guessed = omega (arith, more-of.guessed, unguessed);
  cut = omega (arith, more-of.cut, uncut);
  in_vdso = omega (arith, more-of.in_vdso, outside);
  lost = lost;
  ends = λ end. more-of.ends end ∙ ap (λ entry. more entry (occurrences end (ends_of samples))) (endless end);
  ordered = ordered;
}

-- what is made of all samples
pub made : (frames : Bool) (samples : List Told) (old new : Folded) (before after : Option (List ℕ))
    → AreTextsTaken frames samples old new before after → ((line : List ℕ) → entry_of old line ≡ None) → IsMade frames samples new before after
made true samples old new before after taken none = (λ line. ap (λ folded. entry_of folded line) taken.0 ∙ none line, taken.1)
made false samples old new before after taken none =
    (λ line. taken.0 line ∙ ap (λ entry. more entry (occurrences line (texts_of samples))) (none line), taken.1)

-- what holds where the second of two results is `Ok`, holds where both are
pub both_ok : {T U E : Type 0} {A : Type 0} (first : Result T E) (second : Result U E) (value : U) → result_and first second ≡ Ok value → OnOk second A → A
both_ok (Ok x) (Ok y) value is told = told
both_ok (Ok x) (Err refusal) value is told = absurd (true≢false (ap is_err is))
both_ok (Err refusal) second value is told = absurd (true≢false (ap is_err is))

pub at_ok : {T E : Type 0} (result : Result T E) (value : T) (P : T → Type 0) → result ≡ Ok value → P value → IfOk result P
at_ok result value P is holds = subst (λ r. IfOk r P) (sym is) holds
