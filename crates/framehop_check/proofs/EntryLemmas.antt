-- The entries of a section, read one at a time.
use Rattle.std.proofs.Common.{◌≡◌, ℕ, ◌+◌, List, [], ◌∷◌, ◌++◌, refl, sym, ap, ◌∙◌, arith, append_assoc}
use Rattle.std.specs.Io.Iter.{u64_saturate}
use Rattle.std.proofs.lemmas.List.{append-nil}
use Rattle.framehop_cfi.specs.Section.{Section}
use Rattle.framehop_cfi.specs.declared.entry.FrameDescriptionEntry.{FrameDescriptionEntry}
use Rattle.framehop_check.specs.declared.entries.Entry.{Entry}
use Rattle.framehop_check.specs.declared.entries.Entry.TheVariants.{Fde, Other, Unreadable}
use Rattle.framehop_check.specs.Entries.{AreEntries, with_entry, fdes_of, one_if_unreadable, unreadable_in}

with-more : (entry : Entry) (fdes more : List FrameDescriptionEntry) → with_entry entry (fdes ++ more) ≡ with_entry entry fdes ++ more
with-more (Fde fde) fdes more = refl
with-more Other fdes more = refl
with-more Unreadable fdes more = refl

-- one entry more
pub fdes-push : (before : List Entry) (entry : Entry) → fdes_of (before ++ entry ∷ []) ≡ fdes_of before ++ with_entry entry []
fdes-push [] entry = refl
fdes-push (first ∷ before) entry =
    ap (with_entry first) (fdes-push before entry) ∙ with-more first (fdes_of before) (with_entry entry [])

pub unreadable-push : (before : List Entry) (entry : Entry) → unreadable_in (before ++ entry ∷ []) ≡ unreadable_in before + one_if_unreadable entry
unreadable-push [] entry = omega arith
unreadable-push (first ∷ before) entry = let rest = unreadable-push before entry in omega (arith, rest)

pub entries-push : (section : Section) (before entries : List Entry) (entry : Entry)
    → AreEntries section 0 (before ++ (entry ∷ entries)) → AreEntries section 0 ((before ++ entry ∷ []) ++ entries)
entries-push section before entries entry all = rw (append_assoc before (entry ∷ []) entries) all

one-more : (sum count : ℕ) → count ≡ u64_saturate sum → u64_saturate (count + 1) ≡ u64_saturate (sum + 1)
one-more sum count is = grind arith

-- what is read of one entry more
module _ (before : List Entry) (entry : Entry) where
  pub one-fde : (fde : FrameDescriptionEntry) (fdes more : List FrameDescriptionEntry) → entry ≡ Fde fde
      → fdes ≡ fdes_of before → more ≡ fdes ++ fde ∷ [] → more ≡ fdes_of (before ++ entry ∷ [])
  one-fde fde fdes more is so pushed =
      let all = fdes-push before entry ∙ ap (λ (e : Entry). fdes_of before ++ with_entry e []) is in cc

  pub no-fde : (fdes : List FrameDescriptionEntry) → with_entry entry [] ≡ [] → fdes ≡ fdes_of before
      → fdes ≡ fdes_of (before ++ entry ∷ [])
  no-fde fdes none so =
      so ∙ sym (fdes-push before entry ∙ ap (λ (more : List FrameDescriptionEntry). fdes_of before ++ more) none ∙ append-nil (fdes_of before))

  pub one-unreadable : (count more : ℕ) → one_if_unreadable entry ≡ 1 → count ≡ u64_saturate (unreadable_in before)
      → more ≡ u64_saturate (count + 1) → more ≡ u64_saturate (unreadable_in (before ++ entry ∷ []))
  one-unreadable count more one so is =
      is ∙ one-more (unreadable_in before) count so ∙ ap u64_saturate (let all = unreadable-push before entry in omega (arith, all, one))

  pub none-unreadable : (count : ℕ) → one_if_unreadable entry ≡ 0 → count ≡ u64_saturate (unreadable_in before)
      → count ≡ u64_saturate (unreadable_in (before ++ entry ∷ []))
  none-unreadable count none so = so ∙ ap u64_saturate (let all = unreadable-push before entry in omega (arith, all, none))
