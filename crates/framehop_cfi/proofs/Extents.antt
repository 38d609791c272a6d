-- An entry ends after the offset where it begins, in the bytes.
use Rattle.std.proofs.Common.{◌≡◌, ℕ, ◌+◌, ◌-◌, ◌<◌, ◌≤◌, List, length, Result, Ok, Err, refl, subst, arith, inl, inr, leb, ltb, ◌==◌}
use Rattle.std.proofs.lemmas.Bool.{lt-leb, le-leb, cases_Bool, cases_lt}
use Rattle.framehop_bytes.specs.Bytes.{◌>>=◌}
use Rattle.framehop_cfi.specs.Numbers.{u32_at, u64_at}
use Rattle.framehop_cfi.specs.EntryExtent.{held, long_extent, extent_at}
use Rattle.framehop_cfi.specs.Entry.{eh_frame_id, short_id, long_id, id_at}
use Rattle.framehop_cfi.specs.declared.extent.EntryExtent.{EntryExtent}
use Rattle.framehop_cfi.specs.declared.entry.UnwindSectionType.{UnwindSectionType}
use Rattle.framehop_cfi.specs.declared.entry.UnwindSectionType.TheVariants.{EhFrame, DebugFrame}
use Rattle.framehop_cfi.specs.declared.entry.EntryHead.{EntryHead}
use Rattle.framehop_cfi.specs.declared.entry.EntryHead.TheVariants.{ZeroLength, Cie, Fde}
use Rattle.framehop_cfi.specs.declared.read_error.ReadError.{ReadError}
use Rattle.framehop_cfi.proofs.Forward.{u32-reaches, u64-reaches}

-- where an entry ends, or a length of 0
abbrev pub end_of : EntryHead → ℕ
end_of (ZeroLength end) = end
end_of (Cie fields end) = end
end_of (Fde cie_offset fields end) = end

pub bind_ok : {A B E : Type 0} (r : Result A E) (f : A → Result B E) (y : B) → (r >>= f) ≡ Ok y → (x : A) × (r ≡ Ok x) × (f x ≡ Ok y)
bind_ok (Ok x) f y is = (x, refl, is)
bind_ok (Err e) f y is = cc

-- an extent lies in the bytes, after its offset
pub record Within (bytes : List ℕ) (at : ℕ) (extent : EntryExtent) : Type 0 where
  pub behind : at < extent.contents
  pub ordered : extent.contents ≤ extent.end
  pub inside : extent.end ≤ length bytes

one-extent : (a b : EntryExtent) → ◌≡◌ {A = Result EntryExtent ReadError} (Ok a) (Ok b) → a ≡ b
one-extent a b is = cc

held-within : (bytes : List ℕ) (at size contents len : ℕ) (extent : EntryExtent) → at < contents → held bytes size contents len ≡ Ok extent → Within bytes at extent
held-within bytes at size contents len extent past is =
    elim (cases_lt (length bytes) (contents + len)) [
      | inl beyond ↦ (let e = rw (lt-leb (contents + len) (length bytes) beyond) at is in cc)
      | inr fits ↦
          let e = rw (le-leb (contents + len) (length bytes) fits) at is in
          let made : EntryExtent = record { contents = contents; end = contents + len; offset_size = size } in
          let all : Within bytes at made = record { behind = past; ordered = omega arith; inside = fits } in
          subst (λ s. Within bytes at s) (one-extent made extent e) all
    ]

pub extent-within : (bytes : List ℕ) (at : ℕ) (extent : EntryExtent) → extent_at bytes at ≡ Ok extent → Within bytes at extent
unfolding extent_at long_extent
extent-within bytes at extent is =
    let short = bind_ok (u32_at bytes at) _ extent is in
    let past : at < short.0.1 = rw short.1 at (u32-reaches bytes at) in
    elim (cases_Bool (ltb short.0.0 0xFFFFFFF0)) [
      | inl small ↦ held-within bytes at 4 short.0.1 short.0.0 extent past (rw small at short.2)
      | inr large ↦
          let e = rw large at short.2 in
          elim (cases_Bool (short.0.0 == 0xFFFFFFFF)) [
            | inl long ↦
                let f = rw long at e in
                let read = bind_ok (u64_at bytes short.0.1) _ extent f in
                let further : short.0.1 < read.0.1 = rw read.1 at (u64-reaches bytes short.0.1) in
                held-within bytes at 8 read.0.1 read.0.0 extent (omega arith) read.2
            | inr reserved ↦ (let f = rw reserved at e in cc)
          ]
    ]

one-head : (a b : EntryHead) (end : ℕ) → ◌≡◌ {A = Result EntryHead ReadError} (Ok a) (Ok b) → end_of a ≡ end → end_of b ≡ end
one-head a b end is there = let e : a ≡ b = cc in subst (λ h. end_of h ≡ end) e there

-- an entry ends where its extent does
module _ (bytes : List ℕ) (extent : EntryExtent) (head : EntryHead) where
  eh-frame-ends : eh_frame_id bytes extent ≡ Ok head → end_of head ≡ extent.end
  unfolding eh_frame_id
  eh-frame-ends is =
      let id = bind_ok (u32_at bytes extent.contents) _ head is in
      elim (cases_Bool (id.0.0 == 0)) [
        | inl cie ↦ one-head (Cie id.0.1 extent.end) head extent.end (rw cie at id.2) refl
        | inr fde ↦
            let e = rw fde at id.2 in
            elim (cases_Bool (leb id.0.0 extent.contents)) [
              | inl near ↦ one-head (Fde (extent.contents - id.0.0) id.0.1 extent.end) head extent.end (rw near at e) refl
              | inr far ↦ (let f = rw far at e in cc)
            ]
      ]

  short-ends : short_id bytes extent ≡ Ok head → end_of head ≡ extent.end
  unfolding short_id
  short-ends is =
      let id = bind_ok (u32_at bytes extent.contents) _ head is in
      elim (cases_Bool (id.0.0 == 0xFFFFFFFF)) [
        | inl cie ↦ one-head (Cie id.0.1 extent.end) head extent.end (rw cie at id.2) refl
        | inr fde ↦ one-head (Fde id.0.0 id.0.1 extent.end) head extent.end (rw fde at id.2) refl
      ]

  long-ends : long_id bytes extent ≡ Ok head → end_of head ≡ extent.end
  unfolding long_id
  long-ends is =
      let id = bind_ok (u64_at bytes extent.contents) _ head is in
      elim (cases_Bool (id.0.0 == 0xFFFFFFFFFFFFFFFF)) [
        | inl cie ↦ one-head (Cie id.0.1 extent.end) head extent.end (rw cie at id.2) refl
        | inr fde ↦ one-head (Fde id.0.0 id.0.1 extent.end) head extent.end (rw fde at id.2) refl
      ]

  pub id-ends : (kind : UnwindSectionType) → id_at kind bytes extent ≡ Ok head → end_of head ≡ extent.end
  id-ends EhFrame is = eh-frame-ends is
  id-ends DebugFrame is =
      elim (cases_Bool (extent.offset_size == 4)) [
        | inl short ↦ short-ends (rw short at is)
        | inr long ↦ long-ends (rw long at is)
      ]
