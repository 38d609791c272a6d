-- The pairs of a section, read one entry at a time.
use Rattle.std.proofs.Common.{◌≡◌, ℕ, zero, suc, ◌+◌, ◌<◌, ◌^◌, List, [], ◌∷◌, ◌++◌, length, map, Option, Some, None, true, false, Result, Ok, Err, refl, ap, ◌∙◌, arith, append_assoc, is_err, is_ok, if◌then◌else◌}
use Rattle.std.proofs.lemmas.Bool.{lt-leb}
use Rattle.std.proofs.lemmas.Bool.Decides.{nat_tests}
use Rattle.framehop_cfi.specs.Entry.{fde_at}
use Rattle.framehop_cfi.specs.declared.entry.FrameDescriptionEntry.{FrameDescriptionEntry}
use Rattle.std.proofs.lemmas.List.{append-nil, map_push}
use Rattle.framehop_bytes.specs.Bytes.{◌>>=◌}
use Rattle.framehop_cfi.specs.EntryExtent.{extent_at, is_zero_length}
use Rattle.framehop_cfi.specs.Section.{Section}
use Rattle.framehop_cfi.specs.Entries.{Cut, cut_from, cut, after_zero}
use Rattle.framehop_cfi.specs.declared.extent.EntryExtent.{EntryExtent}
use Rattle.framehop_cfi.specs.declared.entry.UnwindSectionType.{UnwindSectionType}
use Rattle.framehop_cfi.specs.declared.entry.UnwindSectionType.TheVariants.{EhFrame, DebugFrame}
use Rattle.framehop_cfi.specs.declared.read_error.ReadError.{ReadError}
use Rattle.framehop_dwarf.specs.declared.index.DwarfCfiIndexError.{DwarfCfiIndexError}
use Rattle.framehop_dwarf.specs.declared.index.DwarfCfiIndexError.TheVariants.{Gimli}
use Rattle.framehop_dwarf.specs.Index.{pair_at, pair_if_read, pairs_at, pairs_of, unless_refused, pair_of_key}

-- the pairs of a cut
abbrev pub of_cut : Section → ℕ → Cut → Result (List (ℕ × ℕ)) DwarfCfiIndexError
of_cut section base cut = unless_refused cut.refusal (pairs_at section base cut.offsets)

-- the pairs read so far, and then those of the entries that are left
abbrev pub left : Section → ℕ → List (ℕ × ℕ) → ℕ → ℕ → Result (List (ℕ × ℕ)) DwarfCfiIndexError
left section base pairs n at = of_cut section base (cut_from section n at) >>= λ others. Ok (pairs ++ others)

-- there is an entry at the place, within so many steps
abbrev pub IsIn : Section → ℕ → ℕ → Type 0
IsIn section n at = (length section.bytes < n + at) × (at < length section.bytes)

-- the same pairs, from a place further on
abbrev pub GoesOn : Section → ℕ → List (ℕ × ℕ) → List (ℕ × ℕ) → ℕ → ℕ → ℕ → Type 0
GoesOn section base pairs more n at next =
    (m : ℕ) × (length section.bytes < m + next) × (left section base more m next ≡ left section base pairs n at)

ends : (kind : UnwindSectionType) (rest : Cut) (section : Section) (base : ℕ) → kind ≡ EhFrame → of_cut section base (after_zero kind rest) ≡ Ok []
ends kind rest section base is = ap (λ k. of_cut section base (after_zero k rest)) is

passes : (kind : UnwindSectionType) (rest : Cut) (section : Section) (base : ℕ) → kind ≡ DebugFrame → of_cut section base (after_zero kind rest) ≡ of_cut section base rest
passes kind rest section base is = ap (λ k. of_cut section base (after_zero k rest)) is

joined : (pairs : List (ℕ × ℕ)) (pair : ℕ × ℕ) (others : List (ℕ × ℕ)) (refusal : Option ReadError) → (unless_refused refusal others >>= λ others. Ok ((pairs ++ pair ∷ []) ++ others)) ≡ (unless_refused refusal (pair ∷ others) >>= λ others. Ok (pairs ++ others))
joined pairs pair others None = ap Ok (append_assoc pairs (pair ∷ []) others)
joined pairs pair others (Some error) = refl

module _ (section : Section) (base : ℕ) (pairs : List (ℕ × ℕ)) where
  pub extent-refused : (n at : ℕ) (error : ReadError) → IsIn section n at → extent_at section.bytes at ≡ Err error → left section base pairs n at ≡ Err (Gimli error)
  extent-refused zero at error inside is = absurd (omega arith)
  extent-refused (suc n) at error inside is = rw (lt-leb (length section.bytes) at inside.1, is) refl

  pub ended : (n at : ℕ) (extent : EntryExtent) → IsIn section n at → extent_at section.bytes at ≡ Ok extent → is_zero_length extent ≡ true → section.kind ≡ EhFrame → left section base pairs n at ≡ Ok pairs
  ended zero at extent inside is zeros kind = absurd (omega arith)
  ended (suc n) at extent inside is zeros kind =
      rw (lt-leb (length section.bytes) at inside.1, is) (rw zeros (rw (ends section.kind (cut_from section n extent.end) section base kind) (ap Ok (append-nil pairs))))

  pub past-other : (n at : ℕ) (extent : EntryExtent) → IsIn section n at → at < extent.end → extent_at section.bytes at ≡ Ok extent → is_zero_length extent ≡ false → pair_at section base at ≡ None → GoesOn section base pairs pairs n at extent.end
  past-other zero at extent inside behind is some read = absurd (omega arith)
  past-other (suc n) at extent inside behind is some read =
      (n, omega arith, rw (lt-leb (length section.bytes) at inside.1, is) (rw some (rw read refl)))

  pub past-fde : (n at : ℕ) (extent : EntryExtent) (pair : ℕ × ℕ) → IsIn section n at → at < extent.end → extent_at section.bytes at ≡ Ok extent → is_zero_length extent ≡ false → pair_at section base at ≡ Some pair → GoesOn section base pairs (pairs ++ pair ∷ []) n at extent.end
  past-fde zero at extent pair inside behind is some read = absurd (omega arith)
  past-fde (suc n) at extent pair inside behind is some read =
      (n, omega arith, rw (lt-leb (length section.bytes) at inside.1, is) (rw some (rw read (joined pairs pair (pairs_at section base (cut_from section n extent.end).offsets) (cut_from section n extent.end).refusal))))

-- no pair in front
unfronted : (pairs : Result (List (ℕ × ℕ)) DwarfCfiIndexError) → (pairs >>= λ others. Ok ([] ++ others)) ≡ pairs
unfronted (Ok pairs) = refl
unfronted (Err error) = refl

-- before the first entry
pub begins : (section : Section) (base : ℕ) (pairs : List (ℕ × ℕ)) → pairs ≡ [] → left section base pairs (suc (length section.bytes)) 0 ≡ pairs_of section base
unfolding cut pairs_of
begins section base pairs none = rw none (unfronted _)

-- what a push leaves that was not refused
pub pushed : {A T E : Type 0} (result : Result T E) (items more same : A) → is_err result ≡ false → items ≡ (if is_ok result then more else same) → items ≡ more
pushed (Ok done) items more same kept is = is
pushed (Err error) items more same kept is = cc

-- one more key is one more pair
pub keyed : (keys : List ℕ) (key : ℕ) (pair : ℕ × ℕ) → pair_of_key key ≡ pair → map pair_of_key (keys ++ key ∷ []) ≡ map pair_of_key keys ++ pair ∷ []
keyed keys key pair is = map_push pair_of_key keys key ∙ ap (λ p. map pair_of_key keys ++ p ∷ []) is

-- the offset of a pair fits 32 bits
pub offset-small : (section : Section) (base at : ℕ) (pair : ℕ × ℕ) → pair_at section base at ≡ Some pair → at < 2 ^ 32
unfolding pair_at
offset-small section base at pair is = if-read (fde_at section at) is
  where
    if-read : (read : Result FrameDescriptionEntry ReadError) → pair_if_read base at read ≡ Some pair → at < 2 ^ 32
    if-read (Err error) is = cc
    if-read (Ok fde) is = grind (arith, nat_tests)
