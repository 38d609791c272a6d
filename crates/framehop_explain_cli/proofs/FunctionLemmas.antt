-- The lines of a section's entries, one entry at a time.
use Rattle.std.proofs.Common.{◌≡◌, ◌∙◌, ℕ, zero, suc, ◌+◌, ◌<◌, ◌≤◌, Bool, true, false, List, [], ◌++◌, length, Ok, Err, refl, ap, sym, append_assoc, append-nil, arith}
use Rattle.std.proofs.lemmas.Bool.{lt-leb, le-leb}
use Rattle.std.specs.List.{flat_map}
use Rattle.framehop_cfi.specs.Entry.{head_at}
use Rattle.framehop_cfi.specs.EntryExtent.{extent_at, is_zero_length}
use Rattle.framehop_cfi.specs.Entries.{Cut, cut_from, cut, after_zero}
use Rattle.framehop_cfi.specs.Section.{Section}
use Rattle.framehop_cfi.specs.declared.extent.EntryExtent.{EntryExtent}
use Rattle.framehop_cfi.specs.declared.entry.UnwindSectionType.{UnwindSectionType}
use Rattle.framehop_cfi.specs.declared.entry.UnwindSectionType.TheVariants.{EhFrame, DebugFrame}
use Rattle.framehop_cfi.specs.declared.read_error.ReadError.{ReadError}
use Rattle.framehop_explain_cli.specs.Functions.{entry_line, ends_section, function_lines}

-- the lines of a cut
abbrev pub lines_of : Section → Cut → List ℕ
lines_of section cut = flat_map (entry_line section) cut.offsets

-- the lines so far, and then those of the entries that are left
abbrev pub left : Section → List ℕ → ℕ → ℕ → List ℕ
left section text n at = text ++ lines_of section (cut_from section n at)

-- there is an entry at the place, within so many steps
abbrev pub IsIn : Section → ℕ → ℕ → Type 0
IsIn section n at = (length section.bytes < n + at) × (at < length section.bytes)

-- the same lines, from a place further on
abbrev pub GoesOn : Section → List ℕ → List ℕ → ℕ → ℕ → ℕ → Type 0
GoesOn section text more n at next =
    (m : ℕ) × (length section.bytes < m + next) × (left section more m next ≡ left section text n at)

ends : (section : Section) (kind : UnwindSectionType) (rest : Cut) → kind ≡ EhFrame → lines_of section (after_zero kind rest) ≡ []
ends section kind rest is = ap (λ k. lines_of section (after_zero k rest)) is

passes : (section : Section) (kind : UnwindSectionType) (rest : Cut) → kind ≡ DebugFrame → lines_of section (after_zero kind rest) ≡ lines_of section rest
passes section kind rest is = ap (λ k. lines_of section (after_zero k rest)) is

-- a length of 0 has no line
zero-line : (section : Section) (at : ℕ) (extent : EntryExtent) → extent_at section.bytes at ≡ Ok extent → is_zero_length extent ≡ true → entry_line section at ≡ []
unfolding entry_line head_at
zero-line section at extent is zeros = rw is (rw zeros refl)

module _ (section : Section) (text : List ℕ) where
  pub extent-refused : (n at : ℕ) (error : ReadError) → IsIn section n at → extent_at section.bytes at ≡ Err error → left section text n at ≡ text
  extent-refused zero at error inside is = absurd (omega arith)
  extent-refused (suc n) at error inside is = rw (lt-leb (length section.bytes) at inside.1, is) (append-nil text)

  ended-by : (n at : ℕ) (extent : EntryExtent) (kind : UnwindSectionType) → section.kind ≡ kind → IsIn section n at → extent_at section.bytes at ≡ Ok extent → ends_section kind extent ≡ true → left section text n at ≡ text
  ended-by zero at extent kind is_kind inside is ending = absurd (omega arith)
  ended-by (suc n) at extent EhFrame is_kind inside is ending =
      rw (lt-leb (length section.bytes) at inside.1, is) (rw ending (ap (λ lines. text ++ lines) (ends section section.kind (cut_from section n extent.end) is_kind) ∙ append-nil text))
  ended-by (suc n) at extent DebugFrame is_kind inside is ending = absurd cc

  pub ended : (n at : ℕ) (extent : EntryExtent) → IsIn section n at → extent_at section.bytes at ≡ Ok extent → ends_section section.kind extent ≡ true → left section text n at ≡ text
  ended n at extent inside is ending = ended-by n at extent section.kind refl inside is ending

  past-zero : (n at : ℕ) (extent : EntryExtent) → IsIn section n at → at < extent.end → extent_at section.bytes at ≡ Ok extent → is_zero_length extent ≡ true → section.kind ≡ DebugFrame → GoesOn section text (text ++ entry_line section at) n at extent.end
  past-zero zero at extent inside behind is zeros kind = absurd (omega arith)
  past-zero (suc n) at extent inside behind is zeros kind = (
    n,
    omega arith,
    ap (λ line. left section (text ++ line) n extent.end) (zero-line section at extent is zeros) ∙ ap (λ t. left section t n extent.end) (append-nil text)
        ∙ rw (lt-leb (length section.bytes) at inside.1, is) (rw zeros (ap (λ lines. text ++ lines) (sym (passes section section.kind (cut_from section n extent.end) kind)))),
  )

  past-entry : (n at : ℕ) (extent : EntryExtent) → IsIn section n at → at < extent.end → extent_at section.bytes at ≡ Ok extent → is_zero_length extent ≡ false → GoesOn section text (text ++ entry_line section at) n at extent.end
  past-entry zero at extent inside behind is some = absurd (omega arith)
  past-entry (suc n) at extent inside behind is some =
      (n, omega arith, rw (lt-leb (length section.bytes) at inside.1, is) (rw some (append_assoc text (entry_line section at) (lines_of section (cut_from section n extent.end)))))

  past-by : (n at : ℕ) (extent : EntryExtent) (kind : UnwindSectionType) → section.kind ≡ kind → (zero_length : Bool) → is_zero_length extent ≡ zero_length → IsIn section n at → at < extent.end → extent_at section.bytes at ≡ Ok extent → ends_section kind extent ≡ false → GoesOn section text (text ++ entry_line section at) n at extent.end
  past-by n at extent EhFrame is_kind zero_length is_zero inside behind is goes = past-entry n at extent inside behind is goes
  past-by n at extent DebugFrame is_kind true is_zero inside behind is goes = past-zero n at extent inside behind is is_zero is_kind
  past-by n at extent DebugFrame is_kind false is_zero inside behind is goes = past-entry n at extent inside behind is is_zero

  pub past : (n at : ℕ) (extent : EntryExtent) → IsIn section n at → at < extent.end → extent_at section.bytes at ≡ Ok extent → ends_section section.kind extent ≡ false → GoesOn section text (text ++ entry_line section at) n at extent.end
  past n at extent inside behind is goes = past-by n at extent section.kind refl (is_zero_length extent) refl inside behind is goes

  pub at-end : (n at : ℕ) → length section.bytes ≤ at → left section text n at ≡ text
  at-end zero at past = append-nil text
  at-end (suc n) at past = rw (le-leb (length section.bytes) at past) (append-nil text)

-- before the first entry
pub begins : (section : Section) (text : List ℕ) → left section text (suc (length section.bytes)) 0 ≡ text ++ function_lines section
unfolding cut function_lines
begins section text = refl
