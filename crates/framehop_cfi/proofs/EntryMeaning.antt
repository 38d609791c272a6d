-- Reading an entry field by field gives the entry that stands there.
use Rattle.std.proofs.Common.{◌≡◌, ℕ, ◌+◌, List, take, slice_range, Result, Ok, Err, refl, ap, sym, subst, inl, inr, leb}
use Rattle.std.proofs.lemmas.Bool.{cases_Bool}
use Rattle.std.specs.Prelude.{IfOk, IfErr}
use Rattle.framehop_cfi.specs.Numbers.{u8_at}
use Rattle.framehop_cfi.specs.Leb128.{uleb_at, sleb_at}
use Rattle.framehop_cfi.specs.Raw.{raw_at, format_of}
use Rattle.framehop_cfi.specs.Pointer.{pointer_at}
use Rattle.framehop_cfi.specs.Augmentation.{terminator_at, augmentation_at}
use Rattle.framehop_cfi.specs.EntryExtent.{extent_at, is_zero_length}
use Rattle.framehop_cfi.specs.Section.{Section}
use Rattle.framehop_cfi.specs.Entry.{
  head_at,
  is_known_version,
  sizes_of,
  return_register_at,
  alignments_at,
  versioned_fields,
  cie_fields,
  cie_of_head,
  cie_at,
  skipped_at,
  fde_range,
  fde_fields,
  fde_of_head,
  fde_at,
}
use Rattle.framehop_cfi.specs.EntryMeaning.{Begins, HasCieFields, IsCie, IsFde}
use Rattle.framehop_cfi.specs.declared.extent.EntryExtent.{EntryExtent}
use Rattle.framehop_cfi.specs.declared.pointer.SectionBaseAddresses.{SectionBaseAddresses}
use Rattle.framehop_cfi.specs.declared.entry.UnwindSectionType.{UnwindSectionType}
use Rattle.framehop_cfi.specs.declared.entry.EntryHead.{EntryHead}
use Rattle.framehop_cfi.specs.declared.entry.EntryHead.TheVariants.{ZeroLength, Cie, Fde}
use Rattle.framehop_cfi.specs.declared.entry.CommonInformationEntry.{CommonInformationEntry}
use Rattle.framehop_cfi.specs.declared.entry.FrameDescriptionEntry.{FrameDescriptionEntry}
use Rattle.framehop_cfi.specs.declared.read_error.ReadError.{ReadError}
use Rattle.framehop_cfi.proofs.AugmentationMeaning.{augmentation-means, means-augmentation}
use Rattle.framehop_cfi.proofs.Extents.{bind_ok, id-ends}

one-cie : (a b : CommonInformationEntry) → ◌≡◌ {A = Result CommonInformationEntry ReadError} (Ok a) (Ok b) → a ≡ b
one-cie a b is = cc

one-head : (a b : EntryHead) → ◌≡◌ {A = Result EntryHead ReadError} (Ok a) (Ok b) → a ≡ b
one-head a b is = cc

one-fde : (a b : FrameDescriptionEntry) → ◌≡◌ {A = Result FrameDescriptionEntry ReadError} (Ok a) (Ok b) → a ≡ b
one-fde a b is = cc

module _ (kind : UnwindSectionType) (bases : SectionBaseAddresses) (entry : List ℕ) (end : ℕ) (cie : CommonInformationEntry) where
  -- the fields that are read, and the end that is handed on
  fields-means : (fields : ℕ) → cie_fields kind bases entry fields end ≡ Ok cie → HasCieFields kind entry fields cie × (cie.end ≡ end)
  unfolding cie_fields versioned_fields alignments_at
  fields-means fields is =
      let version = bind_ok (u8_at entry fields) _ cie is in
      elim (cases_Bool (is_known_version version.0.0)) [
        | inl known ↦
            let e = rw known at version.2 in
            let text = bind_ok (terminator_at entry version.0.1) _ cie e in
            let sizes = bind_ok (sizes_of kind version.0.0 entry (text.0 + 1)) _ cie text.2 in
            let code = bind_ok (uleb_at entry sizes.0) _ cie sizes.2 in
            let factor = bind_ok (sleb_at entry code.0.1) _ cie code.2 in
            let register = bind_ok (return_register_at version.0.0 entry factor.0.1) _ cie factor.2 in
            let augmentation = bind_ok (augmentation_at bases (slice_range entry version.0.1 text.0) entry register.0) _ cie register.2 in
            let made : CommonInformationEntry = record {
              code_alignment_factor = code.0.0;
              data_alignment_factor = factor.0.0;
              fde_pointer_encoding = augmentation.0.encoding;
              has_augmentation_data = augmentation.0.has_data;
              instructions = augmentation.0.after_data;
              end = end;
            } in
            let all : HasCieFields kind entry fields made × (made.end ≡ end) = (
              record {
                version = version.0.0;
                text = version.0.1;
                text_end = text.0;
                alignments = sizes.0;
                data_alignment = code.0.1;
                return_register = factor.0.1;
                augmentation_data = register.0;
                is_version = version.1;
                known = known;
                is_text_end = text.1;
                is_sizes = sizes.1;
                is_code_alignment = code.1;
                is_data_alignment = factor.1;
                is_return_register = register.1;
                is_augmentation = augmentation-means bases (slice_range entry version.0.1 text.0) entry register.0 augmentation.0 augmentation.1;
              },
              refl,
            ) in
            let same : made ≡ cie = one-cie made cie augmentation.2 in
            subst (λ c. HasCieFields kind entry fields c × (c.end ≡ end)) same all
        | inr unknown ↦
            let e = rw unknown at version.2 in
            cc
      ]

  read-augmentation : {fields : ℕ} (f : HasCieFields kind entry fields cie)
      → augmentation_at bases (slice_range entry f.text f.text_end) entry f.augmentation_data ≡ Ok
      (record {
        encoding = cie.fde_pointer_encoding;
        has_data = cie.has_augmentation_data;
        after_data = cie.instructions;
      })
  read-augmentation f =
      means-augmentation bases (slice_range entry f.text f.text_end) entry f.augmentation_data
      (record {
        encoding = cie.fde_pointer_encoding;
        has_data = cie.has_augmentation_data;
        after_data = cie.instructions;
      }) f.is_augmentation

  means-fields : (fields : ℕ) → HasCieFields kind entry fields cie → cie.end ≡ end → cie_fields kind bases entry fields end ≡ Ok cie
  unfolding cie_fields versioned_fields alignments_at
  means-fields fields f ends =
      rw (f.is_version, f.known) (rw f.is_text_end
      (rw f.is_sizes (rw f.is_code_alignment (rw f.is_data_alignment
      (rw f.is_return_register (rw (read-augmentation f) (ap (λ e. Ok (record cie { end = e })) (sym ends))))))))

module _ (kind : UnwindSectionType) (bases : SectionBaseAddresses) (bytes : List ℕ) where
  -- an entry's head, and the extent that it begins with
  head-begins : (at : ℕ) (head : EntryHead) → ((end : ℕ) → head ≡ ZeroLength end → ⊥) → head_at kind bytes at ≡ Ok head → (extent : EntryExtent) × Begins kind bytes at extent head
  unfolding head_at
  head-begins at head entry is =
      let extent = bind_ok (extent_at bytes at) _ head is in
      elim (cases_Bool (is_zero_length extent.0)) [
        | inl zeros ↦
            let e = rw zeros at extent.2 in
            absurd (entry extent.0.end (sym (one-head (ZeroLength extent.0.end) head e)))
        | inr some ↦ (extent.0, record { length = extent.1; some = some; id = rw some at extent.2 })
      ]

  begins-head : (at : ℕ) (extent : EntryExtent) (head : EntryHead) → Begins kind bytes at extent head → head_at kind bytes at ≡ Ok head
  unfolding head_at
  begins-head at extent head b = rw b.length (rw b.some b.id)

module _ (section : Section) where
  cie-of : (at : ℕ) (head : EntryHead) (cie : CommonInformationEntry) → head_at section.kind section.bytes at ≡ Ok head → cie_of_head section head ≡ Ok cie → IsCie section at cie
  cie-of at (ZeroLength end) cie begins is = cc
  cie-of at (Fde cie_offset fields end) cie begins is = cc
  cie-of at (Cie fields end) cie begins is =
      let b = head-begins section.kind section.bases section.bytes at (Cie fields end) (λ e h. cc) begins in
      let there : end ≡ b.0.end = id-ends (take b.0.end section.bytes) b.0 (Cie fields end) section.kind b.1.id in
      let f = fields-means section.kind section.bases (take b.0.end section.bytes) b.0.end cie fields
      (subst (λ e. cie_fields section.kind section.bases (take e section.bytes) fields e ≡ Ok cie) there is) in
      record {
        extent = b.0;
        fields = fields;
        begins = subst (λ e. Begins section.kind section.bytes at b.0 (Cie fields e)) there b.1;
        has_fields = f.0;
        ends = f.1;
      }

  -- a CIE that is read stands there, and one that stands there is read
  pub cie_at-means : (at : ℕ) (cie : CommonInformationEntry) → cie_at section at ≡ Ok cie → IsCie section at cie
  unfolding cie_at
  cie_at-means at cie is =
      let head = bind_ok (head_at section.kind section.bytes at) _ cie is in
      cie-of at head.0 cie head.1 head.2

  pub means-cie_at : (at : ℕ) (cie : CommonInformationEntry) → IsCie section at cie → cie_at section at ≡ Ok cie
  unfolding cie_at
  means-cie_at at cie c =
      rw (begins-head section.kind section.bases section.bytes at c.extent (Cie c.fields c.extent.end) c.begins)
      (means-fields section.kind section.bases (take c.extent.end section.bytes) c.extent.end cie c.fields c.has_fields c.ends)

  range-means : (at cie_offset fields : ℕ) (extent : EntryExtent) (cie : CommonInformationEntry)
      (fde : FrameDescriptionEntry) → Begins section.kind section.bytes at extent (Fde cie_offset fields extent.end)
      → IsCie section cie_offset cie → fde_fields section.bases cie (take extent.end section.bytes) fields extent.end
      ≡ Ok fde → IsFde section at fde
  unfolding fde_range
  range-means at cie_offset fields extent cie fde begins its is =
      elim (cases_Bool (leb 128 cie.fde_pointer_encoding)) [
        | inl indirect ↦
            let e = rw indirect at is in
            cc
        | inr direct ↦
            let e = rw direct at is in
            let entry = take extent.end section.bytes in
            let start = bind_ok (pointer_at section.bases cie.fde_pointer_encoding entry fields) _ fde e in
            let range = bind_ok (raw_at (format_of cie.fde_pointer_encoding) entry start.0.1) _ fde start.2 in
            let skipped = bind_ok (skipped_at cie.has_augmentation_data entry range.0.1) _ fde range.2 in
            let made : FrameDescriptionEntry = record { cie = cie; initial_address = start.0.0; address_range = range.0.0; instructions = skipped.0; end = extent.end } in
            let all : IsFde section at made = record {
              extent = extent;
              cie_offset = cie_offset;
              fields = fields;
              range = start.0.1;
              augmentation_data = range.0.1;
              begins = begins;
              its_cie = its;
              direct = direct;
              is_start = start.1;
              is_range = range.1;
              is_augmentation = skipped.1;
              ends = refl;
            } in
            subst (λ f. IsFde section at f) (one-fde made fde skipped.2) all
      ]

  fde-of : (at : ℕ) (head : EntryHead) (fde : FrameDescriptionEntry) → head_at section.kind section.bytes at ≡ Ok head → fde_of_head section head ≡ Ok fde → IsFde section at fde
  fde-of at (ZeroLength end) fde begins is = cc
  fde-of at (Cie fields end) fde begins is = cc
  fde-of at (Fde cie_offset fields end) fde begins is =
      let b = head-begins section.kind section.bases section.bytes at (Fde cie_offset fields end) (λ e h. cc) begins in
      let there : end ≡ b.0.end = id-ends (take b.0.end section.bytes) b.0 (Fde cie_offset fields end) section.kind b.1.id in
      let its = bind_ok (cie_at section cie_offset) _ fde is in
      let read : fde_fields section.bases its.0 (take b.0.end section.bytes) fields b.0.end ≡ Ok fde = subst
      (λ e. fde_fields section.bases its.0 (take e section.bytes) fields e ≡ Ok fde) there its.2 in
      range-means at cie_offset fields b.0 its.0 fde (subst (λ e. Begins section.kind section.bytes at b.0 (Fde cie_offset fields e)) there b.1) (cie_at-means cie_offset its.0 its.1) read

  pub fde_at-means : (at : ℕ) (fde : FrameDescriptionEntry) → fde_at section at ≡ Ok fde → IsFde section at fde
  unfolding fde_at
  fde_at-means at fde is =
      let head = bind_ok (head_at section.kind section.bytes at) _ fde is in
      fde-of at head.0 fde head.1 head.2

  pub means-fde_at : (at : ℕ) (fde : FrameDescriptionEntry) → IsFde section at fde → fde_at section at ≡ Ok fde
  unfolding fde_at fde_range
  means-fde_at at fde f =
      rw (begins-head section.kind section.bases section.bytes at f.extent (Fde f.cie_offset f.fields f.extent.end) f.begins)
      (rw (means-cie_at f.cie_offset fde.cie f.its_cie) (rw f.direct (rw f.is_start (rw f.is_range (rw f.is_augmentation (ap (λ e. Ok (record fde { end = e })) (sym f.ends)))))))

  -- an entry is answered where one stands, and refused where none does
  pub cie-found : (at : ℕ) (result : Result CommonInformationEntry ReadError) → result ≡ cie_at section at → IfOk result (IsCie section at)
  cie-found at (Ok cie) is = cie_at-means at cie (sym is)
  cie-found at (Err error) is = tt

  pub no-cie : (at : ℕ) (result : Result CommonInformationEntry ReadError) → result ≡ cie_at section at → IfErr result (λ _. (cie : CommonInformationEntry) → IsCie section at cie → ⊥)
  no-cie at (Ok cie) is = tt
  no-cie at (Err error) is = λ cie there. let read = means-cie_at at cie there in cc

  pub fde-found : (at : ℕ) (result : Result FrameDescriptionEntry ReadError) → result ≡ fde_at section at → IfOk result (IsFde section at)
  fde-found at (Ok fde) is = fde_at-means at fde (sym is)
  fde-found at (Err error) is = tt

  pub no-fde : (at : ℕ) (result : Result FrameDescriptionEntry ReadError) → result ≡ fde_at section at → IfErr result (λ _. (fde : FrameDescriptionEntry) → IsFde section at fde → ⊥)
  no-fde at (Ok fde) is = tt
  no-fde at (Err error) is = λ fde there. let read = means-fde_at at fde there in cc
