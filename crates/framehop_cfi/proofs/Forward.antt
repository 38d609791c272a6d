-- An instruction ends after the place where it begins.
use Rattle.std.proofs.Common.{◌≡◌, ℕ, suc, ◌+◌, ◌-◌, ◌<◌, ◌≤◌, Bool, true, false, List, length, drop, Result, Ok, Err, arith, if◌then◌else◌, ◌==◌, ◌||◌, ◌&&◌, leb, ltb, ℤ, pos, ◌*ℤ◌, ◌^◌}
use Rattle.framehop_bytes.specs.Bytes.{◌>>=◌}
use Rattle.framehop_cfi.specs.Numbers.{Parsed, sized_at, u8_at, u16_at, u32_at, u64_at}
use Rattle.framehop_cfi.specs.Leb128.{continued, groups_at, uleb_at, sleb_at, with_sign, fits_i64}
use Rattle.framehop_cfi.specs.Raw.{raw_at, format_of}
use Rattle.framehop_cfi.specs.Pointer.{pointer_at, base_of, application_of}
use Rattle.framehop_cfi.specs.Augmentation.{counted_at}
use Rattle.framehop_cfi.specs.Instruction.{
  mapped,
  register_at,
  checked_i64,
  factored_at,
  factored_signed_at,
  offset_at,
  expression_at,
  rule_at,
  set_rule_at,
  def_cfa_at,
  def_cfa_factored_at,
  cfa_at,
  advance_at,
  coded_at,
  operands_at,
  instruction_at,
}
use Rattle.framehop_cfi.specs.declared.pointer.SectionBaseAddresses.{SectionBaseAddresses}
use Rattle.framehop_cfi.specs.declared.entry.CommonInformationEntry.{CommonInformationEntry}
use Rattle.framehop_cfi.specs.declared.rule.CfaRule.TheVariants as cfa
use Rattle.framehop_cfi.specs.declared.rule.RegisterRule.TheVariants as rule
use Rattle.framehop_cfi.specs.declared.instruction.CallFrameInstruction.{CallFrameInstruction}
use Rattle.framehop_cfi.specs.declared.instruction.CallFrameInstruction.TheVariants.{ArgsSize, SetLoc, AdvanceLoc, SetRule, Restore, DefCfa, DefCfaRegister, DefCfaOffset}
use Rattle.framehop_cfi.specs.declared.read_error.ReadError.{ReadError}
use Rattle.framehop_cfi.specs.declared.read_error.ReadError.TheVariants.{Eof}

-- what is read ends at or after a place
abbrev pub Reaches : {A : Type 0} → ℕ → Parsed A → Type 0
Reaches n (Ok read) = n ≤ read.1
Reaches n (Err error) = Unit {0}

module _ {A : Type 0} (n : ℕ) where
  choose : (b : Bool) (x y : Parsed A) → Reaches n x → Reaches n y → Reaches n (if b then x else y)
  choose true x y p q = p
  choose false x y p q = q

  after : {B : Type 0} (r : Result B ReadError) (f : B → Parsed A) → ((x : B) → Reaches n (f x)) → Reaches n (r >>= f)
  after (Ok x) f p = p x
  after (Err e) f p = tt

  behind : {B : Type 0} (r : Parsed B) (f : B × ℕ → Parsed A) → Reaches n r → ((x : B × ℕ) → n ≤ x.1 → Reaches n (f x)) → Reaches n (r >>= f)
  behind (Ok x) f p q = q x p
  behind (Err e) f p q = tt

  less : (m : ℕ) (r : Parsed A) → n ≤ m → Reaches m r → Reaches n r
  less m (Ok x) le p = omega arith
  less m (Err e) le p = tt

sized-reaches : (number size : ℕ) (bytes : List ℕ) (at : ℕ) → 0 < size → Reaches (suc at) (sized_at number size bytes at)
sized-reaches number size bytes at some = choose (suc at) (leb (at + size) (length bytes)) (Ok (number, at + size)) (Err Eof) (omega arith) tt

module _ (bytes : List ℕ) (at : ℕ) where
  u8-reaches : Reaches (suc at) (u8_at bytes at)
  unfolding u8_at
  u8-reaches = sized-reaches _ 1 bytes at (omega arith)

  u16-reaches : Reaches (suc at) (u16_at bytes at)
  unfolding u16_at
  u16-reaches = sized-reaches _ 2 bytes at (omega arith)

  pub u32-reaches : Reaches (suc at) (u32_at bytes at)
  unfolding u32_at
  u32-reaches = sized-reaches _ 4 bytes at (omega arith)

  pub u64-reaches : Reaches (suc at) (u64_at bytes at)
  unfolding u64_at
  u64-reaches = sized-reaches _ 8 bytes at (omega arith)

  groups-reaches : Reaches (suc at) (groups_at bytes at)
  unfolding groups_at
  groups-reaches =
      let more = continued (drop at bytes) in
      choose (suc at) (leb 10 more) _ _ tt (choose (suc at) (leb (length bytes) (at + more)) _ _ tt (omega arith))

  uleb-reaches : Reaches (suc at) (uleb_at bytes at)
  unfolding uleb_at
  uleb-reaches = behind (suc at) (groups_at bytes at) _ groups-reaches (λ read past. choose (suc at) (ltb read.0.0 (2 ^ 64)) _ _ past tt)

  sleb-reaches : Reaches (suc at) (sleb_at bytes at)
  unfolding sleb_at
  sleb-reaches = behind (suc at) (groups_at bytes at) _ groups-reaches (λ read past. choose (suc at) (fits_i64 (with_sign read.0.0 read.0.1)) _ _ past tt)

  raw-reaches : (format : ℕ) → Reaches (suc at) (raw_at format bytes at)
  unfolding raw_at
  raw-reaches format =
      choose (suc at) ((format == 0) || (format == 4) || (format == 12)) _ _ u64-reaches
      (choose (suc at) (format == 1) _ _ uleb-reaches
      (choose (suc at) (format == 2) _ _ u16-reaches
      (choose (suc at) (format == 3) _ _ u32-reaches
      (choose (suc at) (format == 9) _ _ (behind (suc at) (sleb_at bytes at) _ sleb-reaches (λ read past. past))
      (choose (suc at) (format == 10) _ _ (behind (suc at) (u16_at bytes at) _ u16-reaches (λ read past. past))
      (choose (suc at) (format == 11) _ _ (behind (suc at) (u32_at bytes at) _ u32-reaches (λ read past. past)) tt))))))

  pointer-reaches : (bases : SectionBaseAddresses) (encoding : ℕ) → Reaches (suc at) (pointer_at bases encoding bytes at)
  unfolding pointer_at
  pointer-reaches bases encoding =
      after (suc at) (base_of bases at (application_of encoding)) _ (λ base.
      behind (suc at) (raw_at (format_of encoding) bytes at) _ (raw-reaches (format_of encoding)) (λ read past. past))

  counted-reaches : Reaches (suc at) (counted_at bytes at)
  unfolding counted_at
  counted-reaches =
      behind (suc at) (uleb_at bytes at) _ uleb-reaches (λ read past. choose (suc at) (leb (read.1 + read.0) (length bytes)) _ _ (omega arith) tt)

  register-reaches : Reaches (suc at) (register_at bytes at)
  unfolding register_at
  register-reaches = behind (suc at) (uleb_at bytes at) _ uleb-reaches (λ read past. choose (suc at) (ltb read.0 65536) _ _ past tt)

  factored-reaches : (alignment : ℤ) → Reaches (suc at) (factored_at alignment bytes at)
  unfolding factored_at
  factored-reaches alignment =
      behind (suc at) (uleb_at bytes at) _ uleb-reaches (λ read past. after (suc at) (checked_i64 (pos read.0 *ℤ alignment)) _ (λ product. past))

  factored-signed-reaches : (alignment : ℤ) → Reaches (suc at) (factored_signed_at alignment bytes at)
  unfolding factored_signed_at
  factored-signed-reaches alignment =
      behind (suc at) (sleb_at bytes at) _ sleb-reaches (λ read past. after (suc at) (checked_i64 (read.0 *ℤ alignment)) _ (λ product. past))

  offset-reaches : Reaches (suc at) (offset_at bytes at)
  unfolding offset_at
  offset-reaches =
      behind (suc at) (uleb_at bytes at) _ uleb-reaches (λ read past. after (suc at) (checked_i64 (pos read.0)) _ (λ offset. past))

  expression-reaches : Reaches (suc at) (expression_at bytes at)
  unfolding expression_at
  expression-reaches = behind (suc at) (counted_at bytes at) _ counted-reaches (λ place past. past)

mapped-reaches : {A B : Type 0} (n : ℕ) (f : A → B) (r : Parsed A) → Reaches n r → Reaches n (mapped f r)
mapped-reaches n f (Ok x) p = p
mapped-reaches n f (Err e) p = tt

module _ (bytes : List ℕ) (at : ℕ) (alignment : ℤ) where
  rule-reaches : (code : ℕ) → Reaches at (rule_at alignment code bytes at)
  rule-reaches code =
      let factored = less at (suc at) _ (omega arith) (mapped-reaches (suc at) rule.Offset _ (factored-reaches bytes at alignment)) in
      let signed = less at (suc at) _ (omega arith) (mapped-reaches (suc at) rule.Offset _ (factored-signed-reaches bytes at alignment)) in
      let register = less at (suc at) _ (omega arith) (mapped-reaches (suc at) rule.Register _ (register-reaches bytes at)) in
      let expression = less at (suc at) _ (omega arith) (mapped-reaches (suc at) rule.Expression _ (expression-reaches bytes at)) in
      let value = less at (suc at) _ (omega arith) (mapped-reaches (suc at) rule.ValExpression _ (expression-reaches bytes at)) in
      let factored-value = less at (suc at) _ (omega arith) (mapped-reaches (suc at) rule.ValOffset _ (factored-reaches bytes at alignment)) in
      let signed-value = less at (suc at) _ (omega arith) (mapped-reaches (suc at) rule.ValOffset _ (factored-signed-reaches bytes at alignment)) in
      choose at (code == 0x05) _ _ factored
      (choose at (code == 0x07) _ _ (omega arith)
      (choose at (code == 0x08) _ _ (omega arith)
      (choose at (code == 0x09) _ _ register
      (choose at (code == 0x10) _ _ expression
      (choose at (code == 0x11) _ _ signed
      (choose at (code == 0x14) _ _ factored-value
      (choose at (code == 0x15) _ _ signed-value
      (choose at (code == 0x16) _ _ value tt))))))))

  def-cfa-reaches : Reaches (suc at) (def_cfa_at bytes at)
  unfolding def_cfa_at
  def-cfa-reaches =
      behind (suc at) (register_at bytes at) _ (register-reaches bytes at) (λ register past.
      behind (suc at) (offset_at bytes register.1) _ (less (suc at) (suc register.1) _ (omega arith) (offset-reaches bytes register.1)) (λ offset end. end))

  def-cfa-factored-reaches : Reaches (suc at) (def_cfa_factored_at alignment bytes at)
  unfolding def_cfa_factored_at
  def-cfa-factored-reaches =
      behind (suc at) (register_at bytes at) _ (register-reaches bytes at) (λ register past.
      behind (suc at) (factored_signed_at alignment bytes register.1) _ (less (suc at) (suc register.1) _ (omega arith) (factored-signed-reaches bytes register.1 alignment)) (λ offset end. end))

  cfa-reaches : (code : ℕ) → Reaches (suc at) (cfa_at alignment code bytes at)
  cfa-reaches code =
      choose (suc at) (code == 0x0C) _ _ def-cfa-reaches
      (choose (suc at) (code == 0x0D) _ _ (mapped-reaches (suc at) DefCfaRegister _ (register-reaches bytes at))
      (choose (suc at) (code == 0x0E) _ _ (mapped-reaches (suc at) DefCfaOffset _ (offset-reaches bytes at))
      (choose (suc at) (code == 0x0F) _ _ (mapped-reaches (suc at) (λ expression. DefCfa (cfa.Expression expression)) _ (expression-reaches bytes at))
      (choose (suc at) (code == 0x12) _ _ def-cfa-factored-reaches
      (choose (suc at) (code == 0x13) _ _ (mapped-reaches (suc at) DefCfaOffset _ (factored-signed-reaches bytes at alignment)) tt)))))

set-rule-reaches : (bytes : List ℕ) (at : ℕ) (alignment : ℤ) (code : ℕ) → Reaches (suc at) (set_rule_at alignment code bytes at)
unfolding set_rule_at
set-rule-reaches bytes at alignment code =
    behind (suc at) (register_at bytes at) _ (register-reaches bytes at) (λ register past.
    behind (suc at) (rule_at alignment code bytes register.1) _ (less (suc at) register.1 _ past (rule-reaches bytes register.1 alignment code)) (λ found end. end))

module _ (cie : CommonInformationEntry) (bases : SectionBaseAddresses) (bytes : List ℕ) (at : ℕ) where
  advance-reaches : (code : ℕ) → Reaches at (advance_at code bytes at)
  advance-reaches code =
      choose at (code == 0x02) _ _ (less at (suc at) _ (omega arith) (mapped-reaches (suc at) AdvanceLoc _ (u8-reaches bytes at)))
      (choose at (code == 0x03) _ _ (less at (suc at) _ (omega arith) (mapped-reaches (suc at) AdvanceLoc _ (u16-reaches bytes at)))
      (less at (suc at) _ (omega arith) (mapped-reaches (suc at) AdvanceLoc _ (u32-reaches bytes at))))

  coded-reaches : (code : ℕ) → Reaches at (coded_at cie bases code bytes at)
  coded-reaches code =
      choose at (code == 0x00) _ _ (omega arith)
      (choose at (code == 0x2D) _ _ (omega arith)
      (choose at (code == 0x01) _ _ (less at (suc at) _ (omega arith) (mapped-reaches (suc at) SetLoc _ (pointer-reaches bytes at bases cie.fde_pointer_encoding)))
      (choose at (leb 0x02 code && leb code 0x04) _ _ (advance-reaches code)
      (choose at (code == 0x06) _ _ (less at (suc at) _ (omega arith) (mapped-reaches (suc at) Restore _ (register-reaches bytes at)))
      (choose at (code == 0x0A) _ _ (omega arith)
      (choose at (code == 0x0B) _ _ (omega arith)
      (choose at (code == 0x2E) _ _ (less at (suc at) _ (omega arith) (mapped-reaches (suc at) ArgsSize _ (uleb-reaches bytes at)))
      (choose at ((leb 0x0C code && leb code 0x0F) || (code == 0x12) || (code == 0x13)) _ _ (less at (suc at) _ (omega arith) (cfa-reaches bytes at cie.data_alignment_factor code))
      (choose at (leb code 0x16) _ _ (less at (suc at) _ (omega arith) (set-rule-reaches bytes at cie.data_alignment_factor code)) tt)))))))))

  operands-reaches : (code : ℕ) → Reaches at (operands_at cie bases code bytes at)
  operands-reaches code =
      choose at (leb 0xC0 code) _ _ (omega arith)
      (choose at (leb 0x80 code) _ _ (less at (suc at) _ (omega arith)
      (mapped-reaches (suc at) (λ offset. SetRule (record { 0 = code - 0x80 }) (rule.Offset offset)) _
      (factored-reaches bytes at cie.data_alignment_factor)))
      (choose at (leb 0x40 code) _ _ (omega arith) (coded-reaches code)))

instruction-reaches : (cie : CommonInformationEntry) (bases : SectionBaseAddresses) (bytes : List ℕ) (at : ℕ) → Reaches (suc at) (instruction_at cie bases bytes at)
unfolding instruction_at
instruction-reaches cie bases bytes at =
    behind (suc at) (u8_at bytes at) _ (u8-reaches bytes at) (λ code past.
    less (suc at) code.1 _ past (operands-reaches cie bases bytes code.1 code.0))

-- an instruction that is read ends after the place where it begins
pub instruction-forward : (cie : CommonInformationEntry) (bases : SectionBaseAddresses) (bytes : List ℕ) (at : ℕ)
    (read : CallFrameInstruction × ℕ) → instruction_at cie bases bytes at ≡ Ok read → at < read.1
instruction-forward cie bases bytes at read is =
    let r = rw is at (instruction-reaches cie bases bytes at) in omega arith
