-- Call frame instructions (DWARF 5 section 6.4.2).
use Rattle.std.specs.Prelude.{ℕ, ◌-◌, List, [], ◌∷◌, Result, Ok, Err, ℤ, pos, ◌*ℤ◌, ◌==◌, ◌||◌, ◌&&◌, nat_le, nat_lt, if◌then◌else◌}
use Rattle.framehop_bytes.specs.Bytes.{◌>>=◌}
use Rattle.framehop_cfi.specs.Numbers.{Parsed, u8_at, u16_at, u32_at}
use Rattle.framehop_bytes.specs.ByCode.{by_code, by_test}
use Rattle.framehop_cfi.specs.InstructionCode.{DW_CFA_nop, DW_CFA_set_loc, DW_CFA_advance_loc1, DW_CFA_advance_loc2, DW_CFA_advance_loc4, DW_CFA_offset_extended, DW_CFA_restore_extended, DW_CFA_undefined, DW_CFA_same_value, DW_CFA_register, DW_CFA_remember_state, DW_CFA_restore_state, DW_CFA_def_cfa, DW_CFA_def_cfa_register, DW_CFA_def_cfa_offset, DW_CFA_def_cfa_expression, DW_CFA_expression, DW_CFA_offset_extended_sf, DW_CFA_def_cfa_sf, DW_CFA_def_cfa_offset_sf, DW_CFA_val_offset, DW_CFA_val_offset_sf, DW_CFA_val_expression, DW_CFA_AARCH64_negate_ra_state, DW_CFA_GNU_args_size, DW_CFA_advance_loc, DW_CFA_offset, DW_CFA_restore}
use Rattle.framehop_cfi.specs.Leb128.{uleb_at, sleb_at, fits_i64}
use Rattle.framehop_cfi.specs.Augmentation.{counted_at}
use Rattle.framehop_cfi.specs.Pointer.{pointer_at}
use Rattle.framehop_cfi.specs.declared.pointer.SectionBaseAddresses.{SectionBaseAddresses}
use Rattle.framehop_cfi.specs.declared.entry.CommonInformationEntry.{CommonInformationEntry}
use Rattle.framehop_cfi.specs.declared.rule.Register.{Register}
use Rattle.framehop_cfi.specs.declared.rule.Expression.{Expression}
use Rattle.framehop_cfi.specs.declared.rule.CfaRule.TheVariants as cfa
use Rattle.framehop_cfi.specs.declared.rule.RegisterRule.{RegisterRule}
use Rattle.framehop_cfi.specs.declared.rule.RegisterRule.TheVariants as rule
use Rattle.framehop_cfi.specs.declared.instruction.CallFrameInstruction.{CallFrameInstruction}
use Rattle.framehop_cfi.specs.declared.instruction.CallFrameInstruction.TheVariants.{Nop, NegateRaState, ArgsSize, SetLoc, AdvanceLoc, SetRule, Restore, RememberState, RestoreState, DefCfa, DefCfaRegister, DefCfaOffset}
use Rattle.framehop_cfi.specs.declared.read_error.ReadError.{ReadError}
use Rattle.framehop_cfi.specs.declared.read_error.ReadError.TheVariants.{UnknownInstruction, NumberTooBig}

-- what is read, put into another form
abbrev pub mapped : {A B : Type 0} → (A → B) → Parsed A → Parsed B
mapped f reading = reading >>= λ read. Ok (f read.0, read.1)

-- a register's number, up to 65535
unfoldable pub register_at : List ℕ → ℕ → Parsed Register
register_at bytes at = do
  number ← uleb_at bytes at
  if nat_lt number.0 65536 then Ok (record { 0 = number.0 }, number.1) else Err NumberTooBig

-- a number that fits 64 bits with a sign
abbrev pub checked_i64 : ℤ → Result ℤ ReadError
checked_i64 number = if fits_i64 number then Ok number else Err NumberTooBig

-- a number times the data alignment
unfoldable pub factored_at : ℤ → List ℕ → ℕ → Parsed ℤ
factored_at alignment bytes at = do
  number ← uleb_at bytes at
  product ← checked_i64 (pos number.0 *ℤ alignment)
  Ok (product, number.1)

unfoldable pub factored_signed_at : ℤ → List ℕ → ℕ → Parsed ℤ
factored_signed_at alignment bytes at = do
  number ← sleb_at bytes at
  product ← checked_i64 (number.0 *ℤ alignment)
  Ok (product, number.1)

-- an offset that is not factored
unfoldable pub offset_at : List ℕ → ℕ → Parsed ℤ
offset_at bytes at = do
  number ← uleb_at bytes at
  offset ← checked_i64 (pos number.0)
  Ok (offset, number.1)

-- an expression's bytes, after their count
unfoldable pub expression_at : List ℕ → ℕ → Parsed Expression
expression_at bytes at = do
  place ← counted_at bytes at
  Ok (record { start = place.0; end = place.1 }, place.1)

-- the rule that an instruction gives to the register that it names, by its code
abbrev pub rule_at : ℤ → ℕ → List ℕ → ℕ → Parsed RegisterRule
rule_at alignment code bytes at =
    by_code code (
    (DW_CFA_offset_extended, mapped rule.Offset (factored_at alignment bytes at))
    ∷ (DW_CFA_undefined, Ok (rule.Undefined, at))
    ∷ (DW_CFA_same_value, Ok (rule.SameValue, at))
    ∷ (DW_CFA_register, mapped rule.Register (register_at bytes at))
    ∷ (DW_CFA_expression, mapped rule.Expression (expression_at bytes at))
    ∷ (DW_CFA_offset_extended_sf, mapped rule.Offset (factored_signed_at alignment bytes at))
    ∷ (DW_CFA_val_offset, mapped rule.ValOffset (factored_at alignment bytes at))
    ∷ (DW_CFA_val_offset_sf, mapped rule.ValOffset (factored_signed_at alignment bytes at))
    ∷ (DW_CFA_val_expression, mapped rule.ValExpression (expression_at bytes at))
    ∷ []) (Err UnknownInstruction)

-- an instruction that names a register and gives it a rule
unfoldable pub set_rule_at : ℤ → ℕ → List ℕ → ℕ → Parsed CallFrameInstruction
set_rule_at alignment code bytes at = do
  register ← register_at bytes at
  found ← rule_at alignment code bytes register.1
  Ok (SetRule register.0 found.0, found.1)

-- the CFA as a register plus an offset
abbrev pub register_and_offset : Register → ℤ → CallFrameInstruction
register_and_offset register offset = DefCfa (cfa.RegisterAndOffset register offset)

-- DW_CFA_def_cfa and DW_CFA_def_cfa_sf: a register, and an offset or a number times the data alignment
unfoldable pub def_cfa_at : List ℕ → ℕ → Parsed CallFrameInstruction
def_cfa_at bytes at = do
  register ← register_at bytes at
  offset ← offset_at bytes register.1
  Ok (register_and_offset register.0 offset.0, offset.1)

unfoldable pub def_cfa_factored_at : ℤ → List ℕ → ℕ → Parsed CallFrameInstruction
def_cfa_factored_at alignment bytes at = do
  register ← register_at bytes at
  offset ← factored_signed_at alignment bytes register.1
  Ok (register_and_offset register.0 offset.0, offset.1)

-- an instruction on the CFA, by its code
abbrev pub cfa_at : ℤ → ℕ → List ℕ → ℕ → Parsed CallFrameInstruction
cfa_at alignment code bytes at =
    by_code code (
    (DW_CFA_def_cfa, def_cfa_at bytes at)
    ∷ (DW_CFA_def_cfa_register, mapped DefCfaRegister (register_at bytes at))
    ∷ (DW_CFA_def_cfa_offset, mapped DefCfaOffset (offset_at bytes at))
    ∷ (DW_CFA_def_cfa_expression, mapped (λ expression. DefCfa (cfa.Expression expression)) (expression_at bytes at))
    ∷ (DW_CFA_def_cfa_sf, def_cfa_factored_at alignment bytes at)
    ∷ (DW_CFA_def_cfa_offset_sf, mapped DefCfaOffset (factored_signed_at alignment bytes at))
    ∷ []) (Err UnknownInstruction)

-- an advance of the location by one, two or four bytes
abbrev pub advance_at : ℕ → List ℕ → ℕ → Parsed CallFrameInstruction
advance_at code bytes at =
    if code == DW_CFA_advance_loc1 then mapped AdvanceLoc (u8_at bytes at)
    else (if code == DW_CFA_advance_loc2 then mapped AdvanceLoc (u16_at bytes at)
    else mapped AdvanceLoc (u32_at bytes at))

-- An instruction with its own byte, by its code. Those on the CFA come before the codes around theirs, which give a
-- register a rule.
abbrev pub coded_at : CommonInformationEntry → SectionBaseAddresses → ℕ → List ℕ → ℕ → Parsed CallFrameInstruction
coded_at cie bases code bytes at =
    by_test (
    (code == DW_CFA_nop, Ok (Nop, at))
    ∷ (code == DW_CFA_AARCH64_negate_ra_state, Ok (NegateRaState, at))
    ∷ (code == DW_CFA_set_loc, mapped SetLoc (pointer_at bases cie.fde_pointer_encoding bytes at))
    ∷ (nat_le DW_CFA_advance_loc1 code && nat_le code DW_CFA_advance_loc4, advance_at code bytes at)
    ∷ (code == DW_CFA_restore_extended, mapped Restore (register_at bytes at))
    ∷ (code == DW_CFA_remember_state, Ok (RememberState, at))
    ∷ (code == DW_CFA_restore_state, Ok (RestoreState, at))
    ∷ (code == DW_CFA_GNU_args_size, mapped ArgsSize (uleb_at bytes at))
    ∷ (
      (nat_le DW_CFA_def_cfa code && nat_le code DW_CFA_def_cfa_expression) || (code == DW_CFA_def_cfa_sf)
          || (code == DW_CFA_def_cfa_offset_sf),
      cfa_at cie.data_alignment_factor code bytes at,
    )
    ∷ (nat_le code DW_CFA_val_expression, set_rule_at cie.data_alignment_factor code bytes at)
    ∷ []) (Err UnknownInstruction)

-- one of the three instructions that have their first operand in the byte, or one with its own byte
abbrev pub operands_at : CommonInformationEntry → SectionBaseAddresses → ℕ → List ℕ → ℕ → Parsed CallFrameInstruction
operands_at cie bases code bytes at =
    by_test (
    (nat_le DW_CFA_restore code, Ok (Restore (record { 0 = code - DW_CFA_restore }), at))
    ∷ (
      nat_le DW_CFA_offset code,
      mapped (λ offset. SetRule (record { 0 = code - DW_CFA_offset }) (rule.Offset offset))
          (factored_at cie.data_alignment_factor bytes at),
    )
    ∷ (nat_le DW_CFA_advance_loc code, Ok (AdvanceLoc (code - DW_CFA_advance_loc), at))
    ∷ []) (coded_at cie bases code bytes at)

-- the instruction at an offset
unfoldable pub instruction_at : CommonInformationEntry → SectionBaseAddresses → List ℕ → ℕ
    → Parsed CallFrameInstruction
instruction_at cie bases bytes at = do
  code ← u8_at bytes at
  operands_at cie bases code.0 bytes code.1
