-- From a row to a frame on aarch64: the rule that a row is translated to, and the values of the rows that have none
-- (framehop 0.16.0, `aarch64/dwarf.rs`; DWARF for the Arm 64-bit Architecture, section 4.1).
-- What a row means is DWARF 5 section 6.4.1.
use Rattle.std.specs.Prelude.{ℕ, ◌≡◌, ◌<◌, ◌^◌, Bool, true, false, not, List, Option, Some, None, option_map, option_and_then, Result, Ok, Err, ℤ, pos, ◌+ℤ◌, ◌==◌, ◌&&◌, nat_le, if◌then◌else◌}
use Rattle.std.specs.Ordering.{int_eq}
use Rattle.framehop_bytes.specs.Minus.{minus}
use Rattle.framehop_core.specs.Memory.{Memory}
use Rattle.framehop_core.specs.Aarch64.Registers.{Registers, strip_ptr_auth}
use Rattle.framehop_core.specs.declared.aarch64.unwind_rule.UnwindRuleAarch64.{UnwindRuleAarch64}
use Rattle.framehop_core.specs.declared.aarch64.unwind_rule.UnwindRuleAarch64.TheVariants.{OffsetSp, OffsetSpIfFirstFrameOtherwiseStackEndsHere, OffsetSpAndRestoreLr, OffsetSpAndRestoreFpAndLr, UseFramePointer, UseFramepointerWithOffsets}
use Rattle.framehop_cfi.specs.Row.{Row, rule_of}
use Rattle.framehop_cfi.specs.Aarch64.{X29, X30, SP}
use Rattle.framehop_cfi.specs.declared.rule.Register.{Register}
use Rattle.framehop_cfi.specs.declared.rule.CfaRule.{CfaRule}
use Rattle.framehop_cfi.specs.declared.rule.CfaRule.TheVariants as cfa
use Rattle.framehop_cfi.specs.declared.rule.RegisterRule.{RegisterRule}
use Rattle.framehop_cfi.specs.declared.rule.RegisterRule.TheVariants as rule
use Rattle.framehop_dwarf.specs.Units.{units_of, signed_units_of}
use Rattle.framehop_dwarf.specs.Direct.{Scope, cfa_of, register_of, needed}
use Rattle.framehop_dwarf.specs.RowMeaning.{IsCfa, IsColumn}
use Rattle.framehop_cfi.specs.declared.dwarf_error.DwarfUnwinderError.{DwarfUnwinderError}
use Rattle.framehop_cfi.specs.declared.dwarf_error.DwarfUnwinderError.TheVariants.{CouldNotRecoverCfa, CouldNotRecoverFramePointer, CouldNotRecoverReturnAddress, StackPointerMovedBackwards}

-- the columns that a frame has
abbrev pub fp_column : Register
fp_column = record { 0 = X29 }

abbrev pub lr_column : Register
lr_column = record { 0 = X30 }

abbrev pub sp_column : Register
sp_column = record { 0 = SP }

-- the register of a column
abbrev pub column_of : Registers → Register → Option ℕ
column_of r column =
    if column.0 == X29 then Some r.fp
    else (if column.0 == X30 then Some r.lr
    else (if column.0 == SP then Some r.sp
    else None))

-- ---- the rule of a row

-- lr is saved so many words from sp; fp is where it was, or it is saved beside lr
abbrev pub with_fp : ℕ → ℤ → ℤ → Option RegisterRule → Option UnwindRuleAarch64
with_fp units offset lr_words None = Some (OffsetSpAndRestoreLr units lr_words)
with_fp units offset lr_words (Some rule.Undefined) = Some (OffsetSpAndRestoreLr units lr_words)
with_fp units offset lr_words (Some rule.SameValue) = Some (OffsetSpAndRestoreLr units lr_words)
with_fp units offset lr_words (Some (rule.Offset saved)) =
    option_map (λ fp_words. OffsetSpAndRestoreFpAndLr units fp_words lr_words) (signed_units_of 8 (offset +ℤ saved))
with_fp units offset lr_words (Some other) = None

-- fp is where it was
abbrev pub with_fp_kept : UnwindRuleAarch64 → Option RegisterRule → Option UnwindRuleAarch64
with_fp_kept told None = Some told
with_fp_kept told (Some rule.Undefined) = Some told
with_fp_kept told (Some rule.SameValue) = Some told
with_fp_kept told (Some other) = None

-- the CFA is sp plus so many units of 16 bytes
abbrev pub with_lr : ℕ → ℤ → Option RegisterRule → Option RegisterRule → Option UnwindRuleAarch64
with_lr units offset fp None = with_fp_kept (OffsetSp units) fp
with_lr units offset fp (Some rule.SameValue) = with_fp_kept (OffsetSp units) fp
with_lr units offset fp (Some rule.Undefined) = with_fp_kept (OffsetSpIfFirstFrameOtherwiseStackEndsHere units) fp
with_lr units offset fp (Some (rule.Offset saved)) =
    option_and_then (λ lr_words. with_fp units offset lr_words fp) (signed_units_of 8 (offset +ℤ saved))
with_lr units offset fp (Some other) = None

abbrev pub by_sp : ℤ → Option RegisterRule → Option RegisterRule → Option UnwindRuleAarch64
by_sp offset fp lr = option_and_then (λ units. with_lr units offset fp lr) (units_of 16 offset)

-- the CFA is fp plus an offset, and both registers are saved
abbrev pub beside_fp : ℤ → ℤ → ℤ → Option UnwindRuleAarch64
beside_fp offset fp lr =
    option_and_then (λ words.
    option_and_then (λ fp_words.
    option_map (λ lr_words. UseFramepointerWithOffsets words fp_words lr_words)
    (signed_units_of 8 (offset +ℤ lr)))
    (signed_units_of 8 (offset +ℤ fp)))
    (units_of 8 offset)

-- the same; where the offset is 16 and both are saved right below it, the rule of frame pointers
abbrev pub by_saved : ℤ → ℤ → ℤ → Option UnwindRuleAarch64
by_saved offset fp lr =
    if int_eq offset (pos 16) && int_eq fp (minus 16) && int_eq lr (minus 8) then Some UseFramePointer
    else beside_fp offset fp lr

abbrev pub by_fp : ℤ → Option RegisterRule → Option RegisterRule → Option UnwindRuleAarch64
by_fp offset (Some (rule.Offset fp)) (Some (rule.Offset lr)) = by_saved offset fp lr
by_fp offset fp lr = None

-- by the register of the CFA
abbrev pub translated_by : CfaRule → Option RegisterRule → Option RegisterRule → Option UnwindRuleAarch64
translated_by (cfa.RegisterAndOffset register offset) fp lr =
    if register.0 == SP then by_sp offset fp lr else (if register.0 == X29 then by_fp offset fp lr else None)
translated_by (cfa.Expression expression) fp lr = None

unfoldable pub translated : Row → Option UnwindRuleAarch64
translated row = translated_by row.cfa (rule_of row.rules fp_column) (rule_of row.rules lr_column)

-- ---- the values of a row

-- in a first frame a value that is not there is kept
abbrev pub or_kept : Bool → ℕ → Option ℕ → Option ℕ
or_kept first value (Some found) = Some found
or_kept true value None = Some value
or_kept false value None = None

-- the scope of a row's rules
abbrev pub scope_of : List ℕ → Option ℕ → Registers → Scope
scope_of bytes limit r = record { bytes = bytes; columns = column_of r; limit = limit }

-- the caller's registers; the return address is the stripped lr
abbrev pub stepped : Registers → ℕ → ℕ → ℕ → Result (ℕ × Registers) DwarfUnwinderError
stepped r cfa fp lr =
    Ok (strip_ptr_auth r.lr_mask lr, record r { lr = strip_ptr_auth r.lr_mask lr; sp = cfa; fp = fp })

-- the values of a row: its CFA, and where there is one its frame pointer and return address
abbrev pub direct_by : Scope → Memory → CfaRule → Option RegisterRule → Option RegisterRule → Bool → Registers
    → Result (ℕ × Registers) DwarfUnwinderError
direct_by scope memory cfa_rule fp_rule lr_rule first r =
    needed CouldNotRecoverCfa (cfa_of scope cfa_rule) (λ cfa.
    if not first && nat_le cfa r.sp then Err StackPointerMovedBackwards
    else needed CouldNotRecoverFramePointer (or_kept first r.fp (register_of scope memory cfa r.fp fp_rule)) (λ fp.
    needed CouldNotRecoverReturnAddress (or_kept first r.lr (register_of scope memory cfa r.lr lr_rule)) (λ lr.
    stepped r cfa fp lr)))

unfoldable pub direct_of : List ℕ → Option ℕ → Memory → Row → Bool → Registers
    → Result (ℕ × Registers) DwarfUnwinderError
direct_of bytes limit memory row first r =
    direct_by (scope_of bytes limit r) memory row.cfa (rule_of row.rules fp_column)
    (rule_of row.rules lr_column) first r

-- ---- what a row means

-- the caller's fp: an absent, an undefined or a same value is kept
abbrev pub IsFramePointer : Scope → Memory → Registers → ℕ → Option RegisterRule → ℕ → Type 0
IsFramePointer scope memory old cfa None fp = fp ≡ old.fp
IsFramePointer scope memory old cfa (Some rule.Undefined) fp = fp ≡ old.fp
IsFramePointer scope memory old cfa (Some rule.SameValue) fp = fp ≡ old.fp
IsFramePointer scope memory old cfa fp_rule fp = IsColumn scope memory cfa old.fp fp_rule fp

-- the caller's lr before it is stripped: an absent or a same value is kept, an undefined one in a first frame only
abbrev pub IsLinkRegister : Scope → Bool → Memory → Registers → ℕ → Option RegisterRule → ℕ → Type 0
IsLinkRegister scope first memory old cfa None lr = lr ≡ old.lr
IsLinkRegister scope first memory old cfa (Some rule.Undefined) lr = (first ≡ true) × (lr ≡ old.lr)
IsLinkRegister scope first memory old cfa (Some rule.SameValue) lr = lr ≡ old.lr
IsLinkRegister scope first memory old cfa lr_rule lr = IsColumn scope memory cfa old.lr lr_rule lr

-- A row means this step, in a first frame or another: the return address is the stripped lr.
pub record RowMeans (bytes : List ℕ) (memory : Memory) (row : Row) (first : Bool) (old : Registers) (address : ℕ)
    (new : Registers) : Type 0 where
  pub lr : ℕ
  pub cfa : IsCfa (scope_of bytes None old) row.cfa new.sp
  pub link_register : IsLinkRegister (scope_of bytes None old) first memory old new.sp (rule_of row.rules lr_column) lr
  pub frame_pointer : IsFramePointer (scope_of bytes None old) memory old new.sp (rule_of row.rules fp_column) new.fp
  pub stripped : address ≡ strip_ptr_auth old.lr_mask lr
  pub new_lr : new.lr ≡ address

-- what a direct result means: its sp is the CFA, each column that has a value has it, and a caller's sp rises
pub record ColumnsMean (bytes : List ℕ) (limit : Option ℕ) (memory : Memory) (row : Row) (first : Bool)
    (old : Registers) (address : ℕ) (new : Registers) : Type 0 where
  pub cfa : IsCfa (scope_of bytes None old) row.cfa new.sp
  pub link_register : (value : ℕ)
      → register_of (scope_of bytes limit old) memory new.sp old.lr (rule_of row.rules lr_column) ≡ Some value
      → (address ≡ strip_ptr_auth old.lr_mask value)
      × IsColumn (scope_of bytes None old) memory new.sp old.lr (rule_of row.rules lr_column) value
  pub frame_pointer : (value : ℕ)
      → register_of (scope_of bytes limit old) memory new.sp old.fp (rule_of row.rules fp_column) ≡ Some value
      → (new.fp ≡ value) × IsColumn (scope_of bytes None old) memory new.sp old.fp (rule_of row.rules fp_column) value
  pub new_lr : new.lr ≡ address
  pub rises : first ≡ false → old.sp < new.sp

-- a step to the caller's frame: sp rises, unless the callee's is the first frame, and stays one of 64 bits
pub record Ascends (first : Bool) (callee caller : Registers) : Type 0 where
  pub rises : first ≡ false → callee.sp < caller.sp
  pub fits : caller.sp < 2 ^ 64
