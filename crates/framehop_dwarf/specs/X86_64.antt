-- From a row to a frame on x86_64: the rule that a row is translated to, and the values of the rows that have none
-- (framehop 0.16.0, `x86_64/dwarf.rs`; System V ABI for AMD64, figure 3.36).
-- What a row means is DWARF 5 section 6.4.1.
use Rattle.std.specs.Prelude.{ℕ, ◌-◌, ◌≡◌, ◌<◌, ◌⊎◌, Bool, true, not, List, Option, Some, None, option_map, option_and_then, unwrap_or, Result, Ok, Err, ℤ, pos, ◌+ℤ◌, ◌==◌, ◌&&◌, nat_lt, if◌then◌else◌}
use Rattle.std.specs.Ordering.{int_eq}
use Rattle.framehop_bytes.specs.Minus.{minus}
use Rattle.framehop_core.specs.Memory.{Memory}
use Rattle.framehop_core.specs.X86_64.Registers.{Registers}
use Rattle.framehop_core.specs.declared.x86_64.unwind_rule.UnwindRuleX86_64.{UnwindRuleX86_64}
use Rattle.framehop_core.specs.declared.x86_64.unwind_rule.UnwindRuleX86_64.TheVariants.{EndOfStack, OffsetSp, OffsetSpAndRestoreBp, UseFramePointer, UseFramePointerWithOffsets}
use Rattle.framehop_cfi.specs.Row.{Row, rule_of}
use Rattle.framehop_cfi.specs.X86_64.{RBP, RSP, RA}
use Rattle.framehop_cfi.specs.declared.rule.Register.{Register}
use Rattle.framehop_cfi.specs.declared.rule.CfaRule.{CfaRule}
use Rattle.framehop_cfi.specs.declared.rule.CfaRule.TheVariants as cfa
use Rattle.framehop_cfi.specs.declared.rule.RegisterRule.{RegisterRule}
use Rattle.framehop_cfi.specs.declared.rule.RegisterRule.TheVariants as rule
use Rattle.framehop_dwarf.specs.Units.{units_of, signed_units_of}
use Rattle.framehop_dwarf.specs.Direct.{Scope, cfa_of, register_of, needed}
use Rattle.framehop_dwarf.specs.RowMeaning.{IsCfa, IsStored, IsColumn}
use Rattle.framehop_cfi.specs.declared.dwarf_error.DwarfUnwinderError.{DwarfUnwinderError}
use Rattle.framehop_cfi.specs.declared.dwarf_error.DwarfUnwinderError.TheVariants.{CouldNotRecoverCfa, CouldNotRecoverReturnAddress, DidNotAdvance, StackPointerMovedBackwards}

-- the columns that a frame has
abbrev pub bp_column : Register
bp_column = record { 0 = RBP }

abbrev pub sp_column : Register
sp_column = record { 0 = RSP }

abbrev pub return_column : Register
return_column = record { 0 = RA }

-- the register of a column
abbrev pub column_of : Registers → Register → Option ℕ
column_of r column =
    if column.0 == RA then Some r.ip
    else (if column.0 == RSP then Some r.rsp
    else (if column.0 == RBP then Some r.rbp
    else None))

-- ---- the rule of a row

-- the CFA is rsp plus a number of words; rbp is where it was, or it is saved beside rsp
abbrev pub with_bp : ℕ → ℤ → Option RegisterRule → Option UnwindRuleX86_64
with_bp words offset None = Some (OffsetSp words)
with_bp words offset (Some rule.Undefined) = Some (OffsetSp words)
with_bp words offset (Some rule.SameValue) = Some (OffsetSp words)
with_bp words offset (Some (rule.Offset saved)) =
    option_map (OffsetSpAndRestoreBp words) (signed_units_of 8 (offset +ℤ saved))
with_bp words offset (Some other) = None

abbrev pub by_sp : ℤ → Option RegisterRule → Option UnwindRuleX86_64
by_sp offset bp = option_and_then (λ words. with_bp words offset bp) (units_of 8 offset)

-- the CFA is rbp plus a number of words, and rbp is saved beside rbp
abbrev pub with_offsets : ℤ → ℤ → Option UnwindRuleX86_64
with_offsets offset saved =
    option_and_then (λ words. option_map (UseFramePointerWithOffsets words) (signed_units_of 8 (offset +ℤ saved)))
    (units_of 8 offset)

-- the same, where the CFA is rbp plus 16, and rbp is saved 16 bytes below it
abbrev pub by_bp : ℤ → Option RegisterRule → Option UnwindRuleX86_64
by_bp offset (Some (rule.Offset saved)) =
    if int_eq offset (pos 16) && int_eq saved (minus 16) then Some UseFramePointer else with_offsets offset saved
by_bp offset other = None

-- by the register of the CFA
abbrev pub by_cfa : CfaRule → Option RegisterRule → Option UnwindRuleX86_64
by_cfa (cfa.RegisterAndOffset register offset) bp =
    if register.0 == RSP then by_sp offset bp else (if register.0 == RBP then by_bp offset bp else None)
by_cfa (cfa.Expression expression) bp = None

-- without a return address the stack ends; else it is the word below the CFA
abbrev pub translated_by : CfaRule → Option RegisterRule → Option RegisterRule → Option UnwindRuleX86_64
translated_by cfa bp None = Some EndOfStack
translated_by cfa bp (Some rule.Undefined) = Some EndOfStack
translated_by cfa bp (Some (rule.Offset offset)) = if int_eq offset (minus 8) then by_cfa cfa bp else None
translated_by cfa bp (Some other) = None

-- the rule that a row is translated to, if there is one
unfoldable pub translated : Row → Option UnwindRuleX86_64
translated row = translated_by row.cfa (rule_of row.rules bp_column) (rule_of row.rules return_column)

-- ---- the values of a row

-- the word below the CFA
abbrev pub below : Memory → ℕ → Option ℕ
below memory cfa = if nat_lt cfa 8 then None else memory (cfa - 8)

-- an address, or else that word
abbrev pub or_below : Option ℕ → Option ℕ → Option ℕ
or_below (Some address) word = Some address
or_below None word = word

-- the caller's registers, but the same frame and one below it are refused
abbrev pub stepped : Bool → Registers → ℕ → ℕ → ℕ → Result (ℕ × Registers) DwarfUnwinderError
stepped first r cfa bp address =
    if (cfa == r.rsp) && (address == r.ip) then Err DidNotAdvance
    else (if not first && nat_lt cfa r.rsp then Err StackPointerMovedBackwards
    else Ok (address, record r { ip = address; rsp = cfa; rbp = bp }))

-- the scope of a row's rules
abbrev pub scope_of : List ℕ → Option ℕ → Registers → Scope
scope_of bytes limit r = record { bytes = bytes; columns = column_of r; limit = limit }

-- the values of a row: its CFA, and where there is one its rbp and return address
abbrev pub direct_by : Scope → Memory → CfaRule → Option RegisterRule → Option RegisterRule → Bool → Registers
    → Result (ℕ × Registers) DwarfUnwinderError
direct_by scope memory cfa_rule bp_rule return_rule first r =
    needed CouldNotRecoverCfa (cfa_of scope cfa_rule) (λ cfa.
    needed CouldNotRecoverReturnAddress (or_below (register_of scope memory cfa r.ip return_rule)
    (below memory cfa)) (λ address.
    stepped first r cfa (unwrap_or (register_of scope memory cfa r.rbp bp_rule) r.rbp) address))

unfoldable pub direct_of : List ℕ → Option ℕ → Memory → Row → Bool → Registers
    → Result (ℕ × Registers) DwarfUnwinderError
direct_of bytes limit memory row first r =
    direct_by (scope_of bytes limit r) memory row.cfa (rule_of row.rules bp_column)
    (rule_of row.rules return_column) first r

-- ---- what a row means

-- a saved rbp below rsp that can't be read is kept in a first frame
pub record IsUnreadable (first : Bool) (memory : Memory) (old : Registers) (cfa : ℕ) (offset : ℤ)
    (bp : ℕ) : Type 0 where
  pub in_first : first ≡ true
  pub at : ℕ
  pub is_at : pos cfa +ℤ offset ≡ pos at
  pub below_sp : at < old.rsp
  pub unreadable : memory at ≡ None
  pub kept : bp ≡ old.rbp

-- the caller's rbp: an absent, an undefined or a same value is kept
abbrev pub IsFramePointer : Scope → Bool → Memory → Registers → ℕ → Option RegisterRule → ℕ → Type 0
IsFramePointer scope first memory old cfa None bp = bp ≡ old.rbp
IsFramePointer scope first memory old cfa (Some rule.Undefined) bp = bp ≡ old.rbp
IsFramePointer scope first memory old cfa (Some rule.SameValue) bp = bp ≡ old.rbp
IsFramePointer scope first memory old cfa (Some (rule.Offset offset)) bp =
    IsStored memory cfa offset bp ⊎ IsUnreadable first memory old cfa offset bp
IsFramePointer scope first memory old cfa bp_rule bp = IsColumn scope memory cfa old.rbp bp_rule bp

-- A row means this step, in a first frame or another. Without a return column there is no address, and so no step.
pub record RowMeans (bytes : List ℕ) (memory : Memory) (row : Row) (first : Bool) (old : Registers) (address : ℕ)
    (new : Registers) : Type 0 where
  pub cfa : IsCfa (scope_of bytes None old) row.cfa new.rsp
  pub return_address : IsColumn (scope_of bytes None old) memory new.rsp old.ip
      (rule_of row.rules return_column) address
  pub frame_pointer : IsFramePointer (scope_of bytes None old) first memory old new.rsp
      (rule_of row.rules bp_column) new.rbp
  pub ip : new.ip ≡ address

-- what a direct result means: its rsp is the CFA, and each column that has a value has it
pub record ColumnsMean (bytes : List ℕ) (limit : Option ℕ) (memory : Memory) (row : Row) (first : Bool)
    (old : Registers) (address : ℕ) (new : Registers) : Type 0 where
  pub cfa : IsCfa (scope_of bytes None old) row.cfa new.rsp
  pub return_address : (value : ℕ)
      → register_of (scope_of bytes limit old) memory new.rsp old.ip (rule_of row.rules return_column) ≡ Some value
      → (address ≡ value) × IsColumn (scope_of bytes None old) memory new.rsp old.ip
      (rule_of row.rules return_column) value
  pub frame_pointer : (value : ℕ)
      → register_of (scope_of bytes limit old) memory new.rsp old.rbp (rule_of row.rules bp_column) ≡ Some value
      → (new.rbp ≡ value) × IsColumn (scope_of bytes None old) memory new.rsp old.rbp
      (rule_of row.rules bp_column) value
  pub ip : new.ip ≡ address
