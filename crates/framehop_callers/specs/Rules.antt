-- The values that the rules of a row give (DWARF 5 section 6.4.1).
use Rattle.std.specs.Prelude.{ℕ, ◌^◌, ◌==◌, List, Option, Some, None, option_and_then, ℤ, pos, negsuc, ◌+ℤ◌, nat_lt, if◌then◌else◌}
use Rattle.framehop_core.specs.Memory.{Memory}
use Rattle.framehop_cfi.specs.declared.rule.CfaRule.{CfaRule}
use Rattle.framehop_cfi.specs.declared.rule.CfaRule.TheVariants as cfa
use Rattle.framehop_cfi.specs.declared.rule.RegisterRule.{RegisterRule}
use Rattle.framehop_cfi.specs.declared.rule.RegisterRule.TheVariants as rule
use Rattle.framehop_callers.specs.declared.convention.Convention.{Convention}
use Rattle.framehop_callers.specs.Convention.{stack_pointer_of, keeps}
use Rattle.framehop_callers.specs.Evaluation.{value_in}
use Rattle.framehop_callers.specs.RegisterFile.{word_of}

-- what rules are evaluated over: the section's bytes, the registers of the frame, and the memory
pub record Source : Type 0 where
  pub bytes : List ℕ
  pub words : List (Option ℕ)
  pub memory : Memory

-- an address has 64 bits
abbrev pub address_of : ℤ → Option ℕ
address_of (pos n) = if nat_lt n (2 ^ 64) then Some n else None
address_of (negsuc n) = None

-- an address and an offset in bytes
abbrev pub sum_of : ℕ → ℤ → Option ℕ
sum_of base offset = address_of (pos base +ℤ offset)

-- the CFA
abbrev pub cfa_of : Source → CfaRule → Option ℕ
cfa_of source (cfa.RegisterAndOffset register offset) =
    option_and_then (λ base. sum_of base offset) (word_of source.words register)
cfa_of source (cfa.Expression expression) = value_in source.bytes (word_of source.words) source.memory expression None

-- the value of a register that now has this value, if it is known; an expression starts with the CFA
abbrev pub value_by : Source → ℕ → Option ℕ → RegisterRule → Option ℕ
value_by source cfa own rule.Undefined = None
value_by source cfa own rule.SameValue = own
value_by source cfa own (rule.Offset offset) = option_and_then source.memory (sum_of cfa offset)
value_by source cfa own (rule.ValOffset offset) = sum_of cfa offset
value_by source cfa own (rule.Register register) = word_of source.words register
value_by source cfa own (rule.Expression expression) =
    option_and_then source.memory
    (value_in source.bytes (word_of source.words) source.memory expression (Some cfa))
value_by source cfa own (rule.ValExpression expression) =
    value_in source.bytes (word_of source.words) source.memory expression (Some cfa)

-- the value of a register that the row doesn't name: the stack pointer is the CFA, and a register that functions keep
-- has its own value
abbrev pub by_convention : Convention → ℕ → ℕ → Option ℕ → Option ℕ
by_convention convention column cfa own =
    if column == stack_pointer_of convention then Some cfa else (if keeps convention column then own else None)

-- the value of a register in the caller's frame, by its rule if the row names it
abbrev pub column_by : Convention → Source → ℕ → ℕ → Option RegisterRule → Option ℕ
column_by convention source cfa column (Some rule) =
    value_by source cfa (word_of source.words (record { 0 = column })) rule
column_by convention source cfa column None =
    by_convention convention column cfa (word_of source.words (record { 0 = column }))
