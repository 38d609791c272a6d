-- The caller's frame by a row (DWARF 5 section 6.4.1).
-- The row of an address is DWARF 5 section 6.4.3.
use Rattle.std.specs.Prelude.{ℕ, ◌<◌, ◌≡◌, ◌==◌, Bool, true, false, not, ◌&&◌, List, Option, Some, None, Result, Ok, Err, if◌then◌else◌}
use Rattle.framehop_cfi.specs.Row.{Row, rule_of}
use Rattle.framehop_cfi.specs.declared.rule.RegisterRule.{RegisterRule}
use Rattle.framehop_cfi.specs.declared.rule.RegisterRule.TheVariants as rule
use Rattle.framehop_dwarf.specs.Direct.{needed}
use Rattle.framehop_callers.specs.declared.convention.Convention.{Convention}
use Rattle.framehop_callers.specs.declared.caller.RowRefusal.{RowRefusal}
use Rattle.framehop_callers.specs.declared.caller.RowRefusal.TheVariants.{Outermost, CfaUnknown, ReturnAddressUnknown, DidNotAdvance}
use Rattle.framehop_callers.specs.Convention.{stack_pointer_of, program_counter_of, return_address_of, keeps}
use Rattle.framehop_callers.specs.RegisterFile.{word_of}
use Rattle.framehop_callers.specs.Rules.{Source, cfa_of, column_by}

-- a frame whose return address is undefined is the outermost one
abbrev pub is_end : Convention → Option RegisterRule → Bool
is_end convention (Some rule.Undefined) = true
is_end convention (Some other) = false
is_end convention None = not (keeps convention (return_address_of convention))

-- both are known, and equal
abbrev pub is_same : Option ℕ → Option ℕ → Bool
is_same (Some word) (Some value) = word == value
is_same word value = false

-- the caller's program counter is the return address
abbrev pub source_of : Convention → ℕ → ℕ
source_of convention column = if column == program_counter_of convention then return_address_of convention else column

-- the value of a column of the caller
abbrev pub caller_column : Convention → Source → Row → ℕ → ℕ → Option ℕ
caller_column convention source row cfa column =
    column_by convention source cfa (source_of convention column)
    (rule_of row.rules (record { 0 = source_of convention column }))

-- each of the 33 columns has its value
abbrev pub HasColumns : (ℕ → Option ℕ) → List (Option ℕ) → Type 0
HasColumns values words = (column : ℕ) → column < 33 → word_of words (record { 0 = column }) ≡ values column

-- the frame has this stack pointer and this program counter itself
abbrev pub is_stuck : Convention → List (Option ℕ) → Option ℕ → ℕ → Bool
is_stuck convention words stack_pointer address =
    is_same (word_of words (record { 0 = stack_pointer_of convention })) stack_pointer
    && is_same (word_of words (record { 0 = program_counter_of convention })) (Some address)

-- the CFA and the return address, or why there is no caller
abbrev pub step_of : Convention → Source → Row → Result (ℕ × ℕ) RowRefusal
step_of convention source row =
    if is_end convention (rule_of row.rules (record { 0 = return_address_of convention })) then Err Outermost
    else needed CfaUnknown (cfa_of source row.cfa) (λ cfa.
    needed ReturnAddressUnknown (caller_column convention source row cfa (program_counter_of convention)) (λ address.
    if is_stuck convention source.words (caller_column convention source row cfa (stack_pointer_of convention)) address
    then Err DidNotAdvance else Ok (cfa, address)))
