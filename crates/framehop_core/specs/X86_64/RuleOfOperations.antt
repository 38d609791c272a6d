-- The rule of operations as a function of them: of all rules it is the one that `IsRuleOfOperations` allows.
use Rattle.std.specs.Prelude.{ℕ, zero, Bool, ◌==◌, List, [], length, Option, Some, option_map, option_and_then}
use Rattle.std.specs.Cmp.Lexicographic.{pointwise}
use Rattle.std.specs.List.{find, range_with_len}
use Rattle.framehop_core.specs.X86_64.Ordering.{ordering}
use Rattle.framehop_core.specs.X86_64.Rules.{offset_and_pops_of}
use Rattle.framehop_core.specs.declared.x86_64.unwindregs.Reg.{Reg}
use Rattle.framehop_core.specs.declared.x86_64.unwindregs.Reg.TheVariants.{RAX, RDX, RCX, RBX, RSI, RDI, RBP, RSP, R8, R9, R10, R11, R12, R13, R14, R15}
use Rattle.framehop_core.specs.declared.x86_64.unwind_rule.OffsetOrPop.{OffsetOrPop}
use Rattle.framehop_core.specs.declared.x86_64.unwind_rule.UnwindRuleX86_64.{UnwindRuleX86_64}
use Rattle.framehop_core.specs.declared.x86_64.unwind_rule.UnwindRuleX86_64.TheVariants.{JustReturn, OffsetSpAndPopRegisters}

-- the place of a register in the order of `Reg`
abbrev pub place_of : Reg → ℕ
place_of RAX = 0
place_of RDX = 1
place_of RCX = 2
place_of RBX = 3
place_of RSI = 4
place_of RDI = 5
place_of RBP = 6
place_of RSP = 7
place_of R8 = 8
place_of R9 = 9
place_of R10 = 10
place_of R11 = 11
place_of R12 = 12
place_of R13 = 13
place_of R14 = 14
place_of R15 = 15

-- two registers are the same
abbrev pub register_eq : Reg → Reg → Bool
register_eq a b = place_of a == place_of b

-- the least number below a bound that passes a test
unfoldable pub least_below : ℕ → (ℕ → Bool) → Option ℕ
least_below bound test = find test (range_with_len 0 bound)

-- the least number whose ordering is these registers, if they have one; all orderings have numbers below 8!
unfoldable pub number_of : List Reg → Option ℕ
number_of registers = least_below 40320 (λ n. pointwise register_eq (ordering (length registers) n) registers)

-- the rule of an offset and the registers after it, if these have an ordering: without both a plain return
unfoldable pub rule_of : ℕ → List Reg → Option UnwindRuleX86_64
rule_of zero [] = Some JustReturn
rule_of x registers = option_map (λ n. OffsetSpAndPopRegisters x (length registers) n) (number_of registers)

-- the rule of operations, if they are at most one offset and then pops of registers that have an ordering
unfoldable pub rule_of_operations : List OffsetOrPop → Option UnwindRuleX86_64
rule_of_operations operations = option_and_then (λ found. rule_of found.0 found.1) (offset_and_pops_of operations)
