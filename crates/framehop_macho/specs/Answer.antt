-- What unwinding by compact unwind info returns.
-- (framehop 0.16.0, `macho.rs`.)
use Rattle.std.specs.Prelude.{Option, Some, None, Result, Ok, Err}
use Rattle.framehop_macho.specs.declared.macho.CompactUnwindInfoUnwinderError.{CompactUnwindInfoUnwinderError}
use Rattle.framehop_macho.specs.declared.macho.CuiUnwindResult.{CuiUnwindResult}
use Rattle.framehop_macho.specs.declared.macho.CuiUnwindResult.TheVariants.{ExecRule, NeedDwarf}

-- a rule, an FDE's offset, or a refusal
abbrev pub Answer : Type 0 → Type 0
Answer Rule = Result (CuiUnwindResult Rule) CompactUnwindInfoUnwinderError

-- a rule, where one is found
abbrev pub exec_rule : {Rule E : Type 0} → Result Rule E → Result (CuiUnwindResult Rule) E
exec_rule (Ok rule) = Ok (ExecRule rule)
exec_rule (Err error) = Err error

-- a fact of the rule, where one is returned
abbrev pub IfRule : {Rule E : Type 0} → Result (CuiUnwindResult Rule) E → (Rule → Type 0) → Type 0
IfRule (Ok (ExecRule rule)) P = P rule
IfRule (Ok (NeedDwarf _)) P = Unit {0}
IfRule (Err _) P = Unit {0}

-- the rule that a code analysis finds, or another answer where it finds none
abbrev pub rule_or : {Rule : Type 0} → Option Rule → (otherwise : Answer Rule) → Answer Rule
rule_or (Some rule) otherwise = Ok (ExecRule rule)
rule_or None otherwise = otherwise
