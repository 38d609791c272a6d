-- One step by unwind data of any format: it returns a rule, or a return address that is computed on the spot with the
-- caller's registers, or an error.
use Rattle.std.specs.Prelude.{ℕ, ◌≡◌, Option, Some, None, Result, Ok, Err}
use Rattle.framehop_core.specs.declared.unwind_result.UnwindResult.{UnwindResult}
use Rattle.framehop_core.specs.declared.unwind_result.UnwindResult.TheVariants.{ExecRule, Uncacheable}

-- a fact of the rule, where one is returned
abbrev pub IfRule : {Rule E : Type 0} → Result (UnwindResult Rule) E → (Rule → Type 0) → Type 0
IfRule (Ok (ExecRule rule)) P = P rule
IfRule (Ok (Uncacheable address)) P = Unit {0}
IfRule (Err error) P = Unit {0}

-- a fact of the return address, where one is computed
abbrev pub IfAddress : {Rule E : Type 0} → Result (UnwindResult Rule) E → (ℕ → Type 0) → Type 0
IfAddress (Ok (ExecRule rule)) P = Unit {0}
IfAddress (Ok (Uncacheable address)) P = P address
IfAddress (Err error) P = Unit {0}

-- registers are written only with a return address, and are then related to those before
abbrev pub WritesWithAddress : {Rule Regs E : Type 0} → (Regs → Regs → Type 0) → Result (UnwindResult Rule) E
    → (old new : Regs) → Type 0
WritesWithAddress Related (Ok (ExecRule rule)) old new = new ≡ old
WritesWithAddress Related (Ok (Uncacheable address)) old new = Related old new
WritesWithAddress Related (Err error) old new = new ≡ old

-- registers are written only with a return address
abbrev pub KeptWithoutAddress : {Rule Regs E : Type 0} → Result (UnwindResult Rule) E → (old new : Regs) → Type 0
KeptWithoutAddress result old new = WritesWithAddress (λ before after. Unit {0}) result old new

-- no rule is returned: a return address, or an error of this kind
abbrev pub IsNoRule : {Rule E : Type 0} → (E → Type 0) → Result (UnwindResult Rule) E → Type 0
IsNoRule OfValues (Ok (ExecRule rule)) = ⊥
IsNoRule OfValues (Ok (Uncacheable address)) = Unit {0}
IsNoRule OfValues (Err error) = OfValues error

-- What the bytes give is returned, whatever the callback replies: an error or a rule as it is, and where they give
-- `None`, a return address is computed, or refused by an error of values.
abbrev pub TellsFound : {Rule E : Type 0} → (E → Type 0) → Result (Option Rule) E → Result (UnwindResult Rule) E
    → Type 0
TellsFound OfValues (Err error) result = result ≡ Err error
TellsFound OfValues (Ok (Some rule)) result = result ≡ Ok (ExecRule rule)
TellsFound OfValues (Ok None) result = IsNoRule OfValues result
