-- aarch64: what a rule's step to the caller has found, and that sp rises. Lemmas: the law of `UnwindRule` cites the
-- last one.
use Rattle.std.proofs.Common.{◌≡◌, ◌≢◌, ℕ, ◌^◌, ◌<◌, ◌≤◌, ℤ, pos, Bool, true, false, not, ◌&&◌, ◌||◌, nat_eq, nat_le, Ok, refl, sym, ap, ◌∙◌, arith}
use Rattle.std.proofs.lemmas.Bool.{or_parts}
use Rattle.std.proofs.lemmas.Bool.Decides.{nat_tests}
use Rattle.framehop_core.specs.Memory.{Memory}
use Rattle.framehop_core.specs.Outcome.{Outcome, answered, address_at}
use Rattle.framehop_core.specs.Aarch64.Registers.{Registers, strip_ptr_auth}
use Rattle.framehop_core.specs.Aarch64.Rules.{Source, Demand, nothing_more, stack_pointer_rises, frame_pointer_rises, value_from, demanded, finished, Line, caller, no_advance, stack_end, outcome_of_line, line_of, outcome, MovesUp, HasStackPointer, Advances}
use Rattle.framehop_core.specs.declared.error.Error.TheVariants.{DidNotAdvance, FramepointerUnwindingMovedBackwards}
use Rattle.framehop_core.specs.declared.aarch64.unwind_rule.UnwindRuleAarch64.{UnwindRuleAarch64}
use Rattle.framehop_core.specs.declared.aarch64.unwind_rule.UnwindRuleAarch64.TheVariants.{NoOp, NoOpIfFirstFrameOtherwiseFp, OffsetSp, OffsetSpIfFirstFrameOtherwiseStackEndsHere, OffsetSpAndRestoreLr, OffsetSpAndRestoreFpAndLr, UseFramePointer, UseFramepointerWithOffsets}
use Rattle.framehop_core.specs.Runs.{Raises}
use Rattle.framehop_core.specs.Laws.Basics.{pos-same}
use Rattle.framehop_core.specs.Laws.Outcome.{after-answered, address_at-ok, root_unless, refused_unless, same-answered}

-- a demand is met by the caller's sp and fp
abbrev pub Meets : Demand → Registers → ℕ → ℕ → Type 0
Meets nothing_more r sp fp = Unit {0}
Meets stack_pointer_rises r sp fp = r.sp < sp
Meets frame_pointer_rises r sp fp = (fp ≢ 0) × (r.fp < fp) × (r.sp < sp)

pub demanded-answered : (demand : Demand) (r : Registers) (sp fp : ℕ) (next : Outcome Registers) (address : ℕ)
    (new : Registers) → demanded demand r sp fp next ≡ answered address new
    → Meets demand r sp fp × (next ≡ answered address new)
demanded-answered nothing_more r sp fp next address new e = (tt, e)
demanded-answered stack_pointer_rises r sp fp next address new e =
    let test = refused_unless (nat_le sp r.sp) FramepointerUnwindingMovedBackwards next address new e in
    ((let above = test.0 in grind (arith, nat_tests)), test.1)
demanded-answered frame_pointer_rises r sp fp next address new e =
    let zero = root_unless (nat_eq fp 0) _ address new e in
    let test =
    refused_unless (nat_le fp r.fp || nat_le sp r.sp) FramepointerUnwindingMovedBackwards next address new zero.1 in
    let both = or_parts (nat_le fp r.fp) (nat_le sp r.sp) test.0 in (
      (
        (let not_zero = zero.0 in λ is. grind (arith, nat_tests)),
        (let above = both.0 in grind (arith, nat_tests)),
        (let above = both.1 in grind (arith, nat_tests)),
      ),
      test.1,
    )

-- the last step answers: the return address is not 0, and sp moves in a frame that is not the first
pub record IsFinished (first : Bool) (r : Registers) (sp lr fp address : ℕ) (new : Registers) : Type 0 where
  pub stripped : address ≡ strip_ptr_auth r.lr_mask lr
  pub not_zero : address ≢ 0
  pub moved : first ≡ false → sp ≢ r.sp
  pub registers : new ≡ record r { lr = address; sp = sp; fp = fp }

stays : (first : Bool) (sp old : ℕ) → (not first && nat_eq sp old) ≡ false → first ≡ false → sp ≢ old
stays true sp old test first = cc
stays false sp old test first = λ same. grind (arith, nat_tests)

pub finished-answered : (first : Bool) (r : Registers) (sp lr fp address : ℕ) (new : Registers)
    → finished first r sp lr fp ≡ answered address new → IsFinished first r sp lr fp address new
finished-answered first r sp lr fp address new e =
    let found = strip_ptr_auth r.lr_mask lr in
    let zero = root_unless (nat_eq found 0) _ address new e in
    let test = refused_unless (not first && nat_eq sp r.sp) DidNotAdvance _ address new zero.1 in
    let same = same-answered found address (record r { lr = found; sp = sp; fp = fp }) new test.1 in
    record {
      stripped = sym same.0;
      not_zero = (let not_zero = zero.0 in let is = same.0 in λ none. grind (arith, nat_tests));
      moved = stays first sp r.sp test.0;
      registers = sym same.1 ∙ ap (λ a. record r { lr = a; sp = sp; fp = fp }) same.0;
    }

-- a line of the table answers: what it has found
pub record IsCaller (sp : ℤ) (lr fp : Source) (demand : Demand) (first : Bool) (r : Registers) (memory : Memory)
    (address : ℕ) (new : Registers) : Type 0 where
  pub new_sp : ℕ
  pub new_lr : ℕ
  pub new_fp : ℕ
  pub sp_is : sp ≡ pos new_sp
  pub sp_fits : new_sp < 2 ^ 64
  pub lr_is : value_from memory lr ≡ Ok new_lr
  pub fp_is : value_from memory fp ≡ Ok new_fp
  pub met : Meets demand r new_sp new_fp
  pub end : IsFinished first r new_sp new_lr new_fp address new

pub caller-answered : (sp : ℤ) (lr fp : Source) (demand : Demand) (first : Bool) (r : Registers) (memory : Memory)
    (address : ℕ) (new : Registers) → outcome_of_line (caller sp lr fp demand) first r memory ≡ answered address new
    → IsCaller sp lr fp demand first r memory address new
caller-answered sp lr fp demand first r memory address new e =
    let a = after-answered (address_at sp) _ address new e in
    let b = after-answered (value_from memory lr) _ address new a.2 in
    let c = after-answered (value_from memory fp) _ address new b.2 in
    let d = demanded-answered demand r a.0 c.0 _ address new c.2 in
    let at = address_at-ok sp a.0 a.1 in
    record {
      new_sp = a.0;
      new_lr = b.0;
      new_fp = c.0;
      sp_is = at.0;
      sp_fits = at.1;
      lr_is = b.1;
      fp_is = c.1;
      met = d.0;
      end = finished-answered first r a.0 b.0 c.0 address new d.1;
    }

-- ---- sp does not fall

kept_or_raised : (sp : ℤ) (lr fp : Source) (demand : Demand) (first : Bool) (r : Registers) (memory : Memory)
    (address : ℕ) (new : Registers) → ((n : ℕ) (new_fp : ℕ) → sp ≡ pos n → Meets demand r n new_fp → r.sp ≤ n)
    → outcome_of_line (caller sp lr fp demand) first r memory ≡ answered address new → MovesUp first r new
kept_or_raised sp lr fp demand first r memory address new least e =
    let c = caller-answered sp lr fp demand first r memory address new e in
    let same : new.sp ≡ c.new_sp = ap (λ t. t.sp) c.end.registers in
    let up : r.sp ≤ c.new_sp = least c.new_sp c.new_fp c.sp_is c.met in
    record {
      not_below = omega arith;
      rises = λ caller. let moved = c.end.moved caller in omega (arith, same);
      fits = omega (arith, same, c.sp_fits);
    }

-- a line whose caller's sp cannot lie below the callee's
abbrev IsUpward : Line → Registers → Type 0
IsUpward no_advance r = Unit {0}
IsUpward stack_end r = Unit {0}
IsUpward (caller sp lr fp demand) r = (n new_fp : ℕ) → sp ≡ pos n → Meets demand r n new_fp → r.sp ≤ n

line-MovesUp : (line : Line) (first : Bool) (r : Registers) (memory : Memory) (address : ℕ) (new : Registers)
    → IsUpward line r → outcome_of_line line first r memory ≡ answered address new → MovesUp first r new
line-MovesUp no_advance first r memory address new up e = cc
line-MovesUp stack_end first r memory address new up e = cc
line-MovesUp (caller sp lr fp demand) first r memory address new up e =
    kept_or_raised sp lr fp demand first r memory address new up e

-- an answer has its sp from the line
line-HasStackPointer : (line : Line) (first : Bool) (r : Registers) (memory : Memory) (address : ℕ) (new : Registers)
    → outcome_of_line line first r memory ≡ answered address new → HasStackPointer line new.sp
line-HasStackPointer no_advance first r memory address new e = cc
line-HasStackPointer stack_end first r memory address new e = cc
line-HasStackPointer (caller sp lr fp demand) first r memory address new e =
    let c = caller-answered sp lr fp demand first r memory address new e in
    c.sp_is ∙ ap pos (sym (ap (λ t. t.sp) c.end.registers))

IsUpward-line_of : (rule : UnwindRuleAarch64) (first : Bool) (r : Registers) → IsUpward (line_of rule first r) r
IsUpward-line_of NoOp true r = λ n f is met. let same = pos-same _ n is in omega arith
IsUpward-line_of NoOp false r = tt
IsUpward-line_of NoOpIfFirstFrameOtherwiseFp true r = λ n f is met. let same = pos-same _ n is in omega arith
IsUpward-line_of NoOpIfFirstFrameOtherwiseFp false r = λ n f is met. omega arith
IsUpward-line_of (OffsetSp x) true r = λ n f is met. let same = pos-same _ n is in omega arith
IsUpward-line_of (OffsetSp x) false r = tt
IsUpward-line_of (OffsetSpIfFirstFrameOtherwiseStackEndsHere x) true r =
    λ n f is met. let same = pos-same _ n is in omega arith
IsUpward-line_of (OffsetSpIfFirstFrameOtherwiseStackEndsHere x) false r = tt
IsUpward-line_of (OffsetSpAndRestoreLr x z) first r = λ n f is met. let same = pos-same _ n is in omega arith
IsUpward-line_of (OffsetSpAndRestoreFpAndLr x y z) first r = λ n f is met. let same = pos-same _ n is in omega arith
IsUpward-line_of UseFramePointer first r = λ n f is met. omega (arith, met.2)
IsUpward-line_of (UseFramepointerWithOffsets x y z) first r = λ n f is met. omega (arith, met.2)

-- a rule that answers an address advances
pub outcome-Advances : (rule : UnwindRuleAarch64) (first : Bool) (r : Registers) (memory : Memory) (address : ℕ)
    (new : Registers) → outcome rule first r memory ≡ answered address new → Advances rule first r new
outcome-Advances rule first r memory address new e = record {
  up = line-MovesUp (line_of rule first r) first r memory address new (IsUpward-line_of rule first r) e;
  stack_pointer = line-HasStackPointer (line_of rule first r) first r memory address new e;
}

pub raises : Raises outcome (λ r. r.sp) (λ memory r. Unit {0})
raises = record {
  leads = λ rule first old new memory address e. tt;
  rises = λ rule old new memory address behind e. (outcome-Advances rule false old memory address new e).up.rises refl;
}
