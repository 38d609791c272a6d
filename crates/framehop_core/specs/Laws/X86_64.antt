-- x86_64: what a rule's step to the caller has found, and that rsp rises. Lemmas: the law of `UnwindRule` cites the
-- last one.
use Rattle.std.proofs.Common.{◌≡◌, ◌≢◌, ℕ, ◌^◌, ◌<◌, ◌≤◌, ℤ, pos, ◌-ℤ◌, Bool, true, false, ◌&&◌, nat_eq, nat_le, cond, List, [], ◌∷◌, Option, Some, None, Result, Ok, Err, refl, sym, ap, ◌∙◌, arith}
use Rattle.std.proofs.lemmas.Bool.Decides.{nat_tests}
use Rattle.framehop_core.specs.Memory.{Memory}
use Rattle.framehop_core.specs.Outcome.{Outcome, answered, address_at, word_at, word_from, above}
use Rattle.framehop_core.specs.X86_64.Registers.{Registers, register, with_register}
use Rattle.framehop_core.specs.X86_64.Rules.{Source, Demand, nothing_more, stack_pointer_rises, value_from, demanded, popped, return_address, returned, finished, Line, caller, pops, stack_end, outcome_of_line, line_of, frame_pointer_line, frame_pointer_line_with, outcome, StandsAfterReturn}
use Rattle.framehop_core.specs.declared.error.Error.{Error}
use Rattle.framehop_core.specs.declared.error.Error.TheVariants.{DidNotAdvance, FramepointerUnwindingMovedBackwards}
use Rattle.framehop_core.specs.declared.x86_64.unwindregs.Reg.{Reg}
use Rattle.framehop_core.specs.declared.x86_64.unwind_rule.UnwindRuleX86_64.{UnwindRuleX86_64}
use Rattle.framehop_core.specs.declared.x86_64.unwind_rule.UnwindRuleX86_64.TheVariants.{EndOfStack, JustReturn, JustReturnIfFirstFrameOtherwiseFp, OffsetSp, OffsetSpAndRestoreBp, UseFramePointer, UseFramePointerWithOffsets, OffsetSpAndPopRegisters}
use Rattle.framehop_core.specs.Runs.{Raises}
use Rattle.framehop_core.specs.Laws.Basics.{ok-same, pos-same}
use Rattle.framehop_core.specs.Laws.Outcome.{after-answered, and_then-ok, address_at-ok, refused_unless, same-answered}

-- a demand is met by the caller's rsp
abbrev pub Meets : Demand → Registers → ℕ → Type 0
Meets nothing_more r sp = Unit {0}
Meets stack_pointer_rises r sp = r.rsp < sp

pub demanded-answered : (demand : Demand) (r : Registers) (sp : ℕ) (next : Outcome Registers) (address : ℕ)
    (new : Registers) → demanded demand r sp next ≡ answered address new
    → Meets demand r sp × (next ≡ answered address new)
demanded-answered nothing_more r sp next address new e = (tt, e)
demanded-answered stack_pointer_rises r sp next address new e =
    let test = refused_unless (nat_le sp r.rsp) FramepointerUnwindingMovedBackwards next address new e in
    ((let above = test.0 in grind (arith, nat_tests)), test.1)

-- The last step answers: the return address is the word below the caller's rsp, it is not 0, and not both of them are
-- as they were.
pub record IsFinished (callee restored : Registers) (memory : Memory) (address : ℕ) (new : Registers) : Type 0 where
  pub word : word_from memory (pos restored.rsp -ℤ pos 8) ≡ Ok address
  pub not_zero : address ≢ 0
  pub moved : restored.rsp ≡ callee.rsp → address ≡ callee.ip → ⊥
  pub registers : new ≡ record restored { ip = address }

returned-answered : (restored : Registers) (found : Option ℕ) (address : ℕ) (new : Registers)
    → returned restored found ≡ answered address new → (found ≡ Some address) × (new ≡ record restored { ip = address })
returned-answered restored None address new e = cc
returned-answered restored (Some a) address new e =
    let same = same-answered a address (record restored { ip = a }) new e in
    (ap Some same.0, sym same.1 ∙ ap (λ b. record restored { ip = b }) same.0)

tested : (zero still : Bool) (word address : ℕ)
    → cond {A = Result (Option ℕ) Error} zero (Ok None) (cond still (Err DidNotAdvance) (Ok (Some word)))
    ≡ Ok (Some address) → (zero ≡ false) × (still ≡ false) × (word ≡ address)
tested true still word address e = cc
tested false true word address e = cc
tested false false word address e = (refl, refl, cc)

and-apart : (a b : Bool) → (a && b) ≡ false → a ≡ true → b ≡ true → ⊥
and-apart a b e p q = cc

pub finished-answered : (callee restored : Registers) (memory : Memory) (address : ℕ) (new : Registers)
    → finished callee restored memory ≡ answered address new → IsFinished callee restored memory address new
finished-answered callee restored memory address new e =
    let a = after-answered (return_address callee restored.rsp memory) _ address new e in
    let b = returned-answered restored a.0 address new a.2 in
    let c = and_then-ok (word_from memory (pos restored.rsp -ℤ pos 8)) _ (Some address) (a.1 ∙ ap Ok b.0) in
    let d = tested (nat_eq c.0 0) (nat_eq restored.rsp callee.rsp && nat_eq c.0 callee.ip) c.0 address c.2 in
    record {
      word = c.1 ∙ ap Ok d.2;
      not_zero = (let zero = d.0 in let is = d.2 in λ none. grind (arith, nat_tests));
      moved = (let still = d.1 in let is = d.2 in λ sp ip.
          and-apart (nat_eq restored.rsp callee.rsp) (nat_eq c.0 callee.ip)
          still (grind (arith, nat_tests)) (grind (arith, nat_tests)));
      registers = b.1;
    }

-- a line of the table answers: what it has found
pub record IsCaller (sp : ℤ) (demand : Demand) (bp : Source) (r : Registers) (memory : Memory) (address : ℕ)
    (new : Registers) : Type 0 where
  pub new_sp : ℕ
  pub new_bp : ℕ
  pub sp_is : sp ≡ pos new_sp
  pub sp_fits : new_sp < 2 ^ 64
  pub met : Meets demand r new_sp
  pub bp_is : value_from memory r.rbp bp ≡ Ok new_bp
  pub end : IsFinished r (record r { rsp = new_sp; rbp = new_bp }) memory address new

pub caller-answered : (sp : ℤ) (demand : Demand) (bp : Source) (r : Registers) (memory : Memory) (address : ℕ)
    (new : Registers) → outcome_of_line (caller sp demand bp) r memory ≡ answered address new
    → IsCaller sp demand bp r memory address new
caller-answered sp demand bp r memory address new e =
    let a = after-answered (address_at sp) _ address new e in
    let b = demanded-answered demand r a.0 _ address new a.2 in
    let c = after-answered (value_from memory r.rbp bp) _ address new b.1 in
    let at = address_at-ok sp a.0 a.1 in
    record {
      new_sp = a.0;
      new_bp = c.0;
      sp_is = at.0;
      sp_fits = at.1;
      met = b.0;
      bp_is = c.1;
      end = finished-answered r (record r { rsp = a.0; rbp = c.0 }) memory address new c.2;
    }

-- a line of pops answers
pub record IsPopped (at : ℤ) (registers : List Reg) (r : Registers) (memory : Memory) (address : ℕ)
    (new : Registers) : Type 0 where
  pub first : ℕ
  pub restored : Registers
  pub first_is : at ≡ pos first
  pub first_fits : first < 2 ^ 64
  pub pops_are : popped memory first registers r ≡ Ok restored
  pub end : IsFinished r restored memory address new

pub pops-answered : (at : ℤ) (registers : List Reg) (r : Registers) (memory : Memory) (address : ℕ) (new : Registers)
    → outcome_of_line (pops at registers) r memory ≡ answered address new → IsPopped at registers r memory address new
pops-answered at registers r memory address new e =
    let a = after-answered (address_at at) _ address new e in
    let b = after-answered (popped memory a.0 registers r) _ address new a.2 in
    let found = address_at-ok at a.0 a.1 in
    record {
      first = a.0;
      restored = b.0;
      first_is = found.0;
      first_fits = found.1;
      pops_are = b.1;
      end = finished-answered r b.0 memory address new b.2;
    }

-- ---- rsp does not fall, and rises from a frame just above its return address

-- pops leave rsp above where they begin
popped-above : (memory : Memory) (address : ℕ) (registers : List Reg) (r restored : Registers)
    → popped memory address registers r ≡ Ok restored → address ≤ restored.rsp
popped-above memory address [] r restored e =
    let a = and_then-ok (address_at (above address 8)) _ restored e in
    let at = pos-same _ _ (address_at-ok (above address 8) a.0 a.1).0 in
    let same : record r { rsp = a.0 } ≡ restored = cc in
    let sp : a.0 ≡ restored.rsp = ap (λ s. s.rsp) same in
    omega arith
popped-above memory address (register ∷ registers) r restored e =
    let a = and_then-ok (word_at memory address) _ restored e in
    let b = and_then-ok (address_at (above address 8)) _ restored a.2 in
    let at = pos-same _ _ (address_at-ok (above address 8) b.0 b.1).0 in
    omega (arith, popped-above memory b.0 registers (with_register r register a.0) restored b.2)

-- what a step of a rule that answers has done
pub record IsReturn (r : Registers) (memory : Memory) (address : ℕ) (new : Registers) : Type 0 where
  pub not_below : r.rsp ≤ new.rsp
  pub behind : StandsAfterReturn memory new
  pub moved : new.rsp ≡ r.rsp → new.ip ≡ r.ip → ⊥
  pub answer : new.ip ≡ address

finished-IsReturn : (r restored : Registers) (memory : Memory) (address : ℕ) (new : Registers) → r.rsp ≤ restored.rsp
    → IsFinished r restored memory address new → IsReturn r memory address new
finished-IsReturn r restored memory address new up e =
    let sp : new.rsp ≡ restored.rsp = ap (λ s. s.rsp) e.registers in
    let ip : new.ip ≡ address = ap (λ s. s.ip) e.registers in
    record {
      not_below = omega arith;
      behind = rw (sp, ip) e.word;
      moved = λ same_sp same_ip. e.moved (sym sp ∙ same_sp) (sym ip ∙ same_ip);
      answer = ip;
    }

-- a line whose caller's rsp cannot lie below the callee's
abbrev IsUpward : Line → Registers → Type 0
IsUpward stack_end r = Unit {0}
IsUpward (caller sp demand bp) r = (n : ℕ) → sp ≡ pos n → Meets demand r n → r.rsp ≤ n
IsUpward (pops at registers) r = (n : ℕ) → at ≡ pos n → r.rsp ≤ n

line-IsReturn : (line : Line) (r : Registers) (memory : Memory) (address : ℕ) (new : Registers) → IsUpward line r
    → outcome_of_line line r memory ≡ answered address new → IsReturn r memory address new
line-IsReturn stack_end r memory address new up e = cc
line-IsReturn (caller sp demand bp) r memory address new up e =
    let c = caller-answered sp demand bp r memory address new e in
    finished-IsReturn r (record r { rsp = c.new_sp; rbp = c.new_bp }) memory address new
    (up c.new_sp c.sp_is c.met) c.end
line-IsReturn (pops at registers) r memory address new up e =
    let p = pops-answered at registers r memory address new e in
    let least = up p.first p.first_is in
    let above = popped-above memory p.first registers r p.restored p.pops_are in
    finished-IsReturn r p.restored memory address new (omega arith) p.end

IsUpward-frame_pointer : (b : Bool) (r : Registers) → IsUpward (cond b stack_end (frame_pointer_line r)) r
IsUpward-frame_pointer true r = tt
IsUpward-frame_pointer false r = λ n is met. omega arith

IsUpward-frame_pointer_with : (b : Bool) (x : ℕ) (y : ℤ) (r : Registers)
    → IsUpward (cond b stack_end (frame_pointer_line_with x y r)) r
IsUpward-frame_pointer_with true x y r = tt
IsUpward-frame_pointer_with false x y r = λ n is met. omega arith

IsUpward-line_of : (rule : UnwindRuleX86_64) (first : Bool) (r : Registers) → IsUpward (line_of rule first r) r
IsUpward-line_of EndOfStack first r = tt
IsUpward-line_of JustReturn first r = λ n is met. let same = pos-same _ n is in omega arith
IsUpward-line_of JustReturnIfFirstFrameOtherwiseFp true r = λ n is met. let same = pos-same _ n is in omega arith
IsUpward-line_of JustReturnIfFirstFrameOtherwiseFp false r = λ n is met. omega arith
IsUpward-line_of (OffsetSp x) first r = λ n is met. let same = pos-same _ n is in omega arith
IsUpward-line_of (OffsetSpAndRestoreBp x y) first r = λ n is met. let same = pos-same _ n is in omega arith
IsUpward-line_of UseFramePointer first r = IsUpward-frame_pointer (nat_eq r.rbp 0) r
IsUpward-line_of (UseFramePointerWithOffsets x y) first r = IsUpward-frame_pointer_with (nat_eq r.rbp 0) x y r
IsUpward-line_of (OffsetSpAndPopRegisters x count n) first r = λ m is. let same = pos-same _ m is in omega arith

-- a rule that answers an address returns to it
pub outcome-IsReturn : (rule : UnwindRuleX86_64) (first : Bool) (r : Registers) (memory : Memory) (address : ℕ)
    (new : Registers) → outcome rule first r memory ≡ answered address new → IsReturn r memory address new
outcome-IsReturn rule first r memory address new e =
    line-IsReturn (line_of rule first r) r memory address new (IsUpward-line_of rule first r) e

-- The same word cannot be returned to twice: from a frame just above its return address rsp rises.
rises : (old new : ℕ) → old ≤ new → new ≢ old → old < new
rises old new up apart = omega arith

pub IsReturn-rises : (r : Registers) (memory : Memory) (address : ℕ) (new : Registers) → IsReturn r memory address new
    → StandsAfterReturn memory r → r.rsp < new.rsp
IsReturn-rises r memory address new step behind =
    rises r.rsp new.rsp step.not_below (λ same.
    let word : word_from memory (pos r.rsp -ℤ pos 8) ≡ Ok new.ip = rw same at step.behind in
    let ip : new.ip ≡ r.ip = ok-same new.ip r.ip (sym word ∙ behind) in
    step.moved same ip)

pub raises : Raises outcome (λ r. r.rsp) StandsAfterReturn
raises = record {
  leads = λ rule first old new memory address e. (outcome-IsReturn rule first old memory address new e).behind;
  rises =
      λ rule old new memory address behind e.
      IsReturn-rises old memory address new (outcome-IsReturn rule false old memory address new e) behind;
}
