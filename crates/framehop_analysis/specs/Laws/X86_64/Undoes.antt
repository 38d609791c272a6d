-- The rule of a prologue on x86_64 undoes its pushes.
use Rattle.std.proofs.Common.{◌≡◌, inr, ℕ, zero, suc, ◌+◌, ◌-◌, ◌*◌, ◌≤◌, ℤ, pos, ◌-ℤ◌, Bool, true, false, cond, nat_eq, Some, Ok, List, slice_get, refl, sym, ap, ◌∙◌, subst, arith}
use Rattle.std.proofs.lemmas.Int.{ints}
use Rattle.std.proofs.lemmas.Option.{same_Some}
use Rattle.framehop_core.specs.Memory.{Memory}
use Rattle.framehop_core.specs.Outcome.{answered, above, address_at, word_at, word_from}
use Rattle.framehop_core.specs.Laws.Outcome.{and_then-ok, address_at-ok, word_at-ok}
use Rattle.framehop_core.specs.X86_64.Registers.{Registers}
use Rattle.framehop_core.specs.X86_64.Rules.{Source, Demand, nothing_more, stack_pointer_rises, kept, stored_at, stack_end, outcome_of_line, frame_pointer_line, outcome}
use Rattle.framehop_core.specs.Laws.X86_64.{IsCaller, caller-answered}
use Rattle.framehop_core.specs.declared.x86_64.unwind_rule.UnwindRuleX86_64.{UnwindRuleX86_64}
use Rattle.framehop_core.specs.declared.x86_64.unwind_rule.UnwindRuleX86_64.TheVariants.{OffsetSp, UseFramePointer}
use Rattle.framehop_core.specs.Laws.Basics.{pos-same, ok-same}
use Rattle.framehop_analysis.specs.X86_64.Machine.{State, HasRegisters, Pushes, Moves, Run, Returns}
use Rattle.framehop_analysis.specs.X86_64.Prologue.{IsFrameSetUpBefore, ArePushes, AreLongestPushes, IsRuleOfPushes, IsPrologueRule, framed, frameless, UndoesPrologue}
use Rattle.framehop_analysis.specs.Laws.X86_64.Pushes.{first-push, pushes-below}
use Rattle.framehop_analysis.specs.Laws.X86_64.Steps.{step-low, run-forward, step-push, step-push_rbp, step-move}

-- ---- the machine

-- the state after so many pushes: what lies at rsp or above stays
record IsPushed (count : ℕ) (s t : State) : Type 0 where
  sp : t.sp + 8 * count ≡ s.sp
  bp : t.bp ≡ s.bp
  above : (address : ℕ) → s.sp ≤ address → t.memory address ≡ s.memory address

none-pushed : (s t : State) → s ≡ t → IsPushed 0 s t
none-pushed s t e = record {
  sp = (let same = ap (λ u. u.sp) e in omega arith);
  bp = ap (λ u. u.bp) (sym e);
  above = λ address up. ap (λ (u : State). u.memory address) (sym e);
}

one-pushed : (count register : ℕ) (s next t : State) → Pushes register s next → IsPushed count next t
    → IsPushed (suc count) s t
one-pushed count register s next t push later =
    let first = push.sp in let sum = later.sp in
    record {
      sp = omega arith;
      bp = later.bp ∙ push.bp;
      above = λ address up. later.above address (omega arith) ∙ push.others address (inr (omega arith));
    }

-- the machine's run over pushes
run-pushed : (text : List ℕ) (count n start end : ℕ) (s t : State) → ArePushes text count start end
    → Run text n start end s t → IsPushed count s t
run-pushed text zero zero start end s t same (at, e) = none-pushed s t e
run-pushed text zero (suc n) start end s t same (next, u, step, rest) =
    let below = (step-low text start next s u step).3 in
    let others = run-forward text n next end u t rest in absurd (omega arith)
run-pushed text (suc count) zero start end s t pushes (at, e) =
    let below = pushes-below text (suc count) start end pushes in absurd (omega arith)
run-pushed text (suc count) (suc n) start end s t pushes (next, u, step, rest) =
    let first = first-push text count start end pushes in
    let push = step-push text start next first.0 s u first.1 step in
    let P : ℕ → Type 0 = λ at. Run text n at end u t in
    one-pushed count push.1 s u t push.2
    (run-pushed text count n first.0 end u t first.2 (subst P push.0 rest))

-- `push rbp; mov rbp, rsp`
record SetsUpFrame (s t : State) : Type 0 where
  pushed : State
  pushes : Pushes 5 s pushed
  moves : Moves 4 5 pushed t

-- the machine's run over the frame's set-up and pushes
run-framed : (text : List ℕ) (count n start end : ℕ) (entry here : State) → IsFrameSetUpBefore text (start + 4)
    → ArePushes text count (start + 4) end → Run text n start end entry here
    → (s : State) × SetsUpFrame entry s × IsPushed count s here
run-framed text count zero start end entry here frame pushes (at, e) =
    let below = pushes-below text count (start + 4) end pushes in absurd (omega arith)
run-framed text count (suc zero) start end entry here frame pushes (next, u, step, (at, e)) =
    let below = pushes-below text count (start + 4) end pushes in
    let first : start + 4 - 4 ≡ start = omega arith in
    let push = step-push_rbp text start next entry u (ap (slice_get text) (sym first) ∙ frame.push) step in
    let next_is = push.0 in absurd (omega arith)
run-framed text count (suc (suc n)) start end entry here frame pushes (next, u, step, (last, s, move, rest)) =
    let first : start + 4 - 4 ≡ start = omega arith in
    let push = step-push_rbp text start next entry u (ap (slice_get text) (sym first) ∙ frame.push) step in
    let next_is = push.0 in
    let second : start + 4 - 3 ≡ next = omega arith in
    let fourth : start + 4 - 1 ≡ next + 2 = omega arith in
    let moves =
    step-move text next last u s (ap (slice_get text) (sym second) ∙ frame.rex)
    (ap (slice_get text) (sym fourth) ∙ frame.registers) move in
    let last_is = moves.0 in
    let P : ℕ → Type 0 = λ at. Run text n at end s here in
    let from : last ≡ start + 4 = omega arith in (
      s,
      record { pushed = u; pushes = push.1; moves = moves.1 },
      run-pushed text count n (start + 4) end s here pushes (subst P from rest),
    )

-- ---- reads

pub read-word : (memory : Memory) (z : ℤ) (n word : ℕ) → z ≡ pos n → word_from memory z ≡ Ok word → memory n ≡ Some word
read-word memory z n word z_is e =
    let a = and_then-ok (address_at z) (word_at memory) word e in
    let at = address_at-ok z a.0 a.1 in
    let same : n ≡ a.0 = pos-same n a.0 (sym z_is ∙ at.0) in
    ap memory same ∙ word_at-ok memory a.0 word a.2

-- ---- the rule

-- a line of the table that answers: the new registers, and the word below the new rsp
pub record IsFound (r new : Registers) (memory : Memory) (sp bp address : ℕ) : Type 0 where
  pub rsp : new.rsp ≡ sp
  pub rbp : new.rbp ≡ bp
  pub word : (below : ℕ) → below + 8 ≡ sp → memory below ≡ Some address
  pub ip : new.ip ≡ address

pub found : (sp : ℤ) (demand : Demand) (bp : Source) (r new : Registers) (memory : Memory) (address : ℕ)
    → (c : IsCaller sp demand bp r memory address new) → IsFound r new memory c.new_sp c.new_bp address
found sp demand bp r new memory address c = record {
  rsp = ap (λ u. u.rsp) c.end.registers;
  rbp = ap (λ u. u.rbp) c.end.registers;
  word = λ below e. read-word memory (pos c.new_sp -ℤ pos 8) below address (omega (arith, ints)) c.end.word;
  ip = ap (λ u. u.ip) c.end.registers;
}

offset-undoes : (count x : ℕ) (r new : Registers) (entry here : State) (address : ℕ) → x ≡ count + 1
    → IsPushed count entry here → HasRegisters r here
    → IsCaller (above r.rsp (x * 8)) nothing_more kept r here.memory address new → Returns entry address new
offset-undoes count x r new entry here address x_is p stands c =
    let f = found _ _ _ r new here.memory address c in
    let sum : r.rsp + x * 8 ≡ c.new_sp = pos-same _ c.new_sp c.sp_is in
    let low = p.sp in let at = stands.sp in
    let sp : entry.sp + 8 ≡ c.new_sp = omega arith in
    record {
      rsp = f.rsp ∙ sym sp;
      rbp = sym p.bp ∙ stands.bp ∙ ap Some (ok-same r.rbp c.new_bp c.bp_is ∙ sym f.rbp);
      word = sym (p.above entry.sp (omega arith)) ∙ f.word entry.sp sp;
      ip = f.ip;
    }

frame-undoes : (count : ℕ) (r new : Registers) (entry s here : State) (address : ℕ) → SetsUpFrame entry s
    → IsPushed count s here → HasRegisters r here
    → IsCaller (above r.rbp 16) stack_pointer_rises (stored_at (pos r.rbp)) r here.memory address new
    → Returns entry address new
frame-undoes count r new entry s here address frame p stands c =
    let f = found _ _ _ r new here.memory address c in
    let sum : r.rbp + 16 ≡ c.new_sp = pos-same _ c.new_sp c.sp_is in
    let bp : Some frame.pushed.sp ≡ Some r.rbp = sym frame.moves.bp ∙ sym p.bp ∙ stands.bp in
    let bp_is : frame.pushed.sp ≡ r.rbp = same_Some frame.pushed.sp r.rbp bp in
    let s_sp : s.sp ≡ frame.pushed.sp = frame.moves.sp (λ e. absurd (omega arith)) in
    let low = frame.pushes.sp in
    let sp : entry.sp + 8 ≡ c.new_sp = omega arith in
    let stays : (address : ℕ) → s.sp ≤ address → here.memory address ≡ frame.pushed.memory address =
    λ n up. p.above n up ∙ ap (λ (m : Memory). m n) frame.moves.memory in
    let word : here.memory r.rbp ≡ Some c.new_bp = read-word here.memory (pos r.rbp) r.rbp c.new_bp refl c.bp_is in
    record {
      rsp = f.rsp ∙ sym sp;
      rbp = sym (frame.pushes.stored refl) ∙ ap frame.pushed.memory bp_is ∙ sym (stays r.rbp (omega arith)) ∙ word
          ∙ ap Some (sym f.rbp);
      word = sym (frame.pushes.others entry.sp (inr (omega arith))) ∙ sym (stays entry.sp (omega arith))
          ∙ f.word entry.sp sp;
      ip = f.ip;
    }

line-answers : (zero_bp : Bool) (r new : Registers) (memory : Memory) (address : ℕ)
    → outcome_of_line (cond zero_bp stack_end (frame_pointer_line r)) r memory ≡ answered address new
    → IsCaller (above r.rbp 16) stack_pointer_rises (stored_at (pos r.rbp)) r memory address new
line-answers true r new memory address e = cc
line-answers false r new memory address e = caller-answered _ _ _ r memory address new e

-- the pushes of a prologue have been executed, after the frame's set-up where it is before them
data IsExecuted (text : List ℕ) (start count : ℕ) (entry here : State) : Type 0 where
  with_frame : IsFrameSetUpBefore text start → (s : State) → SetsUpFrame entry s → IsPushed count s here
      → IsExecuted text start count entry here
  alone : ¬ IsFrameSetUpBefore text start → IsPushed count entry here → IsExecuted text start count entry here

rule-undoes : (text : List ℕ) (start count : ℕ) (rule : UnwindRuleX86_64) (r new : Registers) (entry here : State)
    (first : Bool) (address : ℕ) → IsRuleOfPushes text start count rule → IsExecuted text start count entry here
    → HasRegisters r here → outcome rule first r here.memory ≡ answered address new → Returns entry address new
rule-undoes text start count UseFramePointer r new entry here first address made (with_frame is s frame run) stands e =
    frame-undoes count r new entry s here address frame run stands
    (line-answers (nat_eq r.rbp 0) r new here.memory address e)
rule-undoes text start count UseFramePointer r new entry here first address made (alone none run) stands e =
    absurd (none made)
rule-undoes text start count (OffsetSp x) r new entry here first address made (with_frame is s frame run) stands e =
    absurd (made.0 is)
rule-undoes text start count (OffsetSp x) r new entry here first address made (alone none run) stands e =
    offset-undoes count x r new entry here address made.1 run stands (caller-answered _ _ _ r here.memory address new e)
rule-undoes text start count rule r new entry here first address made run stands e = absurd made

-- the rule is that of the longest list of pushes, which is one
made-of : (text : List ℕ) (pc start count : ℕ) (rule : UnwindRuleX86_64) → IsPrologueRule text pc rule
    → AreLongestPushes text pc start count → IsRuleOfPushes text start count rule
made-of text pc start count rule p longest =
    let a = longest.longest p.start p.count p.longest.pushes in
    let b = p.longest.longest start count longest.pushes in
    let low = a.0 in let high = b.0 in let few = a.1 in let many = b.1 in
    let starts : p.start ≡ start = omega arith in
    let counts : p.count ≡ count = omega arith in
    let P : ℕ → Type 0 = λ n. IsRuleOfPushes text n p.count rule in
    let Q : ℕ → Type 0 = λ n. IsRuleOfPushes text start n rule in
    subst Q counts (subst P starts p.made)

-- what a rule answers, over an equal memory
pub at-memory : (rule : UnwindRuleX86_64) (first : Bool) (r new : Registers) (m n : Memory) (address : ℕ) → m ≡ n
    → outcome rule first r m ≡ answered address new → outcome rule first r n ≡ answered address new
at-memory rule first r new m n address same e =
    let P : Memory → Type 0 = λ memory. outcome rule first r memory ≡ answered address new in subst P same e

pub undoes : (text : List ℕ) (pc : ℕ) (rule : UnwindRuleX86_64) → IsPrologueRule text pc rule
    → UndoesPrologue text pc rule
undoes text pc rule p first r new memory address e start (framed count longest frame) entry here n run stands same =
    let e = at-memory rule first r new memory here.memory address (sym same) e in
    let executed = run-framed text count n start pc entry here frame longest.pushes run in
    rule-undoes text (start + 4) count rule r new entry here first address
    (made-of text pc (start + 4) count rule p longest)
    (with_frame frame executed.0 executed.1 executed.2) stands e
undoes text pc rule p first r new memory address e start (frameless count longest none) entry here n run stands same =
    let e = at-memory rule first r new memory here.memory address (sym same) e in
    rule-undoes text start count rule r new entry here first address (made-of text pc start count rule p longest)
    (alone none (run-pushed text count n start pc entry here longest.pushes run)) stands e
