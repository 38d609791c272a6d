-- The rule of an epilogue on x86_64 does what the machine does.
use Rattle.std.proofs.Common.{◌≡◌, ℕ, zero, suc, ◌+◌, ◌*◌, ◌≤◌, ℤ, pos, Bool, true, false, cond, nat_eq, List, [], ◌∷◌, slice_get, Option, Some, None, Ok, refl, sym, ap, ◌∙◌, subst, arith}
use Rattle.std.proofs.lemmas.Int.{ints}
use Rattle.std.proofs.lemmas.Option.{same_Some}
use Rattle.framehop_core.specs.Memory.{Memory}
use Rattle.framehop_core.specs.Outcome.{answered, above, beside, word_from}
use Rattle.framehop_core.specs.X86_64.Registers.{Registers}
use Rattle.framehop_core.specs.X86_64.Rules.{Source, nothing_more, kept, stored_at, restored_at, outcome}
use Rattle.framehop_core.specs.Laws.X86_64.{IsCaller, caller-answered}
use Rattle.framehop_core.specs.declared.x86_64.unwind_rule.UnwindRuleX86_64.{UnwindRuleX86_64}
use Rattle.framehop_core.specs.declared.x86_64.unwind_rule.UnwindRuleX86_64.TheVariants.{JustReturn, OffsetSp, OffsetSpAndRestoreBp}
use Rattle.framehop_core.specs.Laws.Basics.{pos-same, ok-same}
use Rattle.framehop_analysis.specs.X86_64.Machine.{State, HasRegisters, by_ret, by_jmp_rel8, by_jmp_rel32, by_jmp_rm64, Run, Returns}
use Rattle.framehop_analysis.specs.X86_64.Epilogue.{ArePops, Popped, none_popped, after_pop, after_pops, IsEnd, IsRuleOfPopped, IsEpilogueRule, IsTakenForEnd, leaves, other, DoesEpilogue}
use Rattle.framehop_analysis.specs.Laws.X86_64.Pops.{pop-low, end-high}
use Rattle.framehop_analysis.specs.Laws.X86_64.Steps.{step-low, IsSamePop, step-pop}
use Rattle.framehop_analysis.specs.Laws.X86_64.Undoes.{read-word, IsFound, found, at-memory}

-- ---- ends

-- what is taken for the end begins with a higher byte than each instruction of the machine
taken-high : (text : List ℕ) (at : ℕ) → IsTakenForEnd text at
    → (byte : ℕ) × (slice_get text at ≡ Some byte) × (96 ≤ byte)
taken-high text at (leaves (by_ret there)) = (0xC3, there, omega arith)
taken-high text at (leaves (by_jmp_rel8 there)) = (0xEB, there, omega arith)
taken-high text at (leaves (by_jmp_rel32 there)) = (0xE9, there, omega arith)
taken-high text at (leaves (by_jmp_rm64 modrm there next is)) = (0xFF, there, omega arith)
taken-high text at (other there) = (0xFF, there, omega arith)

-- ---- the run

bp_at : State → Option ℕ → Option ℕ
bp_at s None = s.bp
bp_at s (Some before) = s.memory (s.sp + 8 * before)

record Tracks (start s : State) (p : Popped) : Type 0 where
  sp : s.sp ≡ start.sp + 8 * p.count
  bp : s.bp ≡ bp_at start p.before_bp
  memory : s.memory ≡ start.memory

bp-after : (test is_bp : Bool) (start s : State) (count : ℕ) (before : Option ℕ) → test ≡ is_bp
    → s.sp ≡ start.sp + 8 * count → s.bp ≡ bp_at start before → s.memory ≡ start.memory
    → cond test (s.memory s.sp) s.bp ≡ bp_at start (cond is_bp (Some count) before)
unfolding bp_at
bp-after true true start s count before e sp bp memory =
    ap s.memory sp ∙ ap (λ (m : Memory). m (start.sp + 8 * count)) memory
bp-after true false start s count before e sp bp memory = cc
bp-after false true start s count before e sp bp memory = cc
bp-after false false start s count before e sp bp memory = bp

step-popped : (at size : ℕ) (is_bp : Bool) (next : ℕ) (start s t : State) (p : Popped)
    → IsSamePop at size is_bp next s t → Tracks start s p → Tracks start t (after_pop p is_bp)
step-popped at size is_bp next start s t p same r = record {
  sp = (let sp = r.sp in let up = same.pops.sp same.no_sp in omega arith);
  bp = same.pops.bp ∙ bp-after (nat_eq same.register 5) is_bp start s p.count p.before_bp same.bp r.sp r.bp r.memory;
  memory = same.pops.memory ∙ r.memory;
}

run-out : (text : List ℕ) (pc count at end last n : ℕ) (pops : List Bool) (start s out : State) (p : Popped)
    → ArePops text at pops last → IsEnd text pc last n → Tracks start s p → Run text count at end s out
    → IsTakenForEnd text end → Tracks start out (after_pops p pops)
run-out text pc zero at end last n [] start s out p stand ends r (same, e) taken =
    let P : State → Type 0 = λ u. Tracks start u p in subst P e r
run-out text pc (suc count) at end last n [] start s out p stand ends r (next, u, step, rest) taken =
    let high = end-high text pc last n ends in
    let low = step-low text at next s u step in
    let same = same_Some low.0 high.0 (sym low.1 ∙ ap (slice_get text) stand ∙ high.1) in
    let above = high.2 in let below = low.2 in absurd (omega arith)
run-out text pc zero at end last n (is_bp ∷ pops) start s out p (size, pop, stand) ends r (here, e) taken =
    let high = taken-high text end taken in
    let low = pop-low text at size is_bp pop in
    let same = same_Some low.0 high.0 (sym low.1 ∙ ap (slice_get text) here ∙ high.1) in
    let above = high.2 in let below = low.2 in absurd (omega arith)
run-out text pc (suc count) at end last n (is_bp ∷ pops) start s out p (size, pop, stand) ends r
    (next, u, step, rest) taken =
    let same = step-pop text at next size is_bp s u pop step in
    let P : ℕ → Type 0 = λ m. Run text count m end u out in
    run-out text pc count (at + size) end last n pops start u out (after_pop p is_bp) stand ends
    (step-popped at size is_bp next start s u p same r) (subst P same.next_is rest) taken

-- ---- the rule

count-after : (p : Popped) (pops : List Bool) → p.count ≤ (after_pops p pops).count
count-after p [] = omega arith
count-after p (is_bp ∷ pops) = let rest = count-after (after_pop p is_bp) pops in omega arith

none-popped : (pops : List Bool) → (after_pops none_popped pops).count ≡ 0
    → (after_pops none_popped pops).before_bp ≡ None
none-popped [] e = refl
none-popped (is_bp ∷ pops) e = let rest = count-after (after_pop none_popped is_bp) pops in absurd (omega arith)

found-out : (r new : Registers) (here u : State) (p : Popped) (x new_sp new_bp address : ℕ) → HasRegisters r here
    → Tracks here u p → r.rsp + x * 8 ≡ new_sp → x ≡ p.count + 1 → bp_at here p.before_bp ≡ Some new_bp
    → IsFound r new here.memory new_sp new_bp address → Returns u address new
found-out r new here u p x new_sp new_bp address stands t sum x_is bp f =
    let sp = t.sp in let at = stands.sp in
    let up : u.sp + 8 ≡ new_sp = omega arith in
    record {
      rsp = f.rsp ∙ sym up;
      rbp = t.bp ∙ bp ∙ ap Some (sym f.rbp);
      word = ap (λ (m : Memory). m u.sp) t.memory ∙ f.word u.sp up;
      ip = f.ip;
    }

bp-kept : (r : Registers) (here : State) (before : Option ℕ) (new_bp : ℕ) → before ≡ None → HasRegisters r here
    → r.rbp ≡ new_bp → bp_at here before ≡ Some new_bp
unfolding bp_at
bp-kept r here None new_bp e stands same = stands.bp ∙ ap Some same
bp-kept r here (Some n) new_bp e stands same = cc

bp-stored : (r : Registers) (here : State) (found : Option ℕ) (before new_bp : ℕ) → found ≡ Some before
    → HasRegisters r here → word_from here.memory (beside r.rsp (pos before)) ≡ Ok new_bp
    → bp_at here found ≡ Some new_bp
unfolding bp_at
bp-stored r here None before new_bp e stands read = cc
bp-stored r here (Some n) before new_bp e stands read =
    let same : n ≡ before = same_Some n before e in
    let at = stands.sp in
    read-word here.memory (beside r.rsp (pos before)) (here.sp + 8 * n) new_bp (omega (arith, ints)) read

restored-pos : (first : Bool) (before : ℕ) (z : ℤ) → restored_at first (pos before) z ≡ stored_at z
restored-pos true before z = refl
restored-pos false before z = refl

rule-does : (rule : UnwindRuleX86_64) (r new : Registers) (here u : State) (p : Popped) (first : Bool) (address : ℕ)
    → (p.count ≡ 0 → p.before_bp ≡ None) → IsRuleOfPopped p rule → HasRegisters r here → Tracks here u p
    → outcome rule first r here.memory ≡ answered address new → Returns u address new
rule-does JustReturn r new here u p first address none made stands t e =
    let c = caller-answered (above r.rsp 8) nothing_more kept r here.memory address new e in
    let sum : r.rsp + 8 ≡ c.new_sp = pos-same _ c.new_sp c.sp_is in
    found-out r new here u p 1 c.new_sp c.new_bp address stands t sum (let zero_is = made in omega arith)
    (bp-kept r here p.before_bp c.new_bp (none made) stands (ok-same r.rbp c.new_bp c.bp_is))
    (found _ _ _ r new here.memory address c)
rule-does (OffsetSp x) r new here u p first address none made stands t e =
    let c = caller-answered (above r.rsp (x * 8)) nothing_more kept r here.memory address new e in
    let sum : r.rsp + x * 8 ≡ c.new_sp = pos-same _ c.new_sp c.sp_is in
    found-out r new here u p x c.new_sp c.new_bp address stands t sum made.1
    (bp-kept r here p.before_bp c.new_bp made.3 stands (ok-same r.rbp c.new_bp c.bp_is))
    (found _ _ _ r new here.memory address c)
rule-does (OffsetSpAndRestoreBp x y) r new here u p first address none
    (above_zero, x_is, x_fits, before, found_at, y_is, y_fits) stands t e =
    let P : ℤ → Type 0 = λ z. outcome (OffsetSpAndRestoreBp x z) first r here.memory ≡ answered address new in
    let e' = subst P y_is e in
    let Q : Source → Type 0 = λ source. IsCaller (above r.rsp (x * 8)) nothing_more source r here.memory address new in
    let c =
    subst Q (restored-pos first before (beside r.rsp (pos before)))
    (caller-answered (above r.rsp (x * 8)) nothing_more
    (restored_at first (pos before) (beside r.rsp (pos before))) r here.memory address new e') in
    let sum : r.rsp + x * 8 ≡ c.new_sp = pos-same _ c.new_sp c.sp_is in
    found-out r new here u p x c.new_sp c.new_bp address stands t sum x_is
    (bp-stored r here p.before_bp before c.new_bp found_at stands c.bp_is) (found _ _ _ r new here.memory address c)
rule-does rule r new here u p first address none made stands t e = absurd made

start : (s : State) → Tracks s s none_popped
unfolding bp_at
start s = record { sp = omega arith; bp = refl; memory = refl }

pub does : (text : List ℕ) (pc : ℕ) (rule : UnwindRuleX86_64) → IsEpilogueRule text pc rule → DoesEpilogue text pc rule
does text pc rule rest first r new memory address e here out count end stands same run taken =
    let e = at-memory rule first r new memory here.memory address (sym same) e in
    let tracked =
    run-out text pc count pc end rest.end _ rest.pops here here out none_popped
    rest.stand rest.ends (start here) run taken in
    rule-does rule r new here out (after_pops none_popped rest.pops) first address
    (none-popped rest.pops) rest.made stands tracked e
