-- The words that a rule of x86_64 reads don't depend on one another: which ones it asks for first shows over a stack without words.
use Rattle.std.proofs.Common.{◌≡◌, ℕ, ◌+◌, pos, ◌-ℤ◌, ◌&&◌, Bool, true, false, cond, nat_eq, nat_le, List, [], ◌∷◌, Option, Some, None, Result, Ok, Err, refl, subst, arith}
use Rattle.framehop_core.specs.Memory.{Memory}
use Rattle.framehop_core.specs.Outcome.{Outcome, root, refused, answer_of, after, and_then, address_at, word_at, above}
use Rattle.framehop_core.specs.declared.error.Error.{Error}
use Rattle.framehop_core.specs.declared.error.Error.TheVariants.{CouldNotReadStack, DidNotAdvance, FramepointerUnwindingMovedBackwards}
use Rattle.framehop_core.specs.X86_64.Registers.{Registers, with_register}
use Rattle.framehop_core.specs.X86_64.Rules.{Source, kept, stored_at, stored_if_readable_at, Demand, nothing_more, stack_pointer_rises, value_from, demanded, popped, return_address, returned, finished, Line, caller, pops, stack_end, outcome_of_line, line_of, frame_pointer_line, frame_pointer_line_with, outcome}
use Rattle.framehop_core.specs.declared.x86_64.unwindregs.Reg.{Reg}
use Rattle.framehop_core.specs.declared.x86_64.unwind_rule.UnwindRuleX86_64.{UnwindRuleX86_64}
use Rattle.framehop_core.specs.declared.x86_64.unwind_rule.UnwindRuleX86_64.TheVariants.{EndOfStack, JustReturn, JustReturnIfFirstFrameOtherwiseFp, OffsetSp, OffsetSpAndRestoreBp, UseFramePointer, UseFramePointerWithOffsets, OffsetSpAndPopRegisters}
use Rattle.std.proofs.lemmas.Bool.{eqb-true}
use Rattle.std.proofs.lemmas.Bool.Decides.{nat_tests}
use Rattle.framehop_core.specs.Laws.Basics.{pos-same}
use Rattle.framehop_core.specs.Laws.Outcome.{address_at-ok}
use Rattle.framehop_lent.specs.Ahead.{zero_at}
use Rattle.framehop_lent.specs.Window.{unreadable_word}

-- a source whose word must be readable, and a line with one, as each is in a frame that is not the first
abbrev IsDemandedSource : Source → Type 0
IsDemandedSource kept = Unit {0}
IsDemandedSource (stored_at address) = Unit {0}
IsDemandedSource (stored_if_readable_at address) = ⊥

abbrev pub IsCallerLine : Line → Type 0
IsCallerLine stack_end = Unit {0}
IsCallerLine (caller sp demand bp) = IsDemandedSource bp
IsCallerLine (pops address registers) = Unit {0}

is-caller-line : (rule : UnwindRuleX86_64) (r : Registers) → IsCallerLine (line_of rule false r)
is-caller-line EndOfStack r = tt
is-caller-line JustReturn r = tt
is-caller-line JustReturnIfFirstFrameOtherwiseFp r = tt
is-caller-line (OffsetSp x) r = tt
is-caller-line (OffsetSpAndRestoreBp x y) r = tt
is-caller-line UseFramePointer r = tested (nat_eq r.rbp 0)
  where
    tested : (b : Bool) → IsCallerLine (cond b stack_end (frame_pointer_line r))
    tested true = tt
    tested false = tt
is-caller-line (UseFramePointerWithOffsets x y) r = tested (nat_eq r.rbp 0)
  where
    tested : (b : Bool) → IsCallerLine (cond b stack_end (frame_pointer_line_with x y r))
    tested true = tt
    tested false = tt
is-caller-line (OffsetSpAndPopRegisters x count n) r = tt

-- what an outcome is refused for
abbrev refused_for : ℕ → Outcome Registers
refused_for address = refused (CouldNotReadStack address)

same-word : (at a : ℕ) → refused_for at ≡ refused_for a → at ≡ a
same-word at a e = cc

test-same : (a : ℕ) → nat_eq a a ≡ true
test-same a = grind arith

-- the test of a return address that was read
abbrev tested_address : Registers → ℕ → ℕ → Result (Option ℕ) Error
tested_address callee sp address = cond (nat_eq address 0) (Ok None) (cond (nat_eq sp callee.rsp && nat_eq address callee.ip) (Err DidNotAdvance) (Ok (Some address)))

-- ---- What an outcome has over a stack without words it has over another one, if a refusal for a word leads to it there.

module _ (Has : Outcome Registers → Type 0) (m : Memory) (read : (at : ℕ) (next : ℕ → Outcome Registers) → Has (refused_for at) → Has (after (word_at m at) next)) where
  -- two steps that can be refused, as one
  joined : {A B : Type 0} (x : Result A Error) (L : A → Result B Error) (Q : B → Outcome Registers) → Has (after x (λ value. after (L value) Q)) → Has (after (and_then x L) Q)
  joined (Ok value) L Q has = has
  joined (Err e) L Q has = has

  -- a first word, and what follows it
  first-read : (K L : ℕ → Outcome Registers) (x : Result ℕ Error) → Has (after (and_then x (word_at (zero_at None))) K) → Has (after (and_then x (word_at m)) L)
  first-read K L (Err e) is = is
  first-read K L (Ok at) is = read at L is

  first-return : (K L : ℕ → Result (Option ℕ) Error) (P Q : Option ℕ → Outcome Registers) (x : Result ℕ Error) → Has (after (and_then (and_then x (word_at (zero_at None))) K) P) → Has (after (and_then (and_then x (word_at m)) L) Q)
  first-return K L P Q (Err e) is = is
  first-return K L P Q (Ok at) is = joined (word_at m at) L Q (read at (λ word. after (L word) Q) is)

  first-finished : (callee restored new : Registers) → restored.rsp ≡ new.rsp → Has (finished callee restored (zero_at None)) → Has (finished callee new m)
  first-finished callee restored new same is = first-return _ (tested_address callee new.rsp) _ (returned new) (address_at (pos new.rsp -ℤ pos 8)) (rw same at is)

  -- a demand of the stack pointer asks for no word
  first-demanded : (demand : Demand) (r : Registers) (sp : ℕ) (next other : Outcome Registers) → (Has next → Has other) → Has (demanded demand r sp next) → Has (demanded demand r sp other)
  first-demanded nothing_more r sp next other each is = each is
  first-demanded stack_pointer_rises r sp next other each is = tested (nat_le sp r.rsp) is
    where
      tested : (below : Bool) → Has (cond below (refused FramepointerUnwindingMovedBackwards) next) → Has (cond below (refused FramepointerUnwindingMovedBackwards) other)
      tested true has = has
      tested false has = each has

  -- what follows an address
  after-address : (x : Result ℕ Error) (K L : ℕ → Outcome Registers) → ((at : ℕ) → Has (K at) → Has (L at)) → Has (after x K) → Has (after x L)
  after-address (Err e) K L each is = is
  after-address (Ok at) K L each is = each at is

  -- the stack pointer above pops
  popped-all : (old new : ℕ → Registers) (P Q : Registers → Outcome Registers) (x : Result ℕ Error) → ((sp : ℕ) → Has (P (old sp)) → Has (Q (new sp))) → Has (after (and_then x (λ sp. Ok (old sp))) P) → Has (after (and_then x (λ sp. Ok (new sp))) Q)
  popped-all old new P Q (Err e) each is = is
  popped-all old new P Q (Ok at) each is = each at is

  -- the values of the caller's rbp, where none is read that may be missing
  first-caller : (r : Registers) (bp : Source) (sp : ℕ) → IsDemandedSource bp → Has (after (value_from (zero_at None) r.rbp bp) (λ new_bp. finished r (record r { rsp = sp; rbp = new_bp }) (zero_at None))) → Has (after (value_from m r.rbp bp) (λ new_bp. finished r (record r { rsp = sp; rbp = new_bp }) m))
  first-caller r kept sp demanded is = first-finished r (record r { rsp = sp; rbp = r.rbp }) (record r { rsp = sp; rbp = r.rbp }) refl is
  first-caller r (stored_at address) sp demanded is = first-read _ _ (address_at address) is
  first-caller r (stored_if_readable_at address) sp demanded is = elim demanded [ ]

  first-pops : (r now : Registers) (registers : List Reg) (first : ℕ) → Has (after (popped (zero_at None) first registers now) (λ restored. finished r restored (zero_at None))) → Has (after (popped m first registers now) (λ restored. finished r restored m))
  first-pops r now [] first is = popped-all (λ sp. record now { rsp = sp }) (λ sp. record now { rsp = sp }) _ _ (address_at (above first 8)) (λ sp. first-finished r (record now { rsp = sp }) (record now { rsp = sp }) refl) is
  first-pops r now (register ∷ registers) first is = joined (word_at m first) _ (λ restored. finished r restored m) (read first _ is)

  first-line : (line : Line) (r : Registers) → IsCallerLine line → Has (outcome_of_line line r (zero_at None)) → Has (outcome_of_line line r m)
  first-line stack_end r is_caller is = is
  first-line (caller sp demand bp) r is_caller is =
      after-address (address_at sp) _ _ (λ new_sp. first-demanded demand r new_sp _ _ (first-caller r bp new_sp is_caller)) is
  first-line (pops address registers) r is_caller is =
      after-address (address_at address) _ _ (λ first. first-pops r r registers first) is

-- ---- The same over a stack with a 0 as the first word, if that word is there, and the root leads to each answer.

module _ (Has : Outcome Registers → Type 0) (a w : ℕ) (m : Memory) (there : m a ≡ Some w) (read : (at : ℕ) (next : ℕ → Outcome Registers) → Has (refused_for at) → Has (after (word_at m at) next))
    (at_root : Has root → (callee new : Registers) (sp address : ℕ) → Has (after (tested_address callee sp address) (returned new))) where
  second-at : (callee restored new : Registers) (sp : ℕ) (x : Result ℕ Error) → Has (after (and_then (and_then x (word_at (zero_at (Some a)))) (tested_address callee sp)) (returned restored)) → Has (after (and_then (and_then x (word_at m)) (tested_address callee sp)) (returned new))
  second-at callee restored new sp (Err e) is = is
  second-at callee restored new sp (Ok at) is = tested (nat_eq at a) refl
    where
      tested : (same : Bool) → nat_eq at a ≡ same → Has (after (and_then (word_at m at) (tested_address callee sp)) (returned new))
      tested true e = let same = eqb-true at a e in let zero = rw e at is in rw same (rw there (at_root zero callee new sp w))
      tested false e = joined Has m read (word_at m at) (tested_address callee sp) (returned new) (read at _ (rw e at is))

  second-finished : (callee restored new : Registers) → restored.rsp ≡ new.rsp → Has (finished callee restored (zero_at (Some a))) → Has (finished callee new m)
  second-finished callee restored new same is =
      subst (λ sp. Has (after (return_address callee sp m) (returned new))) same
      (second-at callee restored new restored.rsp (address_at (pos restored.rsp -ℤ pos 8)) is)

  second-demanded : (demand : Demand) (r : Registers) (sp : ℕ) (none zero some : Outcome Registers) → (none ≡ refused_for a → Has zero → Has some) → demanded demand r sp none ≡ refused_for a → Has (demanded demand r sp zero) → Has (demanded demand r sp some)
  second-demanded nothing_more r sp none zero some each first is = each first is
  second-demanded stack_pointer_rises r sp none zero some each first is = tested (nat_le sp r.rsp) first is
    where
      tested : (below : Bool) → cond below (refused FramepointerUnwindingMovedBackwards) none ≡ refused_for a → Has (cond below (refused FramepointerUnwindingMovedBackwards) zero) → Has (cond below (refused FramepointerUnwindingMovedBackwards) some)
      tested true first has = cc
      tested false first has = each first has

  second-caller : (r : Registers) (bp : Source) (sp : ℕ) → IsDemandedSource bp
      → after (value_from (zero_at None) r.rbp bp) (λ new_bp. finished r (record r { rsp = sp; rbp = new_bp }) (zero_at None)) ≡ refused_for a
      → Has (after (value_from (zero_at (Some a)) r.rbp bp) (λ new_bp. finished r (record r { rsp = sp; rbp = new_bp }) (zero_at (Some a))))
      → Has (after (value_from m r.rbp bp) (λ new_bp. finished r (record r { rsp = sp; rbp = new_bp }) m))
  second-caller r kept sp demanded first is = second-finished r (record r { rsp = sp; rbp = r.rbp }) (record r { rsp = sp; rbp = r.rbp }) refl is
  second-caller r (stored_at address) sp demanded first is = stored (address_at address) first is
    where
      stored : (x : Result ℕ Error) → after (and_then x (word_at (zero_at None))) (λ new_bp. finished r (record r { rsp = sp; rbp = new_bp }) (zero_at None)) ≡ refused_for a
          → Has (after (and_then x (word_at (zero_at (Some a)))) (λ new_bp. finished r (record r { rsp = sp; rbp = new_bp }) (zero_at (Some a))))
          → Has (after (and_then x (word_at m)) (λ new_bp. finished r (record r { rsp = sp; rbp = new_bp }) m))
      stored (Err e) first is = is
      stored (Ok at) first is =
          let same = same-word at a first in
          let zero = rw (same, test-same a) at is in
          rw same (rw there (second-finished r (record r { rsp = sp; rbp = 0 }) (record r { rsp = sp; rbp = w }) refl zero))
  second-caller r (stored_if_readable_at address) sp demanded first is = elim demanded [ ]

  second-pops : (r now : Registers) (registers : List Reg) (first : ℕ)
      → after (popped (zero_at None) first registers now) (λ restored. finished r restored (zero_at None)) ≡ refused_for a
      → Has (after (popped (zero_at (Some a)) first registers now) (λ restored. finished r restored (zero_at (Some a))))
      → Has (after (popped m first registers now) (λ restored. finished r restored m))
  second-pops r now [] at first is =
      popped-all Has m read (λ sp. record now { rsp = sp }) (λ sp. record now { rsp = sp }) _ _ (address_at (above at 8)) (λ sp. second-finished r (record now { rsp = sp }) (record now { rsp = sp }) refl) is
  second-pops r now (register ∷ registers) at first is =
      let same = same-word at a first in
      let zero = rw (same, test-same a) at is in
      rw same (rw there (next registers (with_register now register 0) (with_register now register w) (address_at (above a 8)) refl zero))
    where
      next : (registers : List Reg) (old new : Registers) (x : Result ℕ Error) → address_at (above a 8) ≡ x
          → Has (after (and_then x (λ at. popped (zero_at (Some a)) at registers old)) (λ restored. finished r restored (zero_at (Some a))))
          → Has (after (and_then x (λ at. popped m at registers new)) (λ restored. finished r restored m))
      next registers old new (Err e) is_x is = is
      next [] old new (Ok at) is_x is =
          popped-all Has m read (λ sp. record old { rsp = sp }) (λ sp. record new { rsp = sp }) _ _ (address_at (above at 8)) (λ sp. second-finished r (record old { rsp = sp }) (record new { rsp = sp }) refl) is
      next (register ∷ registers) old new (Ok at) is_x is =
          let fits = address_at-ok (above a 8) at is_x in
          let above_it : a + 8 ≡ at = pos-same (a + 8) at fits.0 in
          let other : nat_eq at a ≡ false = grind (arith, nat_tests) in
          joined Has m read (word_at m at) _ (λ restored. finished r restored m) (read at _ (rw other at is))

  second-line : (line : Line) (r : Registers) → IsCallerLine line → outcome_of_line line r (zero_at None) ≡ refused_for a → Has (outcome_of_line line r (zero_at (Some a))) → Has (outcome_of_line line r m)
  second-line stack_end r is_caller first is = cc
  second-line (caller sp demand bp) r is_caller first is = there-at (address_at sp) first is
    where
      there-at : (x : Result ℕ Error)
          → after x (λ new_sp. demanded demand r new_sp (after (value_from (zero_at None) r.rbp bp) (λ new_bp. finished r (record r { rsp = new_sp; rbp = new_bp }) (zero_at None)))) ≡ refused_for a
          → Has (after x (λ new_sp. demanded demand r new_sp (after (value_from (zero_at (Some a)) r.rbp bp) (λ new_bp. finished r (record r { rsp = new_sp; rbp = new_bp }) (zero_at (Some a))))))
          → Has (after x (λ new_sp. demanded demand r new_sp (after (value_from m r.rbp bp) (λ new_bp. finished r (record r { rsp = new_sp; rbp = new_bp }) m))))
      there-at (Err e) first is = is
      there-at (Ok new_sp) first is = second-demanded demand r new_sp _ _ _ (second-caller r bp new_sp is_caller) first is
  second-line (pops address registers) r is_caller first is = there-at (address_at address) first is
    where
      there-at : (x : Result ℕ Error)
          → after x (λ at. after (popped (zero_at None) at registers r) (λ restored. finished r restored (zero_at None))) ≡ refused_for a
          → Has (after x (λ at. after (popped (zero_at (Some a)) at registers r) (λ restored. finished r restored (zero_at (Some a)))))
          → Has (after x (λ at. after (popped m at registers r) (λ restored. finished r restored m)))
      there-at (Err e) first is = is
      there-at (Ok at) first is = second-pops r r registers at first is

-- ---- What a rule is refused for.

-- an outcome that is refused for a word, and one that is refused for none
module _ (m : Memory) where
  refused-there : (a : ℕ) → m a ≡ None → (at : ℕ) (next : ℕ → Outcome Registers) → refused_for at ≡ refused_for a → after (word_at m at) next ≡ refused_for a
  refused-there a gone at next is = let same = same-word at a is in rw same (rw gone refl)

  never-there : (at : ℕ) (next : ℕ → Outcome Registers) → unreadable_word (answer_of (refused_for at)) ≡ None → unreadable_word (answer_of (after (word_at m at) next)) ≡ None
  never-there at next never = cc

no-word : (callee new : Registers) (sp address : ℕ) → unreadable_word (answer_of (after (tested_address callee sp address) (returned new))) ≡ None
no-word callee new sp address = tested (nat_eq address 0) (nat_eq sp callee.rsp && nat_eq address callee.ip)
  where
    tested : (zero still : Bool) → unreadable_word (answer_of (after (cond zero (Ok None) (cond still (Err DidNotAdvance) (Ok (Some address)))) (returned new))) ≡ None
    tested true still = refl
    tested false true = refl
    tested false false = refl

-- The first word: where it can't be read, a rule of a caller's frame is refused for it, whatever else can be read.
pub first-needed : (rule : UnwindRuleX86_64) (r : Registers) (a : ℕ) (m : Memory) → outcome rule false r (zero_at None) ≡ refused_for a → m a ≡ None → outcome rule false r m ≡ refused_for a
first-needed rule r a m is gone = first-line (λ outcome. outcome ≡ refused_for a) m (refused-there m a gone) (line_of rule false r) r (is-caller-line rule r) is

-- No word: a rule of a caller's frame that is refused for none over a stack without words is so over each.
pub none-needed : (rule : UnwindRuleX86_64) (r : Registers) (m : Memory) → unreadable_word (answer_of (outcome rule false r (zero_at None))) ≡ None → unreadable_word (answer_of (outcome rule false r m)) ≡ None
none-needed rule r m is = first-line (λ outcome. unreadable_word (answer_of outcome) ≡ None) m (never-there m) (line_of rule false r) r (is-caller-line rule r) is

-- The second word: where the first one can be read and it can't, a rule of a caller's frame is refused for it, whatever the
-- first one is and whatever else can be read.
pub second-needed : (rule : UnwindRuleX86_64) (r : Registers) (a b w : ℕ) (m : Memory) → outcome rule false r (zero_at None) ≡ refused_for a → outcome rule false r (zero_at (Some a)) ≡ refused_for b → m a ≡ Some w → m b ≡ None → outcome rule false r m ≡ refused_for b
second-needed rule r a b w m first second there gone =
    second-line (λ outcome. outcome ≡ refused_for b) a w m there (refused-there m b gone) (λ never callee new sp address. cc) (line_of rule false r) r (is-caller-line rule r) first second

-- No second word: a rule of a caller's frame that is refused for none over a stack with a 0 as the first is so over each that
-- has the first, whatever it is.
pub one-needed : (rule : UnwindRuleX86_64) (r : Registers) (a w : ℕ) (m : Memory) → outcome rule false r (zero_at None) ≡ refused_for a → unreadable_word (answer_of (outcome rule false r (zero_at (Some a)))) ≡ None → m a ≡ Some w → unreadable_word (answer_of (outcome rule false r m)) ≡ None
one-needed rule r a w m first second there =
    second-line (λ outcome. unreadable_word (answer_of outcome) ≡ None) a w m there (never-there m) (λ _ callee new sp address. no-word callee new sp address) (line_of rule false r) r (is-caller-line rule r) first second
