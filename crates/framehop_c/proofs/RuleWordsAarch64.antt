-- The words that a rule of aarch64 reads don't depend on one another: which ones it asks for first shows over a stack without
-- words.
use Rattle.std.proofs.Common.{◌≡◌, ℕ, Bool, true, false, not, ◌&&◌, ◌||◌, cond, nat_eq, nat_le, Some, None, Result, Ok, Err, refl, arith}
use Rattle.std.proofs.lemmas.Bool.{eqb-true}
use Rattle.framehop_core.specs.Memory.{Memory}
use Rattle.framehop_core.specs.Outcome.{Outcome, answered, root, refused, answer_of, after, and_then, address_at, word_at}
use Rattle.framehop_core.specs.declared.error.Error.{Error}
use Rattle.framehop_core.specs.declared.error.Error.TheVariants.{CouldNotReadStack, DidNotAdvance, FramepointerUnwindingMovedBackwards}
use Rattle.framehop_core.specs.Aarch64.Registers.{Registers, strip_ptr_auth}
use Rattle.framehop_core.specs.Aarch64.Rules.{Source, kept, stored_at, Demand, nothing_more, stack_pointer_rises, frame_pointer_rises, value_from, demanded, finished, Line, no_advance, stack_end, caller, outcome_of_line, line_of, outcome}
use Rattle.framehop_core.specs.declared.aarch64.unwind_rule.UnwindRuleAarch64.{UnwindRuleAarch64}
use Rattle.framehop_lent.specs.Ahead.{zero_at}
use Rattle.framehop_lent.specs.Window.{unreadable_word}

-- what an outcome is refused for
abbrev refused_for : ℕ → Outcome Registers
refused_for address = refused (CouldNotReadStack address)

same-word : (at a : ℕ) → refused_for at ≡ refused_for a → at ≡ a
same-word at a e = cc

test-same : (a : ℕ) → nat_eq a a ≡ true
test-same a = grind arith

-- once the values are there, no word is asked for

never-finished : (first : Bool) (r : Registers) (sp lr fp : ℕ) → unreadable_word (answer_of (finished first r sp lr fp)) ≡ None
never-finished first r sp lr fp = tested (nat_eq (strip_ptr_auth r.lr_mask lr) 0) (not first && nat_eq sp r.sp)
  where
    tested : (zero still : Bool) → unreadable_word (answer_of (cond zero root (cond still (refused DidNotAdvance) (answered (strip_ptr_auth r.lr_mask lr) (record r { lr = strip_ptr_auth r.lr_mask lr; sp = sp; fp = fp }))))) ≡ None
    tested true still = refl
    tested false true = refl
    tested false false = refl

never-demanded : (demand : Demand) (first : Bool) (r : Registers) (sp lr fp : ℕ) → unreadable_word (answer_of (demanded demand r sp fp (finished first r sp lr fp))) ≡ None
never-demanded nothing_more first r sp lr fp = never-finished first r sp lr fp
never-demanded stack_pointer_rises first r sp lr fp = tested (nat_le sp r.sp)
  where
    tested : (below : Bool) → unreadable_word (answer_of (cond below (refused FramepointerUnwindingMovedBackwards) (finished first r sp lr fp))) ≡ None
    tested true = refl
    tested false = never-finished first r sp lr fp
never-demanded frame_pointer_rises first r sp lr fp = tested (nat_eq fp 0) (nat_le fp r.fp || nat_le sp r.sp)
  where
    tested : (zero below : Bool) → unreadable_word (answer_of (cond zero root (cond below (refused FramepointerUnwindingMovedBackwards) (finished first r sp lr fp)))) ≡ None
    tested true below = refl
    tested false true = refl
    tested false false = never-finished first r sp lr fp

refused-never : {A : Type 0} (o : Outcome Registers) (b : ℕ) → unreadable_word (answer_of o) ≡ None → o ≡ refused_for b → A
refused-never o b never is = let word : Some b ≡ None = rw is at never in cc

-- ---- What an outcome has over a stack without words it has over another one, if a refusal for a word leads to it there.

module _ (Has : Outcome Registers → Type 0) (m : Memory) (read : (at : ℕ) (next : ℕ → Outcome Registers) → Has (refused_for at) → Has (after (word_at m at) next)) (first : Bool) (r : Registers) where
  first-read : (K L : ℕ → Outcome Registers) (x : Result ℕ Error) → Has (after (and_then x (word_at (zero_at None))) K) → Has (after (and_then x (word_at m)) L)
  first-read K L (Err e) is = is
  first-read K L (Ok at) is = read at L is

  first-fp : (sp lr : ℕ) (fp : Source) (demand : Demand)
      → Has (after (value_from (zero_at None) fp) (λ new_fp. demanded demand r sp new_fp (finished first r sp lr new_fp)))
      → Has (after (value_from m fp) (λ new_fp. demanded demand r sp new_fp (finished first r sp lr new_fp)))
  first-fp sp lr (kept value) demand is = is
  first-fp sp lr (stored_at address) demand is = first-read _ _ (address_at address) is

  first-line : (line : Line) → Has (outcome_of_line line first r (zero_at None)) → Has (outcome_of_line line first r m)
  first-line no_advance is = is
  first-line stack_end is = is
  first-line (caller sp lr fp demand) is = at-sp (address_at sp) lr is
    where
      at-sp : (x : Result ℕ Error) (lr : Source)
          → Has (after x (λ new_sp. after (value_from (zero_at None) lr) (λ new_lr. after (value_from (zero_at None) fp) (λ new_fp. demanded demand r new_sp new_fp (finished first r new_sp new_lr new_fp)))))
          → Has (after x (λ new_sp. after (value_from m lr) (λ new_lr. after (value_from m fp) (λ new_fp. demanded demand r new_sp new_fp (finished first r new_sp new_lr new_fp)))))
      at-sp (Err e) lr is = is
      at-sp (Ok new_sp) (kept value) is = first-fp new_sp value fp demand is
      at-sp (Ok new_sp) (stored_at address) is = first-read _ _ (address_at address) is

-- ---- The same over a stack with a 0 as the first word, if that word is there, and it has what is left without a word.

module _ (Has : Outcome Registers → Type 0) (a w : ℕ) (m : Memory) (there : m a ≡ Some w) (read : (at : ℕ) (next : ℕ → Outcome Registers) → Has (refused_for at) → Has (after (word_at m at) next)) (first : Bool) (r : Registers)
    (done : (demand : Demand) (sp lr new_lr fp new_fp : ℕ) → Has (demanded demand r sp fp (finished first r sp lr fp)) → Has (demanded demand r sp new_fp (finished first r sp new_lr new_fp))) where
  -- after lr the frame pointer's word is the second
  second-fp : (sp lr new_lr : ℕ) (fp : Source) (demand : Demand)
      → Has (after (value_from (zero_at (Some a)) fp) (λ new_fp. demanded demand r sp new_fp (finished first r sp lr new_fp)))
      → Has (after (value_from m fp) (λ new_fp. demanded demand r sp new_fp (finished first r sp new_lr new_fp)))
  second-fp sp lr new_lr (kept value) demand is = done demand sp lr new_lr value value is
  second-fp sp lr new_lr (stored_at address) demand is = stored (address_at address) is
    where
      stored : (x : Result ℕ Error) → Has (after (and_then x (word_at (zero_at (Some a)))) (λ new_fp. demanded demand r sp new_fp (finished first r sp lr new_fp)))
          → Has (after (and_then x (word_at m)) (λ new_fp. demanded demand r sp new_fp (finished first r sp new_lr new_fp)))
      stored (Err e) is = is
      stored (Ok at) is = tested (nat_eq at a) refl
        where
          tested : (same : Bool) → nat_eq at a ≡ same → Has (after (word_at m at) (λ new_fp. demanded demand r sp new_fp (finished first r sp new_lr new_fp)))
          tested true e = let same = eqb-true at a e in let zero = rw e at is in rw same (rw there (done demand sp lr new_lr 0 w zero))
          tested false e = read at _ (rw e at is)

  second-line : (line : Line) → outcome_of_line line first r (zero_at None) ≡ refused_for a → Has (outcome_of_line line first r (zero_at (Some a))) → Has (outcome_of_line line first r m)
  second-line no_advance first_is is = is
  second-line stack_end first_is is = is
  second-line (caller sp lr fp demand) first_is is = at-sp (address_at sp) lr first_is is
    where
      stored : (sp : ℕ) (x : Result ℕ Error)
          → after (and_then x (word_at (zero_at None))) (λ new_lr. after (value_from (zero_at None) fp) (λ new_fp. demanded demand r sp new_fp (finished first r sp new_lr new_fp))) ≡ refused_for a
          → Has (after (and_then x (word_at (zero_at (Some a)))) (λ new_lr. after (value_from (zero_at (Some a)) fp) (λ new_fp. demanded demand r sp new_fp (finished first r sp new_lr new_fp))))
          → Has (after (and_then x (word_at m)) (λ new_lr. after (value_from m fp) (λ new_fp. demanded demand r sp new_fp (finished first r sp new_lr new_fp))))
      stored sp (Err e) first_is is = is
      stored sp (Ok at) first_is is =
          let same = same-word at a first_is in
          let zero = rw (same, test-same a) at is in
          rw same (rw there (second-fp sp 0 w fp demand zero))

      at-sp : (x : Result ℕ Error) (lr : Source)
          → after x (λ new_sp. after (value_from (zero_at None) lr) (λ new_lr. after (value_from (zero_at None) fp) (λ new_fp. demanded demand r new_sp new_fp (finished first r new_sp new_lr new_fp)))) ≡ refused_for a
          → Has (after x (λ new_sp. after (value_from (zero_at (Some a)) lr) (λ new_lr. after (value_from (zero_at (Some a)) fp) (λ new_fp. demanded demand r new_sp new_fp (finished first r new_sp new_lr new_fp)))))
          → Has (after x (λ new_sp. after (value_from m lr) (λ new_lr. after (value_from m fp) (λ new_fp. demanded demand r new_sp new_fp (finished first r new_sp new_lr new_fp)))))
      at-sp (Err e) lr first_is is = is
      at-sp (Ok new_sp) (kept value) first_is is = second-fp new_sp value value fp demand is
      at-sp (Ok new_sp) (stored_at address) first_is is = stored new_sp (address_at address) first_is is

-- ---- What a rule is refused for.

-- an outcome that is refused for a word, and one that is refused for none
module _ (m : Memory) where
  refused-there : (a : ℕ) → m a ≡ None → (at : ℕ) (next : ℕ → Outcome Registers) → refused_for at ≡ refused_for a → after (word_at m at) next ≡ refused_for a
  refused-there a gone at next is = let same = same-word at a is in rw same (rw gone refl)

  never-there : (at : ℕ) (next : ℕ → Outcome Registers) → unreadable_word (answer_of (refused_for at)) ≡ None → unreadable_word (answer_of (after (word_at m at) next)) ≡ None
  never-there at next never = cc

-- The first word: where it can't be read, a rule is refused for it, whatever else can be read.
pub first-needed : (rule : UnwindRuleAarch64) (first : Bool) (r : Registers) (a : ℕ) (m : Memory) → outcome rule first r (zero_at None) ≡ refused (CouldNotReadStack a) → m a ≡ None → outcome rule first r m ≡ refused (CouldNotReadStack a)
first-needed rule first r a m is gone = first-line (λ outcome. outcome ≡ refused_for a) m (refused-there m a gone) first r (line_of rule first r) is

-- No word: a rule that is refused for none over a stack without words is so over each.
pub none-needed : (rule : UnwindRuleAarch64) (first : Bool) (r : Registers) (m : Memory) → unreadable_word (answer_of (outcome rule first r (zero_at None))) ≡ None → unreadable_word (answer_of (outcome rule first r m)) ≡ None
none-needed rule first r m is = first-line (λ outcome. unreadable_word (answer_of outcome) ≡ None) m (never-there m) first r (line_of rule first r) is

-- The second word: where the first one can be read and it can't, a rule is refused for it, whatever the first one is and
-- whatever else can be read.
pub second-needed : (rule : UnwindRuleAarch64) (first : Bool) (r : Registers) (a b w : ℕ) (m : Memory) → outcome rule first r (zero_at None) ≡ refused (CouldNotReadStack a) → outcome rule first r (zero_at (Some a)) ≡ refused (CouldNotReadStack b) → m a ≡ Some w → m b ≡ None → outcome rule first r m ≡ refused (CouldNotReadStack b)
second-needed rule first r a b w m first_is second_is there gone =
    second-line (λ outcome. outcome ≡ refused_for b) a w m there (refused-there m b gone) first r
    (λ demand sp lr new_lr fp new_fp is. refused-never _ b (never-demanded demand first r sp lr fp) is) (line_of rule first r) first_is second_is

-- No second word: a rule that is refused for none over a stack with a 0 as the first is so over each that has the first,
-- whatever it is.
pub one-needed : (rule : UnwindRuleAarch64) (first : Bool) (r : Registers) (a w : ℕ) (m : Memory) → outcome rule first r (zero_at None) ≡ refused (CouldNotReadStack a) → unreadable_word (answer_of (outcome rule first r (zero_at (Some a)))) ≡ None → m a ≡ Some w → unreadable_word (answer_of (outcome rule first r m)) ≡ None
one-needed rule first r a w m first_is second_is there =
    second-line (λ outcome. unreadable_word (answer_of outcome) ≡ None) a w m there (never-there m) first r
    (λ demand sp lr new_lr fp new_fp is. never-demanded demand first r sp new_lr new_fp) (line_of rule first r) first_is second_is
