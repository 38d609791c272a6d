-- One more step of a run, and one more column.
use Rattle.std.proofs.Common.{◌≡◌, ◌∙◌, sym, ap, ℕ, zero, suc, ◌<◌, ◌-◌, arith, Bool, true, false, List, Option, None, refl}
use Rattle.std.proofs.Math.Nat.{zero-div}
use Rattle.framehop_callers.specs.RegisterFile.{word_of, with_word}
use Rattle.framehop_callers.specs.declared.run.RunCaller.{RunCaller}
use Rattle.framehop_callers.specs.declared.state.State.{State}
use Rattle.framehop_callers.specs.State.{sum, is_in, forgotten_below}
use Rattle.framehop_code.specs.declared.aarch64.action.Actions.{Actions}
use Rattle.framehop_code.specs.declared.action.Action.{Action}
use Rattle.framehop_code.specs.declared.action.Action.TheVariants as action
use Rattle.framehop_callers.specs.declared.step.Read.{Read}
use Rattle.framehop_callers.specs.declared.step.Read.TheVariants.{X86_64 as ReadX86_64, Aarch64 as ReadAarch64}
use Rattle.framehop_callers.specs.Step.{Source, After, goes, returns, given_up, done, then_done, all_done, checked, read_at, is_branch, is_branch_too, is_conditional, step_by, step_of}
use Rattle.framehop_callers.specs.Run.{alike, alike_below, onward, run_from}
use Rattle.std.specs.Prelude.{◌^◌, ◌||◌, Some, if◌then◌else◌}

less-one : (n : ℕ) → 0 < n → n ≡ suc (n - 1)
less-one n some = omega arith

pub one_step : (source : Source) (forward : Bool) (n : ℕ) (state : State) → 0 < n
    → run_from source forward n state ≡ onward source.convention (run_from source forward (n - 1)) (step_of source forward state)
unfolding run_from
one_step source forward n state some = ap (λ (k : ℕ). run_from source forward k state) (less-one n some)

pub no_step : (source : Source) (forward : Bool) (state : State) → run_from source forward 0 state ≡ None
unfolding run_from
no_step source forward state = refl

pub one_column : (n : ℕ) (left right words : List (Option ℕ)) → 0 < n
    → alike_below n left right words
    ≡ alike_below (n - 1) left right (with_word words (record { 0 = n - 1 }) (alike (word_of left (record { 0 = n - 1 })) (word_of right (record { 0 = n - 1 }))))
unfolding alike_below
one_column n left right words some = ap (λ (k : ℕ). alike_below k left right words) (less-one n some)

pub no_column : (left right words : List (Option ℕ)) → alike_below 0 left right words ≡ words
unfolding alike_below
no_column left right words = refl

pub one_forgotten : (registers n : ℕ) (words : List (Option ℕ)) → 0 < n
    → forgotten_below registers n words
    ≡ forgotten_below registers (n - 1) (if is_in registers (n - 1) then with_word words (record { 0 = n - 1 }) None else words)
unfolding forgotten_below
one_forgotten registers n words some = ap (λ (k : ℕ). forgotten_below registers k words) (less-one n some)

pub none_forgotten : (registers : ℕ) (words : List (Option ℕ)) → forgotten_below registers 0 words ≡ words
unfolding forgotten_below
none_forgotten registers words = refl

-- what a run comes to is what it goes on to after a step
pub after_step : (source : Source) (forward : Bool) (n : ℕ) (state : State) (now : After) (whole : Option RunCaller) → 0 < n
    → now ≡ step_of source forward state → run_from source forward n state ≡ whole
    → onward source.convention (run_from source forward (n - 1)) now ≡ whole
after_step source forward n state now whole some is before =
    ap (onward source.convention (run_from source forward (n - 1))) is ∙ sym (one_step source forward n state some) ∙ before

-- a set without registers
none-in : (n : ℕ) → is_in 0 n ≡ false
none-in n = rw (zero-div (2 ^ n)) refl

pub nothing_forgotten : (n : ℕ) (words : List (Option ℕ)) → forgotten_below 0 n words ≡ words
unfolding forgotten_below
nothing_forgotten zero words = refl
nothing_forgotten (suc n) words = rw (none-in n) (nothing_forgotten n words)

-- ---- where both runs are one

or-left : (x y : Bool) → (x || y) ≡ false → x ≡ false
or-left true y none = none
or-left false y none = refl

or-right : (x y : Bool) → (x || y) ≡ false → y ≡ false
or-right true y none = cc
or-right false y none = none

module _ (source : Source) (forward : Bool) where
  one-done : (state : State) (next : ℕ) (does : Action) → is_branch does ≡ false
      → done source forward state next does ≡ done source false state next does
  one-done state next (action.Move to from width) straight = refl
  one-done state next (action.Compute computation to from width) straight = refl
  one-done state next (action.Push from) straight = refl
  one-done state next (action.Pop to) straight = refl
  one-done state next action.Leave straight = refl
  one-done state next (action.Forget registers stored) straight = refl
  one-done state next (action.Branch address) straight = cc
  one-done state next (action.Loop address) straight = cc
  one-done state next (action.Jump from) straight = refl
  one-done state next (action.Call from) straight = refl
  one-done state next (action.Return bytes) straight = refl
  one-done state next (action.BranchWithLink from) straight = refl
  one-done state next (action.ReturnTo register) straight = refl

  one-then : (next : ℕ) (does : Option Action) (result other : After) → is_branch_too does ≡ false → result ≡ other
      → then_done source forward next does result ≡ then_done source false next does other
  one-then next (Some does) (goes state) other straight same = one-done state next does straight ∙ ap (then_done source false next (Some does)) same
  one-then next (Some does) (returns state) other straight same = ap (then_done source false next (Some does)) same
  one-then next (Some does) given_up other straight same = ap (then_done source false next (Some does)) same
  one-then next None result other straight same = same

  one-all : (state : State) (next : ℕ) (does : Actions)
      → (is_branch does.first || is_branch_too does.second || is_branch_too does.third) ≡ false
      → all_done source forward state next does ≡ all_done source false state next does
  one-all state next does straight =
      let front = or-left (is_branch does.first || is_branch_too does.second) (is_branch_too does.third) straight in
      one-then next does.third (then_done source forward next does.second (done source forward state next does.first))
      (then_done source false next does.second (done source false state next does.first))
      (or-right (is_branch does.first || is_branch_too does.second) (is_branch_too does.third) straight)
      (one-then next does.second (done source forward state next does.first) (done source false state next does.first)
      (or-right (is_branch does.first) (is_branch_too does.second) front)
      (one-done state next does.first (or-left (is_branch does.first) (is_branch_too does.second) front)))

  one-step : (state : State) (read : Read) → is_conditional read ≡ false
      → step_by source forward state read ≡ step_by source false state read
  one-step state (ReadX86_64 (Some i)) straight =
      ap (checked source.convention) (one-done state (sum state.address i.size) i.action straight)
  one-step state (ReadX86_64 None) straight = refl
  one-step state (ReadAarch64 (Some does)) straight =
      ap (checked source.convention) (one-all state (sum state.address 4) does straight)
  one-step state (ReadAarch64 None) straight = refl

  -- a step by what was read is that of the run, and where that is no conditional jump the straight run's is one of both
  pub read_step : (state : State) (read : Read) (now : After) → read ≡ read_at source.convention (source.code state.address)
      → now ≡ step_by source forward state read → now ≡ step_of source forward state
  unfolding step_of
  read_step state read now is step = step ∙ ap (step_by source forward state) is

  pub both_step : (state : State) (read : Read) (now : After) → read ≡ read_at source.convention (source.code state.address)
      → is_conditional read ≡ false → now ≡ step_by source false state read → now ≡ step_of source forward state
  both_step state read now is straight step = read_step state read now is (step ∙ sym (one-step state read straight))
