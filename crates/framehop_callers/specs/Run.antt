-- The caller of a frame by runs of its code to the function's return.
use Rattle.std.specs.Prelude.{◌≡◌, ℕ, zero, suc, ◌+◌, Bool, true, false, ◌==◌, ◌&&◌, if◌then◌else◌, List, [], Option, Some, None}
use Rattle.framehop_cfi.specs.declared.rule.Register.{Register}
use Rattle.framehop_callers.specs.Caller.{is_same}
use Rattle.framehop_callers.specs.RegisterFile.{word_of, with_word, unknown}
use Rattle.framehop_callers.specs.declared.convention.Convention.{Convention}
use Rattle.framehop_callers.specs.Convention.{program_counter_of}
use Rattle.framehop_callers.specs.declared.run.RunCaller.{RunCaller}
use Rattle.framehop_callers.specs.declared.run.Together.{Together}
use Rattle.framehop_callers.specs.declared.run.Together.TheVariants.{Ends, Forks}
use Rattle.framehop_callers.specs.declared.state.State.{State}
use Rattle.framehop_callers.specs.State.{stack_pointer}
use Rattle.framehop_callers.specs.Step.{Source, After, goes, returns, given_up, step_of}

-- the program counter
abbrev pub program_counter : Convention → Register
program_counter convention = record { 0 = program_counter_of convention }

-- a value that both are
abbrev pub alike : Option ℕ → Option ℕ → Option ℕ
alike word other = if is_same word other then word else None

-- what two register files know alike of columns below n, over others
unfoldable pub alike_below : ℕ → List (Option ℕ) → List (Option ℕ) → List (Option ℕ) → List (Option ℕ)
alike_below zero left right words = words
alike_below (suc n) left right words =
    alike_below n left right
    (with_word words (record { 0 = n }) (alike (word_of left (record { 0 = n })) (word_of right (record { 0 = n }))))

-- what two register files know alike of the general registers, whose columns are below the program counter's, and of that
abbrev pub common : Convention → List (Option ℕ) → List (Option ℕ) → List (Option ℕ)
common convention left right = alike_below (program_counter_of convention + 1) left right unknown

-- the caller, by the state after the return
abbrev pub caller_of : Convention → State → RunCaller
caller_of convention state = record {
  return_address = state.address;
  registers = common convention (with_word state.registers (program_counter convention) (Some state.address))
      (with_word state.registers (program_counter convention) (Some state.address));
}

-- how many instructions a run does at most
abbrev pub MOST_STEPS : ℕ
MOST_STEPS = 4096

-- goes on after a step
abbrev pub onward : Convention → (State → Option RunCaller) → After → Option RunCaller
onward convention run (goes state) = run state
onward convention run (returns state) = Some (caller_of convention state)
onward convention run given_up = None

-- the caller that a run from a state comes to, in at most n instructions
unfoldable pub run_from : Source → Bool → ℕ → State → Option RunCaller
run_from source forward zero state = None
run_from source forward (suc n) state = onward source.convention (run_from source forward n) (step_of source forward state)

-- a run begins with what is known of a frame
abbrev pub start : ℕ → List (Option ℕ) → State
start address registers = record { address = address; registers = registers; writes = []; calls = []; after_calls = []; looped = 0 }

unfoldable pub run_of : Source → Bool → ℕ → List (Option ℕ) → Option RunCaller
run_of source forward address registers = run_from source forward MOST_STEPS (start address registers)

-- What both runs from a first state come to by the part of them that is one: to this caller, or to what they come to from
-- another state on, in so many instructions.
abbrev pub IsTogether : Source → State → State → Together → Type 0
IsTogether source first state (Ends caller) = (forward : Bool) → run_from source forward MOST_STEPS first ≡ caller
IsTogether source first state (Forks left) =
    (forward : Bool) → run_from source forward MOST_STEPS first ≡ run_from source forward left state

-- two callers agree in return address and stack pointer
abbrev pub agree : Convention → RunCaller → RunCaller → Bool
agree convention caller other =
    caller.return_address == other.return_address
    && is_same (word_of caller.registers (stack_pointer convention)) (word_of other.registers (stack_pointer convention))

abbrev pub both : Convention → RunCaller → RunCaller → RunCaller
both convention caller other =
    record { return_address = caller.return_address; registers = common convention caller.registers other.registers }

-- the caller of both runs, or of the only one that returns
abbrev pub agreed : Convention → Option RunCaller → Option RunCaller → Option RunCaller
agreed convention (Some caller) (Some other) = if agree convention caller other then Some (both convention caller other) else None
agreed convention (Some caller) None = Some caller
agreed convention None other = other

-- the caller of a frame
unfoldable pub caller_by_runs : Source → ℕ → List (Option ℕ) → Option RunCaller
caller_by_runs source address registers =
    agreed source.convention (run_of source false address registers) (run_of source true address registers)
