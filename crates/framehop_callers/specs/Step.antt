-- What a run knows after an instruction.
use Rattle.std.specs.Prelude.{ℕ, Bool, true, false, not, ◌&&◌, ◌||◌, nat_lt, nat_le, if◌then◌else◌, List, [], ◌∷◌, Option, Some, None, option_map, option_and_then}
use Rattle.std.specs.List.{filter}
use Rattle.framehop_core.specs.Memory.{Memory}
use Rattle.framehop_callers.specs.RegisterFile.{word_of}
use Rattle.framehop_code.specs.X86_64.Action.{action_at}
use Rattle.framehop_code.specs.Aarch64.Action.{actions_at}
use Rattle.framehop_code.specs.declared.aarch64.action.Actions.{Actions}
use Rattle.framehop_code.specs.declared.action.Instruction.{Instruction}
use Rattle.framehop_code.specs.declared.action.Action.{Action}
use Rattle.framehop_code.specs.declared.action.Action.TheVariants as action
use Rattle.framehop_code.specs.declared.action.Stored.{Stored}
use Rattle.framehop_code.specs.declared.action.Width.TheVariants.{Eight}
use Rattle.framehop_callers.specs.declared.convention.Convention.{Convention}
use Rattle.framehop_callers.specs.declared.convention.Convention.TheVariants.{X86_64, Aarch64}
use Rattle.framehop_callers.specs.Convention.{scratch_of}
use Rattle.framehop_callers.specs.declared.state.State.{State}
use Rattle.framehop_callers.specs.declared.step.Read.{Read}
use Rattle.framehop_callers.specs.declared.step.Read.TheVariants.{X86_64 as ReadX86_64, Aarch64 as ReadAarch64}
use Rattle.framehop_callers.specs.declared.step.Step.{Step}
use Rattle.framehop_callers.specs.declared.step.Step.TheVariants.{Goes, Returns, GivenUp}
use Rattle.framehop_callers.specs.Calls.{is_none, opened, has, noted, without}
use Rattle.framehop_callers.specs.State.{RCX, RSP, X30, stack_pointer, sum, difference, place_of, address_of, operand_of, value_of, computed_of, with_register, with_bytes, put, pushed, raised_by, word_at, popped, leaving, forgotten}

-- what a run reads: memory, code, and which functions unwind data covers; and the calling convention of its processor
pub record Source : Type 0 where
  pub convention : Convention
  pub memory : Memory
  pub code : ℕ → List ℕ
  pub is_covered : ℕ → Bool

-- how a run goes on: to a next state, or to that of the caller, or it is given up
pub data After : Type 0 where
  goes : State → After
  returns : State → After
  given_up : After

abbrev pub after : Step → State → After
after Goes state = goes state
after Returns state = returns state
after GivenUp state = given_up

-- ---- straight on

abbrev pub at : ℕ → State → State
at address state = record state { address = address }

abbrev pub on_at : ℕ → Option State → After
on_at address (Some state) = goes (at address state)
on_at address None = given_up

-- the bytes that an instruction may have changed, and then the registers
abbrev pub changed : State → ℕ → Option Stored → Option State
changed state next (Some stored) = with_bytes state (place_of state next stored.at) stored.bytes None
changed state next None = Some state

-- ---- jumps

-- LOOP counts rcx down
abbrev pub counted : State → State
counted state = with_register state RCX (option_map (λ count. difference count 1) (word_of state.registers RCX))

-- One run takes a conditional jump only where it meets it again, and if it leads forward. The other takes each that leads
-- forward, and one that leads back if it lies higher than those that it has taken, so each at most once. What a loop
-- changes is then not the same in both.
abbrev pub takes : State → Bool → ℕ → ℕ → Bool
takes state true next target = nat_lt next target || nat_lt state.looped next
takes state false next target = nat_lt next target && nat_le next state.looped

abbrev pub with_loop : Bool → State → ℕ → State
with_loop true state next = state
with_loop false state next = record state { looped = next }

-- the highest jump that is met
abbrev pub highest : ℕ → ℕ → ℕ
highest looped next = if nat_lt looped next then next else looped

abbrev pub met : Bool → State → ℕ → State
met true state next = state
met false state next = record state { looped = highest state.looped next }

abbrev pub branched_by : Bool → State → Bool → ℕ → ℕ → After
branched_by true state forward next target = goes (at target (with_loop (nat_lt next target) state next))
branched_by false state forward next target = goes (at next (met forward state next))

abbrev pub branched : State → Bool → ℕ → Option ℕ → After
branched state forward next (Some target) = branched_by (takes state forward next target) state forward next target
branched state forward next None = given_up

abbrev pub jumped : State → Option ℕ → After
jumped state (Some target) = goes (at target state)
jumped state None = given_up

-- ---- calls and returns

-- a call is passed over: the function may write the 64 KiB below the stack pointer
abbrev pub passed_over_at : Convention → State → ℕ → Option ℕ → After
passed_over_at convention state next (Some sp) =
    on_at next (with_bytes (forgotten state (scratch_of convention)) (Some (difference sp 0x10000)) 0x10000 None)
passed_over_at convention state next None = given_up

abbrev pub passed_over : Convention → State → ℕ → After
passed_over convention state next = passed_over_at convention state next (word_of state.registers (stack_pointer convention))

-- a call is entered: its return address is pushed, and is where the stack pointer is
abbrev pub with_calls : State → Option (List ℕ) → Option State
with_calls state (Some calls) = Some (record state { calls = calls })
with_calls state None = None

abbrev pub with_call_at : State → Option ℕ → Option State
with_call_at state (Some sp) = with_calls state (opened state.calls sp)
with_call_at state None = None

abbrev pub with_call : State → Option State
with_call state = with_call_at state (word_of state.registers RSP)

-- and its return address is noted
abbrev pub with_returns : State → Option (List ℕ) → Option State
with_returns state (Some addresses) = Some (record state { after_calls = addresses })
with_returns state None = None

abbrev pub with_return : ℕ → State → Option State
with_return next state = with_returns state (noted state.after_calls next)

abbrev pub entered : State → ℕ → ℕ → After
entered state next target =
    on_at target (option_and_then (with_return next) (option_and_then with_call (pushed state (Some next))))

abbrev pub has_some : List ℕ → Bool
has_some [] = false
has_some (byte ∷ bytes) = true

-- a function is entered whose code is at hand and that no unwind data covers
abbrev pub is_entered : Source → ℕ → Bool
is_entered source target = not (source.is_covered target) && has_some (source.code target)

abbrev pub called : Source → State → ℕ → Option ℕ → After
called source state next (Some target) =
    if is_entered source target then entered state next target else passed_over source.convention state next
called source state next None = passed_over source.convention state next

-- a function that is entered by BL or BLR returns by x30
abbrev pub linked : State → ℕ → ℕ → After
linked state next target = on_at target (with_return next (with_register state X30 (Some next)))

abbrev pub called_by_link : Source → State → ℕ → Option ℕ → After
called_by_link source state next (Some target) =
    if is_entered source target then linked state next target else passed_over source.convention state next
called_by_link source state next None = passed_over source.convention state next

-- It is the function's own return where no call of the run is open, and it leads to no instruction after a call that the
-- run has entered and not returned from: such a function may have moved its return address on the stack.
abbrev pub is_own_return : State → ℕ → Bool
is_own_return state address = is_none state.calls && not (has state.after_calls address)

abbrev pub left_call : State → ℕ → State
left_call state address = record state { after_calls = without state.after_calls address }

abbrev pub returned_to : State → ℕ → After
returned_to state address =
    if is_own_return state address then returns (at address state) else goes (at address (left_call state address))

abbrev pub returned : State → ℕ → Option ℕ → After
returned state bytes (Some address) = returned_to (raised_by (raised_by state 8) bytes) address
returned state bytes None = given_up

abbrev pub returned_by : State → Option ℕ → After
returned_by state (Some address) = returned_to state address
returned_by state None = given_up

-- ---- a step

abbrev pub done : Source → Bool → State → ℕ → Action → After
done source forward state next (action.Move to from width) =
    on_at next (put state next width to (value_of source.memory state next width from))
done source forward state next (action.Compute computation to from width) =
    on_at next (put state next width to
    (computed_of computation width (operand_of source.memory state next width to)
    (value_of source.memory state next width from)))
done source forward state next (action.Push from) =
    on_at next (pushed state (value_of source.memory state next Eight from))
done source forward state next (action.Pop to) = on_at next (popped source.memory state next to)
done source forward state next action.Leave = goes (at next (leaving source.memory state))
done source forward state next (action.Forget registers stored) =
    on_at next (option_map (λ kept. forgotten kept registers.0) (changed state next stored))
done source forward state next (action.Branch address) = branched state forward next (address_of state next address)
done source forward state next (action.Loop address) =
    branched (counted state) forward next (address_of state next address)
done source forward state next (action.Jump from) = jumped state (value_of source.memory state next Eight from)
done source forward state next (action.Call from) =
    called source state next (value_of source.memory state next Eight from)
done source forward state next (action.Return bytes) = returned state bytes (word_at source.memory state RSP)
done source forward state next (action.BranchWithLink from) =
    called_by_link source state next (value_of source.memory state next Eight from)
done source forward state next (action.ReturnTo register) = returned_by state (word_of state.registers register)

-- another action of the same instruction
abbrev pub then_done : Source → Bool → ℕ → Option Action → After → After
then_done source forward next (Some action) (goes state) = done source forward state next action
then_done source forward next (Some action) (returns state) = returns state
then_done source forward next (Some action) given_up = given_up
then_done source forward next None result = result

-- an instruction of up to three actions
abbrev pub all_done : Source → Bool → State → ℕ → Actions → After
all_done source forward state next actions =
    then_done source forward next actions.third
    (then_done source forward next actions.second (done source forward state next actions.first))

-- calls are over whose return address is no longer on the stack
abbrev pub closed_below : ℕ → State → State
closed_below sp state = record state { calls = filter (λ word. nat_le sp word) state.calls }

-- where the stack pointer is no longer known, the run is given up
abbrev pub goes_by : State → Option ℕ → After
goes_by state (Some sp) = goes (closed_below sp state)
goes_by state None = given_up

abbrev pub returns_by : State → Option ℕ → After
returns_by state (Some sp) = returns (closed_below sp state)
returns_by state None = given_up

abbrev pub checked : Convention → After → After
checked convention (goes state) = goes_by state (word_of state.registers (stack_pointer convention))
checked convention (returns state) = returns_by state (word_of state.registers (stack_pointer convention))
checked convention given_up = given_up

abbrev pub stepped : Source → Bool → State → Option Instruction → After
stepped source forward state (Some instruction) =
    checked source.convention (done source forward state (sum state.address instruction.size) instruction.action)
stepped source forward state None = given_up

-- each instruction of aarch64 has four bytes
abbrev pub stepped_by : Source → Bool → State → Option Actions → After
stepped_by source forward state (Some actions) =
    checked source.convention (all_done source forward state (sum state.address 4) actions)
stepped_by source forward state None = given_up

-- what is read at an address of code, by the code from there on
abbrev pub read_at : Convention → List ℕ → Read
read_at X86_64 code = ReadX86_64 (action_at code 0)
read_at Aarch64 code = ReadAarch64 (actions_at code 0)

-- a step by what was read at the state's address
abbrev pub step_by : Source → Bool → State → Read → After
step_by source forward state (ReadX86_64 instruction) = stepped source forward state instruction
step_by source forward state (ReadAarch64 actions) = stepped_by source forward state actions

-- the step by the instruction at the state's address
unfoldable pub step_of : Source → Bool → State → After
step_of source forward state = step_by source forward state (read_at source.convention (source.code state.address))

-- where the two runs go different ways: at a conditional jump
abbrev pub is_branch : Action → Bool
is_branch (action.Branch address) = true
is_branch (action.Loop address) = true
is_branch (action.Move to from width) = false
is_branch (action.Compute computation to from width) = false
is_branch (action.Push from) = false
is_branch (action.Pop to) = false
is_branch action.Leave = false
is_branch (action.Forget registers stored) = false
is_branch (action.Jump from) = false
is_branch (action.Call from) = false
is_branch (action.Return bytes) = false
is_branch (action.BranchWithLink from) = false
is_branch (action.ReturnTo register) = false

abbrev pub is_branch_too : Option Action → Bool
is_branch_too (Some action) = is_branch action
is_branch_too None = false

abbrev pub is_conditional : Read → Bool
is_conditional (ReadX86_64 (Some instruction)) = is_branch instruction.action
is_conditional (ReadX86_64 None) = false
is_conditional (ReadAarch64 (Some actions)) =
    is_branch actions.first || is_branch_too actions.second || is_branch_too actions.third
is_conditional (ReadAarch64 None) = false
