-- The processor's way along a run. It is the processor's own, with two exceptions: a call that the run passes over does
-- what the calling convention lets a function do, and a write to an address that the run doesn't know goes to no number
-- that the run knows.
use Rattle.std.specs.Prelude.{◌≡◌, ◌≢◌, ℕ, ◌<◌, Bool, true, false, ◌&&◌, nat_lt, if◌then◌else◌, List, length, Option, Some, None}
use Rattle.framehop_core.specs.Memory.{Memory}
use Rattle.framehop_callers.specs.RegisterFile.{word_of}
use Rattle.framehop_code.specs.X86_64.Action.{action_at}
use Rattle.framehop_code.specs.Aarch64.Action.{actions_at}
use Rattle.framehop_code.specs.declared.aarch64.action.Actions.{Actions}
use Rattle.framehop_code.specs.declared.action.Action.{Action}
use Rattle.framehop_code.specs.declared.action.Action.TheVariants as action
use Rattle.framehop_code.specs.declared.action.Instruction.{Instruction}
use Rattle.framehop_code.specs.declared.action.Operand.{Operand}
use Rattle.framehop_code.specs.declared.action.Operand.TheVariants as operand
use Rattle.framehop_code.specs.declared.action.Stored.{Stored}
use Rattle.framehop_code.specs.declared.action.Width.{Width}
use Rattle.framehop_code.specs.declared.action.Width.TheVariants.{Eight}
use Rattle.framehop_callers.specs.declared.convention.Convention.{Convention}
use Rattle.framehop_callers.specs.declared.convention.Convention.TheVariants.{X86_64, Aarch64}
use Rattle.framehop_callers.specs.Convention.{stack_pointer_of, program_counter_of, scratch_of}
use Rattle.framehop_callers.specs.declared.known.Write.{Write}
use Rattle.framehop_callers.specs.declared.run.RunCaller.{RunCaller}
use Rattle.framehop_callers.specs.declared.state.State.{State}
use Rattle.framehop_callers.specs.Known.{loaded}
use Rattle.framehop_callers.specs.Machine.{Machine, address_value, IsPlace, IsOperand, IsValue, Sets, IsWrite, AreKept, IsKept}
use Rattle.framehop_callers.specs.Run.{start, run_of}
use Rattle.framehop_callers.specs.State.{sum, difference, low, bytes_of, computed, place_of, value_of, raised_by, is_in}
use Rattle.framehop_callers.specs.Step.{Source, After, takes, goes, returns, given_up, done, then_done, is_entered, step_of}

-- ---- agreement

-- each register that is known has its value
abbrev pub Knows : List (Option ℕ) → (ℕ → ℕ) → Type 0
Knows words registers = (column value : ℕ) → word_of words (record { 0 = column }) ≡ Some value → registers column ≡ value

-- each number of memory that is known has its value
abbrev pub Remembers : Memory → List Write → (ℕ → ℕ → ℕ) → Type 0
Remembers memory writes numbers =
    (address bytes value : ℕ) → loaded memory writes address bytes ≡ Some value → numbers address bytes ≡ value

-- the processor is where the run is, with the values that the run knows
pub record Agrees (memory : Memory) (state : State) (machine : Machine) : Type 0 where
  pub at : machine.address ≡ state.address
  pub knows : Knows state.registers machine.registers
  pub remembers : Remembers memory state.writes machine.numbers

-- ---- a step

-- a write at an address, by where the run knows it to be
abbrev pub Writes : Memory → State → Option ℕ → ℕ → ℕ → (ℕ → ℕ → ℕ) → (ℕ → ℕ → ℕ) → Type 0
Writes memory state (Some known) at bytes before now = IsWrite at bytes before now
Writes memory state None at bytes before now = Remembers memory state.writes now

-- an operand gets a value
abbrev pub Puts : Memory → State → ℕ → Width → Operand → ℕ → Machine → Machine → Type 0
Puts memory state next width (operand.Register register) value before now =
    Sets register.0 value before.registers now.registers × IsKept before.numbers now.numbers
Puts memory state next width (operand.Memory place) value before now =
    AreKept before.registers now.registers × ((at : ℕ) × IsPlace before next place at
    × Writes memory state (place_of state next place) at (bytes_of width) before.numbers now.numbers
    × (now.numbers at (bytes_of width) ≡ value))

-- bytes get any value
abbrev pub Changes : Memory → State → ℕ → Option Stored → Machine → (ℕ → ℕ → ℕ) → Type 0
Changes memory state next (Some stored) before now =
    (at : ℕ) × IsPlace before next stored.at at
    × Writes memory state (place_of state next stored.at) at stored.bytes before.numbers now
Changes memory state next None before now = IsKept before.numbers now

-- the registers that aren't in a set are kept
abbrev pub KeepsOthers : ℕ → (ℕ → ℕ) → (ℕ → ℕ) → Type 0
KeepsOthers registers before now =
    (column : ℕ) → (nat_lt column 32 && is_in registers column) ≡ false → now column ≡ before column

-- PUSH of a value, by rsp, column 7
pub record Pushes (value : ℕ) (before now : Machine) : Type 0 where
  pub sp : Sets 7 (difference (before.registers 7) 8) before.registers now.registers
  pub elsewhere : IsWrite (difference (before.registers 7) 8) 8 before.numbers now.numbers
  pub word : now.numbers (difference (before.registers 7) 8) 8 ≡ value

-- a function that the calling convention binds: it keeps the registers that aren't scratch, and writes the 64 KiB
-- below the stack pointer only
pub record PassesOver (convention : Convention) (before now : Machine) : Type 0 where
  pub others : KeepsOthers (scratch_of convention) before.registers now.registers
  pub elsewhere : IsWrite (difference (before.registers (stack_pointer_of convention)) 0x10000) 0x10000 before.numbers now.numbers

-- rsp gets so many bytes more
pub record Raises (bytes : ℕ) (before now : Machine) : Type 0 where
  pub sp : Sets 7 (sum (before.registers 7) bytes) before.registers now.registers
  pub memory : IsKept before.numbers now.numbers

-- LEAVE: rsp is after the word at rbp, column 6, and rbp is that word
pub record Leaves (before now : Machine) : Type 0 where
  pub sp : now.registers 7 ≡ sum (before.registers 6) 8
  pub fp : now.registers 6 ≡ before.numbers (before.registers 6) 8
  pub others : (column : ℕ) → column ≢ 7 → column ≢ 6 → now.registers column ≡ before.registers column
  pub memory : IsKept before.numbers now.numbers

-- a jump changes the address only
pub record Leads (address : ℕ) (before now : Machine) : Type 0 where
  pub at : now.address ≡ address
  pub registers : AreKept before.registers now.registers
  pub memory : IsKept before.numbers now.numbers

-- a call that the run enters goes to its target, and one that it passes over comes back
abbrev pub CallsTo : Convention → Bool → ℕ → ℕ → Machine → Machine → Type 0
CallsTo convention true next target before now = (now.address ≡ target) × Pushes next before now
CallsTo convention false next target before now = (now.address ≡ next) × PassesOver convention before now

-- by the target that the run knows
abbrev pub Calls : Source → ℕ → Option ℕ → Machine → Machine → Type 0
Calls source next (Some target) before now = CallsTo source.convention (is_entered source target) next target before now
Calls source next None before now = (now.address ≡ next) × PassesOver source.convention before now

-- BL and BLR: x30, column 30, has the address of the next instruction
pub record Links (next : ℕ) (before now : Machine) : Type 0 where
  pub link : Sets 30 next before.registers now.registers
  pub memory : IsKept before.numbers now.numbers

abbrev pub LinksTo : Convention → Bool → ℕ → ℕ → Machine → Machine → Type 0
LinksTo convention true next target before now = (now.address ≡ target) × Links next before now
LinksTo convention false next target before now = (now.address ≡ next) × PassesOver convention before now

abbrev pub CallsByLink : Source → ℕ → Option ℕ → Machine → Machine → Type 0
CallsByLink source next (Some target) before now = LinksTo source.convention (is_entered source target) next target before now
CallsByLink source next None before now = (now.address ≡ next) × PassesOver source.convention before now

-- the way of a conditional jump that the run takes
abbrev pub way : State → Bool → ℕ → ℕ → ℕ
way state forward next target = if takes state forward next target then target else next

-- what the processor does by an instruction, of whose conditional jumps it takes the run's way
abbrev pub Does : Source → Bool → State → ℕ → Action → Machine → Machine → Type 0
Does source forward state next (action.Move to from width) before now =
    (now.address ≡ next) × ((value : ℕ) × IsValue before next width from value
    × Puts source.memory state next width to value before now)
Does source forward state next (action.Compute computation to from width) before now =
    (now.address ≡ next) × ((left : ℕ) × (right : ℕ) × IsOperand before next width to left
    × IsValue before next width from right
    × Puts source.memory state next width to (low width (computed computation left right)) before now)
Does source forward state next (action.Push from) before now =
    (now.address ≡ next) × ((value : ℕ) × IsValue before next Eight from value × Pushes value before now)
Does source forward state next (action.Pop to) before now =
    (now.address ≡ next) × ((middle : Machine) × Raises 8 before middle
    × Puts source.memory (raised_by state 8) next Eight to (before.numbers (before.registers 7) 8) middle now)
Does source forward state next action.Leave before now = (now.address ≡ next) × Leaves before now
Does source forward state next (action.Forget registers stored) before now =
    (now.address ≡ next) × Changes source.memory state next stored before now.numbers
    × KeepsOthers registers.0 before.registers now.registers
Does source forward state next (action.Branch address) before now =
    Leads (way state forward next (address_value before next address)) before now
Does source forward state next (action.Loop address) before now =
    (now.address ≡ way state forward next (address_value before next address))
    × Sets 2 (difference (before.registers 2) 1) before.registers now.registers × IsKept before.numbers now.numbers
Does source forward state next (action.Jump from) before now =
    (target : ℕ) × IsValue before next Eight from target × Leads target before now
Does source forward state next (action.Call from) before now =
    Calls source next (value_of source.memory state next Eight from) before now
Does source forward state next (action.Return bytes) before now =
    (now.address ≡ before.numbers (before.registers 7) 8)
    × Sets 7 (sum (sum (before.registers 7) 8) bytes) before.registers now.registers × IsKept before.numbers now.numbers
Does source forward state next (action.BranchWithLink from) before now =
    CallsByLink source next (value_of source.memory state next Eight from) before now
Does source forward state next (action.ReturnTo register) before now = Leads (before.registers register.0) before now

-- another action of the same instruction, where the one before it leads on
abbrev pub DoesThen : Source → Bool → ℕ → Option Action → After → Machine → Machine → Type 0
DoesThen source forward next (Some action) (goes state) before now = Does source forward state next action before now
DoesThen source forward next (Some action) (returns state) before now = now ≡ before
DoesThen source forward next (Some action) given_up before now = Unit {0}
DoesThen source forward next None result before now = now ≡ before

-- the actions of an instruction, one after another
pub record DoesAll (source : Source) (forward : Bool) (state : State) (next : ℕ) (actions : Actions) (before now : Machine) : Type 0 where
  pub middle : Machine
  pub later : Machine
  pub first : Does source forward state next actions.first before middle
  pub second : DoesThen source forward next actions.second (done source forward state next actions.first) middle later
  pub third : DoesThen source forward next actions.third
      (then_done source forward next actions.second (done source forward state next actions.first)) later now

abbrev pub DoesAt : Source → Bool → State → Option Instruction → Machine → Machine → Type 0
DoesAt source forward state (Some instruction) before now =
    Does source forward state (sum state.address instruction.size) instruction.action before now
DoesAt source forward state None before now = ⊥

abbrev pub DoAt : Source → Bool → State → Option Actions → Machine → Machine → Type 0
DoAt source forward state (Some actions) before now = DoesAll source forward state (sum state.address 4) actions before now
DoAt source forward state None before now = ⊥

-- the instruction at the state's address
abbrev pub Steps : Convention → Source → Bool → State → Machine → Machine → Type 0
Steps X86_64 source forward state before now = DoesAt source forward state (action_at (source.code state.address) 0) before now
Steps Aarch64 source forward state before now = DoAt source forward state (actions_at (source.code state.address) 0) before now

-- ---- a run

-- The processor comes from a machine to another along a run: by the instruction at each state's address, until the run
-- returns.
pub data ReturnsTo (source : Source) (forward : Bool) : State → Machine → Machine → Type 0 where
  arrives : (state last : State) (before now : Machine) → step_of source forward state ≡ returns last
      → Steps source.convention source forward state before now
      → ReturnsTo source forward state before now
  goes_on : (state next : State) (before middle now : Machine) → step_of source forward state ≡ goes next
      → Steps source.convention source forward state before middle
      → ReturnsTo source forward next middle now → ReturnsTo source forward state before now

-- a caller is that of a machine: it is at the return address, and its general registers, whose columns are below the program
-- counter's, have the values that are known
pub record IsCallerOf (convention : Convention) (caller : RunCaller) (machine : Machine) : Type 0 where
  pub at : machine.address ≡ caller.return_address
  pub knows : (column value : ℕ) → column < program_counter_of convention
      → word_of caller.registers (record { 0 = column }) ≡ Some value → machine.registers column ≡ value

-- What is returned for a frame, whose register file has 33 columns, is the caller of the processor: where one of the two runs comes to a caller, and the
-- processor agrees with what is known of the frame and returns along that run, it comes to the return address with the
-- values that are known.
abbrev pub IsSound : Source → ℕ → List (Option ℕ) → RunCaller → Type 0
IsSound source address registers caller =
    (forward : Bool) (found : RunCaller) (before now : Machine) → length registers ≡ 33
    → run_of source forward address registers ≡ Some found
    → Agrees source.memory (start address registers) before
    → ReturnsTo source forward (start address registers) before now → IsCallerOf source.convention caller now
