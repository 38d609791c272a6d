-- What a run knows of the values that an instruction uses, and after it (Intel 64 and IA-32 Architectures Software
-- Developer's Manual, volume 1, sections 3.4 and 3.7; Arm Architecture Reference Manual for A-profile).
use Rattle.std.specs.Prelude.{ℕ, zero, suc, ◌+◌, ◌-◌, ◌*◌, ◌/◌, ◌%◌, ◌^◌, Bool, true, false, ◌==◌, nat_lt, if◌then◌else◌, List, Option, Some, None, option_map, bit_and, bit_or, bit_xor}
use Rattle.framehop_cfi.specs.declared.rule.Register.{Register}
use Rattle.framehop_core.specs.Memory.{Memory}
use Rattle.framehop_callers.specs.RegisterFile.{word_of, with_word}
use Rattle.framehop_code.specs.declared.action.Address.{Address}
use Rattle.framehop_code.specs.declared.action.Index.{Index}
use Rattle.framehop_code.specs.declared.action.Place.{Place}
use Rattle.framehop_code.specs.declared.action.Place.TheVariants.{At, Elsewhere}
use Rattle.framehop_code.specs.declared.action.Operand.{Operand}
use Rattle.framehop_code.specs.declared.action.Operand.TheVariants as operand
use Rattle.framehop_code.specs.declared.action.Source.{Source}
use Rattle.framehop_code.specs.declared.action.Source.TheVariants as source
use Rattle.framehop_code.specs.declared.action.Width.{Width}
use Rattle.framehop_code.specs.declared.action.Width.TheVariants.{Four, Eight}
use Rattle.framehop_code.specs.declared.action.Computation.{Computation}
use Rattle.framehop_code.specs.declared.action.Computation.TheVariants.{Add, Subtract, And, Or, ExclusiveOr}
use Rattle.framehop_callers.specs.declared.convention.Convention.{Convention}
use Rattle.framehop_callers.specs.Convention.{stack_pointer_of}
use Rattle.framehop_callers.specs.declared.known.Write.{Write}
use Rattle.framehop_callers.specs.declared.state.State.{State}
use Rattle.framehop_callers.specs.Known.{loaded, stored}

-- rcx, rbp and rsp by their DWARF columns (System V ABI for AMD64, figure 3.36)
abbrev pub RCX : Register
RCX = record { 0 = 2 }

abbrev pub RBP : Register
RBP = record { 0 = 6 }

abbrev pub RSP : Register
RSP = record { 0 = 7 }

-- x30, the link register of aarch64 (DWARF for the Arm 64-bit Architecture)
abbrev pub X30 : Register
X30 = record { 0 = 30 }

-- the stack pointer of a processor
abbrev pub stack_pointer : Convention → Register
stack_pointer convention = record { 0 = stack_pointer_of convention }

-- ---- numbers

-- a sum, a difference and a product where numbers wrap
abbrev pub sum : ℕ → ℕ → ℕ
sum x y = (x + y) % 2 ^ 64

abbrev pub difference : ℕ → ℕ → ℕ
difference x y = (x + (2 ^ 64 - y)) % 2 ^ 64

abbrev pub product : ℕ → ℕ → ℕ
product x y = (x * y) % 2 ^ 64

abbrev pub bytes_of : Width → ℕ
bytes_of Four = 4
bytes_of Eight = 8

-- the number that so many low bytes of a word are
abbrev pub low : Width → ℕ → ℕ
low Four word = word % 2 ^ 32
low Eight word = word

-- a number of four bytes with its sign extended to eight
abbrev pub sign_extended : ℕ → ℕ
sign_extended number = if nat_lt number (2 ^ 31) then number else sum number 0xFFFFFFFF00000000

-- a carry is lost
abbrev pub computed : Computation → ℕ → ℕ → ℕ
computed Add x y = sum x y
computed Subtract x y = difference x y
computed And x y = bit_and x y
computed Or x y = bit_or x y
computed ExclusiveOr x y = bit_xor x y

abbrev pub computed_of : Computation → Width → Option ℕ → Option ℕ → Option ℕ
computed_of computation width (Some x) (Some y) = Some (low width (computed computation x y))
computed_of computation width x y = None

-- ---- addresses, where next is the address of the next instruction

-- what a register adds: where there is none, 0
abbrev pub base_of : State → Option Register → Option ℕ
base_of state None = Some 0
base_of state (Some register) = word_of state.registers register

abbrev pub index_of : State → Option Index → Option ℕ
index_of state None = Some 0
index_of state (Some index) = option_map (λ word. product word index.scale) (word_of state.registers index.register)

abbrev pub start_of : ℕ → Bool → ℕ
start_of next true = next
start_of next false = 0

abbrev pub sum_of : Option ℕ → Option ℕ → ℕ → ℕ → Option ℕ
sum_of (Some base) (Some index) displacement start = Some (sum (sum (sum base index) displacement) start)
sum_of base index displacement start = None

abbrev pub address_of : State → ℕ → Address → Option ℕ
address_of state next address =
    sum_of (base_of state address.base) (index_of state address.index) address.displacement
    (start_of next address.from_next)

abbrev pub place_of : State → ℕ → Place → Option ℕ
place_of state next (At address) = address_of state next address
place_of state next Elsewhere = None

-- ---- values

-- the number at an address that is known
abbrev pub number_at : Memory → State → Width → Option ℕ → Option ℕ
number_at memory state width (Some address) = loaded memory state.writes address (bytes_of width)
number_at memory state width None = None

abbrev pub operand_of : Memory → State → ℕ → Width → Operand → Option ℕ
operand_of memory state next width (operand.Register register) = option_map (low width) (word_of state.registers register)
operand_of memory state next width (operand.Memory place) = number_at memory state width (place_of state next place)

abbrev pub value_of : Memory → State → ℕ → Width → Source → Option ℕ
value_of memory state next width (source.Operand operand) = operand_of memory state next width operand
value_of memory state next width (source.SignExtended operand) =
    option_map (λ number. low width (sign_extended number)) (operand_of memory state next Four operand)
value_of memory state next width (source.Immediate number) = Some (low width number)
value_of memory state next width (source.Address address) = option_map (low width) (address_of state next address)
value_of memory state next width source.Unknown = None

-- ---- what is known after it

-- the run goes on, or is given up
abbrev pub left_by : Bool → State → Option State
left_by true state = Some state
left_by false state = None

abbrev pub with_register : State → Register → Option ℕ → State
with_register state register word = record state { registers = with_word state.registers register word }

abbrev pub with_writes : State → Option (List Write) → Option State
with_writes state (Some writes) = Some (record state { writes = writes })
with_writes state None = None

-- a write to an address that is known; one elsewhere goes to no word that the run needs
abbrev pub with_bytes : State → Option ℕ → ℕ → Option ℕ → Option State
with_bytes state (Some address) bytes value =
    with_writes state (stored state.writes (record { address = address; bytes = bytes; value = value }))
with_bytes state None bytes value = Some state

abbrev pub put : State → ℕ → Width → Operand → Option ℕ → Option State
put state next width (operand.Register register) value = Some (with_register state register value)
put state next width (operand.Memory place) value =
    with_bytes state (place_of state next place) (bytes_of width) value

-- PUSH of a value
abbrev pub pushed_at : State → Option ℕ → Option ℕ → Option State
pushed_at state (Some sp) value =
    option_map (λ kept. with_register kept RSP (Some (difference sp 8))) (with_bytes state (Some (difference sp 8)) 8 value)
pushed_at state None value = None

abbrev pub pushed : State → Option ℕ → Option State
pushed state value = pushed_at state (word_of state.registers RSP) value

-- the stack pointer after so many bytes were taken
abbrev pub raised_by : State → ℕ → State
raised_by state bytes = with_register state RSP (option_map (λ sp. sum sp bytes) (word_of state.registers RSP))

-- the word at the address that a register has
abbrev pub word_at : Memory → State → Register → Option ℕ
word_at memory state register = number_at memory state Eight (word_of state.registers register)

-- POP
abbrev pub popped : Memory → State → ℕ → Operand → Option State
popped memory state next operand = put (raised_by state 8) next Eight operand (word_at memory state RSP)

-- LEAVE
abbrev pub leaving : Memory → State → State
leaving memory state =
    with_register
    (with_register state RSP (option_map (λ frame. sum frame 8) (word_of state.registers RBP)))
    RBP (word_at memory state RBP)

-- whether a register is in a set
abbrev pub is_in : ℕ → ℕ → Bool
is_in registers column = registers / 2 ^ column % 2 == 1

-- the registers without those of a set that have a lower column than n
unfoldable pub forgotten_below : ℕ → ℕ → List (Option ℕ) → List (Option ℕ)
forgotten_below registers zero words = words
forgotten_below registers (suc n) words =
    forgotten_below registers n (if is_in registers n then with_word words (record { 0 = n }) None else words)

-- any value may be in these registers
abbrev pub forgotten : State → ℕ → State
forgotten state registers = record state { registers = forgotten_below registers 32 state.registers }
