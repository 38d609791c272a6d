-- What an instruction does to general registers and to memory, and where it leads, by its parts (Intel 64 and IA-32
-- Architectures Software Developer's Manual, volume 2, "Instruction Set Reference", and appendix A.4, "Opcode
-- extensions").
use Rattle.std.specs.Prelude.{ℕ, ◌/◌, ◌%◌, Bool, true, false, not, ◌==◌, ◌&&◌, ◌||◌, nat_le, if◌then◌else◌, bit_or, List, [], ◌∷◌, length, take, drop, Option, Some, None, Result, Ok, Err}
use Rattle.std.specs.List.{list_any}
use Rattle.framehop_bytes.specs.ByCode.{by_code, by_test}
use Rattle.framehop_cfi.specs.declared.rule.Register.{Register}
use Rattle.framehop_cfi.specs.X86_64 as column
use Rattle.framehop_cfi.specs.declared.read_error.ReadError.{ReadError}
use Rattle.framehop_code.specs.declared.action.Action.{Action}
use Rattle.framehop_code.specs.declared.action.Action.TheVariants.{Branch, Call, Compute, Forget, Jump, Leave, Loop, Move, Pop, Push, Return}
use Rattle.framehop_code.specs.declared.action.Computation.{Computation}
use Rattle.framehop_code.specs.declared.action.Computation.TheVariants.{Add, And, ExclusiveOr, Or, Subtract}
use Rattle.framehop_code.specs.declared.action.Instruction.{Instruction}
use Rattle.framehop_code.specs.declared.action.Operand.{Operand}
use Rattle.framehop_code.specs.declared.action.Operand.TheVariants as operand
use Rattle.framehop_code.specs.declared.action.Source.{Source}
use Rattle.framehop_code.specs.declared.action.Source.TheVariants as source
use Rattle.framehop_code.specs.declared.action.Width.{Width}
use Rattle.framehop_code.specs.declared.action.Width.TheVariants.{Eight}
use Rattle.framehop_code.specs.declared.x86_64.opcode.Operand.{Operand as Named}
use Rattle.framehop_code.specs.declared.x86_64.opcode.Operand.TheVariants as named
use Rattle.framehop_code.specs.declared.x86_64.opcode.Operation.{Operation}
use Rattle.framehop_code.specs.declared.x86_64.opcode.Operation.TheVariants as operation
use Rattle.framehop_code.specs.declared.x86_64.written.Amount.{Amount}
use Rattle.framehop_code.specs.declared.x86_64.written.Amount.TheVariants.{Undescribed}
use Rattle.framehop_code.specs.declared.x86_64.instruction.Map.{Map}
use Rattle.framehop_code.specs.declared.x86_64.instruction.Map.TheVariants as map
use Rattle.framehop_code.specs.declared.x86_64.instruction.Parts.{Parts}
use Rattle.framehop_code.specs.X86_64.Instruction.{parts_at}
use Rattle.framehop_code.specs.X86_64.Operand.{address_of, extended, is_register, is_word, opcode_register, operand_size, reg_of, reg_register, rm_operand, rm_register, target_of, width_of}
use Rattle.framehop_code.specs.X86_64.Written.{amount_of, elsewhere, forgotten, registers_of, set_of}

abbrev RAX : Register
RAX = record { 0 = 0 }

abbrev RSP : Register
RSP = record { 0 = column.RSP }

abbrev RBP : Register
RBP = record { 0 = column.RBP }

-- ---- what is not followed

-- registers are written, and no memory
abbrev pub registers_forgotten : ℕ → Action
registers_forgotten registers = Forget (record { 0 = registers }) None

-- registers are written, and memory by the stack pointer
abbrev pub stack_forgotten : ℕ → Action
stack_forgotten registers = Forget (record { 0 = registers }) elsewhere

-- an operand is written
abbrev pub overwritten : Parts → Operand → Action
overwritten parts (operand.Register register) = registers_forgotten (set_of register)
overwritten parts (operand.Memory at) =
    Forget (record { 0 = 0 }) (Some (record { at = at; bytes = operand_size parts.opcode.prefixes }))

-- ---- moves

-- a move of 32 or 64 bits; one of 16 is not followed
abbrev pub moved_in : Option Width → Parts → Operand → Source → Action
moved_in (Some width) parts to from = Move to from width
moved_in None parts to from = overwritten parts to

abbrev pub moved : Parts → Operand → Source → Action
moved parts to from = moved_in (width_of parts.opcode.prefixes) parts to from

-- the immediate operand
abbrev pub immediate_of : Parts → Source
immediate_of parts = source.Immediate (extended parts.immediate)

-- B8 to BF: an immediate operand of eight bytes is not kept
abbrev pub immediate_moved : Parts → Action
immediate_moved parts =
    let to = operand.Register (opcode_register parts.opcode) in
    if parts.opcode.prefixes.rex.w then overwritten parts to else moved parts to (immediate_of parts)

-- MOVSXD: without REX.W it is a move
abbrev pub sign_extended : Parts → Action
sign_extended parts =
    let to = operand.Register (reg_register parts) in
    if parts.opcode.prefixes.rex.w then moved parts to (source.SignExtended (rm_operand parts))
    else moved parts to (source.Operand (rm_operand parts))

-- LEA: without a memory operand there is none, and one of 32 bits is not followed
abbrev pub loaded_address : Parts → Option Action
loaded_address parts =
    let to = operand.Register (reg_register parts) in
    if is_register parts then None
    else (if parts.opcode.prefixes.address_size then Some (overwritten parts to)
    else Some (moved parts to (source.Address (address_of parts))))

-- ---- arithmetic

-- by its number in group 1: ADD, OR, AND, SUB and XOR; ADC is 2 and SBB 3
abbrev pub computation_of : ℕ → Option Computation
computation_of number =
    by_code number ((0, Some Add) ∷ (1, Some Or) ∷ (4, Some And) ∷ (5, Some Subtract) ∷ (6, Some ExclusiveOr) ∷ []) None

abbrev pub computed_in : Option Width → Parts → Computation → Operand → Source → Action
computed_in (Some width) parts computation to from = Compute computation to from width
computed_in None parts computation to from = overwritten parts to

abbrev pub computed_by : Parts → Computation → Operand → Source → Action
computed_by parts computation to from = computed_in (width_of parts.opcode.prefixes) parts computation to from

abbrev pub computed_as : Option Computation → Parts → Operand → Source → Action
computed_as (Some computation) parts to from = computed_by parts computation to from
computed_as None parts to from = overwritten parts to

-- CMP, which is 7, only changes flags
abbrev pub computed : Parts → ℕ → Operand → Source → Action
computed parts number to from =
    if number == 7 then registers_forgotten 0 else computed_as (computation_of number) parts to from

-- SUB and XOR of a register with itself leave 0
abbrev pub clears : Parts → ℕ → Bool
clears parts number =
    (((number == 5) || (number == 6)) && is_register parts) && ((rm_register parts).0 == (reg_register parts).0)

abbrev pub combined : Parts → ℕ → Operand → Operand → Action
combined parts number to from =
    if clears parts number then moved parts to (source.Immediate 0) else computed parts number to (source.Operand from)

-- opcodes below 40, by their low three bits: 1 is of reg to r/m, 3 of r/m to reg, 5 of an immediate operand to rax
abbrev pub arithmetic : Parts → Action
arithmetic parts =
    let reg = operand.Register (reg_register parts) in
    by_code (parts.opcode.byte % 8) (
    (1, combined parts (parts.opcode.byte / 8) (rm_operand parts) reg)
    ∷ (3, combined parts (parts.opcode.byte / 8) reg (rm_operand parts))
    ∷ (5, computed parts (parts.opcode.byte / 8) (operand.Register RAX) (immediate_of parts))
    ∷ []) (forgotten parts)

-- ---- the stack

-- PUSH; one of 16 bits is not followed
abbrev pub pushed : Parts → Source → Action
pushed parts from = if is_word parts.opcode.prefixes then stack_forgotten (set_of RSP) else Push from

-- 50 to 57 push a register, 68 and 6A an immediate operand, others flags and segment registers
abbrev pub pushed_source : Parts → Source
pushed_source parts =
    let byte = parts.opcode.byte in
    by_test (
    (nat_le 0x50 byte && nat_le byte 0x57, source.Operand (operand.Register (opcode_register parts.opcode)))
    ∷ ((byte == 0x68) || (byte == 0x6A), immediate_of parts)
    ∷ []) source.Unknown

-- POP; of flags and segment registers only the stack pointer is followed
abbrev pub popped_to : Parts → Named → Action
popped_to parts named.OpcodeRegister = Pop (operand.Register (opcode_register parts.opcode))
popped_to parts named.Rm = Pop (rm_operand parts)
popped_to parts _ = Compute Add (operand.Register RSP) (source.Immediate 8) Eight

abbrev pub popped : Parts → Named → Action
popped parts to =
    if is_word parts.opcode.prefixes then stack_forgotten (bit_or (set_of RSP) (registers_of parts to false))
    else popped_to parts to

-- ENTER, and LEAVE of 16 bits, are not followed
abbrev pub framed : Action
framed = stack_forgotten (bit_or (set_of RSP) (set_of RBP))

abbrev pub leaving : Parts → Action
leaving parts = if is_word parts.opcode.prefixes then framed else Leave

-- ---- where it leads

-- E0 to E2 are LOOP and its kin: not followed where they count ecx
abbrev pub branch : Parts → Option Action
branch parts =
    if nat_le 0xE0 parts.opcode.byte && nat_le parts.opcode.byte 0xE2
    then (if parts.opcode.prefixes.address_size then None else Some (Loop (target_of parts)))
    else Some (Branch (target_of parts))

abbrev pub leading_as : Operation → Parts → Option Action
leading_as operation.Branch parts = branch parts
leading_as operation.Jump parts = Some (Jump (source.Address (target_of parts)))
leading_as operation.Call parts = Some (Call (source.Address (target_of parts)))
leading_as _ parts = Some (Return (extended parts.immediate % 0x10000))

abbrev pub leading : Parts → Option Action
leading parts = if is_word parts.opcode.prefixes then None else leading_as parts.opcode.operation parts

-- ---- groups

-- group 5: INC is 0, DEC 1, CALL 2, JMP 4 and PUSH 6; the others are far calls and jumps
abbrev pub group5 : Parts → Option Action
group5 parts =
    let to = rm_operand parts in
    let far = is_word parts.opcode.prefixes in
    by_code (reg_of parts) (
    (0, Some (computed parts 0 to (source.Immediate 1)))
    ∷ (1, Some (computed parts 5 to (source.Immediate 1)))
    ∷ (2, if far then None else Some (Call (source.Operand to)))
    ∷ (4, if far then None else Some (Jump (source.Operand to)))
    ∷ (6, Some (pushed parts (source.Operand to)))
    ∷ []) None

-- group 7 without a memory operand: XGETBV and RDPKRU write eax and edx, RDTSCP ecx too, SMSW a register; CLAC, STAC,
-- XEND, XTEST and WRPKRU none
abbrev pub group7 : Parts → Option Action
group7 parts =
    let byte = parts.address.modrm in
    by_test (
    ((byte == 0xD0) || (byte == 0xEE), Some (registers_forgotten 0x0003))
    ∷ (byte == 0xF9, Some (registers_forgotten 0x0007))
    ∷ (list_any (λ other. byte == other) (0xCA ∷ 0xCB ∷ 0xD5 ∷ 0xD6 ∷ 0xEF ∷ []), Some (registers_forgotten 0))
    ∷ (nat_le 0xE0 byte && nat_le byte 0xE7, Some (forgotten parts))
    ∷ []) None

-- ---- actions

-- opcodes of one byte: below 40 arithmetic, 63 MOVSXD, B8 to BF and C7 MOV of an immediate operand
unfoldable pub one_byte : Parts → Action
one_byte parts =
    by_test (
    (nat_le parts.opcode.byte 0x3F, arithmetic parts)
    ∷ (parts.opcode.byte == 0x63, sign_extended parts)
    ∷ (nat_le 0xB8 parts.opcode.byte && nat_le parts.opcode.byte 0xBF, immediate_moved parts)
    ∷ (parts.opcode.byte == 0xC7, moved parts (rm_operand parts) (immediate_of parts))
    ∷ []) (forgotten parts)

abbrev pub moving_in : Map → Parts → Action
moving_in map.OneByte parts = one_byte parts
moving_in _ parts = forgotten parts

-- an instruction that leads to the next one
abbrev pub moving_as : Operation → Parts → Action
moving_as operation.MoveToRm parts =
    moved parts (rm_operand parts) (source.Operand (operand.Register (reg_register parts)))
moving_as operation.MoveToReg parts =
    moved parts (operand.Register (reg_register parts)) (source.Operand (rm_operand parts))
moving_as operation.Group1 parts = computed parts (reg_of parts) (rm_operand parts) (immediate_of parts)
moving_as _ parts = moving_in parts.opcode.map parts

abbrev pub moving : Parts → Action
moving parts = moving_as parts.opcode.operation parts

-- by the operation of the opcode
abbrev pub described_as : Operation → Parts → Option Action
described_as operation.Stop parts = None
described_as operation.Branch parts = leading parts
described_as operation.Jump parts = leading parts
described_as operation.Call parts = leading parts
described_as operation.Return parts = leading parts
described_as operation.Push parts = Some (pushed parts (pushed_source parts))
described_as (operation.Pop to) parts = Some (popped parts to)
described_as operation.Enter parts = Some framed
described_as operation.Leave parts = Some (leaving parts)
described_as operation.LoadAddress parts = loaded_address parts
described_as operation.Group5 parts = group5 parts
described_as operation.Group7 parts = if is_register parts then group7 parts else Some (moving parts)
described_as _ parts = Some (moving parts)

unfoldable pub described : Parts → Option Action
described parts = described_as parts.opcode.operation parts

-- no row says that no action describes it, and EVEX names no register from 16 on
abbrev pub is_known : Amount → Bool
is_known Undescribed = false
is_known _ = true

abbrev pub is_narrow : Map → Bool
is_narrow (map.Vector fields) = not fields.is_extended
is_narrow _ = true

abbrev pub is_described : Parts → Bool
is_described parts = is_narrow parts.opcode.map && is_known (amount_of parts)

abbrev pub action_of : Parts → Option Action
action_of parts = if is_described parts then described parts else None

-- an instruction with its action
abbrev pub with_size : Option Action → ℕ → Option Instruction
with_size (Some action) size = Some (record { size = size; action = action })
with_size None size = None

abbrev pub instruction_of : Parts → Option Instruction
instruction_of parts = with_size (action_of parts) parts.size

abbrev pub instruction_in : Result Parts ReadError → Option Instruction
instruction_in (Ok parts) = instruction_of parts
instruction_in (Err error) = None

-- the instruction at an offset of code
unfoldable pub action_at : List ℕ → ℕ → Option Instruction
action_at code at =
    if nat_le at (length code) then instruction_in (parts_at (take 15 (drop at code))) else None
