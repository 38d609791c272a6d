-- The operations of DWARF expressions (DWARF 5 sections 2.5.1 and 7.7.1).
use Rattle.std.specs.Prelude.{ℕ, ◌-◌, ◌+◌, ◌*◌, ◌/◌, ◌%◌, ◌^◌, Bool, true, false, not, List, [], ◌∷◌, Option, Some, None, Ok, Err, ℤ, int_div, int_lt, int_le, unsigned_abs, bit_xor, ◌==◌, ◌&&◌, nat_le, nat_lt, bit_and, bit_or, if◌then◌else◌}
use Rattle.std.specs.Int.{int_shr, cast_signed, cast_unsigned, bit_not, w16, w64}
use Rattle.framehop_bytes.specs.Bytes.{◌>>=◌}
use Rattle.framehop_cfi.specs.Numbers.{Parsed, u8_at, u16_at, u32_at, u64_at}
use Rattle.framehop_bytes.specs.ByCode.{by_code, by_test}
use Rattle.framehop_cfi.specs.Leb128.{uleb_at, sleb_at}
use Rattle.framehop_cfi.specs.Raw.{sign_extended}
use Rattle.framehop_cfi.specs.Instruction.{mapped}
use Rattle.framehop_cfi.specs.declared.rule.Register.{Register}
use Rattle.framehop_cfi.specs.declared.read_error.ReadError.TheVariants.{NumberTooBig, UnknownInstruction}
use Rattle.framehop_dwarf.specs.OperationCode.{DW_OP_const1u, DW_OP_const1s, DW_OP_const2u, DW_OP_const2s, DW_OP_const4u, DW_OP_const4s, DW_OP_const8u, DW_OP_const8s, DW_OP_constu, DW_OP_consts, DW_OP_dup, DW_OP_drop, DW_OP_over, DW_OP_pick, DW_OP_swap, DW_OP_rot, DW_OP_abs, DW_OP_and, DW_OP_div, DW_OP_minus, DW_OP_mod, DW_OP_mul, DW_OP_neg, DW_OP_not, DW_OP_or, DW_OP_plus, DW_OP_plus_uconst, DW_OP_shl, DW_OP_shr, DW_OP_shra, DW_OP_xor, DW_OP_bra, DW_OP_eq, DW_OP_ge, DW_OP_gt, DW_OP_le, DW_OP_lt, DW_OP_ne, DW_OP_skip, DW_OP_lit0, DW_OP_lit31, DW_OP_breg0, DW_OP_breg31, DW_OP_bregx, DW_OP_nop}
use Rattle.framehop_dwarf.specs.declared.operation.UnaryOperation.{UnaryOperation}
use Rattle.framehop_dwarf.specs.declared.operation.UnaryOperation.TheVariants.{Absolute, Negate, Not}
use Rattle.framehop_dwarf.specs.declared.operation.BinaryOperation.{BinaryOperation}
use Rattle.framehop_dwarf.specs.declared.operation.BinaryOperation.TheVariants.{And, Divide, Minus, Modulo, Multiply, Or, Plus, ShiftLeft, ShiftRight, ShiftRightArithmetic, Xor, Equal, GreaterOrEqual, Greater, LessOrEqual, Less, NotEqual}
use Rattle.framehop_dwarf.specs.declared.operation.Operation.{Operation}
use Rattle.framehop_dwarf.specs.declared.operation.Operation.TheVariants.{Nop, Constant, RegisterOffset, Pick, Discard, Swap, Rot, Unary, Binary, PlusConstant, Skip, Branch}

-- ---- reading

-- the number that an operation pushes, by its code
abbrev pub constant_at : ℕ → List ℕ → ℕ → Parsed ℕ
constant_at code bytes at =
    by_code code (
    (DW_OP_const1u, u8_at bytes at)
    ∷ (DW_OP_const1s, mapped (sign_extended 8) (u8_at bytes at))
    ∷ (DW_OP_const2u, u16_at bytes at)
    ∷ (DW_OP_const2s, mapped (sign_extended 16) (u16_at bytes at))
    ∷ (DW_OP_const4u, u32_at bytes at)
    ∷ (DW_OP_const4s, mapped (sign_extended 32) (u32_at bytes at))
    ∷ (DW_OP_const8u, u64_at bytes at)
    ∷ (DW_OP_const8s, u64_at bytes at)
    ∷ (DW_OP_constu, uleb_at bytes at)
    ∷ (DW_OP_consts, mapped (cast_unsigned w64) (sleb_at bytes at))
    ∷ []) (Err UnknownInstruction)

-- the operation on the top value, by its code
abbrev pub unary_of : ℕ → Option UnaryOperation
unary_of code = by_code code ((DW_OP_abs, Some Absolute) ∷ (DW_OP_neg, Some Negate) ∷ (DW_OP_not, Some Not) ∷ []) None

-- the operation on the second value and the top one, by its code
abbrev pub binary_of : ℕ → Option BinaryOperation
binary_of code =
    by_code code (
    (DW_OP_and, Some And)
    ∷ (DW_OP_div, Some Divide)
    ∷ (DW_OP_minus, Some Minus)
    ∷ (DW_OP_mod, Some Modulo)
    ∷ (DW_OP_mul, Some Multiply)
    ∷ (DW_OP_or, Some Or)
    ∷ (DW_OP_plus, Some Plus)
    ∷ (DW_OP_shl, Some ShiftLeft)
    ∷ (DW_OP_shr, Some ShiftRight)
    ∷ (DW_OP_shra, Some ShiftRightArithmetic)
    ∷ (DW_OP_xor, Some Xor)
    ∷ (DW_OP_eq, Some Equal)
    ∷ (DW_OP_ge, Some GreaterOrEqual)
    ∷ (DW_OP_gt, Some Greater)
    ∷ (DW_OP_le, Some LessOrEqual)
    ∷ (DW_OP_lt, Some Less)
    ∷ (DW_OP_ne, Some NotEqual)
    ∷ []) None

-- the operation of one of the two kinds
abbrev pub either : Option UnaryOperation → Option BinaryOperation → Option Operation
either (Some unary) binary = Some (Unary unary)
either None (Some binary) = Some (Binary binary)
either None None = None

-- an operation without operands, by its code; then those on one value and those on two
abbrev pub plain_of : ℕ → Option Operation
plain_of code =
    by_code code (
    (DW_OP_dup, Some (Pick 0))
    ∷ (DW_OP_drop, Some Discard)
    ∷ (DW_OP_over, Some (Pick 1))
    ∷ (DW_OP_swap, Some Swap)
    ∷ (DW_OP_rot, Some Rot)
    ∷ (DW_OP_nop, Some Nop)
    ∷ []) (either (unary_of code) (binary_of code))

-- the same with the place after it, or a refusal
abbrev pub plain_at : Option Operation → ℕ → Parsed Operation
plain_at (Some operation) at = Ok (operation, at)
plain_at None at = Err UnknownInstruction

-- a register plus an offset
unfoldable pub offset_at : Register → List ℕ → ℕ → Parsed Operation
offset_at register bytes at = do
  offset ← sleb_at bytes at
  Ok (RegisterOffset register offset.0, offset.1)

unfoldable pub register_offset_at : List ℕ → ℕ → Parsed Operation
register_offset_at bytes at = do
  number ← uleb_at bytes at
  if nat_lt number.0 65536 then offset_at (record { 0 = number.0 }) bytes number.1 else Err NumberTooBig

-- how far a jump goes
unfoldable pub jump_at : List ℕ → ℕ → Parsed ℤ
jump_at bytes at = do
  distance ← u16_at bytes at
  Ok (cast_signed w16 distance.0, distance.1)

-- an operation that has a code of its own and operands, by that code; then those without operands
abbrev pub coded_at : ℕ → List ℕ → ℕ → Parsed Operation
coded_at code bytes at =
    by_code code (
    (DW_OP_pick, mapped Pick (u8_at bytes at))
    ∷ (DW_OP_plus_uconst, mapped PlusConstant (uleb_at bytes at))
    ∷ (DW_OP_bra, mapped Branch (jump_at bytes at))
    ∷ (DW_OP_skip, mapped Skip (jump_at bytes at))
    ∷ (DW_OP_bregx, register_offset_at bytes at)
    ∷ []) (plain_at (plain_of code) at)

-- an operation that has its operand in the code, a number that is pushed, or one that has a code of its own
abbrev pub ranged_at : ℕ → List ℕ → ℕ → Parsed Operation
ranged_at code bytes at =
    by_test (
    (nat_le DW_OP_lit0 code && nat_le code DW_OP_lit31, Ok (Constant (code - DW_OP_lit0), at))
    ∷ (nat_le DW_OP_breg0 code && nat_le code DW_OP_breg31, offset_at (record { 0 = code - DW_OP_breg0 }) bytes at)
    ∷ (nat_le DW_OP_const1u code && nat_le code DW_OP_consts, mapped Constant (constant_at code bytes at))
    ∷ []) (coded_at code bytes at)

unfoldable pub operation_at : List ℕ → ℕ → Parsed Operation
operation_at bytes at = do
  code ← u8_at bytes at
  ranged_at code.0 bytes code.1

-- ---- values: numbers of 64 bits, which wrap

-- the difference of two numbers
abbrev pub minus : ℕ → ℕ → ℕ
minus second top = (second + (2 ^ 64 - top)) % 2 ^ 64

-- what an operation makes of one value
abbrev pub changed : UnaryOperation → ℕ → ℕ
changed Absolute top = unsigned_abs (cast_signed w64 top)
changed Negate top = minus 0 top
changed Not top = bit_not w64 top

-- the quotient of two signed numbers, toward zero; by 0 there is none
abbrev pub quotient : ℕ → ℕ → Option ℕ
quotient second top =
    if top == 0 then None else Some (cast_unsigned w64 (int_div (cast_signed w64 second) (cast_signed w64 top)))

-- a signed number shifted right: from 64 places on all bits are its sign's, as they are by 63 places
abbrev pub shifted_right : ℕ → ℕ → ℕ
shifted_right second top = cast_unsigned w64 (int_shr (cast_signed w64 second) (if nat_lt top 64 then top else 63))

-- 1 for true, 0 for false
abbrev pub bit_of : Bool → ℕ
bit_of true = 1
bit_of false = 0

-- whether two signed numbers compare so; other operations compare nothing
abbrev pub compared : BinaryOperation → ℤ → ℤ → Bool
compared GreaterOrEqual second top = int_le top second
compared Greater second top = int_lt top second
compared LessOrEqual second top = int_le second top
compared Less second top = int_lt second top
compared operation second top = false

-- what an operation makes of the second value and the top one; where it is a comparison, of the signed numbers
abbrev pub combined : BinaryOperation → ℕ → ℕ → Option ℕ
combined And second top = Some (bit_and second top)
combined Divide second top = quotient second top
combined Minus second top = Some (minus second top)
combined Modulo second top = if top == 0 then None else Some (second % top)
combined Multiply second top = Some (second * top % 2 ^ 64)
combined Or second top = Some (bit_or second top)
combined Plus second top = Some ((second + top) % 2 ^ 64)
combined ShiftLeft second top = Some (if nat_lt top 64 then second * 2 ^ top % 2 ^ 64 else 0)
combined ShiftRight second top = Some (if nat_lt top 64 then second / 2 ^ top else 0)
combined ShiftRightArithmetic second top = Some (shifted_right second top)
combined Xor second top = Some (bit_xor second top)
combined Equal second top = Some (bit_of (second == top))
combined NotEqual second top = Some (bit_of (not (second == top)))
combined operation second top = Some (bit_of (compared operation (cast_signed w64 second) (cast_signed w64 top)))
