-- The instructions of the machine, read by the opcode maps.
use Rattle.std.proofs.Common.{◌≡◌, ◌≢◌, ℕ, zero, suc, ◌+◌, ◌*◌, ◌/◌, ◌%◌, ◌^◌, ◌<◌, ◌≤◌, ◌==◌, eq-eqb, ℤ, pos, ◌+ℤ◌, ◌-ℤ◌, Bool, true, false, not, if◌then◌else◌, List, [], ◌∷◌, ◌++◌, length, position, take, drop, Option, Some, Ok, Err, refl, sym, ap, subst, ◌∙◌, arith, inl, inr}
use Rattle.std.specs.Prelude.{slice_get, slice_index}
use Rattle.std.specs.Int.{cast_signed, w8, w32}
use Rattle.std.proofs.lemmas.Int.{ints}
use Rattle.std.proofs.lemmas.Bool.{le-leb, cases_Bool, eqb-true}
use Rattle.std.proofs.lemmas.Option.{slice_get_within, get_or_from_slice_get}
use Rattle.std.proofs.Math.Seq.{drop-cons}
use Rattle.framehop_cfi.specs.Numbers.{Parsed, u8_at, u32_at}
use Rattle.framehop_code.specs.declared.x86_64.opcode.Operands.{Operands}
use Rattle.framehop_code.specs.declared.x86_64.opcode.Operands.TheVariants.{Bare, ModRm, ModRmThen, Then}
use Rattle.framehop_code.specs.declared.x86_64.opcode.Operation.{Operation}
use Rattle.framehop_code.specs.declared.x86_64.opcode.Operation.TheVariants.{Push, Pop, MoveToRm, LoadAddress, Return, Jump, Call, Leave, Group1, Group5}
use Rattle.framehop_code.specs.declared.x86_64.opcode.Operand.TheVariants.{OpcodeRegister}
use Rattle.framehop_code.specs.declared.x86_64.instruction.Prefixes.{Prefixes}
use Rattle.framehop_code.specs.declared.x86_64.instruction.Map.TheVariants as map
use Rattle.framehop_code.specs.declared.x86_64.instruction.Opcode.{Opcode}
use Rattle.framehop_code.specs.declared.x86_64.instruction.Address.{Address}
use Rattle.framehop_code.specs.declared.x86_64.instruction.Parts.{Parts}
use Rattle.framehop_bytes.specs.Minus.{minus}
use Rattle.framehop_code.specs.declared.effect.Base.TheVariants.{Sp, Fp}
use Rattle.framehop_code.specs.declared.effect.Change.{Change}
use Rattle.framehop_code.specs.declared.effect.Change.TheVariants.{Sum, Unknown}
use Rattle.framehop_code.specs.declared.effect.Effect.{Effect}
use Rattle.framehop_code.specs.declared.effect.Flow.TheVariants.{Next}
use Rattle.framehop_code.specs.declared.effect.Flow.TheVariants as flow
use Rattle.framehop_code.specs.declared.x86_64.opcode.Immediate.{Immediate}
use Rattle.framehop_code.specs.declared.x86_64.opcode.Immediate.TheVariants.{Byte, Near}
use Rattle.framehop_code.specs.declared.x86_64.opcode.Immediate.TheVariants as immediate
use Rattle.framehop_bytes.specs.Bytes.{◌>>=◌, le4}
use Rattle.framehop_analysis.specs.X86_64.Machine as machine
use Rattle.framehop_code.specs.X86_64.Machine.{IsEnd, IsStep, DoesAs, as_numbers, MovesAll, AreAt, signed_of, IsMoveOfSp, add_byte, sub_byte, lea_byte, add_long, sub_long, lea_long, IsEffect, IsAsMachine}
use Rattle.framehop_code.specs.Effect.{Becomes, kept, plain}
use Rattle.framehop_code.specs.X86_64.Operation.{leading, effect_of}
use Rattle.framehop_code.specs.X86_64.Opcodes.{one_byte, row_of}
use Rattle.framehop_code.specs.X86_64.Instruction.{is_legacy_prefix, prefixes_of, prefixes_at, opcode_by, opcode_at, has_sib, displacement_size, signed_at, sib_at, memory_at, address_at, immediate_at, parts_at, effect_in, instruction_at}

-- ---- bytes

u8-first : (a : ℕ) (rest : List ℕ) → u8_at (a ∷ rest) 0 ≡ Ok (a, 1)
unfolding u8_at
u8-first a rest = rw (le-leb 1 (length (a ∷ rest)) (omega arith)) refl

pub u8-second : (a b : ℕ) (rest : List ℕ) → u8_at (a ∷ b ∷ rest) 1 ≡ Ok (b, 2)
unfolding u8_at
u8-second a b rest = rw (le-leb 2 (length (a ∷ b ∷ rest)) (omega arith)) refl

position-here : (f : ℕ → Bool) (a : ℕ) (rest : List ℕ) → f a ≡ true → position f (a ∷ rest) ≡ Some 0
position-here f a rest is = rw is (rw (le-leb 1 (length (a ∷ rest)) (omega arith)) refl)

-- the bytes from an offset on
pub from : (text : List ℕ) (at b : ℕ) → slice_get text at ≡ Some b → drop at text ≡ b ∷ drop (suc at) text
from text at b is =
    drop-cons text at 0 (slice_get_within text at b is)
    ∙ ap (λ (x : ℕ). x ∷ drop (suc at) text) (get_or_from_slice_get text at b 0 is)

one : (text : List ℕ) (at a : ℕ) → slice_get text at ≡ Some a
    → instruction_at text at ≡ effect_in (parts_at (a ∷ take 14 (drop (suc at) text)))
unfolding instruction_at
one text at a is =
    let below = slice_get_within text at a is in
    rw (le-leb at (length text) (omega (arith, below)))
    (ap (λ (bytes : List ℕ). effect_in (parts_at (take 15 bytes))) (from text at a is))

two : (text : List ℕ) (at a b : ℕ) → slice_get text at ≡ Some a → slice_get text (at + 1) ≡ Some b
    → instruction_at text at ≡ effect_in (parts_at (a ∷ b ∷ take 13 (drop (suc (suc at)) text)))
two text at a b is after =
    let next : at + 1 ≡ suc at = omega arith in
    one text at a is
    ∙ ap (λ (bytes : List ℕ). effect_in (parts_at (a ∷ take 14 bytes))) (from text (suc at) b (subst (λ n. slice_get text n ≡ Some b) next after))

-- ---- parts

abbrev opcode_record : Prefixes → ℕ → Operands → Operation → Opcode
opcode_record prefixes byte operands operation =
    record { prefixes = prefixes; map = map.OneByte; byte = byte; vvvv = 0; operands = operands; operation = operation }

abbrev no_address : Address
no_address = record { modrm = 0; sib = 0; displacement = pos 0 }

unfoldable pub plain_parts : Prefixes → ℕ → Operands → Operation → ℕ → Parts
plain_parts prefixes byte operands operation size = record {
  opcode = record { prefixes = prefixes; map = map.OneByte; byte = byte; vvvv = 0; operands = operands; operation = operation };
  address = record { modrm = 0; sib = 0; displacement = pos 0 };
  immediate = pos 0;
  size = size;
}

pub parts-by : (bytes : List ℕ) (p : Prefixes × ℕ) (o : Opcode × ℕ) (a : Address × ℕ) (i : ℤ × ℕ) → prefixes_at bytes ≡ Ok p
    → opcode_at p.0 bytes p.1 ≡ Ok o → address_at o.0.operands bytes o.1 ≡ Ok a → immediate_at o.0 a.0.modrm bytes a.1 ≡ Ok i
    → parts_at bytes ≡ Ok (record { opcode = o.0; address = a.0; immediate = i.0; size = i.1 })
unfolding parts_at
parts-by bytes p o a i prefixes opcode address immediate = rw prefixes (rw opcode (rw address (rw immediate refl)))

prefixes-by : (bytes : List ℕ) (first next : ℕ) → position (λ byte. not (is_legacy_prefix byte)) bytes ≡ Some 0
    → u8_at bytes 0 ≡ Ok (first, next)
    → prefixes_at bytes ≡ Ok (prefixes_of [] first, if (prefixes_of [] first).rex.present then next else 0)
unfolding prefixes_at
prefixes-by bytes first next place byte = rw place (rw byte refl)

opcode-at : (prefixes : Prefixes) (bytes : List ℕ) (at byte next : ℕ) → u8_at bytes at ≡ Ok (byte, next)
    → opcode_at prefixes bytes at ≡ opcode_by prefixes bytes (byte, next)
unfolding opcode_at
opcode-at prefixes bytes at byte next is = rw is refl

-- numbers below 8 one by one
pub cases-8 : (P : ℕ → Type 0) → P 0 → P 1 → P 2 → P 3 → P 4 → P 5 → P 6 → P 7 → (n : ℕ) → n < 8 → P n
cases-8 P p0 p1 p2 p3 p4 p5 p6 p7 zero below = p0
cases-8 P p0 p1 p2 p3 p4 p5 p6 p7 (suc zero) below = p1
cases-8 P p0 p1 p2 p3 p4 p5 p6 p7 (suc (suc zero)) below = p2
cases-8 P p0 p1 p2 p3 p4 p5 p6 p7 (suc (suc (suc zero))) below = p3
cases-8 P p0 p1 p2 p3 p4 p5 p6 p7 (suc (suc (suc (suc zero)))) below = p4
cases-8 P p0 p1 p2 p3 p4 p5 p6 p7 (suc (suc (suc (suc (suc zero))))) below = p5
cases-8 P p0 p1 p2 p3 p4 p5 p6 p7 (suc (suc (suc (suc (suc (suc zero)))))) below = p6
cases-8 P p0 p1 p2 p3 p4 p5 p6 p7 (suc (suc (suc (suc (suc (suc (suc zero))))))) below = p7
cases-8 P p0 p1 p2 p3 p4 p5 p6 p7 (suc (suc (suc (suc (suc (suc (suc (suc n)))))))) below = absurd (omega (arith, below))

-- an opcode of one byte with nothing after it
pub bare-parts : (byte : ℕ) (rest : List ℕ) (operation : Operation) → not (is_legacy_prefix byte) ≡ true
    → (prefixes_of [] byte).rex.present ≡ false
    → opcode_by (prefixes_of [] byte) (byte ∷ rest) (byte, 1) ≡ Ok (opcode_record (prefixes_of [] byte) byte Bare operation, 1)
    → parts_at (byte ∷ rest) ≡ Ok (plain_parts (prefixes_of [] byte) byte Bare operation 1)
unfolding plain_parts
bare-parts byte rest operation first plain opcode =
    parts-by (byte ∷ rest) (prefixes_of [] byte, 0) (opcode_record (prefixes_of [] byte) byte Bare operation, 1) (no_address, 1) (pos 0, 1)
    (prefixes-by (byte ∷ rest) byte 1 (position-here (λ b. not (is_legacy_prefix b)) byte rest first) (u8-first byte rest) ∙ rw plain refl)
    (opcode-at (prefixes_of [] byte) (byte ∷ rest) 0 byte 1 (u8-first byte rest) ∙ opcode) refl refl

bare : (byte : ℕ) (rest : List ℕ) (operation : Operation) → not (is_legacy_prefix byte) ≡ true
    → (prefixes_of [] byte).rex.present ≡ false
    → opcode_by (prefixes_of [] byte) (byte ∷ rest) (byte, 1) ≡ Ok (opcode_record (prefixes_of [] byte) byte Bare operation, 1)
    → effect_in (parts_at (byte ∷ rest)) ≡ Some (effect_of (plain_parts (prefixes_of [] byte) byte Bare operation 1))
bare byte rest operation first plain opcode = ap effect_in (bare-parts byte rest operation first plain opcode)

-- the same after a prefix REX
pub rex-bare-parts : (rex byte : ℕ) (rest : List ℕ) (operation : Operation) → not (is_legacy_prefix rex) ≡ true
    → (prefixes_of [] rex).rex.present ≡ true
    → opcode_by (prefixes_of [] rex) (rex ∷ byte ∷ rest) (byte, 2) ≡ Ok (opcode_record (prefixes_of [] rex) byte Bare operation, 2)
    → parts_at (rex ∷ byte ∷ rest) ≡ Ok (plain_parts (prefixes_of [] rex) byte Bare operation 2)
unfolding plain_parts
rex-bare-parts rex byte rest operation first present opcode =
    parts-by (rex ∷ byte ∷ rest) (prefixes_of [] rex, 1) (opcode_record (prefixes_of [] rex) byte Bare operation, 2) (no_address, 2) (pos 0, 2)
    (prefixes-by (rex ∷ byte ∷ rest) rex 1 (position-here (λ b. not (is_legacy_prefix b)) rex (byte ∷ rest) first) (u8-first rex (byte ∷ rest)) ∙ rw present refl)
    (opcode-at (prefixes_of [] rex) (rex ∷ byte ∷ rest) 1 byte 2 (u8-second rex byte rest) ∙ opcode) refl refl

rex-bare : (rex byte : ℕ) (rest : List ℕ) (operation : Operation) → not (is_legacy_prefix rex) ≡ true
    → (prefixes_of [] rex).rex.present ≡ true
    → opcode_by (prefixes_of [] rex) (rex ∷ byte ∷ rest) (byte, 2) ≡ Ok (opcode_record (prefixes_of [] rex) byte Bare operation, 2)
    → effect_in (parts_at (rex ∷ byte ∷ rest)) ≡ Some (effect_of (plain_parts (prefixes_of [] rex) byte Bare operation 2))
rex-bare rex byte rest operation first present opcode = ap effect_in (rex-bare-parts rex byte rest operation first present opcode)

-- ---- pushes and pops

pushed : ℕ → Effect
pushed size = record { size = size; sp = Sum Sp (minus 8); fp = kept Fp; flow = Next }

popped : ℕ → ℕ → Effect
popped size register = record {
  size = size;
  sp = if register == 4 then Unknown else Sum Sp (pos 8);
  fp = if register == 5 then Unknown else kept Fp;
  flow = Next;
}

Short : (ℕ → Effect) → ℕ → ℕ → Type 0
Short effect opcode register = (rest : List ℕ) → effect_in (parts_at ((opcode + register) ∷ rest)) ≡ Some (effect register)

push-short : (register : ℕ) → register < 8 → Short (λ r. pushed 1) 0x50 register
unfolding Short pushed plain_parts effect_of one_byte row_of
push-short register below =
    cases-8 (Short (λ r. pushed 1) 0x50) (λ rest. bare 0x50 rest Push refl refl refl) (λ rest. bare 0x51 rest Push refl refl refl)
    (λ rest. bare 0x52 rest Push refl refl refl) (λ rest. bare 0x53 rest Push refl refl refl) (λ rest. bare 0x54 rest Push refl refl refl)
    (λ rest. bare 0x55 rest Push refl refl refl) (λ rest. bare 0x56 rest Push refl refl refl) (λ rest. bare 0x57 rest Push refl refl refl)
    register below

pop-short : (register : ℕ) → register < 8 → Short (popped 1) 0x58 register
unfolding Short popped plain_parts effect_of one_byte row_of
pop-short register below =
    cases-8 (Short (popped 1) 0x58) (λ rest. bare 0x58 rest (Pop OpcodeRegister) refl refl refl)
    (λ rest. bare 0x59 rest (Pop OpcodeRegister) refl refl refl) (λ rest. bare 0x5A rest (Pop OpcodeRegister) refl refl refl)
    (λ rest. bare 0x5B rest (Pop OpcodeRegister) refl refl refl) (λ rest. bare 0x5C rest (Pop OpcodeRegister) refl refl refl)
    (λ rest. bare 0x5D rest (Pop OpcodeRegister) refl refl refl) (λ rest. bare 0x5E rest (Pop OpcodeRegister) refl refl refl)
    (λ rest. bare 0x5F rest (Pop OpcodeRegister) refl refl refl) register below

Long : (ℕ → Effect) → ℕ → ℕ → ℕ → Type 0
Long effect opcode high low = (rest : List ℕ)
    → effect_in (parts_at ((0x40 + high) ∷ (opcode + low) ∷ rest)) ≡ Some (effect (low + 8 * high))

push-long : (low high : ℕ) → low < 8 → high < 2 → Long (λ r. pushed 2) 0x50 high low
unfolding Long pushed plain_parts effect_of one_byte row_of
push-long low zero below fits =
    cases-8 (Long (λ r. pushed 2) 0x50 0)
    (λ rest. rex-bare 0x40 0x50 rest Push refl refl refl)
    (λ rest. rex-bare 0x40 0x51 rest Push refl refl refl)
    (λ rest. rex-bare 0x40 0x52 rest Push refl refl refl)
    (λ rest. rex-bare 0x40 0x53 rest Push refl refl refl)
    (λ rest. rex-bare 0x40 0x54 rest Push refl refl refl)
    (λ rest. rex-bare 0x40 0x55 rest Push refl refl refl)
    (λ rest. rex-bare 0x40 0x56 rest Push refl refl refl)
    (λ rest. rex-bare 0x40 0x57 rest Push refl refl refl)
    low below
push-long low (suc zero) below fits =
    cases-8 (Long (λ r. pushed 2) 0x50 1)
    (λ rest. rex-bare 0x41 0x50 rest Push refl refl refl)
    (λ rest. rex-bare 0x41 0x51 rest Push refl refl refl)
    (λ rest. rex-bare 0x41 0x52 rest Push refl refl refl)
    (λ rest. rex-bare 0x41 0x53 rest Push refl refl refl)
    (λ rest. rex-bare 0x41 0x54 rest Push refl refl refl)
    (λ rest. rex-bare 0x41 0x55 rest Push refl refl refl)
    (λ rest. rex-bare 0x41 0x56 rest Push refl refl refl)
    (λ rest. rex-bare 0x41 0x57 rest Push refl refl refl)
    low below
push-long low (suc (suc high)) below fits = absurd (omega (arith, fits))

pop-long : (low high : ℕ) → low < 8 → high < 2 → Long (popped 2) 0x58 high low
unfolding Long popped plain_parts effect_of one_byte row_of
pop-long low zero below fits =
    cases-8 (Long (popped 2) 0x58 0)
    (λ rest. rex-bare 0x40 0x58 rest (Pop OpcodeRegister) refl refl refl)
    (λ rest. rex-bare 0x40 0x59 rest (Pop OpcodeRegister) refl refl refl)
    (λ rest. rex-bare 0x40 0x5A rest (Pop OpcodeRegister) refl refl refl)
    (λ rest. rex-bare 0x40 0x5B rest (Pop OpcodeRegister) refl refl refl)
    (λ rest. rex-bare 0x40 0x5C rest (Pop OpcodeRegister) refl refl refl)
    (λ rest. rex-bare 0x40 0x5D rest (Pop OpcodeRegister) refl refl refl)
    (λ rest. rex-bare 0x40 0x5E rest (Pop OpcodeRegister) refl refl refl)
    (λ rest. rex-bare 0x40 0x5F rest (Pop OpcodeRegister) refl refl refl)
    low below
pop-long low (suc zero) below fits =
    cases-8 (Long (popped 2) 0x58 1)
    (λ rest. rex-bare 0x41 0x58 rest (Pop OpcodeRegister) refl refl refl)
    (λ rest. rex-bare 0x41 0x59 rest (Pop OpcodeRegister) refl refl refl)
    (λ rest. rex-bare 0x41 0x5A rest (Pop OpcodeRegister) refl refl refl)
    (λ rest. rex-bare 0x41 0x5B rest (Pop OpcodeRegister) refl refl refl)
    (λ rest. rex-bare 0x41 0x5C rest (Pop OpcodeRegister) refl refl refl)
    (λ rest. rex-bare 0x41 0x5D rest (Pop OpcodeRegister) refl refl refl)
    (λ rest. rex-bare 0x41 0x5E rest (Pop OpcodeRegister) refl refl refl)
    (λ rest. rex-bare 0x41 0x5F rest (Pop OpcodeRegister) refl refl refl)
    low below
pop-long low (suc (suc high)) below fits = absurd (omega (arith, fits))

-- ---- moves

u8-third : (a b c : ℕ) (rest : List ℕ) → u8_at (a ∷ b ∷ c ∷ rest) 2 ≡ Ok (c, 3)
unfolding u8_at
u8-third a b c rest = rw (le-leb 3 (length (a ∷ b ∷ c ∷ rest)) (omega arith)) refl

three : (text : List ℕ) (at a b c : ℕ) → slice_get text at ≡ Some a → slice_get text (at + 1) ≡ Some b → slice_get text (at + 2) ≡ Some c
    → instruction_at text at ≡ effect_in (parts_at (a ∷ b ∷ c ∷ take 12 (drop (suc (suc (suc at))) text)))
three text at a b c is second third =
    let next : at + 2 ≡ suc (suc at) = omega arith in
    two text at a b is second
    ∙ ap (λ (bytes : List ℕ). effect_in (parts_at (a ∷ b ∷ take 13 bytes))) (from text (suc (suc at)) c (subst (λ n. slice_get text n ≡ Some c) next third))

-- a ModRM byte whose r/m is a register, with nothing after it
unfoldable pub register-address : ℕ → Address
register-address modrm = record { modrm = modrm; sib = 0; displacement = pos 0 }

memory-register : (bytes : List ℕ) (at modrm next : ℕ) → u8_at bytes at ≡ Ok (modrm, next) → has_sib modrm ≡ false
    → displacement_size modrm 0 ≡ 0 → next ≤ length bytes → memory_at bytes at ≡ Ok (register-address modrm, next + 0)
unfolding memory_at sib_at signed_at register-address
memory-register bytes at modrm next byte no_sib none fits =
    rw byte (rw no_sib (rw none (rw (le-leb (next + 0) (length bytes) (omega (arith, fits))) refl)))

-- MOV from a register to a register, of 64 bits
unfoldable pub move-parts : ℕ → Parts
move-parts modrm = record {
  opcode = opcode_record (prefixes_of [] 0x48) 0x89 ModRm MoveToRm;
  address = register-address modrm;
  immediate = pos 0;
  size = 3;
}

pub move-has-parts : (modrm : ℕ) (rest : List ℕ) → has_sib modrm ≡ false → displacement_size modrm 0 ≡ 0
    → parts_at (0x48 ∷ 0x89 ∷ modrm ∷ rest) ≡ Ok (move-parts modrm)
unfolding one_byte row_of move-parts
move-has-parts modrm rest no_sib none =
    parts-by (0x48 ∷ 0x89 ∷ modrm ∷ rest) (prefixes_of [] 0x48, 1) (opcode_record (prefixes_of [] 0x48) 0x89 ModRm MoveToRm, 2)
    (register-address modrm, 3) (pos 0, 3)
    (prefixes-by (0x48 ∷ 0x89 ∷ modrm ∷ rest) 0x48 1 (position-here (λ b. not (is_legacy_prefix b)) 0x48 (0x89 ∷ modrm ∷ rest) refl) (u8-first 0x48 (0x89 ∷ modrm ∷ rest)))
    (opcode-at (prefixes_of [] 0x48) (0x48 ∷ 0x89 ∷ modrm ∷ rest) 1 0x89 2 (u8-second 0x48 0x89 (modrm ∷ rest)))
    (memory-register (0x48 ∷ 0x89 ∷ modrm ∷ rest) 2 modrm 3 (u8-third 0x48 0x89 modrm rest) no_sib none (omega arith)) refl

move : (modrm : ℕ) (rest : List ℕ) → has_sib modrm ≡ false → displacement_size modrm 0 ≡ 0
    → effect_in (parts_at (0x48 ∷ 0x89 ∷ modrm ∷ rest)) ≡ Some (effect_of (move-parts modrm))
move modrm rest no_sib none = ap effect_in (move-has-parts modrm rest no_sib none)

source_change : ℕ → Change
source_change source = if source == 4 then kept Sp else (if source == 5 then kept Fp else Unknown)

moved_to : ℕ → ℕ → Effect
moved_to source destination = record {
  size = 3;
  sp = if destination == 4 then source_change source else kept Sp;
  fp = if destination == 5 then source_change source else kept Fp;
  flow = Next;
}

Move : ℕ → ℕ → Type 0
Move source destination = (rest : List ℕ)
    → effect_in (parts_at (0x48 ∷ 0x89 ∷ (0xC0 + 8 * source + destination) ∷ rest)) ≡ Some (moved_to source destination)

move-0 : (destination : ℕ) → destination < 8 → Move 0 destination
unfolding Move moved_to source_change move-parts register-address effect_of
move-0 destination below =
    cases-8 (Move 0)
    (λ rest. move 0xC0 rest refl refl)
    (λ rest. move 0xC1 rest refl refl)
    (λ rest. move 0xC2 rest refl refl)
    (λ rest. move 0xC3 rest refl refl)
    (λ rest. move 0xC4 rest refl refl)
    (λ rest. move 0xC5 rest refl refl)
    (λ rest. move 0xC6 rest refl refl)
    (λ rest. move 0xC7 rest refl refl)
    destination below

move-1 : (destination : ℕ) → destination < 8 → Move 1 destination
unfolding Move moved_to source_change move-parts register-address effect_of
move-1 destination below =
    cases-8 (Move 1)
    (λ rest. move 0xC8 rest refl refl)
    (λ rest. move 0xC9 rest refl refl)
    (λ rest. move 0xCA rest refl refl)
    (λ rest. move 0xCB rest refl refl)
    (λ rest. move 0xCC rest refl refl)
    (λ rest. move 0xCD rest refl refl)
    (λ rest. move 0xCE rest refl refl)
    (λ rest. move 0xCF rest refl refl)
    destination below

move-2 : (destination : ℕ) → destination < 8 → Move 2 destination
unfolding Move moved_to source_change move-parts register-address effect_of
move-2 destination below =
    cases-8 (Move 2)
    (λ rest. move 0xD0 rest refl refl)
    (λ rest. move 0xD1 rest refl refl)
    (λ rest. move 0xD2 rest refl refl)
    (λ rest. move 0xD3 rest refl refl)
    (λ rest. move 0xD4 rest refl refl)
    (λ rest. move 0xD5 rest refl refl)
    (λ rest. move 0xD6 rest refl refl)
    (λ rest. move 0xD7 rest refl refl)
    destination below

move-3 : (destination : ℕ) → destination < 8 → Move 3 destination
unfolding Move moved_to source_change move-parts register-address effect_of
move-3 destination below =
    cases-8 (Move 3)
    (λ rest. move 0xD8 rest refl refl)
    (λ rest. move 0xD9 rest refl refl)
    (λ rest. move 0xDA rest refl refl)
    (λ rest. move 0xDB rest refl refl)
    (λ rest. move 0xDC rest refl refl)
    (λ rest. move 0xDD rest refl refl)
    (λ rest. move 0xDE rest refl refl)
    (λ rest. move 0xDF rest refl refl)
    destination below

move-4 : (destination : ℕ) → destination < 8 → Move 4 destination
unfolding Move moved_to source_change move-parts register-address effect_of
move-4 destination below =
    cases-8 (Move 4)
    (λ rest. move 0xE0 rest refl refl)
    (λ rest. move 0xE1 rest refl refl)
    (λ rest. move 0xE2 rest refl refl)
    (λ rest. move 0xE3 rest refl refl)
    (λ rest. move 0xE4 rest refl refl)
    (λ rest. move 0xE5 rest refl refl)
    (λ rest. move 0xE6 rest refl refl)
    (λ rest. move 0xE7 rest refl refl)
    destination below

move-5 : (destination : ℕ) → destination < 8 → Move 5 destination
unfolding Move moved_to source_change move-parts register-address effect_of
move-5 destination below =
    cases-8 (Move 5)
    (λ rest. move 0xE8 rest refl refl)
    (λ rest. move 0xE9 rest refl refl)
    (λ rest. move 0xEA rest refl refl)
    (λ rest. move 0xEB rest refl refl)
    (λ rest. move 0xEC rest refl refl)
    (λ rest. move 0xED rest refl refl)
    (λ rest. move 0xEE rest refl refl)
    (λ rest. move 0xEF rest refl refl)
    destination below

move-6 : (destination : ℕ) → destination < 8 → Move 6 destination
unfolding Move moved_to source_change move-parts register-address effect_of
move-6 destination below =
    cases-8 (Move 6)
    (λ rest. move 0xF0 rest refl refl)
    (λ rest. move 0xF1 rest refl refl)
    (λ rest. move 0xF2 rest refl refl)
    (λ rest. move 0xF3 rest refl refl)
    (λ rest. move 0xF4 rest refl refl)
    (λ rest. move 0xF5 rest refl refl)
    (λ rest. move 0xF6 rest refl refl)
    (λ rest. move 0xF7 rest refl refl)
    destination below

move-7 : (destination : ℕ) → destination < 8 → Move 7 destination
unfolding Move moved_to source_change move-parts register-address effect_of
move-7 destination below =
    cases-8 (Move 7)
    (λ rest. move 0xF8 rest refl refl)
    (λ rest. move 0xF9 rest refl refl)
    (λ rest. move 0xFA rest refl refl)
    (λ rest. move 0xFB rest refl refl)
    (λ rest. move 0xFC rest refl refl)
    (λ rest. move 0xFD rest refl refl)
    (λ rest. move 0xFE rest refl refl)
    (λ rest. move 0xFF rest refl refl)
    destination below

move-any : (source destination : ℕ) → source < 8 → destination < 8 → Move source destination
move-any source destination fits below =
    cases-8 (λ s. Move s destination) (move-0 destination below) (move-1 destination below) (move-2 destination below)
    (move-3 destination below) (move-4 destination below) (move-5 destination below) (move-6 destination below)
    (move-7 destination below) source fits

-- ---- returns and jumps

return-parts : (rest : List ℕ) → effect_in (parts_at (0xC3 ∷ rest)) ≡ Some (record (plain 1) { flow = flow.Return })
unfolding one_byte row_of plain_parts effect_of
return-parts rest = bare 0xC3 rest Return refl refl refl

-- the parts by what is read last
parts-last : (bytes : List ℕ) (p : Prefixes × ℕ) (o : Opcode × ℕ) (a : Address × ℕ) → prefixes_at bytes ≡ Ok p
    → opcode_at p.0 bytes p.1 ≡ Ok o → address_at o.0.operands bytes o.1 ≡ Ok a
    → parts_at bytes ≡ immediate_at o.0 a.0.modrm bytes a.1 >>= λ i. Ok (record { opcode = o.0; address = a.0; immediate = i.0; size = i.1 })
unfolding parts_at
parts-last bytes p o a prefixes opcode address = rw prefixes (rw opcode (rw address refl))

some-effect : (e f : Effect) → ◌≡◌ {A = Option Effect} (Some e) (Some f) → e ≡ f
some-effect e f is = cc

end-of-jump : (opcode : Opcode) (address : Address) (read : Parsed ℤ) (e : Effect) → opcode.operation ≡ Jump
    → effect_in (read >>= λ i. Ok (record { opcode = opcode; address = address; immediate = i.0; size = i.1 })) ≡ Some e → IsEnd e
unfolding effect_of
end-of-jump opcode address (Ok i) e jumps is =
    let made : Parts = record { opcode = opcode; address = address; immediate = i.0; size = i.1 } in
    let same : effect_of made ≡ e = some-effect (effect_of made) e is in
    let told : effect_of made ≡ leading made (flow.Jump i.0) = rw jumps refl in
    subst IsEnd (sym told ∙ same) (record { sp = refl; fp = refl; away = refl })
end-of-jump opcode address (Err error) e jumps is = cc

-- an opcode of one byte with an immediate operand, or with a ModRM byte
opened : (byte : ℕ) (rest : List ℕ) (operands : Operands) (operation : Operation) → not (is_legacy_prefix byte) ≡ true
    → (prefixes_of [] byte).rex.present ≡ false
    → opcode_by (prefixes_of [] byte) (byte ∷ rest) (byte, 1) ≡ Ok (opcode_record (prefixes_of [] byte) byte operands operation, 1)
    → (prefixes_at (byte ∷ rest) ≡ Ok (prefixes_of [] byte, 0))
    × (opcode_at (prefixes_of [] byte) (byte ∷ rest) 0 ≡ Ok (opcode_record (prefixes_of [] byte) byte operands operation, 1))
opened byte rest operands operation first plain_byte opcode = (
  prefixes-by (byte ∷ rest) byte 1 (position-here (λ b. not (is_legacy_prefix b)) byte rest first) (u8-first byte rest) ∙ rw plain_byte refl,
  opcode-at (prefixes_of [] byte) (byte ∷ rest) 0 byte 1 (u8-first byte rest) ∙ opcode,
)

jump-end : (byte : ℕ) (rest : List ℕ) (size : Immediate) (e : Effect) → not (is_legacy_prefix byte) ≡ true
    → (prefixes_of [] byte).rex.present ≡ false
    → opcode_by (prefixes_of [] byte) (byte ∷ rest) (byte, 1) ≡ Ok (opcode_record (prefixes_of [] byte) byte (Then size) Jump, 1)
    → effect_in (parts_at (byte ∷ rest)) ≡ Some e → IsEnd e
jump-end byte rest size e first plain_byte opcode is =
    let start = opened byte rest (Then size) Jump first plain_byte opcode in
    let o = opcode_record (prefixes_of [] byte) byte (Then size) Jump in
    end-of-jump o no_address (immediate_at o 0 (byte ∷ rest) 1) e refl
    (sym (ap effect_in (parts-last (byte ∷ rest) (prefixes_of [] byte, 0) (o, 1) (no_address, 1) start.0 start.1 refl)) ∙ is)

rel8-end : (rest : List ℕ) (e : Effect) → effect_in (parts_at (0xEB ∷ rest)) ≡ Some e → IsEnd e
unfolding one_byte row_of
rel8-end rest e is = jump-end 0xEB rest Byte e refl refl refl is

rel32-end : (rest : List ℕ) (e : Effect) → effect_in (parts_at (0xE9 ∷ rest)) ≡ Some e → IsEnd e
unfolding one_byte row_of
rel32-end rest e is = jump-end 0xE9 rest Near e refl refl refl is

-- what is read of a ModRM byte has that byte
HasModRm : ℕ → Parsed Address → Type 0
HasModRm modrm (Ok a) = a.0.modrm ≡ modrm
HasModRm modrm (Err error) = Unit {0}

has-modrm-last : (modrm sib : ℕ) (read : Parsed ℤ)
    → HasModRm modrm (read >>= λ d. Ok (record { modrm = modrm; sib = sib; displacement = d.0 }, d.1))
unfolding HasModRm
has-modrm-last modrm sib (Ok d) = refl
has-modrm-last modrm sib (Err error) = tt

has-modrm-sib : (bytes : List ℕ) (modrm : ℕ) (read : Parsed ℕ)
    → HasModRm modrm (read >>= λ sib. signed_at bytes sib.1 (displacement_size modrm sib.0) >>= λ d. Ok (record { modrm = modrm; sib = sib.0; displacement = d.0 }, d.1))
unfolding HasModRm
has-modrm-sib bytes modrm (Ok sib) = has-modrm-last modrm sib.0 (signed_at bytes sib.1 (displacement_size modrm sib.0))
has-modrm-sib bytes modrm (Err error) = tt

has-modrm : (bytes : List ℕ) (at modrm next : ℕ) → u8_at bytes at ≡ Ok (modrm, next) → HasModRm modrm (memory_at bytes at)
unfolding memory_at
has-modrm bytes at modrm next byte = rw byte (has-modrm-sib bytes modrm (sib_at modrm bytes next))

-- FF /4
indirect-by : (prefixes : Prefixes) (byte : ℕ) (bytes : List ℕ) (modrm : ℕ) (read : Parsed Address) (e : Effect)
    → modrm / 8 % 8 ≡ 4 → HasModRm modrm read
    → effect_in (read >>= λ a. immediate_at (opcode_record prefixes byte ModRm Group5) a.0.modrm bytes a.1 >>= λ i. Ok (record { opcode = opcode_record prefixes byte ModRm Group5; address = a.0; immediate = i.0; size = i.1 })) ≡ Some e
    → IsEnd e
unfolding HasModRm effect_of
indirect-by prefixes byte bytes modrm (Ok a) e four has is =
    let made : Parts = record { opcode = opcode_record prefixes byte ModRm Group5; address = a.0; immediate = pos 0; size = a.1 } in
    let reg : a.0.modrm / 8 % 8 ≡ 4 = rw has four in
    let told : effect_of made ≡ leading made flow.Leaves = rw reg refl in
    subst IsEnd (sym told ∙ some-effect (effect_of made) e is) (record { sp = refl; fp = refl; away = refl })
indirect-by prefixes byte bytes modrm (Err error) e four has is = cc

parts-middle : (bytes : List ℕ) (p : Prefixes × ℕ) (o : Opcode × ℕ) → prefixes_at bytes ≡ Ok p → opcode_at p.0 bytes p.1 ≡ Ok o
    → parts_at bytes ≡ address_at o.0.operands bytes o.1 >>= λ a. immediate_at o.0 a.0.modrm bytes a.1 >>= λ i. Ok (record { opcode = o.0; address = a.0; immediate = i.0; size = i.1 })
unfolding parts_at
parts-middle bytes p o prefixes opcode = rw prefixes (rw opcode refl)

indirect-end : (modrm : ℕ) (rest : List ℕ) (e : Effect) → modrm / 8 % 8 ≡ 4 → effect_in (parts_at (0xFF ∷ modrm ∷ rest)) ≡ Some e → IsEnd e
unfolding one_byte row_of
indirect-end modrm rest e four is =
    let start = opened 0xFF (modrm ∷ rest) ModRm Group5 refl refl refl in
    let o = opcode_record (prefixes_of [] 0xFF) 0xFF ModRm Group5 in
    indirect-by (prefixes_of [] 0xFF) 0xFF (0xFF ∷ modrm ∷ rest) modrm (memory_at (0xFF ∷ modrm ∷ rest) 1) e four
    (has-modrm (0xFF ∷ modrm ∷ rest) 1 modrm 2 (u8-second 0xFF modrm rest))
    (sym (ap effect_in (parts-middle (0xFF ∷ modrm ∷ rest) (prefixes_of [] 0xFF, 0) (o, 1) start.0 start.1)) ∙ is)

-- ---- what the machine does

ends : (at size next : ℕ) → next ≡ at + size → at + size ≡ next
ends at size next is = sym is

lower : (low high : ℕ) → low + 8 ≡ high → pos low ≡ pos high +ℤ minus 8
lower low high is = omega (arith, ints, is)

higher : (low high : ℕ) → high ≡ low + 8 → pos high ≡ pos low +ℤ pos 8
higher low high is = omega (arith, ints, is)

same : (one other : ℕ) → one ≡ other → pos one ≡ pos other +ℤ pos 0
same one other is = omega (arith, ints, is)

some-number : (m n : ℕ) → ◌≡◌ {A = Option ℕ} (Some m) (Some n) → m ≡ n
some-number m n is = cc

-- rbp is kept
kept-bp : (s t : machine.State) (bp next : ℕ) → t.bp ≡ s.bp → s.bp ≡ Some bp → t.bp ≡ Some next → pos next ≡ pos bp +ℤ pos 0
kept-bp s t bp next kept_bp is then_is = same next bp (some-number next bp (sym then_is ∙ (kept_bp ∙ is)))

pushed-does : (size register : ℕ) (s t : machine.State) → machine.Pushes register s t → DoesAs (pushed size) s t
unfolding pushed
pushed-does size register s t step bp next is then_is = record {
  sp = lower t.sp s.sp step.sp;
  fp = kept-bp s t bp next step.bp is then_is;
}

eq-false : (n m : ℕ) → (n == m) ≡ false → n ≢ m
eq-false n m is same_number = let e = eq-eqb n m same_number in cc

popped-does : (size register : ℕ) (s t : machine.State) → machine.Pops register s t → DoesAs (popped size register) s t
unfolding popped
popped-does size register s t step bp next is then_is = record {
  sp = elim (cases_Bool (register == 4)) [
    | inl four ↦ rw four tt
    | inr other ↦ rw other (higher s.sp t.sp (step.sp (eq-false register 4 other)))
  ];
  fp = elim (cases_Bool (register == 5)) [
    | inl five ↦ rw five tt
    | inr other ↦ (let e = rw other at step.bp in rw other (kept-bp s t bp next e is then_is))
  ];
}

-- a register becomes the source's value, where that is rsp or rbp
copied-does : (source : ℕ) (s : machine.State) (bp value : ℕ) → s.bp ≡ Some bp
    → ((v : ℕ) → machine.value_of s source ≡ Some v → value ≡ v) → Becomes (source_change source) (as_numbers s bp) (pos value)
unfolding source_change
copied-does source s bp value is copies =
    elim (cases_Bool (source == 4)) [
      | inl four ↦ (let from = copies s.sp (rw four refl) in rw four (same value s.sp from))
      | inr other ↦
          elim (cases_Bool (source == 5)) [
            | inl five ↦ (let from = copies bp (rw other (rw five is)) in rw other (rw five (same value bp from)))
            | inr third ↦ rw other (rw third tt)
          ]
    ]

moved-does : (source destination : ℕ) (s t : machine.State) → MovesAll source destination s t → DoesAs (moved_to source destination) s t
unfolding moved_to
moved-does source destination s t step bp next is then_is = record {
  sp = elim (cases_Bool (destination == 4)) [
    | inl four ↦ rw four (copied-does source s bp t.sp is (λ v known. step.1 v (eqb-true destination 4 four) known))
    | inr other ↦ rw other (same t.sp s.sp (step.0.sp (eq-false destination 4 other)))
  ];
  fp = elim (cases_Bool (destination == 5)) [
    | inl five ↦
        (let e = rw five at step.0.bp in
        rw five (copied-does source s bp next is (λ v known. some-number next v (sym then_is ∙ (e ∙ known)))))
    | inr other ↦ (let e = rw other at step.0.bp in rw other (kept-bp s t bp next e is then_is))
  ];
}

-- ---- all of them

step-of : (found : Option Effect) (at next : ℕ) (step : machine.State → machine.State → Type 0) (e : Effect) → found ≡ Some e
    → next ≡ at + e.size → e.flow ≡ Next → ((s t : machine.State) → step s t → DoesAs e s t) → IsStep found at next step
step-of found at next step e is end flows does = record { effect = e; is = is; ends = sym end; flow = flows; does = does }

pushes : (text : List ℕ) (at next register : ℕ) → machine.IsPush text at next register
    → IsStep (instruction_at text at) at next (machine.Pushes register)
unfolding Short Long pushed
pushes text at next register (machine.short fits byte end) =
    step-of (instruction_at text at) at next (machine.Pushes register) (pushed 1)
    (one text at (0x50 + register) byte ∙ push-short register fits (take 14 (drop (suc at) text))) end refl
    (pushed-does 1 register)
pushes text at next register (machine.long low high below fits rex byte end number) =
    step-of (instruction_at text at) at next (machine.Pushes register) (pushed 2)
    (two text at (0x40 + high) (0x50 + low) rex byte ∙ push-long low high below fits (take 13 (drop (suc (suc at)) text))) end refl
    (pushed-does 2 register)

pops : (text : List ℕ) (at next register : ℕ) → machine.IsPop text at next register
    → IsStep (instruction_at text at) at next (machine.Pops register)
unfolding Short Long popped
pops text at next register (machine.short fits byte end) =
    step-of (instruction_at text at) at next (machine.Pops register) (popped 1 register)
    (one text at (0x58 + register) byte ∙ pop-short register fits (take 14 (drop (suc at) text))) end refl
    (popped-does 1 register)
pops text at next register (machine.long low high below fits rex byte end number) =
    step-of (instruction_at text at) at next (machine.Pops register) (popped 2 register)
    (two text at (0x40 + high) (0x58 + low) rex byte
    ∙ (pop-long low high below fits (take 13 (drop (suc (suc at)) text)) ∙ ap (λ (r : ℕ). Some (popped 2 r)) (sym number))) end refl
    (popped-does 2 register)

moves : (text : List ℕ) (at next source destination : ℕ) → machine.IsMove text at next source destination
    → IsStep (instruction_at text at) at next (MovesAll source destination)
unfolding Move moved_to
moves text at next source destination m =
    step-of (instruction_at text at) at next (MovesAll source destination) (moved_to source destination)
    (three text at 0x48 0x89 (0xC0 + 8 * source + destination) m.rex m.opcode m.registers
    ∙ move-any source destination m.source_fits m.destination_fits (take 12 (drop (suc (suc (suc at))) text))) m.next_is refl
    (moved-does source destination)

leaves : (text : List ℕ) (at : ℕ) (e : Effect) → machine.Leaves text at → instruction_at text at ≡ Some e → IsEnd e
leaves text at e (machine.by_ret byte) is =
    subst IsEnd (some-effect (record (plain 1) { flow = flow.Return }) e (sym (one text at 0xC3 byte ∙ return-parts (take 14 (drop (suc at) text))) ∙ is))
    (record { sp = refl; fp = refl; away = refl })
leaves text at e (machine.by_jmp_rel8 byte) is = rel8-end (take 14 (drop (suc at) text)) e (sym (one text at 0xEB byte) ∙ is)
leaves text at e (machine.by_jmp_rel32 byte) is = rel32-end (take 14 (drop (suc at) text)) e (sym (one text at 0xE9 byte) ∙ is)
leaves text at e (machine.by_jmp_rm64 modrm byte second four) is =
    indirect-end modrm (take 13 (drop (suc (suc at)) text)) e four (sym (two text at 0xFF modrm byte second) ∙ is)

-- ---- forms that the machine lacks

-- the bytes at an offset, and what comes after them
pub taken : (text : List ℕ) (at : ℕ) (bytes : List ℕ) → AreAt text at bytes → drop at text ≡ bytes ++ drop (at + length bytes) text
taken text at [] are = let e : at + 0 ≡ at = omega arith in ap (λ (n : ℕ). drop n text) (sym e)
taken text at (b ∷ bytes) are =
    let next : at + 1 ≡ suc at = omega arith in
    let after : suc at + length bytes ≡ at + suc (length bytes) = omega arith in
    from text at b are.0
    ∙ ap (λ (x : List ℕ). b ∷ x)
    (taken text (suc at) bytes (subst (λ (n : ℕ). AreAt text n bytes) next are.1) ∙ ap (λ (n : ℕ). bytes ++ drop n text) after)

begun : (text : List ℕ) (at first : ℕ) (bytes : List ℕ) → AreAt text at (first ∷ bytes)
    → instruction_at text at ≡ effect_in (parts_at (take 15 ((first ∷ bytes) ++ drop (at + length (first ∷ bytes)) text)))
unfolding instruction_at
begun text at first bytes are =
    let below = slice_get_within text at first are.0 in
    rw (le-leb at (length text) (omega (arith, below)))
    (ap (λ (x : List ℕ). effect_in (parts_at (take 15 x))) (taken text at (first ∷ bytes) are))

moved_sp : ℕ → ℤ → Effect
moved_sp size bytes = record { size = size; sp = Sum Sp bytes; fp = kept Fp; flow = Next }

u8-fourth : (a b c d : ℕ) (rest : List ℕ) → u8_at (a ∷ b ∷ c ∷ d ∷ rest) 3 ≡ Ok (d, 4)
unfolding u8_at
u8-fourth a b c d rest = rw (le-leb 4 (length (a ∷ b ∷ c ∷ d ∷ rest)) (omega arith)) refl

pub u8-fifth : (a b c d e : ℕ) (rest : List ℕ) → u8_at (a ∷ b ∷ c ∷ d ∷ e ∷ rest) 4 ≡ Ok (e, 5)
unfolding u8_at
u8-fifth a b c d e rest = rw (le-leb 5 (length (a ∷ b ∷ c ∷ d ∷ e ∷ rest)) (omega arith)) refl

-- group 1 of rsp with an immediate operand
pub sum-byte-parts : (modrm a : ℕ) (rest : List ℕ) → has_sib modrm ≡ false → displacement_size modrm 0 ≡ 0
    → parts_at (0x48 ∷ 0x83 ∷ modrm ∷ a ∷ rest) ≡ Ok (record {
      opcode = opcode_record (prefixes_of [] 0x48) 0x83 (ModRmThen Byte) Group1;
      address = register-address modrm;
      immediate = cast_signed w8 a;
      size = 4;
    })
unfolding one_byte row_of signed_at
sum-byte-parts modrm a rest no_sib none =
    parts-by (0x48 ∷ 0x83 ∷ modrm ∷ a ∷ rest) (prefixes_of [] 0x48, 1) (opcode_record (prefixes_of [] 0x48) 0x83 (ModRmThen Byte) Group1, 2)
    (register-address modrm, 3) (cast_signed w8 a, 4)
    (prefixes-by (0x48 ∷ 0x83 ∷ modrm ∷ a ∷ rest) 0x48 1 (position-here (λ b. not (is_legacy_prefix b)) 0x48 (0x83 ∷ modrm ∷ a ∷ rest) refl) (u8-first 0x48 (0x83 ∷ modrm ∷ a ∷ rest)))
    (opcode-at (prefixes_of [] 0x48) (0x48 ∷ 0x83 ∷ modrm ∷ a ∷ rest) 1 0x83 2 (u8-second 0x48 0x83 (modrm ∷ a ∷ rest)))
    (memory-register (0x48 ∷ 0x83 ∷ modrm ∷ a ∷ rest) 2 modrm 3 (u8-third 0x48 0x83 modrm (a ∷ rest)) no_sib none (omega arith))
    (rw (u8-fourth 0x48 0x83 modrm a rest) refl)

sum-byte : (modrm a : ℕ) (rest : List ℕ) → has_sib modrm ≡ false → displacement_size modrm 0 ≡ 0
    → effect_in (parts_at (0x48 ∷ 0x83 ∷ modrm ∷ a ∷ rest)) ≡ Some (effect_of (record {
      opcode = opcode_record (prefixes_of [] 0x48) 0x83 (ModRmThen Byte) Group1;
      address = register-address modrm;
      immediate = cast_signed w8 a;
      size = 4;
    }))
sum-byte modrm a rest no_sib none = ap effect_in (sum-byte-parts modrm a rest no_sib none)

add-byte : (a : ℕ) (rest : List ℕ) → effect_in (parts_at (0x48 ∷ 0x83 ∷ 0xC4 ∷ a ∷ rest)) ≡ Some (moved_sp 4 (cast_signed w8 a))
unfolding moved_sp effect_of register-address
add-byte a rest = sum-byte 0xC4 a rest refl refl

sub-byte : (a : ℕ) (rest : List ℕ) → effect_in (parts_at (0x48 ∷ 0x83 ∷ 0xEC ∷ a ∷ rest)) ≡ Some (moved_sp 4 (pos 0 -ℤ cast_signed w8 a))
unfolding moved_sp effect_of register-address
sub-byte a rest = sum-byte 0xEC a rest refl refl

-- a signed number of four bytes
pub four-bytes : (bytes : List ℕ) (at a b c d : ℕ) → at + 4 ≤ length bytes → slice_index bytes at ≡ a → slice_index bytes (at + 1) ≡ b
    → slice_index bytes (at + 2) ≡ c → slice_index bytes (at + 2 + 1) ≡ d
    → signed_at bytes at 4 ≡ Ok (signed_of a b c d, at + 4)
unfolding signed_at u32_at
four-bytes bytes at a b c d fits first second third fourth =
    let same : le4 bytes at ≡ a + 2 ^ 8 * b + 2 ^ 16 * c + 2 ^ 24 * d = omega (arith, first, second, third, fourth) in
    rw (le-leb (at + 4) (length bytes) fits) (ap (λ (n : ℕ). Ok (cast_signed w32 n, at + 4)) same)

-- direct jumps and calls
abbrev near_parts : ℕ → Immediate → Operation → ℤ → ℕ → Parts
near_parts byte immediate operation distance size = record {
  opcode = opcode_record (prefixes_of [] byte) byte (Then immediate) operation;
  address = no_address;
  immediate = distance;
  size = size;
}

pub jump-byte-parts : (a : ℕ) (rest : List ℕ) → parts_at (0xEB ∷ a ∷ rest) ≡ Ok (near_parts 0xEB Byte Jump (cast_signed w8 a) 2)
unfolding one_byte row_of signed_at
jump-byte-parts a rest =
    let start = opened 0xEB (a ∷ rest) (Then Byte) Jump refl refl refl in
    parts-by (0xEB ∷ a ∷ rest) (prefixes_of [] 0xEB, 0) (opcode_record (prefixes_of [] 0xEB) 0xEB (Then Byte) Jump, 1) (no_address, 1)
    (cast_signed w8 a, 2) start.0 start.1 refl (rw (u8-second 0xEB a rest) refl)

pub jump-long-parts : (a b c d : ℕ) (rest : List ℕ)
    → parts_at (0xE9 ∷ a ∷ b ∷ c ∷ d ∷ rest) ≡ Ok (near_parts 0xE9 Near Jump (signed_of a b c d) 5)
unfolding one_byte row_of
jump-long-parts a b c d rest =
    let bytes = 0xE9 ∷ a ∷ b ∷ c ∷ d ∷ rest in
    let start = opened 0xE9 (a ∷ b ∷ c ∷ d ∷ rest) (Then Near) Jump refl refl refl in
    parts-by bytes (prefixes_of [] 0xE9, 0) (opcode_record (prefixes_of [] 0xE9) 0xE9 (Then Near) Jump, 1) (no_address, 1)
    (signed_of a b c d, 5) start.0 start.1 refl (four-bytes bytes 1 a b c d (omega arith) refl refl refl refl)

pub call-long-parts : (a b c d : ℕ) (rest : List ℕ)
    → parts_at (0xE8 ∷ a ∷ b ∷ c ∷ d ∷ rest) ≡ Ok (near_parts 0xE8 Near Call (signed_of a b c d) 5)
unfolding one_byte row_of
call-long-parts a b c d rest =
    let bytes = 0xE8 ∷ a ∷ b ∷ c ∷ d ∷ rest in
    let start = opened 0xE8 (a ∷ b ∷ c ∷ d ∷ rest) (Then Near) Call refl refl refl in
    parts-by bytes (prefixes_of [] 0xE8, 0) (opcode_record (prefixes_of [] 0xE8) 0xE8 (Then Near) Call, 1) (no_address, 1)
    (signed_of a b c d, 5) start.0 start.1 refl (four-bytes bytes 1 a b c d (omega arith) refl refl refl refl)

pub sum-long-parts : (modrm a b c d : ℕ) (rest : List ℕ) → has_sib modrm ≡ false → displacement_size modrm 0 ≡ 0
    → parts_at (0x48 ∷ 0x81 ∷ modrm ∷ a ∷ b ∷ c ∷ d ∷ rest) ≡ Ok (record {
      opcode = opcode_record (prefixes_of [] 0x48) 0x81 (ModRmThen immediate.Long) Group1;
      address = register-address modrm;
      immediate = signed_of a b c d;
      size = 7;
    })
unfolding one_byte row_of
sum-long-parts modrm a b c d rest no_sib none =
    let bytes = 0x48 ∷ 0x81 ∷ modrm ∷ a ∷ b ∷ c ∷ d ∷ rest in
    parts-by bytes (prefixes_of [] 0x48, 1) (opcode_record (prefixes_of [] 0x48) 0x81 (ModRmThen immediate.Long) Group1, 2)
    (register-address modrm, 3) (signed_of a b c d, 7)
    (prefixes-by bytes 0x48 1 (position-here (λ b. not (is_legacy_prefix b)) 0x48 (0x81 ∷ modrm ∷ a ∷ b ∷ c ∷ d ∷ rest) refl) (u8-first 0x48 (0x81 ∷ modrm ∷ a ∷ b ∷ c ∷ d ∷ rest)))
    (opcode-at (prefixes_of [] 0x48) bytes 1 0x81 2 (u8-second 0x48 0x81 (modrm ∷ a ∷ b ∷ c ∷ d ∷ rest)))
    (memory-register bytes 2 modrm 3 (u8-third 0x48 0x81 modrm (a ∷ b ∷ c ∷ d ∷ rest)) no_sib none (omega arith))
    (four-bytes bytes 3 a b c d (omega arith) refl refl refl refl)

sum-long : (modrm a b c d : ℕ) (rest : List ℕ) → has_sib modrm ≡ false → displacement_size modrm 0 ≡ 0
    → effect_in (parts_at (0x48 ∷ 0x81 ∷ modrm ∷ a ∷ b ∷ c ∷ d ∷ rest)) ≡ Some (effect_of (record {
      opcode = opcode_record (prefixes_of [] 0x48) 0x81 (ModRmThen immediate.Long) Group1;
      address = register-address modrm;
      immediate = signed_of a b c d;
      size = 7;
    }))
sum-long modrm a b c d rest no_sib none = ap effect_in (sum-long-parts modrm a b c d rest no_sib none)

add-long : (a b c d : ℕ) (rest : List ℕ)
    → effect_in (parts_at (0x48 ∷ 0x81 ∷ 0xC4 ∷ a ∷ b ∷ c ∷ d ∷ rest)) ≡ Some (moved_sp 7 (signed_of a b c d))
unfolding moved_sp effect_of register-address
add-long a b c d rest = sum-long 0xC4 a b c d rest refl refl

sub-long : (a b c d : ℕ) (rest : List ℕ)
    → effect_in (parts_at (0x48 ∷ 0x81 ∷ 0xEC ∷ a ∷ b ∷ c ∷ d ∷ rest)) ≡ Some (moved_sp 7 (pos 0 -ℤ signed_of a b c d))
unfolding moved_sp effect_of register-address
sub-long a b c d rest = sum-long 0xEC a b c d rest refl refl

-- a ModRM byte with a SIB byte and a displacement
memory-by : (bytes : List ℕ) (at modrm next sib after : ℕ) (displacement : ℤ × ℕ) → u8_at bytes at ≡ Ok (modrm, next)
    → sib_at modrm bytes next ≡ Ok (sib, after) → signed_at bytes after (displacement_size modrm sib) ≡ Ok displacement
    → memory_at bytes at ≡ Ok (record { modrm = modrm; sib = sib; displacement = displacement.0 }, displacement.1)
unfolding memory_at
memory-by bytes at modrm next sib after displacement first second third = rw first (rw second (rw third refl))

unfoldable pub load-parts : ℕ → ℤ → ℕ → Parts
load-parts modrm displacement size = record {
  opcode = opcode_record (prefixes_of [] 0x48) 0x8D ModRm LoadAddress;
  address = record { modrm = modrm; sib = 0x24; displacement = displacement };
  immediate = pos 0;
  size = size;
}

pub lea-parts : (modrm : ℕ) (rest : List ℕ) (displacement : ℤ) (size : ℕ) → has_sib modrm ≡ true
    → signed_at (0x48 ∷ 0x8D ∷ modrm ∷ 0x24 ∷ rest) 4 (displacement_size modrm 0x24) ≡ Ok (displacement, size)
    → parts_at (0x48 ∷ 0x8D ∷ modrm ∷ 0x24 ∷ rest) ≡ Ok (load-parts modrm displacement size)
unfolding one_byte row_of load-parts sib_at
lea-parts modrm rest displacement size with_sib read =
    let bytes = 0x48 ∷ 0x8D ∷ modrm ∷ 0x24 ∷ rest in
    parts-by bytes (prefixes_of [] 0x48, 1) (opcode_record (prefixes_of [] 0x48) 0x8D ModRm LoadAddress, 2)
    (record { modrm = modrm; sib = 0x24; displacement = displacement }, size) (pos 0, size)
    (prefixes-by bytes 0x48 1 (position-here (λ b. not (is_legacy_prefix b)) 0x48 (0x8D ∷ modrm ∷ 0x24 ∷ rest) refl) (u8-first 0x48 (0x8D ∷ modrm ∷ 0x24 ∷ rest)))
    (opcode-at (prefixes_of [] 0x48) bytes 1 0x8D 2 (u8-second 0x48 0x8D (modrm ∷ 0x24 ∷ rest)))
    (memory-by bytes 2 modrm 3 0x24 4 (displacement, size) (u8-third 0x48 0x8D modrm (0x24 ∷ rest))
    (rw with_sib (u8-fourth 0x48 0x8D modrm 0x24 rest)) read)
    refl

lea : (modrm : ℕ) (rest : List ℕ) (displacement : ℤ) (size : ℕ) → has_sib modrm ≡ true
    → signed_at (0x48 ∷ 0x8D ∷ modrm ∷ 0x24 ∷ rest) 4 (displacement_size modrm 0x24) ≡ Ok (displacement, size)
    → effect_in (parts_at (0x48 ∷ 0x8D ∷ modrm ∷ 0x24 ∷ rest)) ≡ Some (effect_of (load-parts modrm displacement size))
lea modrm rest displacement size with_sib read = ap effect_in (lea-parts modrm rest displacement size with_sib read)

lea-byte : (a : ℕ) (rest : List ℕ) → effect_in (parts_at (0x48 ∷ 0x8D ∷ 0x64 ∷ 0x24 ∷ a ∷ rest)) ≡ Some (moved_sp 5 (cast_signed w8 a))
unfolding moved_sp effect_of load-parts signed_at
lea-byte a rest = lea 0x64 (a ∷ rest) (cast_signed w8 a) 5 refl (rw (u8-fifth 0x48 0x8D 0x64 0x24 a rest) refl)

lea-long : (a b c d : ℕ) (rest : List ℕ)
    → effect_in (parts_at (0x48 ∷ 0x8D ∷ 0xA4 ∷ 0x24 ∷ a ∷ b ∷ c ∷ d ∷ rest)) ≡ Some (moved_sp 8 (signed_of a b c d))
unfolding moved_sp effect_of load-parts
lea-long a b c d rest =
    lea 0xA4 (a ∷ b ∷ c ∷ d ∷ rest) (signed_of a b c d) 8 refl
    (four-bytes (0x48 ∷ 0x8D ∷ 0xA4 ∷ 0x24 ∷ a ∷ b ∷ c ∷ d ∷ rest) 4 a b c d (omega arith) refl refl refl refl)

leave-parts : (rest : List ℕ) → effect_in (parts_at (0xC9 ∷ rest)) ≡ Some (record { size = 1; sp = Sum Fp (pos 8); fp = Unknown; flow = Next })
unfolding one_byte row_of plain_parts effect_of
leave-parts rest = bare 0xC9 rest Leave refl refl refl

effect-as : (found : Option Effect) (at next size : ℕ) (sp fp : Change)
    → found ≡ Some (record { size = size; sp = sp; fp = fp; flow = Next }) → next ≡ at + size → IsEffect found at next sp fp
effect-as found at next size sp fp is end = record {
  effect = record { size = size; sp = sp; fp = fp; flow = Next };
  is = is;
  ends = sym end;
  flow = refl;
  sp_is = refl;
  fp_is = refl;
}

sums : (text : List ℕ) (at next : ℕ) (bytes : ℤ) → IsMoveOfSp text at next bytes
    → IsEffect (instruction_at text at) at next (Sum Sp bytes) (kept Fp)
unfolding moved_sp
sums text at next bytes (add_byte a are end is) =
    effect-as (instruction_at text at) at next 4 (Sum Sp bytes) (kept Fp)
    (begun text at 0x48 (0x83 ∷ 0xC4 ∷ a ∷ []) are ∙ (add-byte a (take 11 (drop (at + 4) text)) ∙ ap (λ (x : ℤ). Some (moved_sp 4 x)) (sym is))) end
sums text at next bytes (sub_byte a are end is) =
    effect-as (instruction_at text at) at next 4 (Sum Sp bytes) (kept Fp)
    (begun text at 0x48 (0x83 ∷ 0xEC ∷ a ∷ []) are ∙ (sub-byte a (take 11 (drop (at + 4) text)) ∙ ap (λ (x : ℤ). Some (moved_sp 4 x)) (sym is))) end
sums text at next bytes (lea_byte a are end is) =
    effect-as (instruction_at text at) at next 5 (Sum Sp bytes) (kept Fp)
    (begun text at 0x48 (0x8D ∷ 0x64 ∷ 0x24 ∷ a ∷ []) are ∙ (lea-byte a (take 10 (drop (at + 5) text)) ∙ ap (λ (x : ℤ). Some (moved_sp 5 x)) (sym is))) end
sums text at next bytes (add_long a b c d are end is) =
    effect-as (instruction_at text at) at next 7 (Sum Sp bytes) (kept Fp)
    (begun text at 0x48 (0x81 ∷ 0xC4 ∷ a ∷ b ∷ c ∷ d ∷ []) are ∙ (add-long a b c d (take 8 (drop (at + 7) text)) ∙ ap (λ (x : ℤ). Some (moved_sp 7 x)) (sym is))) end
sums text at next bytes (sub_long a b c d are end is) =
    effect-as (instruction_at text at) at next 7 (Sum Sp bytes) (kept Fp)
    (begun text at 0x48 (0x81 ∷ 0xEC ∷ a ∷ b ∷ c ∷ d ∷ []) are ∙ (sub-long a b c d (take 8 (drop (at + 7) text)) ∙ ap (λ (x : ℤ). Some (moved_sp 7 x)) (sym is))) end
sums text at next bytes (lea_long a b c d are end is) =
    effect-as (instruction_at text at) at next 8 (Sum Sp bytes) (kept Fp)
    (begun text at 0x48 (0x8D ∷ 0xA4 ∷ 0x24 ∷ a ∷ b ∷ c ∷ d ∷ []) are ∙ (lea-long a b c d (take 7 (drop (at + 8) text)) ∙ ap (λ (x : ℤ). Some (moved_sp 8 x)) (sym is))) end

leave-at : (text : List ℕ) (at : ℕ) → slice_get text at ≡ Some 0xC9 → IsEffect (instruction_at text at) at (at + 1) (Sum Fp (pos 8)) Unknown
leave-at text at byte =
    effect-as (instruction_at text at) at (at + 1) 1 (Sum Fp (pos 8)) Unknown
    (one text at 0xC9 byte ∙ leave-parts (take 14 (drop (suc at) text))) refl

pub as-machine : (text : List ℕ) (at : ℕ) → IsAsMachine text at (instruction_at text at)
as-machine text at = record {
  pushes = pushes text at;
  pops = pops text at;
  moves = moves text at;
  returns = λ byte. (record (plain 1) { flow = flow.Return }, one text at 0xC3 byte ∙ return-parts (take 14 (drop (suc at) text)), refl, refl);
  leaves = leaves text at;
  sums = sums text at;
  leave = leave-at text at;
}
