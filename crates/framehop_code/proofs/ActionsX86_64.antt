-- The actions of the machine's instructions, read by the opcode maps.
use Rattle.std.proofs.Common.{◌≡◌, ℕ, zero, suc, ◌+◌, ◌*◌, ◌<◌, List, [], ◌∷◌, ◌++◌, length, take, drop, Option, Some, refl, sym, ap, subst, ◌∙◌, arith}
use Rattle.std.specs.Prelude.{slice_get}
use Rattle.std.proofs.lemmas.Bool.{le-leb}
use Rattle.std.proofs.lemmas.Option.{slice_get_within}
use Rattle.framehop_analysis.specs.X86_64.Machine as machine
use Rattle.framehop_code.specs.declared.action.Action.{Action}
use Rattle.framehop_code.specs.declared.action.Action.TheVariants as action
use Rattle.framehop_code.specs.declared.action.Instruction.{Instruction}
use Rattle.framehop_code.specs.declared.action.Source.TheVariants as source
use Rattle.framehop_code.specs.declared.action.Width.TheVariants.{Eight}
use Rattle.framehop_code.specs.declared.x86_64.opcode.Operand.TheVariants.{OpcodeRegister}
use Rattle.framehop_code.specs.declared.x86_64.opcode.Operation.TheVariants.{Push, Pop, Return, Leave}
use Rattle.framehop_code.specs.X86_64.Instruction.{signed_at, parts_at}
use Rattle.framehop_code.specs.X86_64.Opcodes.{one_byte, row_of}
use Rattle.framehop_code.specs.X86_64.Written.{row_of as written_row_of, writes_of}
use Rattle.framehop_code.specs.X86_64.Action.{described, instruction_in, action_at}
use Rattle.framehop_code.specs.X86_64.MachineActions.{register_of, after_next, Computes, Loads, IsAction, IsActionAsMachine}
use Rattle.framehop_code.specs.X86_64.Machine.{AreAt, signed_of}
use Rattle.std.specs.Int.{cast_signed, w8}
use Rattle.framehop_code.specs.declared.action.Computation.TheVariants.{Add, Subtract}
use Rattle.framehop_code.proofs.MachineX86_64.{bare-parts, rex-bare-parts, move-has-parts, move-parts, register-address, plain_parts, cases-8, from, taken, sum-byte-parts, sum-long-parts, lea-parts, load-parts, four-bytes, u8-fifth, jump-byte-parts, jump-long-parts, call-long-parts}

-- ---- bytes

one : (text : List ℕ) (at a : ℕ) → slice_get text at ≡ Some a
    → action_at text at ≡ instruction_in (parts_at (a ∷ take 14 (drop (suc at) text)))
unfolding action_at
one text at a is =
    let below = slice_get_within text at a is in
    rw (le-leb at (length text) (omega (arith, below)))
    (ap (λ (bytes : List ℕ). instruction_in (parts_at (take 15 bytes))) (from text at a is))

two : (text : List ℕ) (at a b : ℕ) → slice_get text at ≡ Some a → slice_get text (at + 1) ≡ Some b
    → action_at text at ≡ instruction_in (parts_at (a ∷ b ∷ take 13 (drop (suc (suc at)) text)))
two text at a b is after =
    let next : at + 1 ≡ suc at = omega arith in
    one text at a is
    ∙ ap (λ (bytes : List ℕ). instruction_in (parts_at (a ∷ take 14 bytes))) (from text (suc at) b (subst (λ n. slice_get text n ≡ Some b) next after))

three : (text : List ℕ) (at a b c : ℕ) → slice_get text at ≡ Some a → slice_get text (at + 1) ≡ Some b → slice_get text (at + 2) ≡ Some c
    → action_at text at ≡ instruction_in (parts_at (a ∷ b ∷ c ∷ take 12 (drop (suc (suc (suc at))) text)))
three text at a b c is second third =
    let next : at + 2 ≡ suc (suc at) = omega arith in
    two text at a b is second
    ∙ ap (λ (bytes : List ℕ). instruction_in (parts_at (a ∷ b ∷ take 13 bytes))) (from text (suc (suc at)) c (subst (λ n. slice_get text n ≡ Some c) next third))

told : ℕ → Action → Option Instruction
told size done = Some (record { size = size; action = done })

found-by : (found : Option Instruction) (at next size : ℕ) (done : Action) → found ≡ told size done → next ≡ at + size → IsAction found at next done
unfolding told
found-by found at next size done is end = record { size = size; is = is; ends = end }

-- ---- pushes and pops

Short : (ℕ → Action) → ℕ → ℕ → Type 0
Short done opcode register = (rest : List ℕ) → instruction_in (parts_at ((opcode + register) ∷ rest)) ≡ told 1 (done register)

Long : (ℕ → Action) → ℕ → ℕ → ℕ → Type 0
Long done opcode high low = (rest : List ℕ)
    → instruction_in (parts_at ((0x40 + high) ∷ (opcode + low) ∷ rest)) ≡ told 2 (done (low + 8 * high))

pushed : ℕ → Action
pushed register = action.Push (source.Operand (register_of register))

popped : ℕ → Action
popped register = action.Pop (register_of register)

push-short : (register : ℕ) → register < 8 → Short pushed 0x50 register
unfolding Short pushed plain_parts described writes_of written_row_of one_byte row_of told
push-short register below =
    cases-8 (Short pushed 0x50)
    (λ rest. ap instruction_in (bare-parts 0x50 rest Push refl refl refl))
    (λ rest. ap instruction_in (bare-parts 0x51 rest Push refl refl refl))
    (λ rest. ap instruction_in (bare-parts 0x52 rest Push refl refl refl))
    (λ rest. ap instruction_in (bare-parts 0x53 rest Push refl refl refl))
    (λ rest. ap instruction_in (bare-parts 0x54 rest Push refl refl refl))
    (λ rest. ap instruction_in (bare-parts 0x55 rest Push refl refl refl))
    (λ rest. ap instruction_in (bare-parts 0x56 rest Push refl refl refl))
    (λ rest. ap instruction_in (bare-parts 0x57 rest Push refl refl refl))
    register below

push-long : (low high : ℕ) → low < 8 → high < 2 → Long pushed 0x50 high low
unfolding Long pushed plain_parts described writes_of written_row_of one_byte row_of told
push-long low zero below fits =
    cases-8 (Long pushed 0x50 0)
    (λ rest. ap instruction_in (rex-bare-parts 0x40 0x50 rest Push refl refl refl))
    (λ rest. ap instruction_in (rex-bare-parts 0x40 0x51 rest Push refl refl refl))
    (λ rest. ap instruction_in (rex-bare-parts 0x40 0x52 rest Push refl refl refl))
    (λ rest. ap instruction_in (rex-bare-parts 0x40 0x53 rest Push refl refl refl))
    (λ rest. ap instruction_in (rex-bare-parts 0x40 0x54 rest Push refl refl refl))
    (λ rest. ap instruction_in (rex-bare-parts 0x40 0x55 rest Push refl refl refl))
    (λ rest. ap instruction_in (rex-bare-parts 0x40 0x56 rest Push refl refl refl))
    (λ rest. ap instruction_in (rex-bare-parts 0x40 0x57 rest Push refl refl refl))
    low below
push-long low (suc zero) below fits =
    cases-8 (Long pushed 0x50 1)
    (λ rest. ap instruction_in (rex-bare-parts 0x41 0x50 rest Push refl refl refl))
    (λ rest. ap instruction_in (rex-bare-parts 0x41 0x51 rest Push refl refl refl))
    (λ rest. ap instruction_in (rex-bare-parts 0x41 0x52 rest Push refl refl refl))
    (λ rest. ap instruction_in (rex-bare-parts 0x41 0x53 rest Push refl refl refl))
    (λ rest. ap instruction_in (rex-bare-parts 0x41 0x54 rest Push refl refl refl))
    (λ rest. ap instruction_in (rex-bare-parts 0x41 0x55 rest Push refl refl refl))
    (λ rest. ap instruction_in (rex-bare-parts 0x41 0x56 rest Push refl refl refl))
    (λ rest. ap instruction_in (rex-bare-parts 0x41 0x57 rest Push refl refl refl))
    low below
push-long low (suc (suc high)) below fits = absurd (omega (arith, fits))

pop-short : (register : ℕ) → register < 8 → Short popped 0x58 register
unfolding Short popped plain_parts described writes_of written_row_of one_byte row_of told
pop-short register below =
    cases-8 (Short popped 0x58)
    (λ rest. ap instruction_in (bare-parts 0x58 rest (Pop OpcodeRegister) refl refl refl))
    (λ rest. ap instruction_in (bare-parts 0x59 rest (Pop OpcodeRegister) refl refl refl))
    (λ rest. ap instruction_in (bare-parts 0x5A rest (Pop OpcodeRegister) refl refl refl))
    (λ rest. ap instruction_in (bare-parts 0x5B rest (Pop OpcodeRegister) refl refl refl))
    (λ rest. ap instruction_in (bare-parts 0x5C rest (Pop OpcodeRegister) refl refl refl))
    (λ rest. ap instruction_in (bare-parts 0x5D rest (Pop OpcodeRegister) refl refl refl))
    (λ rest. ap instruction_in (bare-parts 0x5E rest (Pop OpcodeRegister) refl refl refl))
    (λ rest. ap instruction_in (bare-parts 0x5F rest (Pop OpcodeRegister) refl refl refl))
    register below

pop-long : (low high : ℕ) → low < 8 → high < 2 → Long popped 0x58 high low
unfolding Long popped plain_parts described writes_of written_row_of one_byte row_of told
pop-long low zero below fits =
    cases-8 (Long popped 0x58 0)
    (λ rest. ap instruction_in (rex-bare-parts 0x40 0x58 rest (Pop OpcodeRegister) refl refl refl))
    (λ rest. ap instruction_in (rex-bare-parts 0x40 0x59 rest (Pop OpcodeRegister) refl refl refl))
    (λ rest. ap instruction_in (rex-bare-parts 0x40 0x5A rest (Pop OpcodeRegister) refl refl refl))
    (λ rest. ap instruction_in (rex-bare-parts 0x40 0x5B rest (Pop OpcodeRegister) refl refl refl))
    (λ rest. ap instruction_in (rex-bare-parts 0x40 0x5C rest (Pop OpcodeRegister) refl refl refl))
    (λ rest. ap instruction_in (rex-bare-parts 0x40 0x5D rest (Pop OpcodeRegister) refl refl refl))
    (λ rest. ap instruction_in (rex-bare-parts 0x40 0x5E rest (Pop OpcodeRegister) refl refl refl))
    (λ rest. ap instruction_in (rex-bare-parts 0x40 0x5F rest (Pop OpcodeRegister) refl refl refl))
    low below
pop-long low (suc zero) below fits =
    cases-8 (Long popped 0x58 1)
    (λ rest. ap instruction_in (rex-bare-parts 0x41 0x58 rest (Pop OpcodeRegister) refl refl refl))
    (λ rest. ap instruction_in (rex-bare-parts 0x41 0x59 rest (Pop OpcodeRegister) refl refl refl))
    (λ rest. ap instruction_in (rex-bare-parts 0x41 0x5A rest (Pop OpcodeRegister) refl refl refl))
    (λ rest. ap instruction_in (rex-bare-parts 0x41 0x5B rest (Pop OpcodeRegister) refl refl refl))
    (λ rest. ap instruction_in (rex-bare-parts 0x41 0x5C rest (Pop OpcodeRegister) refl refl refl))
    (λ rest. ap instruction_in (rex-bare-parts 0x41 0x5D rest (Pop OpcodeRegister) refl refl refl))
    (λ rest. ap instruction_in (rex-bare-parts 0x41 0x5E rest (Pop OpcodeRegister) refl refl refl))
    (λ rest. ap instruction_in (rex-bare-parts 0x41 0x5F rest (Pop OpcodeRegister) refl refl refl))
    low below
pop-long low (suc (suc high)) below fits = absurd (omega (arith, fits))

-- ---- moves

moved : ℕ → ℕ → Action
moved from_register to = action.Move (register_of to) (source.Operand (register_of from_register)) Eight

Move : ℕ → ℕ → Type 0
Move from_register to = (rest : List ℕ)
    → instruction_in (parts_at (0x48 ∷ 0x89 ∷ (0xC0 + 8 * from_register + to) ∷ rest)) ≡ told 3 (moved from_register to)

move-0 : (to : ℕ) → to < 8 → Move 0 to
unfolding Move moved move-parts register-address described writes_of written_row_of told
move-0 to below =
    cases-8 (Move 0)
    (λ rest. ap instruction_in (move-has-parts 0xC0 rest refl refl))
    (λ rest. ap instruction_in (move-has-parts 0xC1 rest refl refl))
    (λ rest. ap instruction_in (move-has-parts 0xC2 rest refl refl))
    (λ rest. ap instruction_in (move-has-parts 0xC3 rest refl refl))
    (λ rest. ap instruction_in (move-has-parts 0xC4 rest refl refl))
    (λ rest. ap instruction_in (move-has-parts 0xC5 rest refl refl))
    (λ rest. ap instruction_in (move-has-parts 0xC6 rest refl refl))
    (λ rest. ap instruction_in (move-has-parts 0xC7 rest refl refl))
    to below

move-1 : (to : ℕ) → to < 8 → Move 1 to
unfolding Move moved move-parts register-address described writes_of written_row_of told
move-1 to below =
    cases-8 (Move 1)
    (λ rest. ap instruction_in (move-has-parts 0xC8 rest refl refl))
    (λ rest. ap instruction_in (move-has-parts 0xC9 rest refl refl))
    (λ rest. ap instruction_in (move-has-parts 0xCA rest refl refl))
    (λ rest. ap instruction_in (move-has-parts 0xCB rest refl refl))
    (λ rest. ap instruction_in (move-has-parts 0xCC rest refl refl))
    (λ rest. ap instruction_in (move-has-parts 0xCD rest refl refl))
    (λ rest. ap instruction_in (move-has-parts 0xCE rest refl refl))
    (λ rest. ap instruction_in (move-has-parts 0xCF rest refl refl))
    to below

move-2 : (to : ℕ) → to < 8 → Move 2 to
unfolding Move moved move-parts register-address described writes_of written_row_of told
move-2 to below =
    cases-8 (Move 2)
    (λ rest. ap instruction_in (move-has-parts 0xD0 rest refl refl))
    (λ rest. ap instruction_in (move-has-parts 0xD1 rest refl refl))
    (λ rest. ap instruction_in (move-has-parts 0xD2 rest refl refl))
    (λ rest. ap instruction_in (move-has-parts 0xD3 rest refl refl))
    (λ rest. ap instruction_in (move-has-parts 0xD4 rest refl refl))
    (λ rest. ap instruction_in (move-has-parts 0xD5 rest refl refl))
    (λ rest. ap instruction_in (move-has-parts 0xD6 rest refl refl))
    (λ rest. ap instruction_in (move-has-parts 0xD7 rest refl refl))
    to below

move-3 : (to : ℕ) → to < 8 → Move 3 to
unfolding Move moved move-parts register-address described writes_of written_row_of told
move-3 to below =
    cases-8 (Move 3)
    (λ rest. ap instruction_in (move-has-parts 0xD8 rest refl refl))
    (λ rest. ap instruction_in (move-has-parts 0xD9 rest refl refl))
    (λ rest. ap instruction_in (move-has-parts 0xDA rest refl refl))
    (λ rest. ap instruction_in (move-has-parts 0xDB rest refl refl))
    (λ rest. ap instruction_in (move-has-parts 0xDC rest refl refl))
    (λ rest. ap instruction_in (move-has-parts 0xDD rest refl refl))
    (λ rest. ap instruction_in (move-has-parts 0xDE rest refl refl))
    (λ rest. ap instruction_in (move-has-parts 0xDF rest refl refl))
    to below

move-4 : (to : ℕ) → to < 8 → Move 4 to
unfolding Move moved move-parts register-address described writes_of written_row_of told
move-4 to below =
    cases-8 (Move 4)
    (λ rest. ap instruction_in (move-has-parts 0xE0 rest refl refl))
    (λ rest. ap instruction_in (move-has-parts 0xE1 rest refl refl))
    (λ rest. ap instruction_in (move-has-parts 0xE2 rest refl refl))
    (λ rest. ap instruction_in (move-has-parts 0xE3 rest refl refl))
    (λ rest. ap instruction_in (move-has-parts 0xE4 rest refl refl))
    (λ rest. ap instruction_in (move-has-parts 0xE5 rest refl refl))
    (λ rest. ap instruction_in (move-has-parts 0xE6 rest refl refl))
    (λ rest. ap instruction_in (move-has-parts 0xE7 rest refl refl))
    to below

move-5 : (to : ℕ) → to < 8 → Move 5 to
unfolding Move moved move-parts register-address described writes_of written_row_of told
move-5 to below =
    cases-8 (Move 5)
    (λ rest. ap instruction_in (move-has-parts 0xE8 rest refl refl))
    (λ rest. ap instruction_in (move-has-parts 0xE9 rest refl refl))
    (λ rest. ap instruction_in (move-has-parts 0xEA rest refl refl))
    (λ rest. ap instruction_in (move-has-parts 0xEB rest refl refl))
    (λ rest. ap instruction_in (move-has-parts 0xEC rest refl refl))
    (λ rest. ap instruction_in (move-has-parts 0xED rest refl refl))
    (λ rest. ap instruction_in (move-has-parts 0xEE rest refl refl))
    (λ rest. ap instruction_in (move-has-parts 0xEF rest refl refl))
    to below

move-6 : (to : ℕ) → to < 8 → Move 6 to
unfolding Move moved move-parts register-address described writes_of written_row_of told
move-6 to below =
    cases-8 (Move 6)
    (λ rest. ap instruction_in (move-has-parts 0xF0 rest refl refl))
    (λ rest. ap instruction_in (move-has-parts 0xF1 rest refl refl))
    (λ rest. ap instruction_in (move-has-parts 0xF2 rest refl refl))
    (λ rest. ap instruction_in (move-has-parts 0xF3 rest refl refl))
    (λ rest. ap instruction_in (move-has-parts 0xF4 rest refl refl))
    (λ rest. ap instruction_in (move-has-parts 0xF5 rest refl refl))
    (λ rest. ap instruction_in (move-has-parts 0xF6 rest refl refl))
    (λ rest. ap instruction_in (move-has-parts 0xF7 rest refl refl))
    to below

move-7 : (to : ℕ) → to < 8 → Move 7 to
unfolding Move moved move-parts register-address described writes_of written_row_of told
move-7 to below =
    cases-8 (Move 7)
    (λ rest. ap instruction_in (move-has-parts 0xF8 rest refl refl))
    (λ rest. ap instruction_in (move-has-parts 0xF9 rest refl refl))
    (λ rest. ap instruction_in (move-has-parts 0xFA rest refl refl))
    (λ rest. ap instruction_in (move-has-parts 0xFB rest refl refl))
    (λ rest. ap instruction_in (move-has-parts 0xFC rest refl refl))
    (λ rest. ap instruction_in (move-has-parts 0xFD rest refl refl))
    (λ rest. ap instruction_in (move-has-parts 0xFE rest refl refl))
    (λ rest. ap instruction_in (move-has-parts 0xFF rest refl refl))
    to below

move-any : (from_register to : ℕ) → from_register < 8 → to < 8 → Move from_register to
move-any from_register to fits below =
    cases-8 (λ s. Move s to) (move-0 to below) (move-1 to below) (move-2 to below) (move-3 to below) (move-4 to below)
    (move-5 to below) (move-6 to below) (move-7 to below) from_register fits

-- ---- all of them

return-is : (rest : List ℕ) → instruction_in (parts_at (0xC3 ∷ rest)) ≡ told 1 (action.Return 0)
unfolding plain_parts described writes_of written_row_of one_byte row_of told
return-is rest = ap instruction_in (bare-parts 0xC3 rest Return refl refl refl)

leave-is : (rest : List ℕ) → instruction_in (parts_at (0xC9 ∷ rest)) ≡ told 1 action.Leave
unfolding plain_parts described writes_of written_row_of one_byte row_of told
leave-is rest = ap instruction_in (bare-parts 0xC9 rest Leave refl refl refl)

pushes : (text : List ℕ) (at next register : ℕ) → machine.IsPush text at next register
    → IsAction (action_at text at) at next (pushed register)
unfolding Short Long
pushes text at next register (machine.short fits byte end) =
    found-by (action_at text at) at next 1 (pushed register)
    (one text at (0x50 + register) byte ∙ push-short register fits (take 14 (drop (suc at) text))) end
pushes text at next register (machine.long low high below fits rex byte end number) =
    found-by (action_at text at) at next 2 (pushed register)
    (two text at (0x40 + high) (0x50 + low) rex byte
    ∙ (push-long low high below fits (take 13 (drop (suc (suc at)) text)) ∙ ap (λ (r : ℕ). told 2 (pushed r)) (sym number))) end

pops : (text : List ℕ) (at next register : ℕ) → machine.IsPop text at next register
    → IsAction (action_at text at) at next (popped register)
unfolding Short Long
pops text at next register (machine.short fits byte end) =
    found-by (action_at text at) at next 1 (popped register)
    (one text at (0x58 + register) byte ∙ pop-short register fits (take 14 (drop (suc at) text))) end
pops text at next register (machine.long low high below fits rex byte end number) =
    found-by (action_at text at) at next 2 (popped register)
    (two text at (0x40 + high) (0x58 + low) rex byte
    ∙ (pop-long low high below fits (take 13 (drop (suc (suc at)) text)) ∙ ap (λ (r : ℕ). told 2 (popped r)) (sym number))) end

moves : (text : List ℕ) (at next from_register to : ℕ) → machine.IsMove text at next from_register to
    → IsAction (action_at text at) at next (moved from_register to)
unfolding Move
moves text at next from_register to m =
    found-by (action_at text at) at next 3 (moved from_register to)
    (three text at 0x48 0x89 (0xC0 + 8 * from_register + to) m.rex m.opcode m.registers
    ∙ move-any from_register to m.source_fits m.destination_fits (take 12 (drop (suc (suc (suc at))) text))) m.next_is

-- ---- forms that the machine lacks

begun : (text : List ℕ) (at first : ℕ) (bytes : List ℕ) → AreAt text at (first ∷ bytes)
    → action_at text at ≡ instruction_in (parts_at (take 15 ((first ∷ bytes) ++ drop (at + length (first ∷ bytes)) text)))
unfolding action_at
begun text at first bytes are =
    let below = slice_get_within text at first are.0 in
    rw (le-leb at (length text) (omega (arith, below)))
    (ap (λ (x : List ℕ). instruction_in (parts_at (take 15 x))) (taken text at (first ∷ bytes) are))

add-byte : (a : ℕ) (rest : List ℕ)
    → instruction_in (parts_at (0x48 ∷ 0x83 ∷ 0xC4 ∷ a ∷ rest)) ≡ told 4 (Computes Add (cast_signed w8 a))
unfolding register-address described writes_of written_row_of told
add-byte a rest = ap instruction_in (sum-byte-parts 0xC4 a rest refl refl)

add-long : (a b c d : ℕ) (rest : List ℕ)
    → instruction_in (parts_at (0x48 ∷ 0x81 ∷ 0xC4 ∷ a ∷ b ∷ c ∷ d ∷ rest)) ≡ told 7 (Computes Add (signed_of a b c d))
unfolding register-address described writes_of written_row_of told
add-long a b c d rest = ap instruction_in (sum-long-parts 0xC4 a b c d rest refl refl)

sub-byte : (a : ℕ) (rest : List ℕ)
    → instruction_in (parts_at (0x48 ∷ 0x83 ∷ 0xEC ∷ a ∷ rest)) ≡ told 4 (Computes Subtract (cast_signed w8 a))
unfolding register-address described writes_of written_row_of told
sub-byte a rest = ap instruction_in (sum-byte-parts 0xEC a rest refl refl)

sub-long : (a b c d : ℕ) (rest : List ℕ)
    → instruction_in (parts_at (0x48 ∷ 0x81 ∷ 0xEC ∷ a ∷ b ∷ c ∷ d ∷ rest)) ≡ told 7 (Computes Subtract (signed_of a b c d))
unfolding register-address described writes_of written_row_of told
sub-long a b c d rest = ap instruction_in (sum-long-parts 0xEC a b c d rest refl refl)

lea-byte : (a : ℕ) (rest : List ℕ)
    → instruction_in (parts_at (0x48 ∷ 0x8D ∷ 0x64 ∷ 0x24 ∷ a ∷ rest)) ≡ told 5 (Loads (cast_signed w8 a))
unfolding load-parts signed_at described writes_of written_row_of told
lea-byte a rest = ap instruction_in (lea-parts 0x64 (a ∷ rest) (cast_signed w8 a) 5 refl (rw (u8-fifth 0x48 0x8D 0x64 0x24 a rest) refl))

lea-long : (a b c d : ℕ) (rest : List ℕ)
    → instruction_in (parts_at (0x48 ∷ 0x8D ∷ 0xA4 ∷ 0x24 ∷ a ∷ b ∷ c ∷ d ∷ rest)) ≡ told 8 (Loads (signed_of a b c d))
unfolding load-parts described writes_of written_row_of told
lea-long a b c d rest =
    ap instruction_in
    (lea-parts 0xA4 (a ∷ b ∷ c ∷ d ∷ rest) (signed_of a b c d) 8 refl
    (four-bytes (0x48 ∷ 0x8D ∷ 0xA4 ∷ 0x24 ∷ a ∷ b ∷ c ∷ d ∷ rest) 4 a b c d (omega arith) refl refl refl refl))

jump-byte : (a : ℕ) (rest : List ℕ)
    → instruction_in (parts_at (0xEB ∷ a ∷ rest)) ≡ told 2 (action.Jump (source.Address (after_next (cast_signed w8 a))))
unfolding described writes_of written_row_of told
jump-byte a rest = ap instruction_in (jump-byte-parts a rest)

jump-long : (a b c d : ℕ) (rest : List ℕ)
    → instruction_in (parts_at (0xE9 ∷ a ∷ b ∷ c ∷ d ∷ rest)) ≡ told 5 (action.Jump (source.Address (after_next (signed_of a b c d))))
unfolding described writes_of written_row_of told
jump-long a b c d rest = ap instruction_in (jump-long-parts a b c d rest)

call-long : (a b c d : ℕ) (rest : List ℕ)
    → instruction_in (parts_at (0xE8 ∷ a ∷ b ∷ c ∷ d ∷ rest)) ≡ told 5 (action.Call (source.Address (after_next (signed_of a b c d))))
unfolding described writes_of written_row_of told
call-long a b c d rest = ap instruction_in (call-long-parts a b c d rest)

pub as-machine : (text : List ℕ) (at : ℕ) → IsActionAsMachine text at (action_at text at)
unfolding pushed popped moved
as-machine text at = record {
  pushes = pushes text at;
  pops = pops text at;
  moves = moves text at;
  returns = λ byte. found-by (action_at text at) at (at + 1) 1 (action.Return 0) (one text at 0xC3 byte ∙ return-is (take 14 (drop (suc at) text))) refl;
  leave = λ byte. found-by (action_at text at) at (at + 1) 1 action.Leave (one text at 0xC9 byte ∙ leave-is (take 14 (drop (suc at) text))) refl;
  add_byte = λ a are. found-by (action_at text at) at (at + 4) 4 (Computes Add (cast_signed w8 a)) (begun text at 0x48 (0x83 ∷ 0xC4 ∷ a ∷ []) are ∙ add-byte a (take 11 (drop (at + 4) text))) refl;
  sub_byte = λ a are. found-by (action_at text at) at (at + 4) 4 (Computes Subtract (cast_signed w8 a)) (begun text at 0x48 (0x83 ∷ 0xEC ∷ a ∷ []) are ∙ sub-byte a (take 11 (drop (at + 4) text))) refl;
  lea_byte = λ a are. found-by (action_at text at) at (at + 5) 5 (Loads (cast_signed w8 a)) (begun text at 0x48 (0x8D ∷ 0x64 ∷ 0x24 ∷ a ∷ []) are ∙ lea-byte a (take 10 (drop (at + 5) text))) refl;
  add_long = λ a b c d are. found-by (action_at text at) at (at + 7) 7 (Computes Add (signed_of a b c d)) (begun text at 0x48 (0x81 ∷ 0xC4 ∷ a ∷ b ∷ c ∷ d ∷ []) are ∙ add-long a b c d (take 8 (drop (at + 7) text))) refl;
  sub_long = λ a b c d are. found-by (action_at text at) at (at + 7) 7 (Computes Subtract (signed_of a b c d)) (begun text at 0x48 (0x81 ∷ 0xEC ∷ a ∷ b ∷ c ∷ d ∷ []) are ∙ sub-long a b c d (take 8 (drop (at + 7) text))) refl;
  lea_long = λ a b c d are. found-by (action_at text at) at (at + 8) 8 (Loads (signed_of a b c d)) (begun text at 0x48 (0x8D ∷ 0xA4 ∷ 0x24 ∷ a ∷ b ∷ c ∷ d ∷ []) are ∙ lea-long a b c d (take 7 (drop (at + 8) text))) refl;
  jump_byte = λ a are. found-by (action_at text at) at (at + 2) 2 (action.Jump (source.Address (after_next (cast_signed w8 a)))) (begun text at 0xEB (a ∷ []) are ∙ jump-byte a (take 13 (drop (at + 2) text))) refl;
  jump_long = λ a b c d are. found-by (action_at text at) at (at + 5) 5 (action.Jump (source.Address (after_next (signed_of a b c d)))) (begun text at 0xE9 (a ∷ b ∷ c ∷ d ∷ []) are ∙ jump-long a b c d (take 10 (drop (at + 5) text))) refl;
  call_long = λ a b c d are. found-by (action_at text at) at (at + 5) 5 (action.Call (source.Address (after_next (signed_of a b c d)))) (begun text at 0xE8 (a ∷ b ∷ c ∷ d ∷ []) are ∙ call-long a b c d (take 10 (drop (at + 5) text))) refl;
}
