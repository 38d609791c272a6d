-- The actions of an instruction are those of the machine by which the analysis of prologues and epilogues is judged. They share
-- no word: the machine reads fields of a word, actions come by the masks of the encodings.
use Rattle.std.specs.Prelude.{◌≡◌, ◌≢◌, ℕ, ◌*◌, ◌^◌, ℤ, pos, ◌+ℤ◌, ◌-ℤ◌, ◌*ℤ◌, false, true, ◌==◌, if◌then◌else◌, List, Option, Some, None}
use Rattle.std.specs.Int.{cast_unsigned, w64}
use Rattle.framehop_analysis.specs.Aarch64.Machine as machine
use Rattle.framehop_analysis.specs.Aarch64.Machine.{field, sign_extended}
use Rattle.framehop_code.specs.declared.aarch64.action.Actions.{Actions}
use Rattle.framehop_code.specs.declared.action.Action.{Action}
use Rattle.framehop_code.specs.declared.action.Action.TheVariants.{Branch, BranchWithLink, Forget, Jump, Move, ReturnTo}
use Rattle.framehop_code.specs.declared.action.Address.{Address}
use Rattle.framehop_code.specs.declared.action.Operand.{Operand}
use Rattle.framehop_code.specs.declared.action.Operand.TheVariants as operand
use Rattle.framehop_code.specs.declared.action.Place.TheVariants.{At}
use Rattle.framehop_code.specs.declared.action.Source.{Source}
use Rattle.framehop_code.specs.declared.action.Source.TheVariants as source
use Rattle.framehop_code.specs.declared.action.Width.TheVariants.{Eight}

-- a register of the machine as an operand: the DWARF numbers are the machine's, and 31 is sp
abbrev pub register_of : ℕ → Operand
register_of register = operand.Register (record { 0 = register })

-- the value of a register, of which 31 is the zero register
abbrev pub general : ℕ → Source
general register = if register == 31 then source.Immediate 0 else source.Operand (register_of register)

-- a number of any sign as the 64 bits that are added
abbrev pub word_of : ℤ → ℕ
word_of number = cast_unsigned w64 number

-- the address so many bytes above sp, and so many after the next instruction
abbrev pub above_sp : ℤ → Address
above_sp bytes = record { base = Some (record { 0 = 31 }); index = None; displacement = word_of bytes; from_next = false }

abbrev pub after_next : ℤ → Address
after_next bytes = record { base = None; index = None; displacement = word_of bytes; from_next = true }

-- ---- actions

-- an instruction that does one thing
abbrev pub Only : Action → Option Actions
Only action = Some (record { first = action; second = None; third = None })

abbrev pub Idles : Action
Idles = Forget (record { 0 = 0 }) None

-- sp is moved by so many bytes
abbrev pub MovesSp : ℤ → Action
MovesSp bytes = Move (register_of 31) (source.Address (above_sp bytes)) Eight

-- a register is stored so many bytes above sp, or loaded from there; the zero register is not written
abbrev pub Stores : ℕ → ℤ → Action
Stores register bytes = Move (operand.Memory (At (above_sp bytes))) (general register) Eight

abbrev pub Loads : ℕ → ℤ → Action
Loads register bytes =
    if register == 31 then Idles else Move (register_of register) (source.Operand (operand.Memory (At (above_sp bytes)))) Eight

-- how far above sp a pair access is: a post-indexed one is at sp; and how sp is moved after it
abbrev pub access_bytes : machine.Access → ℤ
access_bytes a = if a.mode == 1 then pos 0 else a.offset

abbrev pub moved_after : machine.Access → Option Action
moved_after a = if a.mode == 2 then None else Some (MovesSp a.offset)

-- two registers are accessed, and then sp is moved
abbrev pub Both : (ℕ → ℤ → Action) → machine.Access → Option Actions
Both accesses a = Some (record {
  first = accesses a.first (access_bytes a);
  second = Some (accesses a.second (access_bytes a +ℤ pos 8));
  third = moved_after a;
})

-- the distance of B and BL, which counts words from the instruction
abbrev pub distance : ℕ → ℤ
distance word = sign_extended 26 (field word 25 0) *ℤ pos 4 -ℤ pos 4

-- The instruction with that word has the actions of the machine: pairs by sp, of which a load has two registers; ADD and SUB of
-- sp; those that sign and authenticate lr, which keep it; RET and RETAB; and those that change neither sp, fp, lr nor the stack. BL
-- has one too.
pub record HasActions (found : Option Actions) (word : ℕ) : Type 0 where
  pub stores : (a : machine.Access) → machine.IsPair 0 word a → field word 30 30 ≡ 0 → found ≡ Both Stores a
  pub loads : (a : machine.Access) → machine.IsPair 1 word a → field word 30 30 ≡ 0 → a.first ≢ a.second → found ≡ Both Loads a
  pub adds : (bytes : ℕ) → machine.IsAddSub 0 word bytes → found ≡ Only (MovesSp (pos bytes))
  pub subs : (bytes : ℕ) → machine.IsAddSub 1 word bytes → found ≡ Only (MovesSp (pos 0 -ℤ pos bytes))
  pub signs : machine.IsSigning word → found ≡ Only Idles
  pub ret : word ≡ 0xD65F03C0 → found ≡ Only (ReturnTo (record { 0 = 30 }))
  pub retab : word ≡ 0xD65F0FFF → found ≡ Only (ReturnTo (record { 0 = 30 }))
  pub b : field word 31 26 ≡ 5 → found ≡ Only (Jump (source.Address (after_next (distance word))))
  pub bl : field word 31 26 ≡ 0x25 → found ≡ Only (BranchWithLink (source.Address (after_next (distance word))))
  pub br : field word 31 10 ≡ 0x3587C0 → field word 4 0 ≡ 0 → found ≡ Only (Jump (general (field word 9 5)))
  pub braa : field word 31 10 ≡ 0x35C7C2 → field word 4 0 ≡ 16 → found ≡ Only (Jump (general (field word 9 5)))
  pub movz : field word 31 23 ≡ 0x1A5 → field word 4 0 ≡ 16
      → found ≡ Only (Move (register_of 16) (source.Immediate (field word 20 5 * 2 ^ (16 * field word 22 21))) Eight)
  pub eor : word ≡ 0xCA1E07D0 → found ≡ Only (Forget (record { 0 = 2 ^ 16 }) None)
  pub tbz : word ≡ 0xB6F00050 → found ≡ Only (Branch (after_next (pos 4)))
  pub brk : word ≡ 0xD4388E20 → found ≡ None

-- each instruction at an offset has them
abbrev pub AreActionsAsMachine : List ℕ → ℕ → Option Actions → Type 0
AreActionsAsMachine bytes at found = (word : ℕ) → machine.IsInstructionAt bytes at word → HasActions found word
