-- What one unwind rule does to one frame: the vocabulary of the rule tables.
-- (framehop 0.16.0, `UnwindRule::exec`: checked sums, and `CouldNotReadStack`.)
use Rattle.std.specs.Prelude.{◌≡◌, ℕ, ◌^◌, ℤ, pos, negsuc, ◌+ℤ◌, ◌*ℤ◌, if◌then◌else◌, nat_lt, Option, Some, None, IfNone, Result, Ok, Err, MatchResult}
use Rattle.framehop_core.specs.Memory.{Memory, reply}
use Rattle.framehop_core.specs.declared.error.Error.{Error}
use Rattle.framehop_core.specs.declared.error.Error.TheVariants.{CouldNotReadStack, IntegerOverflow}

-- A rule answers a return address and the caller's registers, finds the root of the stack, or is refused.
pub data Outcome (R : Type 0) : Type 0 where
  answered : ℕ → R → Outcome R
  root : Outcome R
  refused : Error → Outcome R

-- what a call that has this outcome returns
abbrev pub answer_of : {R : Type 0} → Outcome R → Result (Option ℕ) Error
answer_of (answered address _) = Ok (Some address)
answer_of root = Ok None
answer_of (refused error) = Err error

-- the registers that it leaves: the caller's where an address is answered, else those that it found
abbrev pub registers_after : {R : Type 0} → R → Outcome R → R
registers_after old (answered _ new) = new
registers_after old root = old
registers_after old (refused _) = old

-- A step of a rule that can be refused, and what follows it.
abbrev pub after : {A R : Type 0} → Result A Error → (A → Outcome R) → Outcome R
after (Ok value) next = next value
after (Err error) next = refused error

-- two such steps, one after the other
abbrev pub and_then : {A B : Type 0} → Result A Error → (A → Result B Error) → Result B Error
and_then (Ok value) next = next value
and_then (Err error) next = Err error

-- a stack pointer or stack address, computed in whole numbers: refused unless it fits 64 bits
abbrev pub address_at : ℤ → Result ℕ Error
address_at (pos address) = if nat_lt address (2 ^ 64) then Ok address else Err IntegerOverflow
address_at (negsuc _) = Err IntegerOverflow

-- what a read of the word at the address gives, by the callback's reply
abbrev pub read_of : ℕ → Result ℕ (Unit {0}) → Result ℕ Error
read_of address (Ok word) = Ok word
read_of address (Err _) = Err (CouldNotReadStack address)

-- the word that the memory has at an address of 64 bits
abbrev pub word_at : Memory → ℕ → Result ℕ Error
word_at memory address = read_of address (reply (memory address))

-- the word at an address that is computed in whole numbers
abbrev pub word_from : Memory → ℤ → Result ℕ Error
word_from memory address = and_then (address_at address) (word_at memory)

-- the address at this many bytes above a register's value
abbrev pub above : ℕ → ℕ → ℤ
above register bytes = pos register +ℤ pos bytes

-- the address at this many words of eight bytes from a register's value
abbrev pub beside : ℕ → ℤ → ℤ
beside register words = pos register +ℤ words *ℤ pos 8

-- where a call has not answered an address, the registers are as they were
abbrev pub KeptUnlessAnswered : {R : Type 0} → Result (Option ℕ) Error → R → R → Type 0
KeptUnlessAnswered result old new = MatchResult result (λ answer. IfNone answer (new ≡ old)) (λ _. new ≡ old)

-- a call has done what the outcome says
abbrev pub HasDone : {R : Type 0} → Outcome R → Result (Option ℕ) Error → R → R → Type 0
HasDone outcome result old new = (result ≡ answer_of outcome) × (new ≡ registers_after old outcome)
