-- A caller by guess: what tells that a word of a stack is the return address of a call.
use Rattle.std.specs.Prelude.{ℕ, ◌==◌, Bool, true, false, not, ◌&&◌, nat_lt, if◌then◌else◌, Option, Some, None, Result, Ok, Err}
use Rattle.framehop_core.specs.declared.error.Error.{Error}
use Rattle.framehop_backtrace.specs.Code.{Code, is_in_code, is_unread}
use Rattle.framehop_backtrace.specs.Machine.{Machine}
use Rattle.framehop_backtrace.specs.declared.guess.Evidence.{Evidence}
use Rattle.framehop_backtrace.specs.declared.guess.Evidence.TheVariants.{NoCall, PossibleCall, Call}

-- An address in no code or after no call is not taken. A call that leads to the function's start tells most: a call that
-- leads elsewhere may be followed by a jump to the function.
abbrev pub rank_of : Evidence → ℕ
rank_of NoCall = 0
rank_of PossibleCall = 1
rank_of Call = 2

-- the first tells more
abbrev pub is_better : Evidence → Evidence → Bool
is_better first second = nat_lt (rank_of second) (rank_of first)

-- it is taken, unless there is better evidence for another address
abbrev pub is_taken : Evidence → Bool
is_taken evidence = is_better evidence NoCall

-- The frame pointer's address is preferred to a guess where it has better evidence, or the same in a function that has set
-- its frame pointer (`true`).
abbrev pub prefers_frame_pointer : Bool → Evidence → Evidence → Bool
prefers_frame_pointer true followed guess = is_taken followed && not (is_better guess followed)
prefers_frame_pointer false followed guess = is_better followed guess

-- a call, by where the function starts and by where the call leads, if these are known
abbrev pub evidence_of_call : Option ℕ → Option ℕ → Evidence
evidence_of_call (Some start) (Some target) = if target == start then Call else PossibleCall
evidence_of_call (Some start) None = PossibleCall
evidence_of_call None target = PossibleCall

module _ {Regs : Type 0} (machine : Machine Regs) (code : Code) where
  -- what the code before an address tells: bytes that nobody has are no evidence against a call
  abbrev pub evidence_at : Option ℕ → ℕ → Evidence
  evidence_at start address =
      if is_in_code code address then
      (if machine.is_after_call code.bytes address then evidence_of_call start (machine.call_target code.bytes address)
      else (if is_unread code address then PossibleCall else NoCall))
      else NoCall

  -- the same of what a step returns
  abbrev pub evidence_of : Option ℕ → Result (Option ℕ) Error → Evidence
  evidence_of start (Ok (Some address)) = evidence_at start address
  evidence_of start (Ok None) = NoCall
  evidence_of start (Err error) = NoCall
