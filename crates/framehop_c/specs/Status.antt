-- The numbers by which C is told what a call returned: below 0 a refusal, else how the call ended.
use Rattle.std.specs.Prelude.{ℕ, ℤ, pos, negsuc, Option, Some, None, Result, Ok, Err}
use Rattle.framehop.specs.Walk.{End, at_root, at_refusal, at_limit}
use Rattle.framehop.specs.SessionView.{end_of}
use Rattle.framehop_lent.specs.declared.walk.WalkStop.{WalkStop}
use Rattle.framehop_lent.specs.declared.walk.WalkStop.TheVariants.{Ended, Missing}
use Rattle.framehop_core.specs.declared.error.Error.{Error}
use Rattle.framehop_core.specs.declared.error.Error.TheVariants.{CouldNotReadStack, FramepointerUnwindingMovedBackwards, DidNotAdvance, IntegerOverflow, ReturnAddressIsNull, OutOfMemory}
use Rattle.framehop.specs.declared.modules.ModuleListError.{ModuleListError}
use Rattle.framehop.specs.declared.modules.ModuleListError.TheVariants.{OutOfMemory as NoMemory, GenerationsExhausted}

-- 0, 1, 2 and 3; `negsuc n` is -(n + 1)
abbrev pub ok : ℤ
ok = pos 0

abbrev pub frames_full : ℤ
frames_full = pos 1

abbrev pub end : ℤ
end = pos 2

abbrev pub missing_word : ℤ
missing_word = pos 3

-- -1, -2 and -3
abbrev pub out_of_memory : ℤ
out_of_memory = negsuc 0

abbrev pub generations_exhausted : ℤ
generations_exhausted = negsuc 1

abbrev pub wrong_handle : ℤ
wrong_handle = negsuc 2

-- -10 and -14
abbrev pub could_not_read_stack : ℤ
could_not_read_stack = negsuc 9

abbrev pub return_address_is_null : ℤ
return_address_is_null = negsuc 13

-- why the modules were not changed
abbrev pub status_of_list_error : ModuleListError → ℤ
status_of_list_error NoMemory = out_of_memory
status_of_list_error GenerationsExhausted = generations_exhausted

-- why a frame could not be unwound: -10 to -14, or out of memory
abbrev pub status_of_error : Error → ℤ
status_of_error (CouldNotReadStack _) = could_not_read_stack
status_of_error FramepointerUnwindingMovedBackwards = negsuc 10
status_of_error DidNotAdvance = negsuc 11
status_of_error IntegerOverflow = negsuc 12
status_of_error ReturnAddressIsNull = return_address_is_null
status_of_error OutOfMemory = out_of_memory

-- the address of the stack word that could not be read, or 0
abbrev pub unreadable_in : Error → ℕ
unreadable_in (CouldNotReadStack address) = address
unreadable_in FramepointerUnwindingMovedBackwards = 0
unreadable_in DidNotAdvance = 0
unreadable_in IntegerOverflow = 0
unreadable_in ReturnAddressIsNull = 0
unreadable_in OutOfMemory = 0

-- how a walk ended
abbrev pub status_of_end : End → ℤ
status_of_end at_root = end
status_of_end (at_refusal error) = status_of_error error
status_of_end at_limit = frames_full

-- the address of the word that could not be read, or 0
abbrev pub unreadable_at : End → ℕ
unreadable_at at_root = 0
unreadable_at (at_refusal error) = unreadable_in error
unreadable_at at_limit = 0

-- what a step returned: its status, the return address or 0, and the address of the word that could not be read or 0
abbrev pub status_of_answer : Result (Option ℕ) Error → ℤ
status_of_answer (Ok (Some _)) = ok
status_of_answer (Ok None) = end
status_of_answer (Err error) = status_of_error error

abbrev pub address_in : Result (Option ℕ) Error → ℕ
address_in (Ok (Some address)) = address
address_in (Ok None) = 0
address_in (Err _) = 0

abbrev pub unreadable_after : Result (Option ℕ) Error → ℕ
unreadable_after (Ok _) = 0
unreadable_after (Err error) = unreadable_in error

-- why a walk over windows has stopped: how it has ended, or the word that is missing
abbrev pub status_of_stop : WalkStop → ℤ
status_of_stop (Ended stop) = status_of_end (end_of stop)
status_of_stop (Missing _) = missing_word

-- the address of the word that could not be read or that is missing, or 0
abbrev pub unreadable_at_stop : WalkStop → ℕ
unreadable_at_stop (Ended stop) = unreadable_at (end_of stop)
unreadable_at_stop (Missing address) = address
