-- What ended a process, as JSON.
use Rattle.std.specs.Prelude.{ℕ, List, [], ◌∷◌, codes, Option, Some, None, if◌then◌else◌}
use Rattle.serde_json.specs.Data.{Data, null, string, object, member, no_members}
use Rattle.framehop_dumps.specs.Dump.{ThreadView}
use Rattle.framehop_dump_stacks.specs.Signal.{is_fault}
use Rattle.framehop_dump_stacks.specs.Text.{reason_text}
use Rattle.framehop_dumps.specs.declared.dump.Access.{Access}
use Rattle.framehop_dumps.specs.declared.dump.Cause.{Cause}
use Rattle.framehop_dumps.specs.declared.dump.Cause.TheVariants.{Signal, Exception, Other}
use Rattle.framehop_dumps.specs.declared.dump.Sent.{Sent}
use Rattle.framehop_frames.specs.JsonValues.{number_data, address_data, or_null}

-- the number of a signal, or the code of an exception
abbrev pub number_of : Cause → ℕ
number_of (Signal signal) = signal.number
number_of (Exception exception) = exception.code
number_of (Other code) = code

-- si_addr of a signal (sigaction(2)), which tells an address where the signal was sent for a fault
abbrev pub signal_address : ℕ → Option Sent → Option ℕ
signal_address signal (Some sent) = if is_fault signal sent.code then Some sent.fields else None
signal_address signal None = None

-- the address of the access that failed, or else that of the instruction (EXCEPTION_RECORD of winnt.h)
abbrev pub exception_address : ℕ → Option Access → ℕ
exception_address address (Some access) = access.address
exception_address address None = address

-- the address that a fault was at, if it is told
abbrev pub fault_address : Cause → Option ℕ
fault_address (Signal signal) = signal_address signal.number signal.sent
fault_address (Exception exception) = Some (exception_address exception.address exception.access)
fault_address (Other code) = None

-- why a thread ended its process
abbrev pub cause_data : ℕ → Cause → Data
cause_data tid cause = object (
    member (codes "address") (or_null address_data (fault_address cause)) (
    member (codes "number") (number_data (number_of cause)) (
    member (codes "reason") (string (reason_text cause)) (
    member (codes "tid") (number_data tid) no_members))))

-- of the threads of a process the first is the one that ended it, if one did
abbrev pub crash_data : List ThreadView → Data
crash_data [] = null
crash_data (thread ∷ others) = or_null (cause_data thread.tid) thread.cause
