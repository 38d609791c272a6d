-- The names of signals, and of why they were sent (Linux: include/uapi/asm-generic/signal.h and siginfo.h; x86 and arm64 have
-- these numbers), and what is told beside them (sigaction(2); `siginfo_layout` of kernel/signal.c). A code, si_code, is a
-- signed number of 32 bits.
use Rattle.std.specs.Prelude.{ℕ, ◌-◌, ◌%◌, List, [], ◌∷◌, ◌++◌, codes, Bool, ◌&&◌, ◌||◌, ◌==◌, nat_lt, Option, Some, None, option_map, if◌then◌else◌}
use Rattle.std.specs.Fmt.{decimal}
use Rattle.std.specs.List.{find}
use Rattle.std.specs.Option.{option_or}
use Rattle.framehop_frames.specs.Line.{hexadecimal}
use Rattle.framehop_dumps.specs.declared.dump.Sent.{Sent}
use Rattle.framehop_dumps.specs.declared.dump.Signal.{Signal}

-- the name of a number by a table
abbrev pub name_in : List (ℕ × List ℕ) → ℕ → Option (List ℕ)
name_in table n = option_map (λ row. row.1) (find (λ row. row.0 == n) table)

-- a name, or what stands for it where there is none
abbrev pub named : Option (List ℕ) → List ℕ → List ℕ
named (Some name) other = name
named None other = other

-- the signals; those of real time have no names
abbrev pub signals : List (ℕ × List ℕ)
signals =
    (1, codes "SIGHUP") ∷
    (2, codes "SIGINT") ∷
    (3, codes "SIGQUIT") ∷
    (4, codes "SIGILL") ∷
    (5, codes "SIGTRAP") ∷
    (6, codes "SIGABRT") ∷
    (7, codes "SIGBUS") ∷
    (8, codes "SIGFPE") ∷
    (9, codes "SIGKILL") ∷
    (10, codes "SIGUSR1") ∷
    (11, codes "SIGSEGV") ∷
    (12, codes "SIGUSR2") ∷
    (13, codes "SIGPIPE") ∷
    (14, codes "SIGALRM") ∷
    (15, codes "SIGTERM") ∷
    (16, codes "SIGSTKFLT") ∷
    (17, codes "SIGCHLD") ∷
    (18, codes "SIGCONT") ∷
    (19, codes "SIGSTOP") ∷
    (20, codes "SIGTSTP") ∷
    (21, codes "SIGTTIN") ∷
    (22, codes "SIGTTOU") ∷
    (23, codes "SIGURG") ∷
    (24, codes "SIGXCPU") ∷
    (25, codes "SIGXFSZ") ∷
    (26, codes "SIGVTALRM") ∷
    (27, codes "SIGPROF") ∷
    (28, codes "SIGWINCH") ∷
    (29, codes "SIGIO") ∷
    (30, codes "SIGPWR") ∷
    (31, codes "SIGSYS") ∷ []

abbrev pub signal_name : ℕ → Option (List ℕ)
signal_name signal = name_in signals signal

-- codes of any signal, among them those below 0
abbrev pub codes_of_any : List (ℕ × List ℕ)
codes_of_any =
    (0, codes "SI_USER") ∷
    (128, codes "SI_KERNEL") ∷
    (4294967295, codes "SI_QUEUE") ∷
    (4294967294, codes "SI_TIMER") ∷
    (4294967293, codes "SI_MESGQ") ∷
    (4294967292, codes "SI_ASYNCIO") ∷
    (4294967291, codes "SI_SIGIO") ∷
    (4294967290, codes "SI_TKILL") ∷
    (4294967289, codes "SI_DETHREAD") ∷
    (4294967236, codes "SI_ASYNCNL") ∷ []

-- those of SIGILL, an illegal instruction
abbrev pub illegal_codes : List (ℕ × List ℕ)
illegal_codes =
    (1, codes "ILL_ILLOPC") ∷
    (2, codes "ILL_ILLOPN") ∷
    (3, codes "ILL_ILLADR") ∷
    (4, codes "ILL_ILLTRP") ∷
    (5, codes "ILL_PRVOPC") ∷
    (6, codes "ILL_PRVREG") ∷
    (7, codes "ILL_COPROC") ∷
    (8, codes "ILL_BADSTK") ∷
    (9, codes "ILL_BADIADDR") ∷ []

-- those of SIGFPE, an arithmetic exception
abbrev pub arithmetic_codes : List (ℕ × List ℕ)
arithmetic_codes =
    (1, codes "FPE_INTDIV") ∷
    (2, codes "FPE_INTOVF") ∷
    (3, codes "FPE_FLTDIV") ∷
    (4, codes "FPE_FLTOVF") ∷
    (5, codes "FPE_FLTUND") ∷
    (6, codes "FPE_FLTRES") ∷
    (7, codes "FPE_FLTINV") ∷
    (8, codes "FPE_FLTSUB") ∷
    (14, codes "FPE_FLTUNK") ∷
    (15, codes "FPE_CONDTRAP") ∷ []

-- those of SIGSEGV, an invalid reference to memory
abbrev pub segment_codes : List (ℕ × List ℕ)
segment_codes =
    (1, codes "SEGV_MAPERR") ∷
    (2, codes "SEGV_ACCERR") ∷
    (3, codes "SEGV_BNDERR") ∷
    (4, codes "SEGV_PKUERR") ∷
    (5, codes "SEGV_ACCADI") ∷
    (6, codes "SEGV_ADIDERR") ∷
    (7, codes "SEGV_ADIPERR") ∷
    (8, codes "SEGV_MTEAERR") ∷
    (9, codes "SEGV_MTESERR") ∷
    (10, codes "SEGV_CPERR") ∷ []

-- those of SIGBUS, a bad access to memory
abbrev pub bus_codes : List (ℕ × List ℕ)
bus_codes =
    (1, codes "BUS_ADRALN") ∷
    (2, codes "BUS_ADRERR") ∷
    (3, codes "BUS_OBJERR") ∷
    (4, codes "BUS_MCEERR_AR") ∷
    (5, codes "BUS_MCEERR_AO") ∷ []

-- those of SIGTRAP
abbrev pub trap_codes : List (ℕ × List ℕ)
trap_codes =
    (1, codes "TRAP_BRKPT") ∷
    (2, codes "TRAP_TRACE") ∷
    (3, codes "TRAP_BRANCH") ∷
    (4, codes "TRAP_HWBKPT") ∷
    (5, codes "TRAP_UNK") ∷
    (6, codes "TRAP_PERF") ∷ []

-- those of SIGSYS, a bad system call
abbrev pub call_codes : List (ℕ × List ℕ)
call_codes =
    (1, codes "SYS_SECCOMP") ∷
    (2, codes "SYS_USER_DISPATCH") ∷ []

-- those of a signal
abbrev pub codes_of : ℕ → List (ℕ × List ℕ)
codes_of signal =
    if signal == 4 then illegal_codes
    else if signal == 5 then trap_codes
    else if signal == 7 then bus_codes
    else if signal == 8 then arithmetic_codes
    else if signal == 11 then segment_codes
    else if signal == 31 then call_codes
    else []

-- the name of a code
abbrev pub code_name : ℕ → ℕ → Option (List ℕ)
code_name signal code = option_or (name_in codes_of_any code) (name_in (codes_of signal) code)

-- the kernel found a fault of an instruction, and says at which address: SIGILL, SIGTRAP, SIGBUS, SIGFPE and SIGSEGV with codes
-- from 1 to below SI_KERNEL
abbrev pub is_fault : ℕ → ℕ → Bool
is_fault signal code =
    ((signal == 4) || (signal == 5) || (signal == 7) || (signal == 8) || (signal == 11)) && nat_lt 0 code && nat_lt code 128

-- a process sent the signal: SI_USER, SI_QUEUE, SI_MESGQ and SI_TKILL
abbrev pub is_sent : ℕ → Bool
is_sent code = (code == 0) || (code == 4294967295) || (code == 4294967293) || (code == 4294967290)

-- a signed number of 32 bits
abbrev pub signed : ℕ → List ℕ
signed n = if nat_lt n 2147483648 then decimal n else (codes "-" ++ decimal (4294967296 - n))

-- the signal, and why it was sent
abbrev pub number_text : ℕ → List ℕ
number_text signal = named (signal_name signal) (codes "signal " ++ decimal signal)

abbrev pub code_text : ℕ → ℕ → List ℕ
code_text signal code = named (code_name signal code) (codes "code " ++ signed code)

-- the address of the fault, or the process that sent it: the lower half of the fields
abbrev pub fields_text : ℕ → ℕ → ℕ → List ℕ
fields_text signal code fields =
    if is_fault signal code then codes " at 0x" ++ hexadecimal fields
    else if is_sent code then codes " from process " ++ decimal (fields % 4294967296)
    else []

-- in parentheses, where it is told
abbrev pub sent_text : ℕ → Option Sent → List ℕ
sent_text signal None = []
sent_text signal (Some sent) =
    codes " (" ++ code_text signal sent.code ++ fields_text signal sent.code sent.fields ++ codes ")"

abbrev pub signal_text : Signal → List ℕ
signal_text signal = number_text signal.number ++ sent_text signal.number signal.sent
