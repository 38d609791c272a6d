-- With which status a program ends that fails.
use Rattle.std.specs.Prelude.{◌≡◌, ◌≢◌, ◌⊎◌, ℕ}
use Rattle.std.specs.IoError.{error_kind}
use Rattle.std.specs.declared.io.Error.{Error}
use Rattle.std.specs.declared.io.ErrorKind.TheVariants.{OutOfMemory as NoMemory}
use Rattle.framehop_cli.specs.declared.failure.Failure.{Failure}
use Rattle.framehop_cli.specs.declared.failure.Failure.TheVariants.{OutOfMemory, Io}

-- 2 where memory ran out, else 1
abbrev pub status_of : Failure → ℕ
status_of OutOfMemory = 2
status_of (Io error) = 1

-- an error of the system is out of memory by its kind, and else itself
abbrev pub IsFailureOf : Error → Failure → Type 0
IsFailureOf error failure =
    ((error_kind error ≡ NoMemory) × (failure ≡ OutOfMemory)) ⊎ ((error_kind error ≢ NoMemory) × (failure ≡ Io error))
