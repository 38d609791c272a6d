-- What a call that changes a value in place answered, against what it was to do.
use Rattle.std.specs.Prelude.{◌≡◌, ◌≢◌, Result, Ok, Err}
use Rattle.framehop_cfi.specs.declared.read_error.ReadError.{ReadError}
use Rattle.framehop_cfi.specs.declared.read_error.ReadError.TheVariants.{OutOfMemory}

-- On Ok the value is now what was wanted; a refusal is the one that was wanted, unless an allocation failed.
abbrev pub Becomes : {A B : Type 0} → Result B ReadError → A → Result A ReadError → Type 0
Becomes (Ok done) new wanted = wanted ≡ Ok new
Becomes (Err error) new wanted = error ≢ OutOfMemory → wanted ≡ Err error
