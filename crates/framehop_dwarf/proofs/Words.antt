-- A read of the stack against the memory.
use Rattle.std.proofs.Common.{◌≡◌, ℕ, Option, Some, None, Ok, Err, refl}
use Rattle.framehop_core.specs.Memory.{Memory, reply}
use Rattle.framehop_core.specs.Outcome.{read_of, word_at}
use Rattle.framehop_core.specs.declared.error.Error.{Error}

found : (at word : ℕ) (o : Option ℕ) → Ok word ≡ read_of at (reply o) → Some word ≡ o
found at word None is = cc
found at word (Some w) is = cc

pub word-found : (memory : Memory) (at word : ℕ) → Ok word ≡ word_at memory at → Some word ≡ memory at
word-found memory at word is = found at word (memory at) is

missing : (at : ℕ) (error : Error) (o : Option ℕ) → Err error ≡ read_of at (reply o) → None ≡ o
missing at error None is = refl
missing at error (Some w) is = absurd cc

pub word-missing : (memory : Memory) (at : ℕ) (error : Error) → Err error ≡ word_at memory at → None ≡ memory at
word-missing memory at error is = missing at error (memory at) is
