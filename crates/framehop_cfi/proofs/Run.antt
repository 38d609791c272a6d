-- Instructions run one at a time.
use Rattle.std.proofs.Common.{◌≡◌, ℕ, zero, suc, ◌+◌, ◌<◌, false, length, Option, Ok, Err, arith}
use Rattle.std.proofs.lemmas.Bool.Decides.{nat_tests}
use Rattle.framehop_cfi.specs.Instruction.{instruction_at}
use Rattle.framehop_cfi.specs.TableRows.{TableRows, effect}
use Rattle.framehop_cfi.specs.RowAt.{InstructionList, run, location_after, is_beyond}
use Rattle.framehop_cfi.specs.declared.storage.StorageLimits.{StorageLimits}
use Rattle.framehop_cfi.specs.declared.instruction.CallFrameInstruction.{CallFrameInstruction}
use Rattle.framehop_cfi.specs.declared.read_error.ReadError.{ReadError}

-- there is an instruction at the place, within so many steps
abbrev pub IsIn : InstructionList → ℕ → ℕ → Type 0
IsIn code n at = (length code.bytes < n + at) × (at < length code.bytes)

module _ (limits : Option StorageLimits) (code : InstructionList) where
  pub run-unread : (n at location : ℕ) (rows : TableRows) (error : ReadError) → IsIn code n at
      → instruction_at code.cie code.bases code.bytes at ≡ Err error → run limits code n at location rows ≡ Err error
  run-unread zero at location rows error inside read = absurd (omega arith)
  run-unread (suc n) at location rows error inside read = rw read (grind (arith, nat_tests))

  pub run-unmoved : (n at location : ℕ) (rows : TableRows) (read : CallFrameInstruction × ℕ) (error : ReadError)
      → IsIn code n at → instruction_at code.cie code.bases code.bytes at ≡ Ok read
      → location_after code.cie code.address location read.0 ≡ Err error
      → run limits code n at location rows ≡ Err error
  run-unmoved zero at location rows read error inside is moved = absurd (omega arith)
  run-unmoved (suc n) at location rows read error inside is moved = rw is (rw moved (grind (arith, nat_tests)))

  pub run-refused : (n at location moved : ℕ) (rows : TableRows) (read : CallFrameInstruction × ℕ)
      (error : ReadError) → IsIn code n at → instruction_at code.cie code.bases code.bytes at ≡ Ok read
      → location_after code.cie code.address location read.0 ≡ Ok moved → is_beyond code.address moved ≡ false
      → effect limits read.0 rows ≡ Err error → run limits code n at location rows ≡ Err error
  run-refused zero at location moved rows read error inside is moves near refused = absurd (omega arith)
  run-refused (suc n) at location moved rows read error inside is moves near refused = rw is (rw moves (rw (near, refused) (grind (arith, nat_tests))))
