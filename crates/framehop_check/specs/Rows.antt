-- What the rows of an FDE say of the CFA, address by address and by spans of addresses.
use Rattle.std.specs.Prelude.{ℕ, ◌+◌, ◌<◌, ◌^◌, List, [], ◌∷◌, Option, Some, None, Result, Ok, Err, nat_le, if◌then◌else◌}
use Rattle.framehop_cfi.specs.declared.read_error.ReadError.{ReadError}
use Rattle.framehop_cfi.specs.Row.{Row}
use Rattle.framehop_cfi.specs.Section.{Section}
use Rattle.framehop_cfi.specs.RowAt.{row_at}
use Rattle.framehop_cfi.specs.declared.storage.StorageLimits.{StorageLimits}
use Rattle.framehop_cfi.specs.declared.entry.FrameDescriptionEntry.{FrameDescriptionEntry}
use Rattle.framehop_code.specs.declared.effect.Base.{Base}
use Rattle.framehop_check.specs.declared.claim.Claim.{Claim}
use Rattle.framehop_check.specs.declared.rows.Span.{Span}
use Rattle.framehop_check.specs.Claim.{claim_of_row}

-- what the row of an address says, if the address has one
abbrev pub claim_in : (ℕ → Option Base) → ℕ → Result Row ReadError → Option Claim
claim_in numbered return_column (Ok row) = Some (claim_of_row numbered return_column row)
claim_in numbered return_column (Err error) = None

unfoldable pub claim_of_address : (ℕ → Option Base) → ℕ → Option StorageLimits → Section → FrameDescriptionEntry → ℕ
    → Option Claim
claim_of_address numbered return_column limits section fde address =
    claim_in numbered return_column (row_at limits section fde address)

-- the first span that ends after an address, if the address is in it
abbrev pub claim_of_span : ℕ → Span → Option Claim
claim_of_span address span = if nat_le span.start address then Some span.claim else None

-- the same of a span that was found, and of spans in order
abbrev pub claim_of_found : ℕ → Option Span → Option Claim
claim_of_found address None = None
claim_of_found address (Some span) = claim_of_span address span

abbrev pub claim_at : List Span → ℕ → Option Claim
claim_at [] address = None
claim_at (span ∷ spans) address = if nat_le span.end address then claim_at spans address else claim_of_span address span

-- where a span ends
abbrev pub end_of : Span → ℕ
end_of span = span.end

-- the FDE's addresses end within 64 bits
abbrev pub FitsBelow : FrameDescriptionEntry → Type 0
FitsBelow fde = fde.initial_address + fde.address_range < 2 ^ 64
