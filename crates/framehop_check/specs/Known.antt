-- How far the CFA is above the stack pointer and above the frame pointer, as far as the code tells, and what that means.
use Rattle.std.specs.Prelude.{ℤ, ◌-ℤ◌, Option, Some, None, if◌then◌else◌}
use Rattle.framehop_cfi.specs.Leb128.{fits_i64}
use Rattle.framehop_code.specs.declared.effect.Base.{Base}
use Rattle.framehop_code.specs.declared.effect.Base.TheVariants.{Sp, Fp}
use Rattle.framehop_code.specs.declared.effect.Change.{Change}
use Rattle.framehop_code.specs.declared.effect.Change.TheVariants.{Sum, Unknown}
use Rattle.framehop_code.specs.declared.effect.Effect.{Effect}
use Rattle.framehop_check.specs.declared.claim.Claim.{Claim}
use Rattle.framehop_check.specs.declared.claim.Claim.TheVariants.{Above, Other}
use Rattle.framehop_check.specs.declared.known.Known.{Known}

-- nothing is known of either
abbrev pub nothing : Known
nothing = record { sp = None; fp = None }

-- what is known of one of them
abbrev pub known_of : Known → Base → Option ℤ
known_of known Sp = known.sp
known_of known Fp = known.fp

-- one register's distance replaced
abbrev pub with : Known → Base → ℤ → Known
with known Sp offset = record known { sp = Some offset }
with known Fp offset = record known { fp = Some offset }

-- a register that rises by so many bytes is so much nearer to the CFA; a distance beyond 64 bits is not kept
abbrev pub nearer : ℤ → Option ℤ → Option ℤ
nearer bytes (Some distance) = if fits_i64 (distance -ℤ bytes) then Some (distance -ℤ bytes) else None
nearer bytes None = None

-- what is known of a register after a change of it
abbrev pub after_change : Known → Change → Option ℤ
after_change known (Sum base offset) = nearer offset (known_of known base)
after_change known Unknown = None

-- after an instruction
abbrev pub after : Known → Effect → Known
after known effect = record { sp = after_change known effect.sp; fp = after_change known effect.fp }

-- at an instruction once its row is read: of the row's register what the code tells, or else what the row says
abbrev pub agreed_on : Known → Base → ℤ → Option ℤ → Known
agreed_on known base offset (Some code) = known
agreed_on known base offset None = with known base offset

abbrev pub agreed : Known → Claim → Known
agreed known (Above base offset) = agreed_on known base offset (known_of known base)
agreed known Other = nothing
