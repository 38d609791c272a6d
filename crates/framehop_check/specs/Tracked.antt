-- What is known between two instructions, and what contradicts it.
use Rattle.std.specs.Prelude.{ℕ, ℤ, Bool, true, false, ◌&&◌, if◌then◌else◌, Option, Some, None}
use Rattle.std.specs.Ordering.{int_eq}
use Rattle.framehop_code.specs.declared.effect.Base.{Base}
use Rattle.framehop_code.specs.declared.effect.Base.TheVariants.{Sp, Fp}
use Rattle.framehop_code.specs.declared.effect.Change.{Change}
use Rattle.framehop_code.specs.declared.effect.Change.TheVariants.{Sum, Unknown}
use Rattle.framehop_code.specs.declared.effect.Flow.{Flow}
use Rattle.framehop_code.specs.declared.effect.Flow.TheVariants.{Next, Padding, Call, Branch, Jump, Return, Leaves}
use Rattle.framehop_code.specs.declared.effect.Effect.{Effect}
use Rattle.framehop_check.specs.declared.claim.Claim.{Claim}
use Rattle.framehop_check.specs.declared.claim.Claim.TheVariants.{Above, Other}
use Rattle.framehop_check.specs.declared.known.Known.{Known}
use Rattle.framehop_check.specs.declared.tracked.Came.{Came}
use Rattle.framehop_check.specs.declared.tracked.Came.TheVariants as came
use Rattle.framehop_check.specs.declared.tracked.Tracked.{Tracked}
use Rattle.framehop_check.specs.declared.tracked.Fault.{Fault}
use Rattle.framehop_check.specs.declared.tracked.Fault.TheVariants.{Differs, Overwritten, Returns, Jumps}
use Rattle.framehop_check.specs.Known.{nothing, known_of, after, agreed}

-- where a function begins nothing is known
abbrev pub beginning : Tracked
beginning = record { known = nothing; claim = Other; came = came.Elsewhere; sp_lost = false; fp_lost = false }

-- padding that is come to from nowhere
abbrev pub is_padding : Flow → Bool
is_padding Padding = true
is_padding _ = false

-- the instruction before leads elsewhere
abbrev pub is_elsewhere : Came → Bool
is_elsewhere came.Elsewhere = true
is_elsewhere _ = false

abbrev pub is_passed : Tracked → Effect → Bool
is_passed tracked effect = is_elsewhere tracked.came && is_padding effect.flow

-- ---- rows

-- the same register, and the same claim
abbrev pub same_base : Base → Base → Bool
same_base Sp Sp = true
same_base Fp Fp = true
same_base _ _ = false

abbrev pub same_claim : Claim → Claim → Bool
same_claim (Above b x) (Above c y) = same_base b c && int_eq x y
same_claim Other Other = true
same_claim _ _ = false

-- What is known at an instruction. A call may not return: where the row changes after it nothing is known.
abbrev pub arriving_by : Came → Known → Bool → Known
arriving_by came.Next known same = known
arriving_by came.Returned known same = if same then known else nothing
arriving_by came.Elsewhere known same = nothing

abbrev pub arriving : Tracked → Claim → Known
arriving tracked claim = arriving_by tracked.came tracked.known (same_claim tracked.claim claim)

-- the instruction before overwrites the row's register
abbrev pub is_lost : Tracked → Claim → Bool
is_lost tracked (Above Sp offset) = tracked.sp_lost
is_lost tracked (Above Fp offset) = tracked.fp_lost
is_lost tracked Other = false

-- the instruction before leads here
abbrev pub is_next : Came → Bool
is_next came.Next = true
is_next _ = false

-- the row says what the row before said, of a register that the instruction before overwrites
abbrev pub is_stale : Tracked → Claim → Bool
is_stale tracked claim = (is_next tracked.came && same_claim tracked.claim claim) && is_lost tracked claim

-- what contradicts a row: the code tells another number, or it tells none and the row is stale
abbrev pub fault_by : Base → ℤ → Bool → Option ℤ → Option Fault
fault_by base row stale (Some code) = if int_eq code row then None else Some (Differs base row code)
fault_by base row stale None = if stale then Some (Overwritten base row) else None

-- the fault of a row, by what is known when it is come to
abbrev pub fault_at : Tracked → Claim → Option Fault
fault_at tracked (Above base offset) =
    fault_by base offset (is_stale tracked (Above base offset)) (known_of (arriving tracked (Above base offset)) base)
fault_at tracked Other = None

-- ---- steps

-- how an instruction is come to, by where the one before leads
abbrev pub came_after : Came → Flow → Came
came_after before Next = came.Next
came_after before (Branch distance) = came.Next
came_after came.Returned Padding = came.Returned
came_after before Padding = came.Next
came_after before Call = came.Returned
came_after before (Jump distance) = came.Elsewhere
came_after before Return = came.Elsewhere
came_after before Leaves = came.Elsewhere

-- a change after which nothing is known
abbrev pub is_unknown : Change → Bool
is_unknown (Sum base offset) = false
is_unknown Unknown = true

-- what is known after an instruction
abbrev pub step : Tracked → Claim → Effect → Tracked
step tracked claim effect =
    record {
      known = after (agreed (arriving tracked claim) claim) effect;
      claim = claim;
      came = came_after tracked.came effect.flow;
      sp_lost = is_unknown effect.sp;
      fp_lost = is_unknown effect.fp;
    }

-- ---- returns and jumps

-- at a return the stack pointer is the entry's
abbrev pub returned : ℤ → Option ℤ → Option Fault
returned entry (Some code) = if int_eq code entry then None else Some (Returns code)
returned entry None = None

abbrev pub fault_of_return : ℤ → Known → Flow → Option Fault
fault_of_return entry known Return = returned entry known.sp
fault_of_return entry known _ = None

-- at a jump's target the row says what is known after the jump
abbrev pub jumped : ℕ → Base → ℤ → Option ℤ → Option Fault
jumped target base row (Some code) = if int_eq code row then None else Some (Jumps target base row code)
jumped target base row None = None

abbrev pub fault_of_jump : Known → ℕ → Claim → Option Fault
fault_of_jump known target (Above base offset) = jumped target base offset (known_of known base)
fault_of_jump known target Other = None
