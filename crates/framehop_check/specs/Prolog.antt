-- What the unwind codes of a PE function's prolog say of the CFA, and the prolog's instructions (Microsoft, "x64 exception
-- handling", struct UNWIND_CODE). The CFA is what rsp is before the call, as in rows: the return address is below it.
use Rattle.std.specs.Prelude.{ℕ, ◌+◌, ◌-◌, ◌^◌, ℤ, pos, ◌-ℤ◌, Bool, true, false, List, [], ◌∷◌, length, Option, Some, None, nat_le, nat_lt, if◌then◌else◌}
use Rattle.framehop_core.specs.declared.x86_64.unwindregs.Reg.{Reg}
use Rattle.framehop_core.specs.declared.x86_64.unwindregs.Reg.TheVariants.{RBP}
use Rattle.framehop_pe.specs.Info.{Info, from_first, sets_frame}
use Rattle.framehop_pe.specs.declared.unwind_info.info.FrameRegister.{FrameRegister}
use Rattle.framehop_pe.specs.declared.unwind_info.operation.UnwindCode.{UnwindCode}
use Rattle.framehop_pe.specs.declared.unwind_info.operation.UnwindOperation.{UnwindOperation}
use Rattle.framehop_pe.specs.declared.unwind_info.operation.UnwindOperation.TheVariants.{UnStackAlloc, PopNonVolatile}
use Rattle.framehop_code.specs.declared.effect.Base.TheVariants.{Sp, Fp}
use Rattle.framehop_code.specs.declared.effect.Effect.{Effect}
use Rattle.framehop_code.specs.X86_64.Instruction.{instruction_at}
use Rattle.framehop_check.specs.declared.claim.Claim.{Claim}
use Rattle.framehop_check.specs.declared.claim.Claim.TheVariants.{Above, Other}
use Rattle.framehop_check.specs.declared.check.Item.{Item}
use Rattle.framehop_check.specs.Check.{says_otherwise, items_from}

-- by how many bytes the instruction of a code lowers rsp
abbrev pub lowered : UnwindOperation → ℕ
lowered (UnStackAlloc bytes) = bytes
lowered (PopNonVolatile register) = 8
lowered _ = 0

-- the same of several codes
abbrev pub depth : List UnwindCode → ℕ
depth [] = 0
depth (code ∷ codes) = lowered code.operation + depth codes

-- the frame register, if it is rbp: by how many bytes it is above rsp when it is set
abbrev pub above_sp : Reg → ℕ → Option ℕ
above_sp RBP offset = Some offset
above_sp _ offset = None

abbrev pub frame_offset : Option FrameRegister → Option ℕ
frame_offset None = None
frame_offset (Some frame) = above_sp frame.register frame.offset

-- right after rbp is set it is what the CFA is counted from; else rsp is
abbrev pub claim_by : ℤ → Option ℕ → Bool → Claim
claim_by bytes (Some offset) true = Above Fp (bytes -ℤ pos offset)
claim_by bytes _ _ = Above Sp bytes

-- the last code sets the frame register
abbrev pub sets : List UnwindCode → Bool
sets [] = false
sets (code ∷ codes) = sets_frame code.operation

-- What is said where these codes' instructions have run, of which the last one is the first. A sum beyond 63 bits says
-- nothing.
abbrev pub claim_of_codes : Option FrameRegister → List UnwindCode → Claim
claim_of_codes frame codes =
    if nat_lt (depth codes + 8) (2 ^ 63) then claim_by (pos (depth codes + 8)) (frame_offset frame) (sets codes) else Other

-- where the last instruction of the prolog ends that has a code
abbrev pub last_offset : List UnwindCode → ℕ
last_offset [] = 0
last_offset (code ∷ codes) = code.offset_in_prolog

-- at an offset of the function the codes have run whose instructions end there or before; after the last one nothing is
-- said
unfoldable pub claim_at_offset : Info → ℕ → Option Claim
claim_at_offset info offset =
    if nat_le offset (last_offset info.codes)
    then Some (claim_of_codes info.frame (from_first offset info.codes))
    else None

-- the instruction at an offset of a function that begins at an address, with what is said there
abbrev pub prolog_item_by : Info → ℕ → ℕ → Option Effect → Option Claim → Option Item
prolog_item_by info begin at (Some effect) (Some claim) =
    if nat_lt (begin + at) (2 ^ 64)
    then Some (record {
      address = begin + at;
      effect = effect;
      claim = claim;
      splits = says_otherwise claim (claim_at_offset info (at + effect.size - 1));
      target = None;
    })
    else None
prolog_item_by info begin at (Some effect) None = None
prolog_item_by info begin at None claim = None

unfoldable pub prolog_item : Info → ℕ → List ℕ → ℕ → Option Item
prolog_item info begin code at = prolog_item_by info begin at (instruction_at code at) (claim_at_offset info at)

-- those of the prolog, and the one after it
unfoldable pub prolog_items : Info → ℕ → List ℕ → List Item
prolog_items info begin code = items_from (prolog_item info begin code) (length code) (length code) 0
