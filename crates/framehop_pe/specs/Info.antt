-- Unwind info (Microsoft, "x64 exception handling", struct UNWIND_INFO).
use Rattle.std.specs.Prelude.{ℕ, ◌+◌, ◌*◌, ◌/◌, ◌%◌, Bool, true, false, ◌&&◌, ◌||◌, ◌==◌, nat_le, if◌then◌else◌, List, [], ◌∷◌, length, take, drop, slice_index, Option, Some, None, is_some, option_map}
use Rattle.framehop_core.specs.declared.x86_64.unwindregs.Reg.{Reg}
use Rattle.framehop_core.specs.declared.x86_64.unwindregs.Reg.TheVariants.{RSP}
use Rattle.framehop_pe.specs.Codes.{read_codes}
use Rattle.framehop_pe.specs.FunctionTable.{function_at}
use Rattle.framehop_pe.specs.Register.{register_of}
use Rattle.framehop_pe.specs.declared.unwind_info.info.FrameRegister.{FrameRegister}
use Rattle.framehop_pe.specs.declared.unwind_info.info.PrologInfo.{PrologInfo}
use Rattle.framehop_pe.specs.declared.unwind_info.info.UnwindCodes.{UnwindCodes}
use Rattle.framehop_pe.specs.declared.unwind_info.info.UnwindInfo.{UnwindInfo}
use Rattle.framehop_pe.specs.declared.unwind_info.operation.UnwindCode.{UnwindCode}
use Rattle.framehop_pe.specs.declared.unwind_info.operation.UnwindOperation.{UnwindOperation}
use Rattle.framehop_pe.specs.declared.unwind_info.operation.UnwindOperation.TheVariants.{RestoreSp}

-- the frame register in the header's last byte: its number in the low half, 0 for none, and its offset in units of 16
unfoldable pub frame_register_of : ℕ → Option FrameRegister
frame_register_of byte =
    if byte % 16 == 0 then None else Some (record { register = register_of (byte % 16); offset = byte / 16 * 16 })

-- a header: whether the flag UNW_FLAG_CHAININFO is set, the count of slots, the frame register, and the bytes after it
pub record Header : Type 0 where
  pub is_chained : Bool
  pub count : ℕ
  pub frame : Option FrameRegister
  pub bytes : List ℕ

-- The header at the front of bytes: version 1 in the low three bits, the flags above it; the size of the prolog; the
-- count of slots; the frame register.
unfoldable pub header_of : List ℕ → Option Header
header_of bytes =
    if nat_le 4 (length bytes) && (slice_index bytes 0 % 8 == 1) then Some (record {
      is_chained = slice_index bytes 0 / 8 / 4 % 2 == 1;
      count = slice_index bytes 2;
      frame = frame_register_of (slice_index bytes 3);
      bytes = drop 4 bytes;
    }) else None

-- a header as the code keeps it
abbrev pub shown : UnwindInfo → Header
shown info = record {
  is_chained = info.is_chained;
  count = info.code_count;
  frame = info.frame_register;
  bytes = info.bytes.now;
}

-- what unwind info says: the frame register, the codes, and where the info lies that it is chained to
pub record Info : Type 0 where
  pub frame : Option FrameRegister
  pub codes : List UnwindCode
  pub chained : Option ℕ

-- where the chained info lies, or `Some None` for none: after the slots, padded to an even count, comes an entry like
-- those of the function table
unfoldable pub chained_of : Header → Option (Option ℕ)
chained_of header =
    if header.is_chained
    then (let entry = function_at (drop (2 * (header.count + header.count % 2)) header.bytes) in
    option_map (λ function. Some function.unwind_info_address) entry)
    else Some None

-- rsp is the frame register
abbrev pub is_rsp : Reg → Bool
is_rsp RSP = true
is_rsp _ = false

abbrev pub is_stack_pointer : Option FrameRegister → Bool
is_stack_pointer None = false
is_stack_pointer (Some frame) = is_rsp frame.register

-- the bytes of the codes of a header
abbrev pub code_bytes : Header → List ℕ
code_bytes header = take (2 * header.count) header.bytes

-- the codes of a header, and whether they are known to the end of their slots
abbrev pub codes_of : Header → List UnwindCode × Bool
codes_of header = read_codes (is_some header.frame) 0 (code_bytes header)

-- what the info of a header says, or none where it is too short, a code is unknown or rsp is the frame register
unfoldable pub info_of : Header → Option Info
info_of header =
    if is_stack_pointer header.frame then None
    else (if nat_le (2 * header.count) (length header.bytes) && (codes_of header).1
    then (let codes = (codes_of header).0 in
    option_map (λ next. record { frame = header.frame; codes = codes; chained = next }) (chained_of header))
    else None)

-- the codes that are left of some info
abbrev pub left_codes : UnwindCodes → List UnwindCode
left_codes codes = (read_codes codes.has_frame_register 0 codes.bytes.now).0

-- the codes from the first on whose offset isn't beyond the address's: the instructions of those before it have not run
abbrev pub from_first : ℕ → List UnwindCode → List UnwindCode
from_first offset [] = []
from_first offset (code ∷ codes) =
    if nat_le code.offset_in_prolog offset then code ∷ codes else from_first offset codes

-- the operation undoes the code that sets the frame register
abbrev pub sets_frame : UnwindOperation → Bool
sets_frame RestoreSp = true
sets_frame _ = false

-- one of the codes before that first one sets the frame register
abbrev pub skips_frame : ℕ → List UnwindCode → Bool
skips_frame offset [] = false
skips_frame offset (code ∷ codes) =
    if nat_le code.offset_in_prolog offset then false else sets_frame code.operation || skips_frame offset codes

-- what has been read of some info
abbrev pub read_by : PrologInfo → Info
read_by info = record {
  frame = info.frame_register;
  codes = left_codes info.codes;
  chained = info.chained;
}
