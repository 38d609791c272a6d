-- Why unwind data does not tell how to unwind a frame, as text: the name of the error, with what it has in parentheses.
use Rattle.std.specs.Prelude.{ℕ, List, [], ◌∷◌, codes, Some, None}
use Rattle.std.specs.Fmt.{decimal}
use Rattle.framehop_cfi.specs.declared.read_error.ReadError.{ReadError}
use Rattle.framehop_cfi.specs.declared.read_error.ReadError.TheVariants as read
use Rattle.framehop_cfi.specs.declared.dwarf_error.DwarfUnwinderError.{DwarfUnwinderError}
use Rattle.framehop_cfi.specs.declared.dwarf_error.DwarfUnwinderError.TheVariants as dwarf
use Rattle.framehop_macho.specs.declared.macho.CompactUnwindInfoUnwinderError.{CompactUnwindInfoUnwinderError}
use Rattle.framehop_macho.specs.declared.macho.CompactUnwindInfoUnwinderError.TheVariants as compact
use Rattle.framehop_macho.specs.declared.unwind_info.error.CompactReadError.{CompactReadError}
use Rattle.framehop_macho.specs.declared.unwind_info.error.CompactReadError.TheVariants as compact_read
use Rattle.framehop_pe.specs.declared.pe.PeUnwinderError.{PeUnwinderError}
use Rattle.framehop_pe.specs.declared.pe.PeUnwinderError.TheVariants as pe
use Rattle.framehop.specs.declared.modules.UnwinderError.{UnwinderError}
use Rattle.framehop.specs.declared.modules.UnwinderError.TheVariants as reason
use Rattle.framehop_explain.specs.Pieces.{text_of}

-- a name, with a text in parentheses
abbrev pub with_text : List ℕ → List ℕ → List ℕ
with_text name text = text_of (name ∷ codes "(" ∷ text ∷ codes ")" ∷ [])

-- why call frame information can't be read
unfoldable pub read_error_text : ReadError → List ℕ
read_error_text read.Eof = codes "Eof"
read_error_text read.BadLeb = codes "BadLeb"
read_error_text read.BadEncoding = codes "BadEncoding"
read_error_text read.BadLength = codes "BadLength"
read_error_text read.NotCie = codes "NotCie"
read_error_text read.NotFde = codes "NotFde"
read_error_text read.UnknownVersion = codes "UnknownVersion"
read_error_text read.UnknownAugmentation = codes "UnknownAugmentation"
read_error_text read.UnknownInstruction = codes "UnknownInstruction"
read_error_text read.InvalidContext = codes "InvalidContext"
read_error_text read.NumberTooBig = codes "NumberTooBig"
read_error_text read.NoRow = codes "NoRow"
read_error_text read.TooManyRules = codes "TooManyRules"
read_error_text read.TooManyRows = codes "TooManyRows"
read_error_text read.NothingRemembered = codes "NothingRemembered"
read_error_text read.OutOfMemory = codes "OutOfMemory"

-- why it does not unwind a frame
unfoldable pub dwarf_text : DwarfUnwinderError → List ℕ
dwarf_text (dwarf.FdeFromOffsetFailed error) = with_text (codes "FdeFromOffsetFailed") (read_error_text error)
dwarf_text (dwarf.UnwindInfoForAddressFailed error) =
    with_text (codes "UnwindInfoForAddressFailed") (read_error_text error)
dwarf_text dwarf.StackPointerMovedBackwards = codes "StackPointerMovedBackwards"
dwarf_text dwarf.DidNotAdvance = codes "DidNotAdvance"
dwarf_text dwarf.CouldNotRecoverCfa = codes "CouldNotRecoverCfa"
dwarf_text dwarf.CouldNotRecoverReturnAddress = codes "CouldNotRecoverReturnAddress"
dwarf_text dwarf.CouldNotRecoverFramePointer = codes "CouldNotRecoverFramePointer"

-- why `__unwind_info` can't be read
unfoldable pub compact_read_error_text : CompactReadError → List ℕ
compact_read_error_text compact_read.Eof = codes "Eof"
compact_read_error_text compact_read.BadVersion = codes "BadVersion"
compact_read_error_text compact_read.BadPageKind = codes "BadPageKind"
compact_read_error_text compact_read.BadEncodingIndex = codes "BadEncodingIndex"
compact_read_error_text compact_read.AddressTooBig = codes "AddressTooBig"

-- why it does not unwind a frame
unfoldable pub compact_text : CompactUnwindInfoUnwinderError → List ℕ
compact_text (compact.BadFormat error) = with_text (codes "BadFormat") (compact_read_error_text error)
compact_text (compact.AddressOutsideRange address) = with_text (codes "AddressOutsideRange") (decimal address)
compact_text compact.CallerCannotBeFrameless = codes "CallerCannotBeFrameless"
compact_text compact.FunctionHasNoInfo = codes "FunctionHasNoInfo"
compact_text compact.BpOffsetDoesNotFit = codes "BpOffsetDoesNotFit"
compact_text (compact.BadOpcodeKind kind) = with_text (codes "BadOpcodeKind") (decimal kind)
compact_text (compact.BadDwarfUnwinding error) = with_text (codes "BadDwarfUnwinding") (dwarf_text error)
compact_text compact.NoTextBytesToLookUpIndirectStackOffset = codes "NoTextBytesToLookUpIndirectStackOffset"
compact_text compact.IndirectStackOffsetOutOfBounds = codes "IndirectStackOffsetOutOfBounds"
compact_text compact.StackAdjustOverflow = codes "StackAdjustOverflow"
compact_text compact.StackSizeDoesNotFit = codes "StackSizeDoesNotFit"
compact_text compact.StubFunctionCannotBeCaller = codes "StubFunctionCannotBeCaller"
compact_text compact.InvalidFrameless = codes "InvalidFrameless"

-- why the unwind info of a PE module does not unwind a frame
unfoldable pub pe_text : PeUnwinderError → List ℕ
pe_text (pe.MissingUnwindInfoData address) = with_text (codes "MissingUnwindInfoData") (decimal address)
pe_text (pe.MissingInstructionData address) = with_text (codes "MissingInstructionData") (decimal address)
pe_text (pe.MissingStackData None) = codes "MissingStackData(None)"
pe_text (pe.MissingStackData (Some address)) =
    text_of (codes "MissingStackData(Some(" ∷ decimal address ∷ codes "))" ∷ [])
pe_text pe.UnwindInfoParseError = codes "UnwindInfoParseError"
pe_text pe.Aarch64Unsupported = codes "Aarch64Unsupported"

-- why a module's unwind data does not unwind a frame
unfoldable pub reason_text : UnwinderError → List ℕ
reason_text (reason.CompactUnwindInfo error) = with_text (codes "CompactUnwindInfo") (compact_text error)
reason_text (reason.Dwarf error) = with_text (codes "Dwarf") (dwarf_text error)
reason_text (reason.Pe error) = with_text (codes "Pe") (pe_text error)
reason_text reason.NoDwarfData = codes "NoDwarfData"
reason_text reason.NoModuleUnwindData = codes "NoModuleUnwindData"
reason_text reason.EhFrameHdrCouldNotFindAddress = codes "EhFrameHdrCouldNotFindAddress"
reason_text reason.DwarfCfiIndexCouldNotFindAddress = codes "DwarfCfiIndexCouldNotFindAddress"
