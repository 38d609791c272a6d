-- Chained unwind info, and the operations of an address (Microsoft, "x64 exception handling", "Chained unwind info
-- structures").
use Rattle.std.specs.Prelude.{ℕ, zero, suc, true, not, List, [], ◌∷◌, ◌++◌, map, Option, Some, None, Result, Ok, Err}
use Rattle.std.specs.List.{flat_map}
use Rattle.std.specs.Option.{ok_or}
use Rattle.framehop_bytes.specs.Bytes.{◌>>=◌}
use Rattle.framehop_pe.specs.Info.{Header, Info, header_of, info_of, from_first, skips_frame}
use Rattle.framehop_pe.specs.Sections.{Sections, unwind_info_at}
use Rattle.framehop_pe.specs.declared.pe.PeUnwinderError.{PeUnwinderError}
use Rattle.framehop_pe.specs.declared.pe.PeUnwinderError.TheVariants.{MissingUnwindInfoData, UnwindInfoParseError}
use Rattle.framehop_pe.specs.declared.unwind_info.chain.FrameBase.{FrameBase}
use Rattle.framehop_pe.specs.declared.unwind_info.chain.FramedOperation.{FramedOperation}
use Rattle.framehop_pe.specs.declared.unwind_info.operation.UnwindCode.{UnwindCode}

-- the header of the info at a relative address
abbrev pub header_at : Sections → ℕ → Result Header PeUnwinderError
header_at sections rva = do
  bytes ← ok_or (unwind_info_at sections rva) (MissingUnwindInfoData rva)
  ok_or (header_of bytes) UnwindInfoParseError

-- what the info of a header says
abbrev pub info_of_header : Header → Result Info PeUnwinderError
info_of_header header = ok_or (info_of header) UnwindInfoParseError

-- what the info at a relative address says
unfoldable pub info_at : Sections → ℕ → Result Info PeUnwinderError
info_at sections rva = do
  header ← header_at sections rva
  info_of_header header

-- the infos of a chain from a relative address on, or from its end on (`None`), of which so many may be left
unfoldable pub chained_infos : Sections → ℕ → Option ℕ → Result (List Info) PeUnwinderError
chained_infos sections left None = Ok []
chained_infos sections zero (Some rva) = Err UnwindInfoParseError
chained_infos sections (suc left) (Some rva) = do
  info ← info_at sections rva
  infos ← chained_infos sections left info.chained
  Ok (info ∷ infos)

-- the operations of codes, with what they count from
abbrev pub framed : FrameBase → List UnwindCode → List FramedOperation
framed base codes = map (λ code. record { operation = code.operation; base = base }) codes

-- all operations of a chained info
abbrev pub all_of : Info → List FramedOperation
all_of info = framed (record { frame_register = info.frame; is_established = true }) info.codes

-- those of the first info at an offset in its function
abbrev pub first_of : ℕ → Info → List FramedOperation
first_of offset info =
    let established = not (skips_frame offset info.codes) in
    let base : FrameBase = record { frame_register = info.frame; is_established = established } in
    framed base (from_first offset info.codes)

-- the operations at an offset in the function of a header: those of its info, then all of each chained info, of which
-- there may be 32
unfoldable pub operations_from : Sections → Header → ℕ → Result (List FramedOperation) PeUnwinderError
operations_from sections header offset = do
  info ← info_of_header header
  infos ← chained_infos sections 32 info.chained
  Ok (first_of offset info ++ flat_map all_of infos)

-- the infos at the front of a chain, up to one that can't be read
abbrev pub or_end : Result Info PeUnwinderError → (Info → List Info) → List Info
or_end (Ok info) next = info ∷ next info
or_end (Err _) next = []

unfoldable pub infos_from : Sections → ℕ → Option ℕ → List Info
infos_from sections left None = []
infos_from sections zero (Some rva) = []
infos_from sections (suc left) (Some rva) =
    or_end (info_at sections rva) (λ info. infos_from sections left info.chained)
