-- The bytes of a module never give the error of the stack.
use Rattle.std.specs.Prelude.{ℕ, zero, suc, ◌-◌, Bool, true, false, List, ◌∷◌, ◌++◌, length, take, nat_le, cond, Option, Some, None, Result, Ok, Err, IfErr}
use Rattle.std.specs.List.{flat_map}
use Rattle.std.specs.Option.{ok_or}
use Rattle.framehop_bytes.specs.Bytes.{◌>>=◌}
use Rattle.framehop_core.specs.declared.x86_64.unwindregs.Reg.{Reg}
use Rattle.framehop_pe.specs.Answer.{IsMissingStackData}
use Rattle.framehop_pe.specs.Chain.{header_at, info_of_header, info_at, chained_infos, first_of, all_of, operations_from}
use Rattle.framehop_pe.specs.Epilog.{epilog_of}
use Rattle.framehop_pe.specs.Frame.{WayOrRefusal, Epilog, by_codes, frame_register, sized, code_at, epilog_at, codes_way, epilog_or, way_in, way_of, way_or_leaf, way_at, rule_along, found_at}
use Rattle.framehop_pe.specs.FunctionTable.{function_of}
use Rattle.framehop_pe.specs.Info.{Header, Info, header_of, info_of}
use Rattle.framehop_pe.specs.Sections.{Sections, unwind_info_at, text_at}
use Rattle.framehop_pe.specs.declared.pe.PeUnwinderError.{PeUnwinderError}
use Rattle.framehop_pe.specs.declared.pe.PeUnwinderError.TheVariants.{MissingUnwindInfoData, MissingInstructionData, UnwindInfoParseError}
use Rattle.framehop_pe.specs.declared.unwind_info.function_table.RuntimeFunction.{RuntimeFunction}

-- a refusal, if it is one, is none of the stack
abbrev pub IsOfBytes : {A : Type 0} → Result A PeUnwinderError → Type 0
IsOfBytes result = IfErr result (λ error. ¬ IsMissingStackData error)

then-of_bytes :
    {A B : Type 0} (result : Result A PeUnwinderError) (next : A → Result B PeUnwinderError) → IsOfBytes result
    → ((value : A) → IsOfBytes (next value)) → IsOfBytes (result >>= next)
then-of_bytes (Ok value) next h later = later value
then-of_bytes (Err error) next h later = h

ok_or-of_bytes :
    {A : Type 0} (found : Option A) (error : PeUnwinderError) → ¬ IsMissingStackData error
    → IsOfBytes (ok_or found error)
ok_or-of_bytes (Some value) error h = tt
ok_or-of_bytes None error h = h

header_at-of_bytes : (sections : Sections) (rva : ℕ) → IsOfBytes (header_at sections rva)
header_at-of_bytes sections rva =
    let bytes = ok_or (unwind_info_at sections rva) (MissingUnwindInfoData rva) in
    let no_bytes = ok_or-of_bytes (unwind_info_at sections rva) (MissingUnwindInfoData rva) (λ h. h) in
    let no_header = λ (bytes : List ℕ). ok_or-of_bytes (header_of bytes) UnwindInfoParseError (λ h. h) in
    then-of_bytes bytes (λ bytes. ok_or (header_of bytes) UnwindInfoParseError) no_bytes no_header

info_of_header-of_bytes : (header : Header) → IsOfBytes (info_of_header header)
info_of_header-of_bytes header = ok_or-of_bytes (info_of header) UnwindInfoParseError (λ h. h)

info_at-of_bytes : (sections : Sections) (rva : ℕ) → IsOfBytes (info_at sections rva)
unfolding info_at
info_at-of_bytes sections rva =
    then-of_bytes (header_at sections rva) info_of_header (header_at-of_bytes sections rva) info_of_header-of_bytes

-- what comes after all chained infos can't be refused
chain-of_bytes :
    {A : Type 0} (sections : Sections) (left : ℕ) (at : Option ℕ) (whole : List Info → A)
    → IsOfBytes (chained_infos sections left at)
    → IsOfBytes (chained_infos sections left at >>= (λ infos. Ok (whole infos)))
chain-of_bytes sections left at whole h =
    then-of_bytes (chained_infos sections left at) (λ infos. Ok (whole infos)) h (λ infos. tt)

chained_infos-of_bytes : (sections : Sections) (left : ℕ) (at : Option ℕ) → IsOfBytes (chained_infos sections left at)
unfolding chained_infos
chained_infos-of_bytes sections left None = tt
chained_infos-of_bytes sections zero (Some rva) = λ h. h
chained_infos-of_bytes sections (suc left) (Some rva) =
    let next = λ (info : Info). chained_infos sections left info.chained >>= (λ infos. Ok (info ∷ infos)) in
    then-of_bytes (info_at sections rva) next (info_at-of_bytes sections rva) (λ info.
    chain-of_bytes sections left info.chained (λ infos. info ∷ infos)
    (chained_infos-of_bytes sections left info.chained))

operations_from-of_bytes :
    (sections : Sections) (header : Header) (offset : ℕ) → IsOfBytes (operations_from sections header offset)
unfolding operations_from
operations_from-of_bytes sections header offset =
    let whole = λ (info : Info) (infos : List Info). first_of offset info ++ flat_map all_of infos in
    let next = λ (info : Info). chained_infos sections 32 info.chained >>= (λ infos. Ok (whole info infos)) in
    then-of_bytes (info_of_header header) next (info_of_header-of_bytes header) (λ info.
    chain-of_bytes sections 32 info.chained (whole info) (chained_infos-of_bytes sections 32 info.chained))

sized-of_bytes : (address size : ℕ) (found : Option (List ℕ)) → IsOfBytes (sized address size found)
sized-of_bytes address size None = λ h. h
sized-of_bytes address size (Some bytes) =
    let missing : Result (List ℕ) PeUnwinderError = Err (MissingInstructionData address) in
    elim (nat_le size (length bytes)) as (λ b. IsOfBytes (cond b (Ok (take size bytes)) missing))
    [ true ↦ tt | false ↦ λ h. h ]

code_at-of_bytes :
    (sections : Sections) (function : RuntimeFunction) (address : ℕ) → IsOfBytes (code_at sections function address)
unfolding code_at
code_at-of_bytes sections function address =
    sized-of_bytes address (function.end_address - address) (text_at sections address)

epilog_at-of_bytes :
    (sections : Sections) (function : RuntimeFunction) (frame : Option Reg) (address : ℕ)
    → IsOfBytes (epilog_at sections function frame address)
unfolding epilog_at
epilog_at-of_bytes sections function frame address =
    let size = function.end_address - function.begin_address in
    then-of_bytes (code_at sections function address) (λ code. Ok (epilog_of frame size code))
    (code_at-of_bytes sections function address) (λ code. tt)

codes_way-of_bytes :
    (sections : Sections) (function : RuntimeFunction) (header : Header) (address : ℕ)
    → IsOfBytes (codes_way sections function header address)
codes_way-of_bytes sections function header address =
    let offset = address - function.begin_address in
    then-of_bytes (operations_from sections header offset) (λ operations. Ok (by_codes operations))
    (operations_from-of_bytes sections header offset) (λ operations. tt)

epilog_or-of_bytes :
    (frame : Option Reg) (found : Epilog) (other : WayOrRefusal) → IsOfBytes other
    → IsOfBytes (epilog_or frame found other)
epilog_or-of_bytes frame (Some instructions) other h = tt
epilog_or-of_bytes frame None other h = h

way_in-of_bytes :
    (first : Bool) (sections : Sections) (function : RuntimeFunction) (header : Header) (address : ℕ)
    → IsOfBytes (way_in first sections function header address)
way_in-of_bytes true sections function header address =
    let frame = frame_register header in
    let codes = codes_way sections function header address in
    let refused = codes_way-of_bytes sections function header address in
    then-of_bytes (epilog_at sections function frame address) (λ found. epilog_or frame found codes)
    (epilog_at-of_bytes sections function frame address) (λ found. epilog_or-of_bytes frame found codes refused)
way_in-of_bytes false sections function header address = codes_way-of_bytes sections function header address

way_of-of_bytes :
    (first : Bool) (sections : Sections) (function : RuntimeFunction) (address : ℕ)
    → IsOfBytes (way_of first sections function address)
unfolding way_of
way_of-of_bytes first sections function address =
    let header = header_at sections function.unwind_info_address in
    then-of_bytes header (λ header. way_in first sections function header address)
    (header_at-of_bytes sections function.unwind_info_address)
    (λ header. way_in-of_bytes first sections function header address)

way_or_leaf-of_bytes :
    (first : Bool) (sections : Sections) (address : ℕ) (found : Option RuntimeFunction)
    → IsOfBytes (way_or_leaf first sections address found)
way_or_leaf-of_bytes first sections address None = tt
way_or_leaf-of_bytes first sections address (Some function) = way_of-of_bytes first sections function address

-- the refusal that the bytes give is none of the stack
pub found_at-of_bytes : (sections : Sections) (address : ℕ) (first : Bool) → IsOfBytes (found_at sections address first)
unfolding found_at
found_at-of_bytes sections address first =
    then-of_bytes (way_at sections address first) (λ way. Ok (rule_along way))
    (way_or_leaf-of_bytes first sections address (function_of sections.pdata address)) (λ way. tt)
