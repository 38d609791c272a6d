-- The formats of encoded pointers (LSB, "DWARF Exception Header Encoding").
use Rattle.std.specs.Prelude.{ℕ, ◌+◌, ◌-◌, ◌*◌, ◌%◌, ◌^◌, List, [], ◌∷◌, Ok, Err, ◌==◌, ◌||◌, nat_lt, if◌then◌else◌}
use Rattle.std.specs.Int.{cast_unsigned, w64}
use Rattle.framehop_bytes.specs.ByCode.{by_test}
use Rattle.framehop_bytes.specs.Bytes.{◌>>=◌}
use Rattle.framehop_cfi.specs.Numbers.{Parsed, u16_at, u32_at, u64_at}
use Rattle.framehop_cfi.specs.Leb128.{uleb_at, sleb_at}
use Rattle.framehop_cfi.specs.PointerEncoding.{DW_EH_PE_absptr, DW_EH_PE_uleb128, DW_EH_PE_udata2, DW_EH_PE_udata4, DW_EH_PE_udata8, DW_EH_PE_sleb128, DW_EH_PE_sdata2, DW_EH_PE_sdata4, DW_EH_PE_sdata8}
use Rattle.framehop_cfi.specs.declared.read_error.ReadError.TheVariants.{BadEncoding}

-- an encoding's low four bits
abbrev pub format_of : ℕ → ℕ
format_of encoding = encoding % 16

-- a two's complement number of so many bits as one of 64 bits
abbrev pub sign_extended : ℕ → ℕ → ℕ
sign_extended bits number = if nat_lt (2 * number) (2 ^ bits) then number else number + (2 ^ 64 - 2 ^ bits)

-- a pointer's value by its format only, as a number of 64 bits
unfoldable pub raw_at : ℕ → List ℕ → ℕ → Parsed ℕ
raw_at format bytes at =
    by_test (
    ((format == DW_EH_PE_absptr) || (format == DW_EH_PE_udata8) || (format == DW_EH_PE_sdata8), u64_at bytes at)
    ∷ (format == DW_EH_PE_uleb128, uleb_at bytes at)
    ∷ (format == DW_EH_PE_udata2, u16_at bytes at)
    ∷ (format == DW_EH_PE_udata4, u32_at bytes at)
    ∷ (format == DW_EH_PE_sleb128, sleb_at bytes at >>= λ number. Ok (cast_unsigned w64 number.0, number.1))
    ∷ (format == DW_EH_PE_sdata2, u16_at bytes at >>= λ number. Ok (sign_extended 16 number.0, number.1))
    ∷ (format == DW_EH_PE_sdata4, u32_at bytes at >>= λ number. Ok (sign_extended 32 number.0, number.1))
    ∷ []) (Err BadEncoding)
