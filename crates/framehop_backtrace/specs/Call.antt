-- Call instructions, by their bytes.
use Rattle.std.specs.Prelude.{ℕ, ◌+◌, ◌-◌, ◌*◌, ◌^◌, ◌/◌, ◌%◌, nat_eq, nat_le, nat_lt, Bool, false, ◌&&◌, ◌||◌, ◌==◌, List, [], ◌∷◌, length, drop, slice_get, Option, Some, None, option_and_then, unwrap_or, if◌then◌else◌}
use Rattle.std.specs.Cmp.Lexicographic.{pointwise}

-- a byte of code
abbrev pub byte_of : List ℕ → ℕ → ℕ
byte_of code at = unwrap_or (slice_get code at) 0

-- How long an instruction of one opcode byte and a ModR/M byte is, by mod, r/m and the base of the SIB byte (Intel 64
-- and IA-32 Architectures Software Developer's Manual, volume 2, table 2-2 and table 2-3, in 64-bit mode).
abbrev pub modrm_length : ℕ → ℕ → ℕ → ℕ
modrm_length mode rm base =
    if mode == 3 then 2
    else (if mode == 1 then (if rm == 4 then 4 else 3)
    else (if mode == 2 then (if rm == 4 then 7 else 6)
    else (if rm == 5 then 6
    else (if rm == 4 then (if base == 5 then 7 else 3) else 2))))

-- The bytes are a call of x86_64: E8 with an offset of 32 bits, or FF /2 with an operand. A prefix before them is not
-- looked at. (The same manual, `CALL`.)
abbrev pub is_direct_call : List ℕ → Bool
is_direct_call code = (length code == 5) && (byte_of code 0 == 0xe8)

abbrev pub is_indirect_call : List ℕ → Bool
is_indirect_call code =
    (byte_of code 0 == 0xff) && ((byte_of code 1 / 8) % 8 == 2)
    && (length code == modrm_length (byte_of code 1 / 64) (byte_of code 1 % 8) (byte_of code 2 % 8))

abbrev pub is_call_x86_64 : List ℕ → Bool
is_call_x86_64 code = is_direct_call code || is_indirect_call code

-- The bytes are a call of aarch64: BL, whose six high bits are 100101, or BLR, which is D63F0000 but for the register's
-- five bits from bit 5 on (Arm Architecture Reference Manual, C6.2).
abbrev pub is_call_aarch64 : List ℕ → Bool
is_call_aarch64 code =
    (byte_of code 3 / 4 == 0x25)
    || ((byte_of code 3 == 0xd6) && (byte_of code 2 == 0x3f) && (byte_of code 1 / 4 == 0) && (byte_of code 0 % 32 == 0))

-- bytes that are known and pass a test
abbrev pub passes : (List ℕ → Bool) → Option (List ℕ) → Bool
passes test (Some code) = test code
passes test None = false

-- an address lies right after a call of so many bytes
abbrev pub is_after : (List ℕ → Bool) → (ℕ → ℕ → Option (List ℕ)) → ℕ → ℕ → Bool
is_after test bytes address size = passes test (bytes (address - size) size)

-- an address lies right after a call
abbrev pub is_after_call_x86_64 : (ℕ → ℕ → Option (List ℕ)) → ℕ → Bool
is_after_call_x86_64 bytes address =
    is_after is_call_x86_64 bytes address 5 || is_after is_call_x86_64 bytes address 2
    || is_after is_call_x86_64 bytes address 3 || is_after is_call_x86_64 bytes address 4
    || is_after is_call_x86_64 bytes address 6 || is_after is_call_x86_64 bytes address 7

abbrev pub is_after_call_aarch64 : (ℕ → ℕ → Option (List ℕ)) → ℕ → Bool
is_after_call_aarch64 bytes address = is_after is_call_aarch64 bytes address 4

-- ---- where a function has set its frame pointer

-- ENDBR64, with which a function may begin
abbrev pub ENDBR64 : List ℕ
ENDBR64 = 0xf3 ∷ 0x0f ∷ 0x1e ∷ 0xfa ∷ []

-- PUSH of rbp, and MOV of rsp to rbp, in either form (the same manual, `PUSH` and `MOV`)
abbrev pub sets_rbp : List ℕ → Bool
sets_rbp code =
    pointwise nat_eq code (0x55 ∷ 0x48 ∷ 0x89 ∷ 0xe5 ∷ []) || pointwise nat_eq code (0x55 ∷ 0x48 ∷ 0x8b ∷ 0xec ∷ [])

-- so many bytes pass a test that are from an address on and before another
abbrev pub passes_before : (List ℕ → Bool) → (ℕ → ℕ → Option (List ℕ)) → ℕ → ℕ → ℕ → Bool
passes_before test bytes size start address = nat_le (start + size) address && passes test (bytes start size)

-- A function from a start on has set rbp before an address: by its first two instructions, or the two after ENDBR64.
abbrev pub has_set_x86_64 : (ℕ → ℕ → Option (List ℕ)) → ℕ → ℕ → Bool
has_set_x86_64 bytes start address =
    passes_before sets_rbp bytes 4 start address
    || (passes (λ code. pointwise nat_eq code ENDBR64) (bytes start 4) && passes_before sets_rbp bytes 4 (start + 4) address)

-- STP of x29 and x30 below sp, which it lowers, and MOV of sp to x29 (Arm Architecture Reference Manual, C6.2)
abbrev pub sets_x29 : List ℕ → Bool
sets_x29 code =
    (byte_of code 0 == 0xfd) && (byte_of code 1 == 0x7b) && nat_le 0x80 (byte_of code 2) && (byte_of code 3 == 0xa9)
    && pointwise nat_eq (drop 4 code) (0xfd ∷ 0x03 ∷ 0x00 ∷ 0x91 ∷ [])

abbrev pub has_set_aarch64 : (ℕ → ℕ → Option (List ℕ)) → ℕ → ℕ → Bool
has_set_aarch64 bytes start address = passes_before sets_x29 bytes 8 start address

-- ---- where direct calls lead

-- a number of 32 bits, by bytes from the lowest on
abbrev pub number_of : List ℕ → ℕ → ℕ
number_of code at =
    byte_of code at + 0x100 * byte_of code (at + 1) + 0x10000 * byte_of code (at + 2) + 0x1000000 * byte_of code (at + 3)

-- a signed distance modulo 2^64: it is negative from a limit on
abbrev pub distance_of : ℕ → ℕ → ℕ
distance_of limit distance = if nat_lt distance limit then distance else distance + (2 ^ 64 - 2 * limit)

-- an address lies right after an indirect call
abbrev pub is_after_indirect_call : (ℕ → ℕ → Option (List ℕ)) → ℕ → Bool
is_after_indirect_call bytes address =
    is_after is_indirect_call bytes address 2 || is_after is_indirect_call bytes address 3
    || is_after is_indirect_call bytes address 4 || is_after is_indirect_call bytes address 6
    || is_after is_indirect_call bytes address 7

-- E8 with an offset of 32 bits from the instruction after it
abbrev pub target_x86_64 : ℕ → List ℕ → Option ℕ
target_x86_64 address code =
    if is_direct_call code then Some ((address + distance_of (2 ^ 31) (number_of code 1)) % 2 ^ 64) else None

-- Where the call right before an address leads, if it is a direct one: bytes that are an indirect call, too, may be
-- that.
abbrev pub call_target_x86_64 : (ℕ → ℕ → Option (List ℕ)) → ℕ → Option ℕ
call_target_x86_64 bytes address =
    if is_after_indirect_call bytes address then None
    else option_and_then (target_x86_64 address) (bytes (address - 5) 5)

-- BL, whose offset from itself is 26 bits, in units of four bytes
abbrev pub target_aarch64 : ℕ → List ℕ → Option ℕ
target_aarch64 address code =
    if byte_of code 3 / 4 == 0x25
    then Some (((address - 4) + distance_of (2 ^ 27) (4 * (number_of code 0 % 2 ^ 26))) % 2 ^ 64)
    else None

abbrev pub call_target_aarch64 : (ℕ → ℕ → Option (List ℕ)) → ℕ → Option ℕ
call_target_aarch64 bytes address = option_and_then (target_aarch64 address) (bytes (address - 4) 4)
