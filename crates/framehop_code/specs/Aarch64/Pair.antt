-- What the loads and stores of a pair of registers do to general registers and memory (Arm Architecture Reference Manual for
-- A-profile, "A64 base instruction descriptions").
use Rattle.std.specs.Prelude.{ℕ, ℤ, pos, ◌+ℤ◌, ◌*ℤ◌, ◌*◌, Bool, not, ◌==◌, ◌&&◌, ◌||◌, if◌then◌else◌, bit_or, [], ◌∷◌, Option, Some, None}
use Rattle.framehop_core.specs.Bits.{bits_at}
use Rattle.framehop_bytes.specs.ByCode.{by_code}
use Rattle.framehop_cfi.specs.declared.rule.Register.{Register}
use Rattle.framehop_code.specs.declared.action.Action.{Action}
use Rattle.framehop_code.specs.declared.action.Place.TheVariants.{At}
use Rattle.framehop_code.specs.declared.action.Stored.{Stored}
use Rattle.framehop_code.specs.declared.action.Width.TheVariants.{Four, Eight}
use Rattle.framehop_code.specs.declared.aarch64.access.Transfer.{Transfer}
use Rattle.framehop_code.specs.declared.aarch64.access.Transfer.TheVariants.{Load, LoadSigned, Store}
use Rattle.framehop_code.specs.declared.aarch64.action.Actions.{Actions}
use Rattle.framehop_code.specs.declared.aarch64.form.Addressing.{Addressing}
use Rattle.framehop_code.specs.Aarch64.Fields.{above, general_set, is_set, rd, rn, rt2, set_of}
use Rattle.framehop_code.specs.Aarch64.Instruction.{signed}
use Rattle.framehop_code.specs.Aarch64.Access.{alone, base_moved, bytes_at, displacement, forgetting, is_indexed, overlaps, transferred, with_base}

-- how many bytes a register has: by opc 4, 8 or 16 of vector registers; of general ones 1 is LDPSW, or STGP
abbrev pub pair_unit : ℕ → ℕ
pair_unit word =
    let opc = bits_at word 30 2 in
    if opc == 0 then 4
    else (if opc == 1 then (if not (is_set word 26) && is_set word 22 then 4 else 8)
    else (if is_set word 26 then 16 else 8))

-- imm7 counts what a register has; of STGP it counts 16 bytes
abbrev pub pair_scale : ℕ → ℕ
pair_scale word =
    if not (is_set word 26 || is_set word 22) && (bits_at word 30 2 == 1) then 16 else pair_unit word

abbrev pub pair_bytes : ℕ → ℤ
pair_bytes word = signed (bits_at word 15 7) 0x40 *ℤ pos (pair_scale word)

-- how far above the base register the pair is
abbrev pub pair_at : ℕ → Addressing → ℤ
pair_at word form = displacement form (pair_bytes word)

-- L is 1 for a load
abbrev pub pair_stored : ℕ → Addressing → Option Stored
pair_stored word form =
    if is_set word 22 then None else bytes_at (At (above (rn word) (pair_at word form))) (pair_unit word * 2)

abbrev pub vector_pair : ℕ → Addressing → Action
vector_pair word form = forgetting 0 (pair_stored word form)

-- unpredictable: a register is loaded twice, or is the base that is moved
abbrev pub pair_overlaps : ℕ → Addressing → Bool
pair_overlaps word form =
    (is_set word 22 && ((rd word).0 == (rt2 word).0))
    || (is_indexed form && (overlaps word (rd word) || overlaps word (rt2 word)))

abbrev pub pair_forgotten : ℕ → Addressing → Action
pair_forgotten word form =
    forgetting (bit_or (bit_or (general_set (rd word)) (general_set (rt2 word))) (set_of (rn word))) (pair_stored word form)

-- by L and opc: LDP and STP of 32 bits, LDPSW, and of 64 bits LDP, STP and STGP
abbrev pub pair_transfer : ℕ → Transfer
pair_transfer word =
    let opc = bits_at word 30 2 in
    if is_set word 22 then by_code opc ((0, Load Four) ∷ (1, LoadSigned) ∷ []) (Load Eight)
    else (if opc == 0 then Store Four else Store Eight)

abbrev pub pair_member : ℕ → Register → ℤ → Action
pair_member word register at = transferred (pair_transfer word) register (At (above (rn word) at))

-- the second register's word comes after the first one's
abbrev pub pair_next : ℕ → Addressing → ℤ
pair_next word form = pair_at word form +ℤ pos (pair_unit word)

-- two accesses, then the base; where the first one loads the base, the second comes before it
abbrev pub ordered : ℕ → Action → Action → Option Action → Actions
ordered word first second base =
    if overlaps word (rd word) then record { first = second; second = Some first; third = base }
    else record { first = first; second = Some second; third = base }

abbrev pub general_pair : ℕ → Addressing → Actions
general_pair word form =
    ordered word (pair_member word (rd word) (pair_at word form)) (pair_member word (rt2 word) (pair_next word form))
    (base_moved word form (pair_bytes word))

-- a load or store of a pair
abbrev pub pair : ℕ → Addressing → Actions
pair word form =
    if is_set word 26 then with_base (vector_pair word form) (base_moved word form (pair_bytes word))
    else (if pair_overlaps word form then alone (pair_forgotten word form) else general_pair word form)
