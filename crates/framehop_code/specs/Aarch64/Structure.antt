-- What the loads and stores of vectors of structures do to general registers and memory (Arm Architecture Reference Manual for
-- A-profile, "A64 SIMD and Floating-point Instruction Descriptions").
use Rattle.std.specs.Prelude.{ℕ, pos, ◌*◌, Bool, true, false, not, if◌then◌else◌, [], ◌∷◌, Option, Some, None}
use Rattle.framehop_core.specs.Bits.{bits_at}
use Rattle.framehop_bytes.specs.ByCode.{by_code}
use Rattle.framehop_code.specs.declared.action.Action.{Action}
use Rattle.framehop_code.specs.declared.action.Index.{Index}
use Rattle.framehop_code.specs.declared.action.Place.TheVariants.{At}
use Rattle.framehop_code.specs.declared.action.Source.TheVariants as source
use Rattle.framehop_code.specs.declared.action.Width.TheVariants.{Eight}
use Rattle.framehop_code.specs.declared.aarch64.action.Actions.{Actions}
use Rattle.framehop_code.specs.declared.aarch64.form.Addressing.{Addressing}
use Rattle.framehop_code.specs.declared.aarch64.form.Addressing.TheVariants as addressing
use Rattle.framehop_code.specs.Aarch64.Fields.{above, is_set, pair_size, rm, rn}
use Rattle.framehop_code.specs.Aarch64.Access.{bytes_at, forgetting, index_of, moved, nothing, with_base}

-- how many registers LD1 to LD4 and ST1 to ST4 (multiple structures) access, by opcode
abbrev pub structure_count : ℕ → Option ℕ
structure_count word =
    by_code (bits_at word 12 4) (
    (0, Some 4) ∷ (2, Some 4) ∷ (4, Some 3) ∷ (6, Some 3) ∷ (7, Some 1) ∷ (8, Some 2) ∷ (10, Some 2) ∷ []) None

-- the base is moved by Rm, of which 31 says so many bytes
abbrev pub is_none : Option Index → Bool
is_none None = true
is_none (Some index) = false

abbrev pub vectors_moved : ℕ → ℕ → Action
vectors_moved word bytes =
    let index = index_of (rm word) 1 in
    moved (rn word) (source.Address (record {
      base = Some (rn word);
      index = index;
      displacement = if is_none index then bytes else 0;
      from_next = false;
    })) Eight

abbrev pub vectors_base : ℕ → Addressing → ℕ → Option Action
vectors_base word addressing.PostIndexed bytes = Some (vectors_moved word bytes)
vectors_base word _ bytes = None

-- an access to so many bytes at the base, and how that is moved; L is 1 for a load
abbrev pub with_vectors : ℕ → Addressing → ℕ → Actions
with_vectors word form bytes =
    with_base (if is_set word 22 then nothing else forgetting 0 (bytes_at (At (above (rn word) (pos 0))) bytes))
    (vectors_base word form bytes)

abbrev pub with_size : ℕ → Addressing → Option ℕ → ℕ → Option Actions
with_size word form (Some number) unit = Some (with_vectors word form (number * unit))
with_size word form None unit = None

-- a register has 8 bytes, or 16 by Q
abbrev pub structures : ℕ → Addressing → Option Actions
structures word form = with_size word form (structure_count word) (pair_size word)

-- LD1R to LD4R have an element by size, and no store has 3 in the high bits of opcode
abbrev pub replicated_size : ℕ → Option ℕ
replicated_size word =
    if not (is_set word 22) then None
    else by_code (bits_at word 10 2) ((0, Some 1) ∷ (1, Some 2) ∷ (2, Some 4) ∷ []) (Some 8)

-- an element of a single structure, by those bits and by size
abbrev pub element_size : ℕ → Option ℕ
element_size word =
    by_code (bits_at word 14 2) (
    (0, Some 1) ∷ (1, Some 2) ∷ (2, if is_set word 10 then Some 8 else Some 4) ∷ []) (replicated_size word)

-- how many it has, by R and the low bit of opcode
abbrev pub element_count : ℕ → ℕ
element_count word = if is_set word 13 then (if is_set word 21 then 4 else 3) else (if is_set word 21 then 2 else 1)

abbrev pub structure : ℕ → Addressing → Option Actions
structure word form = with_size word form (element_size word) (element_count word)
