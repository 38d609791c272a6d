-- The code of a file, by its sections.
use Rattle.std.specs.Prelude.{ℕ, zero, suc, ◌+◌, ◌-◌, Bool, true, false, ◌&&◌, ◌||◌, List, [], ◌∷◌, length, take, drop, slice_index, Option, Some, None, option_and_then, nat_le, nat_lt, nat_eq, if◌then◌else◌, map, filter}
use Rattle.std.specs.Io.Iter.{u64_saturate}
use Rattle.framehop_code.specs.declared.effect.Effect.{Effect}
use Rattle.framehop_code.specs.declared.effect.Flow.{Flow}
use Rattle.framehop_code.specs.declared.effect.Flow.TheVariants.{Padding}
use Rattle.framehop_check.specs.declared.missing.Range.{Range}
use Rattle.framehop_check.specs.declared.sections.CodeSection.{CodeSection}

-- where a section begins
abbrev pub address_of : CodeSection → ℕ
address_of section = section.address

-- its addresses; the last address of 64 bits is in no range
abbrev pub range_of_section : CodeSection → Range
range_of_section section =
    record { start = section.address; end = u64_saturate (section.address + length section.contents.now) }

-- of two sections the one that begins later; the other, where they begin at one address
abbrev pub later_of : CodeSection → Option CodeSection → Option CodeSection
later_of section None = Some section
later_of section (Some other) = if nat_le section.address other.address then Some other else Some section

-- the section that begins last of those that begin at an address or before it
unfoldable pub nearest_of : List CodeSection → ℕ → Option CodeSection
nearest_of [] address = None
nearest_of (section ∷ sections) address =
    if nat_le section.address address then later_of section (nearest_of sections address) else nearest_of sections address

-- so many bytes of a section from an address in it on, if it has them
abbrev pub code_in : ℕ → ℕ → CodeSection → Option (List ℕ)
code_in start size section =
    if nat_lt (start - section.address) (length section.contents.now)
    && nat_le (start - section.address + size) (length section.contents.now)
    then Some (take size (drop (start - section.address) section.contents.now))
    else None

-- the code of so many bytes from an address on, if the nearest section has it
abbrev pub code_at : List CodeSection → ℕ → ℕ → Option (List ℕ)
code_at sections start size = option_and_then (code_in start size) (nearest_of sections start)

-- ---- padding

-- an instruction that pads: one that does nothing, or int3 (0xCC) of x86_64
abbrev pub is_nothing : Flow → Bool
is_nothing Padding = true
is_nothing _ = false

abbrev pub pads : ℕ → Effect → Bool
pads byte effect = is_nothing effect.flow || (nat_eq byte 0xCC && nat_eq effect.size 1)

-- its size
abbrev pub padding_by : ℕ → Option Effect → Option ℕ
padding_by byte None = None
padding_by byte (Some effect) = if pads byte effect then Some effect.size else None

unfoldable pub padding_at : (List ℕ → ℕ → Option Effect) → List ℕ → ℕ → Option ℕ
padding_at instruction code at = padding_by (slice_index code at) (instruction code at)

-- where the padding ends that is at an offset
abbrev pub past : Option ℕ → ℕ → (ℕ → ℕ) → ℕ
past None at next = at
past (Some size) at next = next (at + size)

abbrev pub padding_from : (List ℕ → ℕ → Option Effect) → List ℕ → ℕ → ℕ → ℕ
padding_from instruction code zero at = at
padding_from instruction code (suc n) at =
    if nat_le (length code) at then at else past (padding_at instruction code at) at (padding_from instruction code n)

-- how many bytes of padding code begins with
unfoldable pub padding_size : (List ℕ → ℕ → Option Effect) → List ℕ → ℕ
padding_size instruction code = padding_from instruction code (length code) 0

abbrev pub padding_if_there : (List ℕ → ℕ → Option Effect) → Option (List ℕ) → ℕ
padding_if_there instruction None = 0
padding_if_there instruction (Some code) = padding_size instruction code

-- a range without the padding that it begins with
unfoldable pub trimmed : (List ℕ → ℕ → Option Effect) → List CodeSection → Range → Range
trimmed instruction sections range =
    record {
      start = u64_saturate (range.start + padding_if_there instruction (code_at sections range.start (range.end - range.start)));
      end = range.end;
    }

abbrev pub has_bytes : Range → Bool
has_bytes range = nat_lt range.start range.end

-- ranges without the padding that they begin with, if more is in them
abbrev pub without_padding : (List ℕ → ℕ → Option Effect) → List CodeSection → List Range → List Range
without_padding instruction sections ranges = filter has_bytes (map (trimmed instruction sections) ranges)
