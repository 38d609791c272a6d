-- What a CIE's augmentation text says of its augmentation data (LSB, ".eh_frame", "Augmentation String Format"). The
-- letter `z` comes first, and says that there is such data, with its size in front. Each letter after it has arguments
-- in the data, in the order of the letters:
--
-- `R`  one byte: how the FDEs encode the addresses of their code
-- `L`  one byte: how the FDEs encode the address of their language-specific data
-- `P`  one byte: how the personality routine's address is encoded, and that address, which an encoding FF leaves out
-- `S`, `B`, `G`  none: a signal frame, the second key of pointer authentication, tagged memory
--
-- The codes are `B` 66, `G` 71, `L` 76, `P` 80, `R` 82, `S` 83 and `z` 122.
use Rattle.std.specs.Prelude.{ℕ, ◌+◌, ◌/◌, ◌%◌, ◌<◌, ◌≤◌, ◌≡◌, ◌≢◌, ◌⊎◌, true, false, List, [], ◌∷◌, ◌++◌, length, map, slice_range, Some, Ok, ℤ, ◌==◌, if◌then◌else◌}
use Rattle.std.specs.List.{flat_map, last_or, AllByRecursion}
use Rattle.framehop_cfi.specs.Leb128.{uleb_at, sleb_at}
use Rattle.framehop_cfi.specs.PointerEncoding.{DW_EH_PE_absptr, DW_EH_PE_uleb128, DW_EH_PE_udata2, DW_EH_PE_udata4, DW_EH_PE_udata8, DW_EH_PE_sleb128, DW_EH_PE_sdata2, DW_EH_PE_sdata4, DW_EH_PE_sdata8, DW_EH_PE_omit}
use Rattle.framehop_cfi.specs.declared.augmentation.Augmentation.{Augmentation}

-- the bytes are one LEB128 number, and nothing else
abbrev pub IsUleb : List ℕ → Type 0
IsUleb bytes = (number : ℕ) × (uleb_at bytes 0 ≡ Ok (number, length bytes))

abbrev pub IsSleb : List ℕ → Type 0
IsSleb bytes = (number : ℤ) × (sleb_at bytes 0 ≡ Ok (number, length bytes))

-- the bytes are one pointer, by the format of its encoding (LSB, "DWARF Exception Header Encoding")
pub data IsPointer (encoding : ℕ) (bytes : List ℕ) : Type 0 where
  of_two : (encoding % 16 ≡ DW_EH_PE_udata2) ⊎ (encoding % 16 ≡ DW_EH_PE_sdata2) → length bytes ≡ 2 → IsPointer encoding bytes
  of_four : (encoding % 16 ≡ DW_EH_PE_udata4) ⊎ (encoding % 16 ≡ DW_EH_PE_sdata4) → length bytes ≡ 4 → IsPointer encoding bytes
  of_eight : (encoding % 16 ≡ DW_EH_PE_absptr) ⊎ ((encoding % 16 ≡ DW_EH_PE_udata8) ⊎ (encoding % 16 ≡ DW_EH_PE_sdata8))
      → length bytes ≡ 8 → IsPointer encoding bytes
  of_uleb : encoding % 16 ≡ DW_EH_PE_uleb128 → IsUleb bytes → IsPointer encoding bytes
  of_sleb : encoding % 16 ≡ DW_EH_PE_sleb128 → IsSleb bytes → IsPointer encoding bytes

-- it counts from nothing, its own address, the text or the data
abbrev pub CountsFromKnown : ℕ → Type 0
CountsFromKnown encoding = encoding / 16 % 8 < 4

-- the bytes are the arguments of a letter
pub data AreArguments (letter : ℕ) (bytes : List ℕ) : Type 0 where
  of_r : (encoding : ℕ) → letter ≡ 82 → bytes ≡ encoding ∷ [] → AreArguments letter bytes
  of_l : (encoding : ℕ) → letter ≡ 76 → bytes ≡ encoding ∷ [] → AreArguments letter bytes
  of_p : (encoding : ℕ) (pointer : List ℕ) → letter ≡ 80 → bytes ≡ encoding ∷ pointer → encoding ≢ DW_EH_PE_omit
      → CountsFromKnown encoding → IsPointer encoding pointer → AreArguments letter bytes
  of_p_without : letter ≡ 80 → bytes ≡ DW_EH_PE_omit ∷ [] → AreArguments letter bytes
  of_flag : (letter ≡ 83) ⊎ ((letter ≡ 66) ⊎ (letter ≡ 71)) → bytes ≡ [] → AreArguments letter bytes

-- a letter, and the bytes of its arguments
abbrev pub Lettered : Type 0
Lettered = ℕ × List ℕ

-- the bytes that letters `R` have
abbrev pub encodings_of : List Lettered → List ℕ
encodings_of letters = flat_map (λ lettered. if lettered.0 == 82 then lettered.1 else []) letters

-- The data of the letters after `z` says how FDEs encode addresses: by the argument of `R`, of the last one if there
-- are several, and by 0 (an address of 8 bytes) without one. Bytes after the last argument say nothing.
pub record Says (letters contents : List ℕ) (encoding : ℕ) : Type 0 where
  pub arguments : List Lettered
  pub more : List ℕ
  pub are_letters : map (λ (lettered : Lettered). lettered.0) arguments ≡ letters
  pub are_data : flat_map (λ (lettered : Lettered). lettered.1) arguments ++ more ≡ contents
  pub each : AllByRecursion (λ (lettered : Lettered). AreArguments lettered.0 lettered.1) arguments
  pub is_encoding : last_or (Some 0) (encodings_of arguments) ≡ Some encoding

-- the augmentation data at a place in an entry, for the letters after `z`
pub record HasData (letters entry : List ℕ) (at : ℕ) (augmentation : Augmentation) : Type 0 where
  pub size : ℕ
  pub start : ℕ
  pub is_size : uleb_at entry at ≡ Ok (size, start)
  pub held : start + size ≤ length entry
  pub says : Says letters (slice_range entry start (start + size)) augmentation.encoding
  pub ends : augmentation.after_data ≡ start + size
  pub has_data : augmentation.has_data ≡ true

-- without a text there is no augmentation data
pub record HasNoData (at : ℕ) (augmentation : Augmentation) : Type 0 where
  pub absolute : augmentation.encoding ≡ 0
  pub ends : augmentation.after_data ≡ at
  pub has_data : augmentation.has_data ≡ false

-- the augmentation at a place in an entry, whose text has these letters
abbrev pub HasAugmentation : List ℕ → List ℕ → ℕ → Augmentation → Type 0
HasAugmentation [] entry at augmentation = HasNoData at augmentation
HasAugmentation (first ∷ letters) entry at augmentation = (first ≡ 122) × HasData letters entry at augmentation
