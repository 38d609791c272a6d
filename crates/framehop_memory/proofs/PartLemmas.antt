-- Of an address that was read the parts of a file have what the whole file has.
use Rattle.std.proofs.Common.{◌≡◌, ℕ, ◌+◌, ◌-◌, ◌<◌, ◌≤◌, false, inl, inr, List, [], ◌∷◌, length, drop, take, map, Some, refl, ap, sym, ◌∙◌, arith}
use Rattle.std.specs.Prelude.{option_map}
use Rattle.std.specs.List.{find}
use Rattle.std.proofs.lemmas.Bool.{cases_Bool}
use Rattle.std.proofs.lemmas.Bool.Decides.{nat_tests}
use Rattle.std.proofs.lemmas.List.{drop-drop, length-drop}
use Rattle.framehop_memory.specs.Memory.{bytes_in, bytes_of, bytes_after}
use Rattle.framehop_memory.specs.Parts.{read_range, segment_range, whole_memory, is_before, is_left_out, IsReadFrom, AreReadFrom}
use Rattle.framehop_memory.specs.Range.{dumped, has}
use Rattle.framehop_memory.specs.declared.left_out.ReadPart.{ReadPart}
use Rattle.framehop_memory.specs.declared.memory.MemoryRange.{MemoryRange}

module _ (file bytes : List ℕ) (address : ℕ) where
  -- as many bytes are there
  has-same : (size : ℕ) (part : ReadPart) → IsReadFrom file bytes part → is_before address part ≡ false → 0 < size
      → has bytes address size part.read ≡ has file address size part.segment
  has-same size part is after some =
      let n : length (dumped bytes part.read) ≡ part.segment.size - (part.read.start - part.segment.start) =
      rw is.bytes_are (length-drop (part.read.start - part.segment.start) (dumped file part.segment) ∙ ap (λ k. k - (part.read.start - part.segment.start)) is.whole) in
      let begins = is.begins in
      let ends = is.ends in
      let whole = is.whole in
      grind (arith, nat_tests)

  -- and they are the same from the address on
  rest-same : (part : ReadPart) → IsReadFrom file bytes part → part.read.start ≤ address
      → drop (address - part.read.start) (dumped bytes part.read) ≡ drop (address - part.segment.start) (dumped file part.segment)
  rest-same part is after =
      let begins = is.begins in
      let k : (part.read.start - part.segment.start) + (address - part.read.start) ≡ address - part.segment.start = omega (arith, begins, after) in
      rw (is.bytes_are, drop-drop (address - part.read.start) (part.read.start - part.segment.start) (dumped file part.segment), k) refl

  -- so what is made of them is the same
  module _ (size : ℕ) (some : 0 < size) (made made-whole : MemoryRange → List ℕ)
      (same : (part : ReadPart) → IsReadFrom file bytes part → part.read.start ≤ address → made part.read ≡ made-whole part.segment) where
    pub made-same : (parts : List ReadPart) → AreReadFrom file bytes parts → is_left_out address parts ≡ false
        → option_map made (find (has bytes address size) (map read_range parts))
        ≡ option_map made-whole (find (has file address size) (map segment_range parts))
    made-same [] are after = refl
    made-same (part ∷ parts) are after =
        let here : is_before address part ≡ false = grind (arith, nat_tests) in
        let later : is_left_out address parts ≡ false = grind (arith, nat_tests) in
        let alike = has-same size part are.0 here some in
        elim (cases_Bool (has bytes address size part.read)) [
          | inl passes ↦
              let begins : part.read.start ≤ address = grind (arith, nat_tests) in
              rw (passes, sym alike ∙ passes) (ap Some (same part are.0 begins))
          | inr fails ↦ rw (fails, sym alike ∙ fails) (made-same parts are.1 later)
        ]

pub bytes-same : (file bytes : List ℕ) (parts : List ReadPart) → AreReadFrom file bytes parts
    → (address size : ℕ) → is_left_out address parts ≡ false → 0 < size
    → bytes_of (record { file = bytes; ranges = map read_range parts }) address size ≡ bytes_of (whole_memory file parts) address size
bytes-same file bytes parts are address size after some =
    made-same file bytes address size some (bytes_in bytes address size) (bytes_in file address size)
    (λ part is begins. ap (take size) (rest-same file bytes address part is begins)) parts are after

pub after-same : (file bytes : List ℕ) (parts : List ReadPart) → AreReadFrom file bytes parts
    → (address : ℕ) → is_left_out address parts ≡ false
    → bytes_after (record { file = bytes; ranges = map read_range parts }) address ≡ bytes_after (whole_memory file parts) address
after-same file bytes parts are address after =
    made-same file bytes address 1 (omega arith) (λ range. drop (address - range.start) (dumped bytes range))
    (λ range. drop (address - range.start) (dumped file range))
    (λ part is begins. rest-same file bytes address part is begins) parts are after
