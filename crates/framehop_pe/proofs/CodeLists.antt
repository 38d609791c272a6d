-- Codes read one by one.
use Rattle.std.proofs.Common.{◌≡◌, ℕ, zero, suc, ◌-◌, ◌<◌, ◌≤◌, Bool, true, false, ◌||◌, nat_le, nat_eq, List, [], ◌∷◌, length, drop, Some, None, refl, ap, sym, ◌∙◌, arith}
use Rattle.std.proofs.lemmas.Bool.Decides.{nat_tests}
use Rattle.framehop_pe.specs.Codes.{unwind_code_at, read_codes, and_codes}
use Rattle.framehop_pe.specs.Info.{from_first, skips_frame, sets_frame}
use Rattle.framehop_pe.specs.declared.unwind_info.operation.UnwindCode.{UnwindCode}

-- bytes that belong to a code are passed over
read_codes-skip : (f : Bool) (n : ℕ) (bytes : List ℕ) → read_codes f n bytes ≡ read_codes f 0 (drop n bytes)
unfolding read_codes
read_codes-skip f zero bytes = refl
read_codes-skip f (suc n) [] = refl
read_codes-skip f (suc n) (b ∷ bytes) = read_codes-skip f n bytes

one-less : (n : ℕ) → suc n - 1 ≡ n
one-less n = omega arith

-- what a code of n + 1 bytes gives
more : (f : Bool) (b : ℕ) (bytes : List ℕ) (code : UnwindCode) (n : ℕ) → unwind_code_at f (b ∷ bytes) ≡ Some (code, suc n) → read_codes f 0 (b ∷ bytes) ≡ and_codes (Some (code, suc n)) (λ size. read_codes f 0 (drop n bytes))
unfolding read_codes
more f b bytes code n e =
    ap (λ found. and_codes found (λ size. read_codes f (size - 1) bytes)) e
    ∙ ap (λ m. and_codes (Some (code, suc n)) (λ size. read_codes f m bytes)) (one-less n)
    ∙ ap (λ next. and_codes (Some (code, suc n)) (λ size. next)) (read_codes-skip f n bytes)

-- a code, and the codes after it
read_codes-one : (f : Bool) (bytes : List ℕ) (code : UnwindCode) (size : ℕ) → unwind_code_at f bytes ≡ Some (code, size) → 0 < size → size ≤ length bytes → (read_codes f 0 bytes).0 ≡ code ∷ (read_codes f 0 (drop size bytes)).0
read_codes-one f [] code zero e some within = absurd (omega arith)
read_codes-one f [] code (suc n) e some within = absurd (omega arith)
read_codes-one f (b ∷ bytes) code zero e some within = absurd (omega arith)
read_codes-one f (b ∷ bytes) code (suc n) e some within = ap (λ read. read.0) (more f b bytes code n e)

read_codes-one_whole : (f : Bool) (bytes : List ℕ) (code : UnwindCode) (size : ℕ) → unwind_code_at f bytes ≡ Some (code, size) → 0 < size → size ≤ length bytes → (read_codes f 0 bytes).1 ≡ (read_codes f 0 (drop size bytes)).1
read_codes-one_whole f [] code zero e some within = absurd (omega arith)
read_codes-one_whole f [] code (suc n) e some within = absurd (omega arith)
read_codes-one_whole f (b ∷ bytes) code zero e some within = absurd (omega arith)
read_codes-one_whole f (b ∷ bytes) code (suc n) e some within = ap (λ read. read.1) (more f b bytes code n e)

-- the same, of bytes that are those after the code
pub read_codes-more : (f : Bool) (bytes rest : List ℕ) (code : UnwindCode) (size : ℕ) → Some (code, size) ≡ unwind_code_at f bytes → (0 < size) × (size ≤ length bytes) → rest ≡ drop size bytes → (read_codes f 0 bytes).0 ≡ code ∷ (read_codes f 0 rest).0
read_codes-more f bytes rest code size e within is =
    read_codes-one f bytes code size (sym e) within.0 within.1 ∙ ap (λ r. code ∷ (read_codes f 0 r).0) (sym is)

pub read_codes-front : (f : Bool) (bytes : List ℕ) (code : UnwindCode) (size : ℕ) → Some (code, size) ≡ unwind_code_at f bytes → (0 < size) × (size ≤ length bytes) → (read_codes f 0 bytes).0 ≡ code ∷ (read_codes f 0 (drop size bytes)).0
read_codes-front f bytes code size e within = read_codes-one f bytes code size (sym e) within.0 within.1

pub read_codes-whole : (f : Bool) (bytes rest : List ℕ) (code : UnwindCode) (size : ℕ) → Some (code, size) ≡ unwind_code_at f bytes → (0 < size) × (size ≤ length bytes) → rest ≡ drop size bytes → (read_codes f 0 bytes).1 ≡ (read_codes f 0 rest).1
read_codes-whole f bytes rest code size e within is =
    read_codes-one_whole f bytes code size (sym e) within.0 within.1 ∙ ap (λ r. (read_codes f 0 r).1) (sym is)

-- no code
last : (f : Bool) (b : ℕ) (bytes : List ℕ) → None ≡ unwind_code_at f (b ∷ bytes) → read_codes f 0 (b ∷ bytes) ≡ ([], false)
unfolding read_codes
last f b bytes e = ap (λ found. and_codes found (λ size. read_codes f (size - 1) bytes)) (sym e)

pub read_codes-none : (f : Bool) (bytes : List ℕ) → None ≡ unwind_code_at f bytes → (read_codes f 0 bytes).0 ≡ []
unfolding read_codes
read_codes-none f [] e = refl
read_codes-none f (b ∷ bytes) e = ap (λ read. read.0) (last f b bytes e)

-- the bytes are codes to their end where none is left
pub read_codes-end : (f : Bool) (bytes : List ℕ) → None ≡ unwind_code_at f bytes → (read_codes f 0 bytes).1 ≡ nat_eq (length bytes) 0
unfolding read_codes
read_codes-end f [] e = refl
read_codes-end f (b ∷ bytes) e =
    let some : nat_eq (length (b ∷ bytes)) 0 ≡ false = grind (arith, nat_tests) in
    ap (λ read. read.1) (last f b bytes e) ∙ sym some

-- the codes beyond an offset: one more that is, and the first that is not
pub from_first-beyond : (offset : ℕ) (code : UnwindCode) (codes : List UnwindCode) → offset < code.offset_in_prolog → from_first offset (code ∷ codes) ≡ from_first offset codes
from_first-beyond offset code codes beyond = let e : nat_le code.offset_in_prolog offset ≡ false = grind (arith, nat_tests) in rw e refl

pub from_first-here : (offset : ℕ) (code : UnwindCode) (codes : List UnwindCode) → code.offset_in_prolog ≤ offset → (from_first offset (code ∷ codes) ≡ code ∷ codes) × (skips_frame offset (code ∷ codes) ≡ false)
from_first-here offset code codes here =
    let e : nat_le code.offset_in_prolog offset ≡ true = grind (arith, nat_tests) in
    (rw e refl, rw e refl)

pub skips_frame-beyond : (offset : ℕ) (code : UnwindCode) (codes : List UnwindCode) → offset < code.offset_in_prolog → skips_frame offset (code ∷ codes) ≡ (sets_frame code.operation || skips_frame offset codes)
skips_frame-beyond offset code codes beyond = let e : nat_le code.offset_in_prolog offset ≡ false = grind (arith, nat_tests) in rw e refl

or-assoc : (a b d : Bool) → ((a || b) || d) ≡ (a || (b || d))
or-assoc true b d = refl
or-assoc false b d = refl

or-false : (b : Bool) → (b || false) ≡ b
or-false true = refl
or-false false = refl

pub skipped-none : (b d e : Bool) → d ≡ false → (b || d) ≡ e → b ≡ e
skipped-none b d e none h = sym (or-false b) ∙ ap (λ x. b || x) (sym none) ∙ h

-- one more code that is beyond the offset: the loop's two facts
pub skipped-more : (offset : ℕ) (code : UnwindCode) (codes rest all : List UnwindCode) (skips now : Bool) (at : ℕ) → codes ≡ code ∷ rest → at ≡ code.offset_in_prolog → offset < at → now ≡ (skips || sets_frame code.operation) → from_first offset codes ≡ from_first offset all → (skips || skips_frame offset codes) ≡ skips_frame offset all → (from_first offset rest ≡ from_first offset all) × ((now || skips_frame offset rest) ≡ skips_frame offset all)
skipped-more offset code codes rest all skips now at is at_is beyond now_is left frame =
    let b : offset < code.offset_in_prolog = omega arith in (
      sym (from_first-beyond offset code rest b) ∙ ap (from_first offset) (sym is) ∙ left,
      ap (λ n. n || skips_frame offset rest) now_is ∙ or-assoc skips (sets_frame code.operation) (skips_frame offset rest) ∙ ap (λ x. skips || x) (sym (skips_frame-beyond offset code rest b)) ∙ ap (λ cs. skips || skips_frame offset cs) (sym is) ∙ frame,
    )

-- the first code that is not beyond it
pub skipped-end : (offset : ℕ) (code : UnwindCode) (codes rest all : List UnwindCode) (skips : Bool) (at : ℕ) → codes ≡ code ∷ rest → at ≡ code.offset_in_prolog → at ≤ offset → from_first offset codes ≡ from_first offset all → (skips || skips_frame offset codes) ≡ skips_frame offset all → (codes ≡ from_first offset all) × (skips ≡ skips_frame offset all)
skipped-end offset code codes rest all skips at is at_is here left frame =
    let h = from_first-here offset code rest (omega arith) in (
      is ∙ sym h.0 ∙ ap (from_first offset) (sym is) ∙ left,
      skipped-none skips (skips_frame offset codes) _ (ap (skips_frame offset) is ∙ h.1) frame,
    )
