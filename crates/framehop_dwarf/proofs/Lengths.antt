-- Why the length of an entry can't be read.
use Rattle.std.proofs.Common.{◌≡◌, ℕ, ◌+◌, ◌≤◌, Bool, true, false, List, length, Result, Ok, Err, subst, arith, leb, ltb, ◌==◌, if◌then◌else◌}
use Rattle.framehop_bytes.specs.Bytes.{◌>>=◌, le4, le8}
use Rattle.framehop_cfi.specs.Numbers.{u32_at, u64_at}
use Rattle.framehop_cfi.specs.EntryExtent.{held, long_extent, extent_at}
use Rattle.framehop_cfi.specs.declared.extent.EntryExtent.{EntryExtent}
use Rattle.framehop_cfi.specs.declared.read_error.ReadError.{ReadError}
use Rattle.framehop_cfi.specs.declared.read_error.ReadError.TheVariants.{Eof, BadLength}
use Rattle.framehop_dwarf.specs.declared.index.DwarfCfiIndexError.TheVariants.{Gimli}
use Rattle.framehop_dwarf.specs.Index.{IsIndexRefusal, reserved_length, cut_off}

-- what is refused is an index's refusal
abbrev IsOfLength : {A : Type 0} → Result A ReadError → Type 0
IsOfLength (Ok x) = Unit {0}
IsOfLength (Err error) = IsIndexRefusal (Gimli error)

if-held : {A : Type 0} (holds : Bool) (x : A) → IsOfLength {A = A} (if holds then Ok x else Err Eof)
if-held true x = tt
if-held false x = cut_off

if-either : {A : Type 0} (one : Bool) (x y : Result A ReadError) → IsOfLength x → IsOfLength y → IsOfLength (if one then x else y)
if-either true x y p q = p
if-either false x y p q = q

read-first : {A B : Type 0} (r : Result A ReadError) (f : A → Result B ReadError) → IsOfLength r → ((x : A) → IsOfLength (f x)) → IsOfLength (r >>= f)
read-first (Ok x) f p q = q x
read-first (Err error) f p q = p

of-held : (bytes : List ℕ) (size contents len : ℕ) → IsOfLength (held bytes size contents len)
of-held bytes size contents len = if-held {A = EntryExtent} (leb (contents + len) (length bytes)) (record { contents = contents; end = contents + len; offset_size = size })

of-u32 : (bytes : List ℕ) (at : ℕ) → IsOfLength (u32_at bytes at)
unfolding u32_at
of-u32 bytes at = if-held (leb (at + 4) (length bytes)) (le4 bytes at, at + 4)

of-u64 : (bytes : List ℕ) (at : ℕ) → IsOfLength (u64_at bytes at)
unfolding u64_at
of-u64 bytes at = if-held (leb (at + 8) (length bytes)) (le8 bytes at, at + 8)

of-extent : (bytes : List ℕ) (at : ℕ) → IsOfLength (extent_at bytes at)
unfolding extent_at long_extent
of-extent bytes at =
    read-first (u32_at bytes at) _ (of-u32 bytes at) (λ short.
    if-either (ltb short.0 0xFFFFFFF0) (held bytes 4 short.1 short.0) (if short.0 == 0xFFFFFFFF then long_extent bytes short.1 else Err BadLength) (of-held bytes 4 short.1 short.0)
    (if-either (short.0 == 0xFFFFFFFF) (long_extent bytes short.1) (Err BadLength)
    (read-first (u64_at bytes short.1) _ (of-u64 bytes short.1) (λ long. of-held bytes 8 long.1 long.0)) reserved_length))

-- a length that can't be read refuses an index
pub refused-length : (bytes : List ℕ) (at : ℕ) (error : ReadError) → extent_at bytes at ≡ Err error → IsIndexRefusal (Gimli error)
refused-length bytes at error is = subst (λ r. IsOfLength r) is (of-extent bytes at)

-- what is read has its contents at a number or after it
abbrev IsFrom : ℕ → Result EntryExtent ReadError → Type 0
IsFrom n (Ok extent) = n ≤ extent.contents
IsFrom n (Err error) = Unit {0}

from-if : (n : ℕ) (holds : Bool) (extent : EntryExtent) → n ≤ extent.contents → IsFrom n (if holds then Ok extent else Err Eof)
from-if n true extent le = le
from-if n false extent le = tt

from-held : (n : ℕ) (bytes : List ℕ) (size contents len : ℕ) → n ≤ contents → IsFrom n (held bytes size contents len)
from-held n bytes size contents len le = from-if n (leb (contents + len) (length bytes)) (record { contents = contents; end = contents + len; offset_size = size }) le

from-either : (n : ℕ) (one : Bool) (x y : Result EntryExtent ReadError) → IsFrom n x → IsFrom n y → IsFrom n (if one then x else y)
from-either n true x y p q = p
from-either n false x y p q = q

from-read : (n : ℕ) (holds : Bool) (read : ℕ × ℕ) (f : ℕ × ℕ → Result EntryExtent ReadError) → IsFrom n (f read) → IsFrom n ((if holds then Ok read else Err Eof) >>= f)
from-read n true read f p = p
from-read n false read f p = tt

from-u32 : (n : ℕ) (bytes : List ℕ) (at : ℕ) (f : ℕ × ℕ → Result EntryExtent ReadError) → IsFrom n (f (le4 bytes at, at + 4)) → IsFrom n (u32_at bytes at >>= f)
unfolding u32_at
from-u32 n bytes at f p = from-read n (leb (at + 4) (length bytes)) (le4 bytes at, at + 4) f p

from-u64 : (n : ℕ) (bytes : List ℕ) (at : ℕ) (f : ℕ × ℕ → Result EntryExtent ReadError) → IsFrom n (f (le8 bytes at, at + 8)) → IsFrom n (u64_at bytes at >>= f)
unfolding u64_at
from-u64 n bytes at f p = from-read n (leb (at + 8) (length bytes)) (le8 bytes at, at + 8) f p

from-extent : (bytes : List ℕ) (at : ℕ) → IsFrom (at + 4) (extent_at bytes at)
unfolding extent_at long_extent
from-extent bytes at =
    from-u32 (at + 4) bytes at _
    (from-either (at + 4) (ltb (le4 bytes at) 0xFFFFFFF0) (held bytes 4 (at + 4) (le4 bytes at)) (if le4 bytes at == 0xFFFFFFFF then long_extent bytes (at + 4) else Err BadLength) (from-held (at + 4) bytes 4 (at + 4) (le4 bytes at) (omega arith))
    (from-either (at + 4) (le4 bytes at == 0xFFFFFFFF) (long_extent bytes (at + 4)) (Err BadLength)
    (from-u64 (at + 4) bytes (at + 4) _ (from-held (at + 4) bytes 8 (at + 4 + 8) (le8 bytes (at + 4)) (omega arith))) tt))

-- the contents of an entry come after the four bytes of its length
pub after-length : (bytes : List ℕ) (at : ℕ) (extent : EntryExtent) → extent_at bytes at ≡ Ok extent → at + 4 ≤ extent.contents
after-length bytes at extent is = subst (λ r. IsFrom (at + 4) r) is (from-extent bytes at)
