-- Sections of a recording that are moved one after another.
use Rattle.std.proofs.Common.{◌≡◌, ◌<◌, ◌+◌, ◌-◌, ◌∙◌, ℕ, suc, List, ap, arith}
use Rattle.std.specs.Prelude.{Some, None, option_and_then}
use Rattle.framehop_recording.specs.declared.header.Section.{Section}
use Rattle.framehop_disk.specs.RecordingFrame.{section_moved, sections_moved}
use Rattle.framehop_disk.specs.Wanted.{sum_64}

one_less : (n count : ℕ) → n < count → count - n ≡ suc (count - (n + 1))
one_less n count below = omega (arith, below)

-- the first of those that are left, and then the others
pub moved-first : (records : Section) (at n count : ℕ) (bytes : List ℕ) → n < count
    → sections_moved records at (count - n) bytes
    ≡ option_and_then (λ moved. sections_moved records (sum_64 at 16) (count - (n + 1)) moved) (section_moved records at bytes)
moved-first records at n count bytes below = ap (λ left. sections_moved records at left bytes) (one_less n count below)

pub moved-some : (records : Section) (at n count : ℕ) (bytes moved : List ℕ) → n < count → section_moved records at bytes ≡ Some moved
    → sections_moved records at (count - n) bytes ≡ sections_moved records (sum_64 at 16) (count - (n + 1)) moved
moved-some records at n count bytes moved below is =
    moved-first records at n count bytes below
    ∙ ap (option_and_then (λ moved. sections_moved records (sum_64 at 16) (count - (n + 1)) moved)) is

pub moved-none : (records : Section) (at n count : ℕ) (bytes : List ℕ) → n < count → section_moved records at bytes ≡ None
    → sections_moved records at (count - n) bytes ≡ None
moved-none records at n count bytes below is =
    moved-first records at n count bytes below
    ∙ ap (option_and_then (λ moved. sections_moved records (sum_64 at 16) (count - (n + 1)) moved)) is
