-- Minidumps that are read.
use Rattle.std.proofs.Common.{◌≡◌, ℕ, List, Ok, Err, ap, sym, subst, Result, ◌∙◌}
use Rattle.framehop_bytes.specs.Bytes.{◌>>=◌}
use Rattle.framehop_dump_files.specs.declared.minidump.error.MinidumpError.{MinidumpError}
use Rattle.framehop_dumps.specs.Dump.{DumpView}
use Rattle.framehop_dumps.specs.Minidump.{PartsView, parts_of, dump_in, minidump_of}

module _ (file : List ℕ) where
  -- a minidump that is read
  pub minidump-is : (parts : PartsView) (dump : DumpView) → parts_of file ≡ Ok parts
      → dump_in file parts ≡ Ok dump → minidump_of file ≡ Ok (dump, parts.modules)
  unfolding minidump_of
  minidump-is parts dump first second =
      ap (λ r. r >>= (λ parts. dump_in file parts >>= (λ dump. Ok (dump, parts.modules)))) first
      ∙ ap (λ d. d >>= (λ dump. Ok (dump, parts.modules))) second

  -- one that is refused by its parts
  pub refused-first : (error : MinidumpError) → parts_of file ≡ Err error → minidump_of file ≡ Err error
  unfolding minidump_of
  refused-first error first =
      ap (λ r. r >>= (λ parts. dump_in file parts >>= (λ dump. Ok (dump, parts.modules)))) first

  -- one that is refused by the rest
  pub refused-second : (parts : PartsView) (error : MinidumpError) → parts_of file ≡ Ok parts
      → dump_in file parts ≡ Err error → minidump_of file ≡ Err error
  unfolding minidump_of
  refused-second parts error first second =
      ap (λ r. r >>= (λ parts. dump_in file parts >>= (λ dump. Ok (dump, parts.modules)))) first
      ∙ ap (λ d. d >>= (λ dump. Ok (dump, parts.modules))) second

abbrev is_ok : {A E : Type 0} → Result A E → Type 0
is_ok (Ok value) = Unit {0}
is_ok (Err error) = ⊥

-- what is read is not refused
pub not-both : {A E P : Type 0} (read : Result A E) (value : A) (error : E) → read ≡ Ok value → read ≡ Err error → P
not-both read value error accepted refused = absurd (subst is_ok (sym accepted ∙ refused) tt)
