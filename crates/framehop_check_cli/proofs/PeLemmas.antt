-- The entries of a function table, one after another.
use Rattle.std.proofs.Common.{◌≡◌, ◌+◌, ◌-◌, ◌<◌, ℕ, suc, List, Option, Some, None, refl, ap, ◌∙◌, arith}
use Rattle.std.specs.List.{filter_map, fold, range_with_len}
use Rattle.framehop_pe.specs.declared.unwind_info.function_table.RuntimeFunction.{RuntimeFunction}
use Rattle.framehop_object.specs.Pe.PeFile.{PeFile}
use Rattle.framehop_check_cli.specs.Findings.{Found}
use Rattle.framehop_check_cli.specs.PeFindings.{function_in, with_entry, with_found}
use Rattle.framehop_check_cli.specs.declared.file.Options.{Options}

module _ (image : PeFile) (options : Options) (table : List ℕ) (found : Found) (number : ℕ) where
  abbrev all : Found → List ℕ → Found
  all now numbers = fold (with_entry image options) now (filter_map (function_in table) numbers)

  one-by : (left : ℕ) (function : Option RuntimeFunction) → function_in table number ≡ function
      → all found (range_with_len number (suc left)) ≡ all (with_found image options found function) (range_with_len (number + 1) left)
  one-by left None is = rw is refl
  one-by left (Some function) is = rw is refl

  same-left : (count left : ℕ) → count ≡ left → all found (range_with_len number count) ≡ all found (range_with_len number left)
  same-left count left is = ap (λ n. all found (range_with_len number n)) is

  -- an entry is looked at, and the others are left
  pub one-entry : (count : ℕ) → number < count
      → all found (range_with_len number (count - number))
      ≡ all (with_found image options found (function_in table number)) (range_with_len (number + 1) (count - (number + 1)))
  one-entry count less =
      same-left (count - number) (suc (count - (number + 1))) (omega (arith, less)) ∙ one-by (count - (number + 1)) (function_in table number) refl
