use Rattle.std.proofs.Common.{ℕ, map, ap, sym}
use Rattle.std.specs.Prelude.{option_map}
use Rattle.std.proofs.lemmas.Result.{err_from_is_err_and}
use Rattle.framehop_cfi.specs.Section.{section_of}
use Rattle.framehop_dwarf.specs.Index.{pair_of_key, no_memory}
use Rattle.framehop_dwarf.proofs.Entries.{pairs-entries, refused}
use Rattle.framehop_dwarf.proofs.Order.{pair_for-permutation}
use Rattle.framehop_dwarf.proofs.index.DwarfCfiIndex.try_new.Goals as goal

pub returns-in_err-keys-clause-refused : goal.returns-in_err-keys-clause-refused
returns-in_err-keys-clause-refused c =
    let p = err_from_is_err_and c.from_residual.result c.from_residual.ensures.1 in
    let section = section_of c.args.section_type c.args.bases c.args.section.now in
    let first = rw c.new-section.ensures at c.in_err-keys.ensures.first in
    rw (p.1, p.2) (refused section c.args.base_svma c.in_err-keys.field-0.0 first)

pub returns-in-Ok-clause-found : goal.returns-in-Ok-clause-found
returns-in-Ok-clause-found c =
    let section = section_of c.args.section_type c.args.bases c.args.section.now in
    let pairs = map pair_of_key c.in_ok-keys.keys.items in
    let read = rw c.new-section.ensures at c.in_ok-keys.ensures.read in
    let list = pairs-entries section c.args.base_svma pairs read in
    record {
      offsets = list.0;
      pairs = pairs;
      are_all = list.1;
      have = list.2;
      only = c.in-Ok.ensures.only;
      tree = c.in-Ok.ensures.tree;
      same = λ address. ap (λ o. option_map (λ (pair : ℕ × ℕ). pair.1) o) (sym (pair_for-permutation pairs c.in-Ok.index address c.in-Ok.ensures.only));
    }

pub returns-in-Ok-clause-all : goal.returns-in-Ok-clause-all
returns-in-Ok-clause-all c =
    let pairs = map pair_of_key c.in_ok-keys.keys.items in
    record {
      pairs = pairs;
      are_all = rw c.new-section.ensures at c.in_ok-keys.ensures.read;
      same = λ address. ap (λ o. option_map (λ (pair : ℕ × ℕ). pair.1) o) (sym (pair_for-permutation pairs c.in-Ok.index address c.in-Ok.ensures.only));
    }

pub returns-in-Err-clause-lengths : goal.returns-in-Err-clause-lengths
returns-in-Err-clause-lengths c = no_memory
