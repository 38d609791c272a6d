-- What is left of the operations of an address.
use Rattle.std.specs.Prelude.{List, ◌++◌, ℕ}
use Rattle.std.specs.List.{flat_map}
use Rattle.framehop_pe.specs.Chain.{framed, all_of, infos_from}
use Rattle.framehop_pe.specs.Info.{Info, left_codes}
use Rattle.framehop_pe.specs.Sections.{sections_of}
use Rattle.framehop_pe.specs.declared.unwind_info.chain.FramedOperation.{FramedOperation}
use Rattle.framehop_pe.specs.declared.unwind_info.chain.UnwindOperations.{UnwindOperations}

-- the infos that are left of a chain
abbrev pub left_infos : {D : Type 0} → (D → List ℕ) → UnwindOperations D → List Info
left_infos contents o = infos_from (sections_of contents o.sections.now) o.left o.chained

-- the operations of the codes that are left, then those of the infos that are left
abbrev pub left_operations : {D : Type 0} → (D → List ℕ) → UnwindOperations D → List FramedOperation
left_operations contents o = framed o.base (left_codes o.codes) ++ flat_map all_of (left_infos contents o)
