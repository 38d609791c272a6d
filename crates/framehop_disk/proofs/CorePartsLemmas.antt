-- The segments that are read apart of a core file are in the order of their addresses.
use Rattle.std.proofs.Common.{ℕ, List, sym, subst}
use Rattle.std.specs.List.Sorted.{IsNonDecreasingBy}
use Rattle.framehop_object.specs.declared.elf.program_header.ProgramHeader.{ProgramHeader}
use Rattle.framehop_disk.specs.declared.wanted.WantedSegment.{WantedSegment}
use Rattle.framehop_disk.specs.CoreParts.{AreApart}
use Rattle.framehop_disk.specs.Segments.{wanted_beside}
use Rattle.framehop_disk.specs.Wanted.{start_of}
use Rattle.framehop_disk.proofs.WantedLemmas.{in-order, wanted-rise}

pub apart-ordered : (front : List ℕ) (headers : List ProgramHeader) (size : ℕ) (segments : List WantedSegment)
    → AreApart front headers size segments → IsNonDecreasingBy start_of segments
apart-ordered front headers size segments (loaded, found, (files, mapped, are)) =
    subst (IsNonDecreasingBy start_of) (sym are)
    (in-order 0 (wanted_beside files loaded) (wanted-rise files 0 loaded found.2))
