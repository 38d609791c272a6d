use Rattle.std.proofs.Common.{◌≡◌, take}
use Rattle.std.specs.List.{flat_map}
use Rattle.framehop_object.specs.Elf.Segment.{loaded_if}
use Rattle.framehop_object.proofs.elf.segment.loaded_segments.Given as goal

abbrev pub invariant-loop-header : goal.invariant-loop-header
invariant-loop-header l = l.segments.items ≡ flat_map loaded_if (take l.header-index l.headers)
