use Rattle.std.proofs.Common.{◌≡◌, ◌-◌, ◌/◌, length}
use Rattle.std.specs.List.{find, range_with_len}
use Rattle.framehop_dump_files.specs.Coredump.AuxiliaryVector.{is_entry}
use Rattle.framehop_dump_files.proofs.coredump.auxiliary_vector.value_of.Given as goal

abbrev pub invariant-loop-number : goal.invariant-loop-number
invariant-loop-number l =
    find (is_entry l.vector l.a_type) (range_with_len 0 (length l.vector / 16))
    ≡ find (is_entry l.vector l.a_type) (range_with_len l.number (length l.vector / 16 - l.number))
