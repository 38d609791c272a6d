use Rattle.std.proofs.Common.{◌∙◌, ◌+◌, ◌*◌, ◌<◌, ◌/◌, Some, length, sym, ap, rules, arith}
use Rattle.std.specs.Prelude.{option_map}
use Rattle.framehop_bytes.specs.Bytes.{le8}
use Rattle.framehop_dump_files.specs.Coredump.AuxiliaryVector.{is_entry}
use Rattle.framehop_dump_files.proofs.VectorLemmas.{find-later, find-here}
use Rattle.framehop_dump_files.proofs.coredump.auxiliary_vector.value_of.Goals as goal

pub loop-number-preserved : goal.loop-number-preserved
loop-number-preserved c =
    let l = c.loop-number in
    let vector = c.args.vector.now in
    let within : l.number < length vector / 16 = omega arith in
    l.invariant ∙ find-later (is_entry vector c.args.a_type) (length vector / 16) l.number within (search rules)

pub returns-then-u64_at-a_type : goal.returns-then-u64_at-a_type
returns-then-u64_at-a_type c =
    let l = c.loop-number in
    let vector = c.args.vector.now in
    let found = l.invariant ∙ find-here (is_entry vector c.args.a_type) (length vector / 16) l.number c.loop-number-test.true (search rules) in
    ap Some c.u64_at-then-u64_at-a_type.ensures ∙ sym (ap (option_map (λ number. le8 vector (number * 16 + 8))) found)
