use Rattle.std.proofs.Common.{◌≢◌}
use Rattle.framehop_cfi.specs.declared.read_error.ReadError.TheVariants.{OutOfMemory}
use Rattle.framehop_check.proofs.RowLemmas.{spanned-none, spanned-rowless}
use Rattle.framehop_check.proofs.rows.read_spans.Goals as goal

pub returns-else-is_out_of_memory-clause-claims : goal.returns-else-is_out_of_memory-clause-claims
returns-else-is_out_of_memory-clause-claims g c =
    let kept : c.in-Err.error ≢ OutOfMemory = λ is. (let t = c.is_out_of_memory.ensures.1 is in cc) in
    rw c.clear.ensures.items (spanned-rowless g.C.Code.numbered g.C.Code.return_column g.S.UnwindContextStorage.limits c.args.section.now c.args.fde.now c.args.fde.now.initial_address _ c.in-Err.error
    (c.in-Err.ensures.refused kept) (spanned-none g.C.Code.numbered g.C.Code.return_column g.S.UnwindContextStorage.limits c.args.section.now c.args.fde.now))
