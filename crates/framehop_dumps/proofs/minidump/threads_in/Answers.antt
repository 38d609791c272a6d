use Rattle.framehop_dumps.specs.ThreadNames.{named_view}
use Rattle.std.proofs.Common.{◌≡◌, ◌<◌, inr, length, map, arith}
use Rattle.std.proofs.lemmas.Result.{err_from_is_err_and}
use Rattle.framehop_dumps.specs.Dump.{thread_view}
use Rattle.framehop_dumps.specs.Minidump.{thread_in}
use Rattle.framehop_dumps.proofs.EachLemmas.{each-more, each-refused, each-done}
use Rattle.framehop_dumps.proofs.minidump.threads_in.Goals as goal

pub returns-in_err-one : goal.returns-in_err-one
returns-in_err-one c =
    let l = c.loop-thread in
    let a = c.args.of_all in
    let within : l.thread-index < length c.args.listed.now = omega arith in
    let p = err_from_is_err_and c.from_residual.result c.from_residual.ensures.1 in
    rw (p.1, p.2) (inr (each-refused thread_view (thread_in c.args.file.now a.platform a.code_mask a.exception (map named_view c.args.names.now.listed.now)) c.args.listed.now l.thread-index _ l.threads.items c.in_err-one.field-0.0 within l.invariant c.in_err-one.ensures))

pub loop-thread-preserved : goal.loop-thread-preserved
loop-thread-preserved c =
    let l = c.loop-thread in
    let a = c.args.of_all in
    let within : l.thread-index < length c.args.listed.now = omega arith in
    rw c.in-Ok.ensures.items
    (each-more thread_view (thread_in c.args.file.now a.platform a.code_mask a.exception (map named_view c.args.names.now.listed.now)) c.args.listed.now l.thread-index _ l.threads.items c.in_ok-one.one within l.invariant c.in_ok-one.ensures)

pub returns : goal.returns
returns c =
    let l = c.loop-thread in
    let a = c.args.of_all in
    let over : l.thread-index ≡ length c.args.listed.now = omega arith in
    each-done thread_view (thread_in c.args.file.now a.platform a.code_mask a.exception (map named_view c.args.names.now.listed.now)) c.args.listed.now l.thread-index l.threads.items over l.invariant
