use Rattle.std.proofs.Common.{◌≡◌, ◌∙◌, ◌<◌, [], length, drop, refl, ap, sym, subst, arith}
use Rattle.std.specs.Io.KnownBytes.{Appends}
use Rattle.std.proofs.KnownBytes.{Appends-nil}
use Rattle.std.proofs.lemmas.List.{at_drop_all}
use Rattle.framehop_dumps.specs.Dump.{dump_view}
use Rattle.framehop_dump_stacks.proofs.ReportLemmas.{next-thread, all-threads}
use Rattle.framehop_dump_stacks.proofs.report.write_threads.Goals as goal

pub loop-number-init : goal.loop-number-init
loop-number-init g c =
    (c.in_ok-cache.ensures c.args.process.now.unwinder, ([], refl, λ later are. are, Appends-nil c.args.out.now.bytes), refl)

pub loop-number-preserved : goal.loop-number-preserved
loop-number-preserved g c =
    let l = c.loop-number in
    let process = c.args.process.now in
    let dump = dump_view c.args.dump.now in
    let items = c.as_slice-threads.result.now in
    let within : l.number < length items = omega arith in
    let told = c.in_ok-text.ensures.told l.invariant.0 in
    let old = l.out.bytes in
    let new = c.write_part.new.out.bytes in (
      c.in_ok-text.ensures.stays_sound process.unwinder (λ same. refl) l.invariant.0,
      next-thread g.U.Steps.walker g.U.Dumped.begins c.args.limit g.U.Steps.is_note (g.R.Report.is_explained c.args.report.now) c.args.files.now
          process.mappings process.unwinder.modules dump (g.R.Report.thread_text c.args.report.now dump c.args.files.now process.mappings)
          c.args.dump.now.threads.items items c.as_slice-threads.ensures.value l.number _ within c.args.out.now.bytes old new
          told.0 told.1 (subst (Appends old new) (c.as_slice.ensures.value ∙ told.2) c.in_ok-write_part.ensures.written) l.invariant.1,
      c.in_ok-write_part.ensures.noted ∙ l.invariant.2,
    )

pub returns-clause-printed : goal.returns-clause-printed
returns-clause-printed g c =
    let l = c.loop-number in
    let process = c.args.process.now in
    let dump = dump_view c.args.dump.now in
    let threads = c.args.dump.now.threads.items in
    let none : drop l.number threads ≡ [] =
    ap (drop l.number) (sym c.as_slice-threads.ensures.value) ∙ at_drop_all (λ xs. xs) c.as_slice-threads.result.now l.number (omega arith) in
    all-threads g.U.Steps.walker g.U.Dumped.begins c.args.limit g.U.Steps.is_note (g.R.Report.is_explained c.args.report.now) c.args.files.now
    process.mappings process.unwinder.modules dump (g.R.Report.thread_text c.args.report.now dump c.args.files.now process.mappings)
    threads l.number c.args.out.now.bytes l.out.bytes none l.invariant.1
