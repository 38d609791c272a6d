use Rattle.std.proofs.Common.{◌≡◌}
use Rattle.framehop_dumps.specs.Dump.{dump_view}
use Rattle.framehop_dump_stacks.proofs.ReportLemmas.{AreWalkedUpTo}
use Rattle.framehop_dump_stacks.proofs.report.write_threads.Given as goal

abbrev pub invariant-loop-number : goal.invariant-loop-number
invariant-loop-number g l =
    g.U.Unwinder.is_sound l.process.unwinder l.cache
    × AreWalkedUpTo g.U.Steps.walker g.U.Dumped.begins l.limit g.U.Steps.is_note (g.R.Report.is_explained l.report) l.files l.process.mappings
    l.process.unwinder.modules (dump_view l.dump) (g.R.Report.thread_text l.report (dump_view l.dump) l.files l.process.mappings)
    l.dump.threads.items l.number l.initial.out.bytes l.out.bytes
    × (l.out.has_failed ≡ l.initial.out.has_failed)
