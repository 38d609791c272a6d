use Rattle.std.proofs.Common.{◌++◌, false, ℕ, List, subst}
use Rattle.std.specs.Io.KnownBytes.{Appends}
use Rattle.std.proofs.KnownBytes.{Appends-trans}
use Rattle.framehop_processes.specs.declared.mapping.Mapping.{Mapping}
use Rattle.framehop_dumps.specs.Dump.{dump_view}
use Rattle.framehop_dump_stacks.specs.Report.{texts_of}
use Rattle.framehop_dump_stacks.proofs.AskedLemmas.{done-more}
use Rattle.framehop_dump_stacks.proofs.report.write_report.Goals as goal

pub returns-clause-printed : goal.returns-clause-printed
returns-clause-printed g c =
    let report = c.args.report.now in
    let dump = dump_view c.args.dump.now in
    let files = c.args.files.now in
    let mappings = c.args.process.now.mappings in
    let threads = c.in_ok-write_threads.ensures.printed in
    let head : List ℕ = c.in_ok-head.head.items in
    let texts : List ℕ = texts_of (g.R.Report.thread_text report dump files mappings) false threads.0 in
    let end : List ℕ = g.R.Report.end_text report in
    let is-head = subst (λ (some : List Mapping). g.R.Report.is_head report dump files some head) c.mappings.ensures.value c.in_ok-head.ensures in
    let is = g.R.Report.is_by_parts report dump files mappings threads.0 head is-head in
    let old = c.args.out.now.bytes in
    let with-head = c.write_part.new.out.bytes in
    let with-texts = c.write_threads.new.out.bytes in
    let new = c.write_part-2.new.out.bytes in
    let first = subst (Appends old with-head) c.as_slice.ensures.value c.in_ok-write_part.ensures.written in
    done-more c.write_part-2.result _ _
    (λ written. (
      threads.0,
      threads.1,
      (
        head ++ texts ++ end,
        is,
        Appends-trans old with-texts new (head ++ texts) end
            (Appends-trans old with-head with-texts head texts first threads.2) (subst (Appends with-texts new) c.end.ensures written),
      ),
    )) c.write_part-2.ensures.written
