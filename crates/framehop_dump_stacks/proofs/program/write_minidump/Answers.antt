use Rattle.std.proofs.Common.{◌||◌, ℕ, List, inr, map, subst}
use Rattle.std.specs.Io.KnownBytes.{Appends}
use Rattle.framehop_dumps.specs.Dump.{DumpView, dump_view}
use Rattle.framehop_dump_stacks.specs.Ended.{drawn_in, MayEnd, MayEndWithModules}
use Rattle.framehop_dumps.specs.Minidump.{loaded_view}
use Rattle.framehop_dump_stacks.specs.Modules.{mappings_in}
use Rattle.framehop_dump_stacks.specs.Problems.{IsSaid}
use Rattle.framehop_dump_stacks.specs.Report.{IsReportOf}
use Rattle.framehop_dump_stacks.proofs.EndLemmas.{failed_as}
use Rattle.framehop_dump_stacks.proofs.program.write_minidump.Goals as goal

pub returns-clause-printed : goal.returns-clause-printed
returns-clause-printed g c =
    let files = c.in_ok-files.files in
    let report = c.args.report.now in
    let P : DumpView → Type 0 = λ d. ((text : List ℕ)
    × IsReportOf (g.R.Report.is_text report d files (mappings_in d files)) (g.R.Report.is_explained report) c.args.limit d files text
    × Appends c.args.out.now.bytes c.write_dump_stacks.new.out.bytes text)
    × ((said : List ℕ) × IsSaid d files (mappings_in d files) said
    × Appends c.args.err.now.bytes c.write_dump_stacks.new.err.bytes said) in
    let both = subst P c.in_ok-whole.ensures (c.in_ok-write_dump_stacks.ensures.printed, c.in_ok-write_dump_stacks.ensures.said) in
    (files, c.in_ok-files.ensures, both.0, both.1)

pub returns-in_err-write_dump_stacks-clause-refused : goal.returns-in_err-write_dump_stacks-clause-refused
returns-in_err-write_dump_stacks-clause-refused g c =
    let e = c.in_err-write_dump_stacks.field-0.0 in
    let source = g.S.FileSource.source c.args.source.now in
    let files = c.in_ok-files.files in
    let failed = c.write_dump_stacks.new.out.has_failed || c.write_dump_stacks.new.err.has_failed in
    let may = subst (λ (d : DumpView). MayEnd failed (drawn_in d files) e) c.in_ok-whole.ensures c.in_err-write_dump_stacks.ensures.refused in
    failed_as c.from_residual-in_err-write_dump_stacks.result e (MayEndWithModules failed source (dump_view c.args.dump, map loaded_view c.args.modules.now)) c.from_residual-in_err-write_dump_stacks.ensures.1
    (inr (files, c.in_ok-files.ensures, may))
