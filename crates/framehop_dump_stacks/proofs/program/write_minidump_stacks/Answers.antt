use Rattle.std.proofs.Common.{◌≡◌, ◌⊎◌, ◌||◌, List, inl, inr, ⊎_elim, Err, rules, subst}
use Rattle.framehop_dump_files.specs.declared.minidump.error.MinidumpError.{MinidumpError}
use Rattle.framehop_dumps.specs.Dump.{DumpView, dump_view}
use Rattle.framehop_dump_stacks.specs.Ended.{MayEndWithModules}
use Rattle.framehop_dumps.specs.Minidump.{LoadedView, parts_view, minidump_of}
use Rattle.framehop_dump_stacks.proofs.EndLemmas.{failed_as, ok-same}
use Rattle.framehop_dump_stacks.proofs.MinidumpLemmas.{minidump-is, refused-first, refused-second, not-both}
use Rattle.framehop_dump_stacks.proofs.program.write_minidump_stacks.Goals as goal

pub returns-in_err-parts-clause-refused : goal.returns-in_err-parts-clause-refused
returns-in_err-parts-clause-refused g c =
    let e = c.in_err-parts.field-0.0 in
    let due : (e ≡ MinidumpError.OutOfMemory) ⊎ (minidump_of c.args.file.now ≡ Err e) =
    ⊎_elim (λ memory. inl memory) (λ refused. inr (refused-first c.args.file.now e refused)) c.in_err-parts.ensures in
    λ refusal is. search (rules, due, is)

pub returns-in_err-dump-clause-refused : goal.returns-in_err-dump-clause-refused
returns-in_err-dump-clause-refused g c =
    let e = c.in_err-dump.field-0.0 in
    let due : (e ≡ MinidumpError.OutOfMemory) ⊎ (minidump_of c.args.file.now ≡ Err e) =
    ⊎_elim (λ memory. inl memory) (λ refused. inr (refused-second c.args.file.now (parts_view c.in_ok-parts.parts) e c.in_ok-parts.ensures refused)) c.in_err-dump.ensures in
    λ refusal is. search (rules, due, is)

pub returns-in_err-write_minidump-clause-refused : goal.returns-in_err-write_minidump-clause-refused
returns-in_err-write_minidump-clause-refused g c = λ refusal is.
    not-both _ _ refusal (minidump-is c.args.file.now (parts_view c.in_ok-parts.parts) (dump_view c.in_ok-dump.dump) c.in_ok-parts.ensures c.in_ok-dump.ensures) is

pub returns-clause-printed : goal.returns-clause-printed
returns-clause-printed g c =
    let parts = parts_view c.in_ok-parts.parts in
    let dump = dump_view c.in_ok-dump.dump in
    let minidump : DumpView × List LoadedView = (dump, parts.modules) in (
      minidump,
      minidump-is c.args.file.now parts dump c.in_ok-parts.ensures c.in_ok-dump.ensures,
      rw c.as_slice-modules.ensures.value at c.in_ok-write_minidump.ensures.printed,
    )

pub returns-in_err-parts-clause-read : goal.returns-in_err-parts-clause-read
returns-in_err-parts-clause-read g c = λ minidump is.
    let e = c.in_err-parts.field-0.0 in
    let due : e ≡ MinidumpError.OutOfMemory =
    ⊎_elim (λ memory. memory) (λ refused. not-both _ _ e is (refused-first c.args.file.now e refused)) c.in_err-parts.ensures in
    search (rules, due)

pub returns-in_err-dump-clause-read : goal.returns-in_err-dump-clause-read
returns-in_err-dump-clause-read g c = λ minidump is.
    let e = c.in_err-dump.field-0.0 in
    let due : e ≡ MinidumpError.OutOfMemory =
    ⊎_elim (λ memory. memory) (λ refused. not-both _ _ e is (refused-second c.args.file.now (parts_view c.in_ok-parts.parts) e c.in_ok-parts.ensures refused)) c.in_err-dump.ensures in
    search (rules, due)

pub returns-in_err-write_minidump-clause-read : goal.returns-in_err-write_minidump-clause-read
returns-in_err-write_minidump-clause-read g c = λ minidump is.
    let e = c.in_err-write_minidump.field-0.0 in
    let source = g.S.FileSource.source c.args.source.now in
    let failed = c.write_minidump.new.out.has_failed || c.write_minidump.new.err.has_failed in
    let parts = parts_view c.in_ok-parts.parts in
    let dump = dump_view c.in_ok-dump.dump in
    let same : (dump, parts.modules) ≡ minidump = ok-same _ _ _ (minidump-is c.args.file.now parts dump c.in_ok-parts.ensures c.in_ok-dump.ensures) is in
    let may = rw c.as_slice-modules.ensures.value at c.in_err-write_minidump.ensures.refused in
    failed_as c.from_residual-in_err-write_minidump.result e (MayEndWithModules failed source minidump) c.from_residual-in_err-write_minidump.ensures.1
    (subst (λ (m : DumpView × List LoadedView). MayEndWithModules failed source m e) same may)
