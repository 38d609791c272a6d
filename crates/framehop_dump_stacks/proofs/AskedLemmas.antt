-- What a call did, and why it failed, said of more; and files that are read as they are asked for.
use Rattle.std.proofs.Common.{Bool, true, false, inl, inr, ⊎_elim, Result, Ok, Err, IfErr, OnOk}
use Rattle.framehop_processes.specs.Source.{SourceView}
use Rattle.framehop_processes.specs.declared.files.Files.{Files}
use Rattle.framehop_dumps.specs.Added.{more}
use Rattle.framehop_dumps.specs.Dump.{DumpView}
use Rattle.framehop_dump_stacks.specs.Ended.{drawn_in, MayEndWithFiles}
use Rattle.framehop_dump_stacks.specs.Modules.{AreFilesAsked, AreFilesFor, AreReadOf}
use Rattle.framehop_dump_stacks.specs.declared.error.DumpStacksError.{DumpStacksError}
use Rattle.framehop_dump_stacks.proofs.EndLemmas.{may-end-failed}

pub failed-more : {A E : Type 0} (result : Result A E) (P Q : E → Type 0) → ((error : E) → P error → Q error)
    → IfErr result P → IfErr result Q
failed-more (Ok value) P Q then is = tt
failed-more (Err error) P Q then is = then error is

pub done-more : {A E : Type 0} (result : Result A E) (P Q : Type 0) → (P → Q) → OnOk result P → OnOk result Q
done-more (Ok value) P Q then is = then is
done-more (Err error) P Q then is = tt

pub done-always : {A E : Type 0} (result : Result A E) (P : Type 0) → P → OnOk result P
done-always (Ok value) P is = is
done-always (Err error) P is = tt

-- those that are left are read at last
pub read-for : (all : Bool) (source : SourceView) (dump : DumpView) (asked files : Files) → AreFilesAsked source dump asked
    → AreReadOf source true dump asked files → AreFilesFor all source dump files
read-for true source dump asked files is read = (asked, is, read)
read-for false source dump asked files is read = (is.0, is.1, more true asked is.2 read)

-- where no write has failed, an error is also one where some may have
pub files-failed : (failed all : Bool) (source : SourceView) (dump : DumpView) (error : DumpStacksError)
    → MayEndWithFiles false all source dump error → MayEndWithFiles failed all source dump error
files-failed failed all source dump error may =
    ⊎_elim (λ memory. inl memory) (λ files. inr (files.0, files.1, may-end-failed failed (drawn_in dump files.0) error files.2)) may
