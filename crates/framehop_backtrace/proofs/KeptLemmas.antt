-- A walk that has found nothing yet.
use Rattle.std.proofs.Common.{◌≡◌, List, Option, None, length, replicate, get_or, sym, subst}
use Rattle.std.proofs.lemmas.List.{get_or-replicate, length-replicate}
use Rattle.framehop_core.specs.CodeAddress.{FrameLocation}
use Rattle.framehop_cfi.specs.RowAt.{start}
use Rattle.framehop_cfi.specs.TableRows.{TableRows}
use Rattle.framehop_backtrace.specs.Kept.{IsFound, AreFound, kept_rows}
use Rattle.framehop_backtrace.specs.Rows.{Finding}
use Rattle.framehop_backtrace.specs.declared.kept.FoundRow.{FoundRow}

pub none-length : (found : Option FoundRow) → length (replicate kept_rows found) ≡ kept_rows
none-length found = length-replicate kept_rows found

pub none-found : (rows : FrameLocation → Finding) (contexts : List TableRows) → AreFound rows (replicate kept_rows None) contexts
none-found rows contexts place within =
    subst (λ found. IsFound rows found (get_or contexts place start)) (sym (get_or-replicate kept_rows place None None within)) tt
