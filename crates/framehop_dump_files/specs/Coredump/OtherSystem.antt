-- Core files without a thread that is written as Linux does: whose they are is told by the owners of their notes.
use Rattle.std.specs.Prelude.{ℕ, nat_eq, List, [], ◌∷◌, Option, Some, None, unwrap_or, if◌then◌else◌}
use Rattle.std.specs.Cmp.Lexicographic.{pointwise}
use Rattle.std.specs.List.{starts_with}
use Rattle.framehop_dump_files.specs.Coredump.Note.{PlacedView}
use Rattle.framehop_dump_files.specs.Coredump.Numbers.{FREEBSD, NETBSD_CORE, OPENBSD}
use Rattle.framehop_dump_files.specs.declared.coredump.error.CoreFileError.{CoreFileError}
use Rattle.framehop_dump_files.specs.declared.coredump.error.CoreFileError.TheVariants.{OfFreeBsd, OfNetBsd, OfOpenBsd, NoThreads}

-- the system that writes such a note, if it is one of these
abbrev pub system_of : PlacedView → Option CoreFileError
system_of placed =
    if pointwise nat_eq placed.note.name FREEBSD then Some (OfFreeBsd placed.offset)
    else if starts_with nat_eq placed.note.name NETBSD_CORE then Some (OfNetBsd placed.offset)
    else if pointwise nat_eq placed.note.name OPENBSD then Some (OfOpenBsd placed.offset)
    else None

-- why a core file with these notes is refused, if it has no thread: by the first that tells a system
abbrev pub without_threads : List PlacedView → CoreFileError
without_threads [] = NoThreads
without_threads (placed ∷ others) = unwrap_or (system_of placed) (without_threads others)
