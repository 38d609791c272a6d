-- Frames in the vdso, which the kernel maps into each process (vdso(7)), where no file of it was read.
use Rattle.std.specs.Prelude.{Bool, false, not, ◌&&◌, is_some, List, Option, Some, None, slice_get}
use Rattle.std.specs.List.{find, list_any}
use Rattle.framehop_frames.specs.Line.{ShownFrame, looked_up}
use Rattle.framehop_processes.specs.declared.mapping.Mapping.{Mapping}
use Rattle.framehop_processes.specs.Files.{is_vdso}
use Rattle.framehop_processes.specs.Place.{has_address}
use Rattle.framehop_processes.specs.declared.files.Files.{Files}
use Rattle.framehop_processes.specs.declared.files.NamedFile.{NamedFile}

-- a file is the vdso, and nothing was read of it
abbrev pub is_unread_vdso : Option NamedFile → Bool
is_unread_vdso (Some file) = is_vdso file.name.items && not (is_some file.object)
is_unread_vdso None = false

-- such a file is mapped at a place
abbrev pub maps_unread_vdso : Files → Option Mapping → Bool
maps_unread_vdso files (Some mapping) = is_unread_vdso (slice_get files.list.items mapping.file)
maps_unread_vdso files None = false

-- a frame is there, by the address that is looked up
abbrev pub is_in_unread_vdso : Files → List Mapping → ShownFrame → Bool
is_in_unread_vdso files mappings frame = maps_unread_vdso files (find (has_address (looked_up frame)) mappings)

-- one of frames is
abbrev pub has_unread_vdso : Files → List Mapping → List ShownFrame → Bool
has_unread_vdso files mappings frames = list_any (is_in_unread_vdso files mappings) frames
