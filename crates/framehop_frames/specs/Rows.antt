-- The rows of a process: of its modules, and of the `.debug_frame` of its files.
use Rattle.std.specs.Prelude.{ℕ, Bool, List, Option, Some, None}
use Rattle.framehop_core.specs.CodeAddress.{FrameLocation, is_first_frame, lookup_address}
use Rattle.framehop.specs.Modules.{ModuleView, UnwindData}
use Rattle.framehop_processes.specs.declared.mapping.Mapping.{Mapping}
use Rattle.framehop_backtrace.specs.Rows.{Finding, no_row, or_else}
use Rattle.framehop_processes.specs.DebugFrame.{debug_frame_at}
use Rattle.framehop_processes.specs.declared.files.Files.{Files}
use Rattle.framehop_frames.specs.Walker.{Walker, row_limits}

module _ (row_in : UnwindData → ℕ → Bool → Finding) where
  -- what the `.debug_frame` of a file has for a frame
  abbrev pub debug_row : FrameLocation → Option (ModuleView × ℕ) → Finding
  debug_row location (Some found) = row_in found.0.unwind_data found.1 (is_first_frame location)
  debug_row location None = no_row

  -- that of the file that is mapped there
  abbrev pub debug_rows : Files → List Mapping → FrameLocation → Finding
  debug_rows files mappings location = debug_row location (debug_frame_at files mappings (lookup_address location))

-- what the modules of a process have for a frame, by their bytes, or else the `.debug_frame` of the file that is mapped there
abbrev pub rows_in : {Regs : Type 0} → Walker Regs → Files → List Mapping → List ModuleView → FrameLocation → Finding
rows_in walker files mappings modules location =
    or_else (walker.rows modules location) (debug_rows (walker.row_in row_limits) files mappings location)
