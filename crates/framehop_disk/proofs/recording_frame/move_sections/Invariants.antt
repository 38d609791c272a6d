use Rattle.std.proofs.Common.{◌≡◌, ◌-◌}
use Rattle.std.specs.Prelude.{count_ones}
use Rattle.framehop_disk.specs.RecordingFrame.{frame_of, sections_moved}
use Rattle.framehop_disk.proofs.recording_frame.move_sections.Given as goal

-- to move those that are left is to move all
abbrev pub invariant-loop-section : goal.invariant-loop-section
invariant-loop-section l =
    sections_moved l.header.records l.at (count_ones l.header.features - l._section) l.frame ≡ frame_of l.header l.fn.frame
