use Rattle.std.proofs.Common.{◌≡◌, drop, map}
use Rattle.framehop_frames.specs.Stack.{shown_frame}
use Rattle.framehop_perf_stacks.specs.Vdso.{has_unread_vdso}
use Rattle.framehop_perf_stacks.proofs.vdso.has_unread_vdso.Given as goal

abbrev pub invariant-loop-frame : goal.invariant-loop-frame
invariant-loop-frame g l =
    has_unread_vdso l.files l.mappings (map shown_frame l.frames)
    ≡ has_unread_vdso l.files l.mappings (map shown_frame (drop l.frame-index l.frames))
