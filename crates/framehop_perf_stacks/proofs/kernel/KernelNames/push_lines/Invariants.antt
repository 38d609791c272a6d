use Rattle.std.proofs.Common.{◌≡◌, ◌++◌, take}
use Rattle.std.specs.List.{flat_map}
use Rattle.framehop_core.specs.CodeAddress.{location_of}
use Rattle.framehop_perf_stacks.specs.Chain.{kernel_line}
use Rattle.framehop_perf_stacks.proofs.kernel.KernelNames.push_lines.Given as goal

abbrev pub invariant-loop-frame : goal.invariant-loop-frame
invariant-loop-frame l = l.block.items
    ≡ l.initial.block.items ++ flat_map (λ frame. kernel_line l.self.by_start (location_of frame)) (take l.frame-index l.frames)
