use Rattle.std.proofs.Common.{◌≡◌, ◌++◌, ◌∷◌, map}
use Rattle.std.specs.List.{flat_map}
use Rattle.framehop_core.specs.CodeAddress.{location_of}
use Rattle.framehop_perf_stacks.specs.Chain.{kernel_label}
use Rattle.framehop_perf_stacks.proofs.kernel.KernelNames.push_labels.Given as goal

abbrev pub invariant-loop-frame : goal.invariant-loop-frame
invariant-loop-frame l = l.line.items
    ≡ l.initial.line.items ++ flat_map (λ frame. 59 ∷ kernel_label l.self.by_start (location_of frame)) (map (λ frame. frame.now) l.yielded)
