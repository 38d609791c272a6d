-- The registers with which the walk of a sample begins.
use Rattle.std.specs.Prelude.{◌≡◌, ◌==◌, ℕ, List, [], Option, option_map, bit_and, if◌then◌else◌}
use Rattle.framehop.specs.Modules.{ModuleView, greatest_end}
use Rattle.framehop_core.specs.X86_64.Registers.{Registers as RegistersX86_64}
use Rattle.framehop_core.specs.Aarch64.Registers.{Registers as RegistersAarch64, IsMaskUpTo}
use Rattle.framehop_recording.specs.Registers.{x86_64_registers, aarch64_registers}
use Rattle.framehop_frames.specs.Start.{x86_64_start, aarch64_start}
use Rattle.framehop_frames.specs.declared.machine.Start.{Start}

-- those that were recorded
abbrev pub StartsX86_64 : List ModuleView → ℕ → List ℕ → Option (Start RegistersX86_64) → Type 0
StartsX86_64 modules mask values start = start ≡ option_map x86_64_start (x86_64_registers mask values)

-- the values of x0 to x28, bits 0 to 28, where all of them were recorded: they come first
abbrev pub general_values : ℕ → List ℕ → List ℕ
general_values mask values = if bit_and mask 0x1FFFFFFF == 0x1FFFFFFF then values else []

-- the same, with the mask of pointers that the greatest known address of code gives
abbrev pub StartsAarch64 : List ModuleView → ℕ → List ℕ → Option (Start RegistersAarch64) → Type 0
StartsAarch64 modules mask values start = (lr_mask : ℕ) × IsMaskUpTo (greatest_end modules) lr_mask
    × (start ≡ option_map (aarch64_start (general_values mask values)) (aarch64_registers lr_mask mask values))
