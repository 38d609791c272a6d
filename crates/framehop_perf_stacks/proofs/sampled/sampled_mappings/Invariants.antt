use Rattle.std.proofs.Common.{◌≡◌, ◌≤◌, ℕ, map, reverse, drop, length}
use Rattle.framehop_recording.specs.Attributes.{attribute_view}
use Rattle.framehop_recording.specs.Mapping.{mapping_view}
use Rattle.framehop_perf_stacks.specs.Recording.{records_in}
use Rattle.framehop_perf_stacks.specs.Sampled.{has_process, is_sampled, sampled_mappings}
use Rattle.framehop_perf_stacks.proofs.sampled.sampled_mappings.Given as goal

abbrev pub invariant-loop-left : goal.invariant-loop-left
invariant-loop-left l =
    let attributes = map attribute_view l.events.attributes.items in
    let later = records_in (drop l.left l.records) in
    (l.left ≤ length l.records)
    × ((pid : ℕ) → has_process l.sampled pid ≡ is_sampled attributes later pid)
    × (reverse (map (λ mapping. mapping_view mapping) l.mappings.items) ≡ sampled_mappings attributes later)

abbrev pub decreases-loop-left : goal.decreases-loop-left
decreases-loop-left l = l.left
