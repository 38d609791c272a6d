use Rattle.std.proofs.Common.{rules, ◌^◌}
use Rattle.framehop_recording.specs.Attributes.{attribute_view}
use Rattle.framehop_recording.specs.Bytes.{has_bit}
use Rattle.framehop_recording.specs.Numbers.{PERF_REG_ARM64_PC}
use Rattle.framehop_perf_stacks.proofs.EventLemmas.{list_any-map}
use Rattle.framehop_perf_stacks.proofs.recording.is_aarch64.Goals as goal

pub returns : goal.returns
returns c =
    let same = list_any-map (λ a. has_bit a.sample_regs_user (2 ^ PERF_REG_ARM64_PC)) attribute_view c.args.events.now.attributes.items in
    search (rules, same)
