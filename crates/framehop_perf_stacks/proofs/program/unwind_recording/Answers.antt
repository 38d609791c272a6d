use Rattle.std.proofs.Common.{rules, ◌≡◌, true, false, map}
use Rattle.framehop_recording.specs.Attributes.{attribute_view}
use Rattle.framehop_perf_stacks.specs.Recording.{are_of_aarch64}
use Rattle.framehop_perf_stacks.proofs.PrintedLemmas.{made-by}
use Rattle.framehop_perf_stacks.proofs.program.unwind_recording.Goals as goal

pub returns-then-is_aarch64-clause-made : goal.returns-then-is_aarch64-clause-made
returns-then-is_aarch64-clause-made g c =
    let of_aarch64 : are_of_aarch64 (map attribute_view c.args.recording.now.events.attributes.items) ≡ true = search rules in
    made-by (g.B.SampleSource.gives c.args.samples.now) _ c.args.recording.now c.args.files.now c.args.options
    c.args.out.now.bytes c.unwind_all.new.out.bytes
    c.args.err.now.bytes c.unwind_all.new.err.bytes true of_aarch64 c.unwind_all.result
    c.unwind_all.ensures.made c.unwind_all.ensures.ended c.unwind_all.ensures.before

pub returns-clause-made : goal.returns-clause-made
returns-clause-made g c =
    let of_x86_64 : are_of_aarch64 (map attribute_view c.args.recording.now.events.attributes.items) ≡ false = search rules in
    made-by (g.B.SampleSource.gives c.args.samples.now) _ c.args.recording.now c.args.files.now c.args.options
    c.args.out.now.bytes c.unwind_all-2.new.out.bytes
    c.args.err.now.bytes c.unwind_all-2.new.err.bytes false of_x86_64 c.unwind_all-2.result
    c.unwind_all-2.ensures.made c.unwind_all-2.ensures.ended c.unwind_all-2.ensures.before
