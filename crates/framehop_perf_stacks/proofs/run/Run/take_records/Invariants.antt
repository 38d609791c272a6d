use Rattle.std.proofs.Common.{◌≡◌, map, take, drop}
use Rattle.std.specs.List.{count_by}
use Rattle.framehop_recording.specs.Attributes.{attribute_view}
use Rattle.framehop_perf_stacks.specs.Processes.{IsServed}
use Rattle.framehop_perf_stacks.specs.Recording.{records_in}
use Rattle.framehop_perf_stacks.specs.Run.{AreCounted, is_sample}
use Rattle.framehop_perf_stacks.specs.Samples.{State, Agrees, IsToldWith}
use Rattle.framehop_perf_stacks.proofs.SoFarLemmas.{IsSoFar}
use Rattle.framehop_perf_stacks.proofs.run.Run.take_records.Given as goal

abbrev pub invariant-loop-timed : goal.invariant-loop-timed
invariant-loop-timed g l =
    IsServed (g.M.ModuleMaker.module_of l.input.maker.now) (λ view. g.U.Unwinder.is_sound view l.self.cache)
    l.self.processes.ready l.self.processes.generations
    × AreCounted l.input.options.frames (count_by is_sample (take l.timed-index l.input.recording.now.records.items)) l.self.counts
    × ((first : State) → Agrees l.initial.self.names l.initial.self.processes.by_pid first →
    IsSoFar l.input.files.now (IsToldWith (g.M.ModuleMaker.module_of l.input.maker.now) g.U.Steps.walker g.U.Steps.is_note g.U.Sampled.starts l.input.options l.input.files.now
    (g.B.SampleSource.gives l.input.samples.now) (map attribute_view l.input.recording.now.events.attributes.items)) l.input.options.frames (records_in l.input.recording.now.records.items) first
    l.initial.self.counts l.initial.out.bytes l.initial.self.processes.generations
    (records_in (drop l.timed-index l.input.recording.now.records.items))
    l.self.names l.self.processes.by_pid l.self.counts l.out.bytes l.self.processes.generations)
    × (l.out.has_failed ≡ l.initial.out.has_failed)
