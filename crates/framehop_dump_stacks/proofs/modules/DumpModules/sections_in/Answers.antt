-- The segment that has `.eh_frame_hdr` is the one that is kept for the path.
use Rattle.std.proofs.Common.{ap, ◌∙◌}
use Rattle.framehop_memory.specs.Memory.{memory_view}
use Rattle.framehop_dumps.specs.Dump.{dump_view}
use Rattle.framehop_dumps.specs.Image.{frames_behind, sections_of}
use Rattle.framehop_dump_stacks.proofs.FrameHeaderLemmas.{code-kept}
use Rattle.framehop_dump_stacks.proofs.modules.DumpModules.sections_in.Goals as goal

pub returns : goal.returns
returns c =
    let dump = c.args.self.now.dump.now in
    c.sections_behind.ensures
    ∙ ap (λ header. sections_of (frames_behind (memory_view dump.memory) c.args.base header))
    (c.header_at-header.ensures ∙ code-kept (dump_view dump).code c.args.path.now _ (c.args.self.now.known c.args.path.now))
