use Rattle.std.proofs.Common.{arith}
use Rattle.std.proofs.lemmas.Grind.{common_steps}
use Rattle.std.proofs.lemmas.List.Folds.{flat_map-map}
use Rattle.framehop_frames.specs.Line.{frame_line}
use Rattle.framehop_frames.specs.Stack.{shown_frame}
use Rattle.framehop_frames.proofs.line.push_frame_lines.Goals as goal

pub returns : goal.returns
returns g c =
    let lines = flat_map-map (frame_line c.args.files.now c.args.mappings.now) shown_frame c.args.frames.now in
    grind (arith, common_steps, lines)
