use Rattle.std.proofs.Common.{◌≡◌, map, ap, ◌∙◌}
use Rattle.serde_json.specs.Data.{array}
use Rattle.serde_json.specs.View.{view, items_of}
use Rattle.serde_json.specs.Written.{has_float}
use Rattle.framehop_frames.proofs.FloatLemmas.{frames-none}
use Rattle.framehop_frames.specs.JsonFrames.{frames_data}
use Rattle.framehop_frames.specs.Stack.{shown_frame}
use Rattle.framehop_perf_stacks.proofs.sample_json.stack_json.Goals as goal

pub returns : goal.returns
returns g c =
    let files = c.args.at.files.now in
    let mappings = c.args.at.mappings.now in
    let frames = c.args.stack.frames.now in
    let are : view c.in_ok-frames.frames ≡ array (items_of (frames_data files mappings (map shown_frame frames))) = c.in_ok-frames.ensures in
    let made = c.rest_text.ensures (ap has_float are ∙ frames-none files mappings (map shown_frame frames)) in
    rw are at made
