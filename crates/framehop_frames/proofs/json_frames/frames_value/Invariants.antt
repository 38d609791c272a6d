use Rattle.std.proofs.Common.{◌≡◌, map, take}
use Rattle.serde_json.specs.View.{view}
use Rattle.framehop_frames.specs.JsonFrames.{frames_data}
use Rattle.framehop_frames.specs.Stack.{shown_frame}
use Rattle.framehop_frames.proofs.json_frames.frames_value.Given as goal

abbrev pub invariant-loop-number : goal.invariant-loop-number
invariant-loop-number g l = map view l.values.items ≡ frames_data l.files l.mappings (map shown_frame (take l.number l.frames))
