use Rattle.std.proofs.Common.{◌≡◌, map, take}
use Rattle.serde_json.specs.View.{view}
use Rattle.framehop_frames.specs.JsonFiles.{files_data}
use Rattle.framehop_frames.proofs.json_files.files_value.Given as goal

abbrev pub invariant-loop-number : goal.invariant-loop-number
invariant-loop-number l = map view l.values.items ≡ files_data l.paths (take l.number l.files)
