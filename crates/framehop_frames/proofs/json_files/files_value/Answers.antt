use Rattle.std.proofs.Common.{◌<◌, ℕ, length, ap, ◌∙◌, arith}
use Rattle.serde_json.specs.Data.{Data}
use Rattle.serde_json.specs.View.{view}
use Rattle.framehop_frames.specs.JsonFiles.{path_in, debug_path_in, file_data}
use Rattle.framehop_processes.specs.declared.files.NamedFile.{NamedFile}
use Rattle.framehop_frames.proofs.JsonLemmas.{values-more}
use Rattle.framehop_frames.proofs.json_files.files_value.Goals as goal

pub loop-number-preserved : goal.loop-number-preserved
loop-number-preserved c =
    let l = c.loop-number in
    let files = c.args.files.now in
    let value : ℕ → NamedFile → Data = λ n file. file_data (path_in c.args.paths.now n) (debug_path_in c.args.paths.now n) file in
    let within : l.number < length files = omega arith in
    rw c.in_ok-push.ensures.items
    (values-more value view files l.number c.index-files-number.result within l.values.items _ l.invariant
    (c.in_ok-file_value.ensures ∙ ap (value l.number) c.index-files-number.is))
