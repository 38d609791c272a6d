use Rattle.std.proofs.Common.{rules, ◌≡◌, map, ap, ◌∙◌}
use Rattle.framehop_processes.specs.Code.{segment_code}
use Rattle.framehop_processes.specs.ObjectFiles.{part_view, code_segments}
use Rattle.framehop_processes.proofs.CodeLemmas.{code-same}
use Rattle.framehop_processes.proofs.code.code_of.Goals as goal

pub returns-clause-code : goal.returns-clause-code
returns-clause-code c =
    let file = c.args.file.items in
    let segments = c.args.segments.now in
    let listed : c.in_ok-segments.segments.items ≡ map segment_code (code_segments segments) = search rules in
    ap (map (part_view file)) listed ∙ code-same file (code_segments segments)
