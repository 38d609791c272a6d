-- The code of segments, by where their bytes are in their file.
use Rattle.std.proofs.Common.{◌≡◌, ℕ, List, [], ◌∷◌, map, refl, ap}
use Rattle.framehop_memory.specs.declared.segment.Segment.{Segment}
use Rattle.framehop_processes.specs.Code.{segment_code}
use Rattle.framehop_processes.specs.ObjectFiles.{part_view, code_of_segment}

pub code-same : (file : List ℕ) (segments : List Segment) → map (part_view file) (map segment_code segments) ≡ map (code_of_segment file) segments
code-same file [] = refl
code-same file (s ∷ segments) = ap (λ views. code_of_segment file s ∷ views) (code-same file segments)
