use Rattle.std.proofs.Common.{◌≡◌, drop}
use Rattle.std.specs.List.{sum_by}
use Rattle.framehop_dumps.specs.SharedHeaders.{header_size, left_after}
use Rattle.framehop_dumps.proofs.shared_headers.left_after_headers.Given as goal

abbrev pub invariant-loop-header : goal.invariant-loop-header
invariant-loop-header l =
    left_after l.rest (sum_by (header_size l.head) (drop l.header-index l.headers)) ≡ left_after l.left (sum_by (header_size l.head) l.headers)
