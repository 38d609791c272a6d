use Rattle.std.proofs.Common.{◌≡◌, ◌++◌, length, string_bytes}
use denote.Shadow.{shadow}
use denote.Text.{Utf8}
use Rattle.framehop_disk.specs.Paths.{with_slashes}
use Rattle.framehop_disk.proofs.paths.push_with_slashes.Given as goal

-- what is left adds what is still to be appended
abbrev pub invariant-loop-folder : goal.invariant-loop-folder
invariant-loop-folder l = record {
  text : shadow (Utf8 l.rest);
  left : string_bytes l.path ++ with_slashes l.rest ≡ string_bytes l.fn.path ++ with_slashes l.part;
}

abbrev pub decreases-loop-folder : goal.decreases-loop-folder
decreases-loop-folder l = length l.rest
