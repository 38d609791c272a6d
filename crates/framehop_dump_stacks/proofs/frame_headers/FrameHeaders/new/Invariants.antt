use Rattle.std.proofs.Common.{map, take}
use Rattle.framehop_dumps.specs.Dump.{mapped_code_view}
use Rattle.framehop_dump_stacks.specs.FrameHeaders.{HasHeadersOf}
use Rattle.framehop_dump_stacks.proofs.frame_headers.FrameHeaders.new.Given as goal

abbrev pub invariant-loop-mapped : goal.invariant-loop-mapped
invariant-loop-mapped l = HasHeadersOf (map mapped_code_view (take l.mapped-index l.code)) l.headers.by_path
