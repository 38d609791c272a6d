use Rattle.std.proofs.Common.{◌≡◌, ◌+◌, map, drop}
use Rattle.framehop_processes.specs.Process.{HasModules}
use Rattle.framehop_dumps.specs.Dump.{mapped_code_view, dump_view}
use Rattle.framehop_dump_stacks.specs.Ended.{drawn_over, drawn_in}
use Rattle.framehop_dump_stacks.specs.Modules.{mappings_over, mappings_in}
use Rattle.framehop_dump_stacks.proofs.modules.map_files.Given as goal

abbrev pub invariant-loop-code : goal.invariant-loop-code
invariant-loop-code g l =
    let left = map mapped_code_view (drop l.code-index l.dump.code.items) in
    HasModules (g.M.ModuleMaker.module_of l.maker) l.process
    × (mappings_over l.files left l.process.mappings ≡ mappings_in (dump_view l.dump) l.files)
    × (l.generations + drawn_over l.files left l.process.mappings ≡ drawn_in (dump_view l.dump) l.files)
