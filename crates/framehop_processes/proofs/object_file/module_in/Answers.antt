use Rattle.std.proofs.Common.{rules, ◌≡◌, ap}
use Rattle.framehop_object.specs.Elf.UnwindSections.{unwind_sections_of, bytes_in}
use Rattle.framehop_processes.specs.MappedBytes.{mapped_sections_view}
use Rattle.framehop_processes.specs.ObjectFiles.{module_of}
use Rattle.framehop_processes.proofs.object_file.module_in.Goals as goal

pub returns-clause-loaded : goal.returns-clause-loaded
returns-clause-loaded c =
    let exact : mapped_sections_view c.kept_sections.result ≡ unwind_sections_of c.args.elf.now (bytes_in c.args.debug_frame) = search rules in
    let same = ap module_of exact in
    search (rules, same)
