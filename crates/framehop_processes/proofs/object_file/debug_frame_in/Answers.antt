use Rattle.std.proofs.Common.{rules, ◌≡◌, IfOk, ap, subst}
use Rattle.framehop_object.specs.Elf.UnwindSections.{debug_frame_sections_of, bytes_in}
use Rattle.framehop_processes.specs.MappedBytes.{mapped_sections_view}
use Rattle.framehop_processes.specs.ObjectFiles.{module_of}
use Rattle.framehop_processes.proofs.object_file.debug_frame_in.Goals as goal

pub returns : goal.returns
returns c =
    let exact : mapped_sections_view c.kept_sections.result ≡ debug_frame_sections_of c.args.elf.now (bytes_in c.args.debug_frame) = search rules in
    subst (λ found. IfOk c.module_of.result (λ made. made ≡ found)) (ap module_of exact) c.module_of.ensures
