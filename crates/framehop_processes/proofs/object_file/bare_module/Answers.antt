use Rattle.std.proofs.Common.{rules, ◌≡◌, IfOk, ap, subst}
use Rattle.framehop_processes.specs.MappedBytes.{mapped_sections_view}
use Rattle.framehop_processes.specs.ObjectFiles.{no_sections, module_of}
use Rattle.framehop_processes.proofs.object_file.bare_module.Goals as goal

pub returns : goal.returns
returns c =
    let empty : mapped_sections_view c.default-info.result ≡ no_sections = search rules in
    subst (λ found. IfOk c.module_of.result (λ made. made ≡ found)) (ap module_of empty) c.module_of.ensures
