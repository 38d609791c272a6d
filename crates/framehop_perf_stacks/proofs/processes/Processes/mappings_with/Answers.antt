use Rattle.std.proofs.Common.{◌≡◌, false, Some, refl, rules, ap, sym, ◌∙◌}
use Rattle.std.specs.BTreeMap.{get}
use Rattle.std.specs.List.{list_any}
use Rattle.std.specs.Ordering.{nat_cmp}
use Rattle.framehop_processes.specs.Mappings.{with_mapping, overlaps, starting_elsewhere}
use Rattle.framehop_processes.proofs.ApartLemmas.{taken-again}
use Rattle.framehop_perf_stacks.specs.declared.processes.MappedProcess.{MappedProcess}
use Rattle.framehop_perf_stacks.proofs.processes.Processes.mappings_with.Goals as goal

pub returns-clause-made_of : goal.returns-clause-made_of
returns-clause-made_of g c =
    let new = c.args.mapping in
    let process : MappedProcess = c.in-Some.process.now in
    let made = c.in_ok-mappings-2.ensures in
    let apart : list_any (overlaps new) process.mappings ≡ false = search rules in
    let there : get nat_cmp c.args.self.now.by_pid c.args.pid ≡ Some process = search rules in
    let left : starting_elsewhere new.start c.in_ok-mappings-2.mappings ≡ process.mappings =
    ap (starting_elsewhere new.start) made ∙ taken-again new process.mappings c.requires c.overlaps.ensures.ordered apart in (
      (c.requires, ap (list_any (overlaps new)) left ∙ apart, ap (with_mapping new) left ∙ sym made),
      (c.args.pid, process, there, refl, sym left),
    )
