use Rattle.std.proofs.Common.{sym, ap, ◌∙◌}
use Rattle.framehop_pe.specs.Frame.{way_of, way_or_leaf, found_at, computed_at}
use Rattle.framehop_pe.specs.FunctionTable.{function_of}
use Rattle.framehop_pe.specs.Sections.{sections_of}
use Rattle.framehop_pe.specs.Laws.Refusals.{found_at-of_bytes}
use Rattle.framehop_pe.specs.Laws.Simulation.{found-executable, found-simulated, leaf-found, leaf-simulated}
use Rattle.framehop_pe.proofs.x86_64.pe.ArchX86_64PeUnwinding.unwind_frame.Goals as goal

pub returns-in-Some-clause-executable : goal.returns-in-Some-clause-executable
returns-in-Some-clause-executable g c =
    let s = sections_of g.D.SectionBytes.contents c.args.sections in
    found-executable (way_of c.args.is_first_frame s c.in-Some.function c.args.address) c.unwind_function.result c.unwind_function.ensures.found

pub returns-in-Some-clause-simulation : goal.returns-in-Some-clause-simulation
unfolding computed_at
returns-in-Some-clause-simulation g c =
    let s = sections_of g.D.SectionBytes.contents c.args.sections in
    let found = c.in-Some.ensures ∙ ap (λ pdata. function_of pdata c.args.address) c.bytes.ensures in
    let same = ap (way_or_leaf c.args.is_first_frame s c.args.address) (sym found) in
    found-simulated (way_of c.args.is_first_frame s c.in-Some.function c.args.address) _ c.unwind_function.result same c.unwind_function.ensures.found

pub returns-in-None-clause-simulation : goal.returns-in-None-clause-simulation
unfolding computed_at
returns-in-None-clause-simulation g c =
    let s = sections_of g.D.SectionBytes.contents c.args.sections in
    let found = c.in-None.ensures ∙ ap (λ pdata. function_of pdata c.args.address) c.bytes.ensures in
    leaf-simulated _ (ap (way_or_leaf c.args.is_first_frame s c.args.address) (sym found))

pub returns-in-Some-clause-refusal : goal.returns-in-Some-clause-refusal
returns-in-Some-clause-refusal g c =
    found_at-of_bytes (sections_of g.D.SectionBytes.contents c.args.sections) c.args.address c.args.is_first_frame

pub returns-in-None-clause-found : goal.returns-in-None-clause-found
unfolding found_at
returns-in-None-clause-found g c =
    let s = sections_of g.D.SectionBytes.contents c.args.sections in
    let found = c.in-None.ensures ∙ ap (λ pdata. function_of pdata c.args.address) c.bytes.ensures in
    leaf-found _ (ap (way_or_leaf c.args.is_first_frame s c.args.address) (sym found))
