use Rattle.std.proofs.Common.{◌<◌, ◌++◌, List, length, map, refl, ap, sym, ◌∙◌, arith}
use Rattle.std.specs.List.{flat_map}
use Rattle.std.proofs.lemmas.List.{take_all}
use Rattle.std.proofs.lemmas.List.Folds.{flat_map-map}
use Rattle.framehop_dumps.specs.Dump.{MappedCodeView, mapped_code_view}
use Rattle.framehop_dumps.specs.Minidump.{LoadedView, loaded_view, code_in}
use Rattle.framehop_memory.specs.Memory.{memory_view}
use Rattle.framehop_dumps.proofs.DumpLemmas.{text-next}
use Rattle.framehop_dumps.proofs.minidump.code_of.Goals as goal

pub loop-module-preserved : goal.loop-module-preserved
loop-module-preserved c =
    let l = c.loop-module in
    let modules = c.args.modules.now in
    let within : l.module-index < length modules = omega arith in
    let code : LoadedView → List MappedCodeView = code_in (memory_view c.args.memory.now) c.args.files.now in
    let pushed = c.in_ok-push_module.ensures ∙ ap (λ m. map mapped_code_view l.code.items ++ code (loaded_view m)) c.module-item.is in
    text-next (λ m. code (loaded_view m)) modules modules refl l.module-index c.module-item.result within _ _ l.invariant pushed

pub returns : goal.returns
returns c =
    let l = c.loop-module in
    let modules = c.args.modules.now in
    let code : LoadedView → List MappedCodeView = code_in (memory_view c.args.memory.now) c.args.files.now in
    l.invariant ∙ ap (flat_map (λ m. code (loaded_view m))) (take_all l.module-index modules (omega arith))
    ∙ sym (flat_map-map code loaded_view modules)
