use Rattle.std.proofs.Common.{◌≡◌, ◌<◌, ◌+◌, ◌∷◌, ◌∙◌, ℕ, List, [], map, drop, length, refl, sym, subst, ap, arith}
use Rattle.std.proofs.lemmas.List.{at_drop_all, at_drop_more}
use Rattle.framehop_dumps.specs.Added.{AreAdded}
use Rattle.framehop_dumps.specs.Minidump.{LoadedView, loaded_view}
use Rattle.framehop_dumps.proofs.minidump.read_module_files.Goals as goal

-- what is wanted of the file of a module
abbrev wanted : LoadedView → List ℕ × List ℕ
wanted m = (m.name, m.build_id)

pub loop-module-init : goal.loop-module-init
loop-module-init g c = (c.in_ok-files.files, c.in_ok-files.ensures, λ last added. added)

pub loop-module-preserved : goal.loop-module-preserved
loop-module-preserved g c =
    let l = c.loop-module in
    let source = g.S.FileSource.source c.args.source.now in
    let modules = c.args.modules.now in
    let within : l.module-index < length modules = omega arith in
    let left = at_drop_more (map loaded_view) modules l.module-index c.module-item.result within
    ∙ ap (λ m. loaded_view m ∷ map loaded_view (drop (l.module-index + 1) modules)) (sym c.module-item.is) in (
      l.invariant.0,
      l.invariant.1,
      λ last rest. l.invariant.2 last
          (subst (λ (some : List LoadedView). AreAdded source (map wanted some) l.files last) (sym left) (c.add_file.new.files, c.in_ok-add_file.ensures, rest)),
    )

pub returns : goal.returns
returns g c =
    let l = c.loop-module in
    let modules = c.args.modules.now in
    let none : map loaded_view (drop l.module-index modules) ≡ [] = at_drop_all (map loaded_view) modules l.module-index (omega arith) in (
      l.invariant.0,
      l.invariant.1,
      l.invariant.2 l.files (subst (λ (some : List LoadedView). AreAdded (g.S.FileSource.source c.args.source.now)
          (map wanted some) l.files l.files) (sym none) refl),
    )
