-- `into_raw` moves the address and the allocator, and what the handle owns goes with them.
use mathlib.Core.Path.{refl, sym, subst}
use mathlib.Core.List.{List, [], ◌∷◌, ◌++◌}
use seplogic.Ra.Ura.{Ura}
use mir.Val.{Val}
use base.Logic.{SProp, ent, emp, id⊢}
use base.Fml.{ftrue, fsep}
use prog.Memory.{Memory}
use prog.Routine.{Routine}
use prog.Wp.{WpFn, Tables}
use types.Logic.{Logic}
use contract.Monad.{Fun}
use contract.Running.{tables, tables_of}
use sound.WpLaws.{WpFn-mono}
use types.Kit.{Item, ‵, raw, ◌⊛◌, ◌$◌, ◌∵◌, !, qed, by, move, drop, use1, join, split, fsplit, fjoin, suffices, done}
use types.Part.{whole, sub, agg}
use types.Run.{stop, fld, no_more, and_then, of_opd, returns, enter}
use types.ByLocal.{alloc_all, pass_all, free_all, look_at, get, get_in, sets}
use denote.Exit.{yes}
use denote.Signature.{type_at}
use denote.Steps.{nothing}
use denote.Triple.Spec.{triple_of}
use denote.Triple.Table.{entered}
use denote.Triple.Walked.{says, Stays, stay_dropped, walk_of, ends_at, Goes-dropped, walk_Meets}
use Rattle.std_alloc.proofs.BoxSteps.Form.{D, B, word, box_typed}
use Rattle.std_alloc.proofs.BoxSteps.Steps.{box_out, box_in}
use Rattle.framehop_c.proofs.ObjectBox.{object_box as E, handle}
use Rattle.framehop_c.specs.contracts.handle.Handle.into_raw as F
use Rattle.framehop_c.specs.contracts.handle.Handle.into_raw.Key.{name as #self}
use Rattle.framehop_c.proofs.handle.Handle.into_raw.Statement as stated
use Rattle.framehop_c.proofs.handle.Handle.into_raw.Code as code

-- nothing of the handle is left
abbrev spent : Stays (F.ended).signature.params (F.ended).kept
spent = (stay_dropped handle yes, tt)

module _ {M : Type 1} {𝓤 : Ura M} (𝓛 : Logic 𝓤) (memory : Memory → SProp 𝓤) (run : Routine → Fun 𝓤) (𝓣 : Tables 𝓤 𝓛.H) where
  open 𝓛 use {H}

  moves : (z : (walk_of 𝓛 F.ended spent (F.clauses 𝓛 memory run)).Ghost)
      → ent 𝓤 ((walk_of 𝓛 F.ended spent (F.clauses 𝓛 memory run)).pre z) (WpFn 𝓤 H 𝓣.C 𝓣.Λ code.function (z.0.4.0 ++ []) ((walk_of 𝓛 F.ended spent (F.clauses 𝓛 memory run)).post z))
  moves z =
      let After = (walk_of 𝓛 F.ended spent (F.clauses 𝓛 memory run)).post z in
      let given = z.0.3.0 in
      let box : D E = record { ptr = given.address; alloc = given.alloc; value = given.object } in
      let Raw = type_at (F.signature).result tt in
      let parts : Raw.Denot = record { pointer = given.address; alloc = given.alloc; value = given.object } in
      qed 𝓛 ((‵ ftrue ⊛ ‵ (fsep ((B E).own_val box z.0.4.0) ftrue)) ∷ raw (emp 𝓤) ∷ []) ∵ split ! $ drop ! $ fsplit ! $
      box_out E ! box z.0.4.0 (λ block place alloc at same sized.
      let here = word E alloc block place in
      let owned : List (Item 𝓤) = ‵ (Raw.own_val parts (here ∷ [])) ∷ [] in
      box_in E ! box block place box.value at refl $
      use1 𝓛 (‵ (Raw.own_val parts (here ∷ []))) (id⊢ 𝓤 _) $
      move ! (1 ∷ 2 ∷ []) $ drop ! $ drop ! $
      by ! (subst (λ (words : List Val). ent 𝓤 (types.Kit.⋆ 𝓛 owned) (WpFn 𝓤 H 𝓣.C 𝓣.Λ code.function (words ++ []) After)) (sym same)
      (qed 𝓛 owned ∵ enter ! 𝓣.C 𝓣.Λ code.function (here ∷ []) _ $
      alloc_all ! (λ locals. pass_all ! refl (box_typed E alloc block place sized, tt) $
      -- the two fields, the cast, the result
      sets ! (of_opd ! (get_in ! (fld ! refl (stop !)) (sub ! 0 refl (whole !)))) refl (tt, tt) $
      sets ! (of_opd ! (get_in ! (fld ! refl (stop !)) (sub ! 1 refl (whole !)))) refl sized $
      sets ! (of_opd ! (get ! refl)) refl (tt, tt) $
      sets ! (agg ! (and_then ! (get ! refl) (and_then ! (get ! refl) (no_more !)))) refl (box_typed E alloc block place sized) $
      returns ! (look_at ! 0 refl) $ free_all ! refl $
      suffices ! _ (ends_at 𝓛 F.ended spent (F.clauses 𝓛 memory run) z here parts (tt, tt) (tt, tt)) $ says ! refl $
      nothing ! $ nothing ! $ fjoin ! $ join ! $ nothing ! $ join ! $ done !))))

pub into_raw_spec : {M : Type 1} → stated.statement M
unfolding tables_of
into_raw_spec 𝓤 𝓛 𝓜 𝓡 wired =
    let 𝓣 : Tables 𝓤 𝓛.H = tables_of 𝓤 𝓛.H 𝓜 (tables 𝓤 𝓛.H 𝓜 𝓡 𝓡.env) in
    let met =
    walk_Meets 𝓛 F.ended spent (Goes-dropped 𝓛 0 handle yes (λ κs x f. refl), tt) (F.clauses 𝓛 𝓜.mem 𝓡.returns) (WpFn 𝓤 𝓛.H 𝓣.C 𝓣.Λ code.function)
    (WpFn-mono 𝓤 𝓛.H 𝓛.laws 𝓣 code.function) (moves 𝓛 𝓜.mem 𝓡.returns 𝓣) in
    entered 𝓤 𝓛.H (triple_of 𝓛 F.signature (F.spec 𝓛 𝓜.mem 𝓡.returns)) 𝓣.C 𝓣.Λ #self code.function (code.unfolded 𝓤 𝓛.H 𝓜 𝓡 wired) met
