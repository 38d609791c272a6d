-- `of` reads the pointer; what the raw box owns is left to who has the handle.
use mathlib.Core.Path.{refl, sym, subst, ap}
use mathlib.Core.List.{List, [], ◌∷◌, ◌++◌}
use seplogic.Ra.Ura.{Ura}
use Prim.Native.Nat.{ℕ}
use mir.Val.{Val, vptr, vstruct, vnil, vcons}
use denote.RattleType.{Valss}
use denote.RawPtr.{Ptr, RawPtr, ptr_val}
use denote.Struct.Owning.{shape}
use denote.Struct.Struct.{within}
use base.Logic.{SProp, ent, emp}
use base.Fml.{ftrue, fsep}
use prog.Memory.{Memory}
use prog.Routine.{Routine}
use prog.Wp.{WpFn, Tables}
use types.Logic.{Logic}
use contract.Monad.{Fun}
use contract.Running.{tables, tables_of}
use sound.WpLaws.{WpFn-mono}
use types.Kit.{Item, ‵, raw, ◌⊛◌, ◌$◌, ◌∵◌, !, qed, by, move, drop, use1, join, split, fsplit, fjoin, fpack, feq_i, keep, suffices, done}
use types.Part.{whole, sub, agg}
use types.Run.{stop, fld, no_more, and_then, of_opd, returns, enter}
use types.ByLocal.{alloc_all, pass_all, free_all, look_at, get, get_in, sets}
use denote.Exit.{no}
use denote.Signature.{type_at}
use denote.Steps.{nothing}
use denote.Triple.Spec.{triple_of}
use denote.Triple.Table.{entered}
use denote.Triple.Walked.{says, Stays, stay_dropped, walk_of, ends_at, Goes-dropped, walk_Meets}
use Rattle.std_alloc.proofs.BoxSteps.Form.{D, B, word, box_typed}
use Rattle.std_alloc.proofs.BoxSteps.Steps.{box_out}
use Rattle.framehop_c.proofs.ObjectBox.{object_box as E, raw_box}
use Rattle.framehop_c.specs.contracts.handle.HandlePlace as HandlePlace
use Rattle.framehop_c.specs.contracts.handle.HandlePlace.of as F
use Rattle.framehop_c.specs.contracts.handle.HandlePlace.of.Key.{name as #self}
use Rattle.framehop_c.proofs.handle.HandlePlace.of.Statement as stated
use Rattle.framehop_c.proofs.handle.HandlePlace.of.Code as code

-- nothing of the raw box is left
abbrev spent : Stays (F.ended).signature.params (F.ended).kept
spent = (stay_dropped raw_box no, tt)

-- a place as it lies in memory
abbrev address_word : ℕ → ℕ → Val
address_word block place = vstruct (vcons (vptr block place) vnil)

module _ {M : Type 1} {𝓤 : Ura M} (𝓛 : Logic 𝓤) (memory : Memory → SProp 𝓤) (run : Routine → Fun 𝓤) (𝓣 : Tables 𝓤 𝓛.H) where
  open 𝓛 use {H}

  reads : (z : (walk_of 𝓛 F.ended spent (F.clauses 𝓛 memory run)).Ghost)
      → ent 𝓤 ((walk_of 𝓛 F.ended spent (F.clauses 𝓛 memory run)).pre z) (WpFn 𝓤 H 𝓣.C 𝓣.Λ code.function (z.0.4.0 ++ []) ((walk_of 𝓛 F.ended spent (F.clauses 𝓛 memory run)).post z))
  reads z =
      let After = (walk_of 𝓛 F.ended spent (F.clauses 𝓛 memory run)).post z in
      let given = z.0.3.0 in
      let box : D E = record { ptr = given.pointer; alloc = given.alloc; value = given.value } in
      let Place = type_at (F.signature).result tt in
      let written : Place.Denot = record { address = given.pointer; object = given.value } in
      qed 𝓛 ((‵ ftrue ⊛ ‵ (fsep ((B E).own_val box z.0.4.0) ftrue)) ∷ raw (emp 𝓤) ∷ []) ∵ split ! $ drop ! $ fsplit ! $
      box_out E ! box z.0.4.0 (λ block place alloc at same sized. keep ! [] $
      let here = word E alloc block place in
      let owned : List (Item 𝓤) = [] in
      by ! (subst (λ (words : List Val). ent 𝓤 (types.Kit.⋆ 𝓛 owned) (WpFn 𝓤 H 𝓣.C 𝓣.Λ code.function (words ++ []) After)) (sym same)
      (qed 𝓛 owned ∵ enter ! 𝓣.C 𝓣.Λ code.function (here ∷ []) _ $
      alloc_all ! (λ locals. pass_all ! refl (box_typed E alloc block place sized, tt) $
      -- the pointer, the cast, the result
      sets ! (of_opd ! (get_in ! (fld ! refl (stop !)) (sub ! 0 refl (whole !)))) refl (tt, tt) $
      sets ! (of_opd ! (get ! refl)) refl (tt, tt) $
      sets ! (agg ! (and_then ! (get ! refl) (no_more !))) refl (tt, (tt, tt)) $
      returns ! (look_at ! 0 refl) $ free_all ! refl $
      suffices ! _ (ends_at 𝓛 F.ended spent (F.clauses 𝓛 memory run) z (address_word block place) written (tt, tt) (tt, tt)) $ says ! refl $
      -- the place owns nothing: its field is the pointer
      nothing ! $ nothing ! $ feq_i ! (List Val) (vptr block place ∷ []) (ptr_val given.pointer ∷ []) (ap (λ (p : Ptr). ptr_val p ∷ []) (sym at)) $ fjoin ! $
      feq_i ! (List Val) (address_word block place ∷ []) (address_word block place ∷ []) refl $ fjoin ! $
      fpack ! (Valss (RawPtr ∷ [])) (within (shape HandlePlace.the_type) (given.pointer, tt) (address_word block place ∷ [])) (vptr block place ∷ [], tt) $ fjoin ! $
      nothing ! $ nothing ! $ fjoin ! $ join ! $ nothing ! $ join ! $ done !))))

pub of_spec : {M : Type 1} → stated.statement M
unfolding tables_of
of_spec 𝓤 𝓛 𝓜 𝓡 wired =
    let 𝓣 : Tables 𝓤 𝓛.H = tables_of 𝓤 𝓛.H 𝓜 (tables 𝓤 𝓛.H 𝓜 𝓡 𝓡.env) in
    let met =
    walk_Meets 𝓛 F.ended spent (Goes-dropped 𝓛 0 raw_box no (λ κs x f. refl), tt) (F.clauses 𝓛 𝓜.mem 𝓡.returns) (WpFn 𝓤 𝓛.H 𝓣.C 𝓣.Λ code.function)
    (WpFn-mono 𝓤 𝓛.H 𝓛.laws 𝓣 code.function) (reads 𝓛 𝓜.mem 𝓡.returns 𝓣) in
    entered 𝓤 𝓛.H (triple_of 𝓛 F.signature (F.spec 𝓛 𝓜.mem 𝓡.returns)) 𝓣.C 𝓣.Λ #self code.function (code.unfolded 𝓤 𝓛.H 𝓜 𝓡 wired) met
