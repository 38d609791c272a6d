-- `of` takes the box apart, and the parts own what it owned.
use mathlib.Core.Path.{◌≡◌, refl, sym, subst, ap, ◌∙◌}
use mathlib.Core.List.{List, [], ◌∷◌, ◌++◌}
use seplogic.Ra.Ura.{Ura}
use mir.Syntax.{Fn, Args, Dict, a_type, dcons, dnil}
use mir.MapTy.{inst_fn}
use mir.Raw.{raw as bare}
use mir.Val.{Val, vstruct, of_list}
use base.Logic.{SProp, ent, id⊢, never, fst∗}
use base.Fml.{ftrue, fsep, flft}
use contract.BorrowLft.{◌⊑◌}
use prog.Memory.{Memory}
use prog.Routine.{Routine}
use prog.Wp.{WpFn, Tables}
use types.Logic.{Logic, sem}
use contract.Monad.{Fun, fact}
use contract.Running.{tables, tables_of}
use sound.WpLaws.{fm_of, WpFn-mono}
use types.Kit.{Item, ‵, raw, ◌⊛◌, some, later, ◌$◌, ◌∵◌, !, qed, by, move, drop, use1, join, split, split3, pick, rewrite, fsplit, fjoin, fpick, feq_l, suffices, await, done}
use types.Part.{whole, sub, agg}
use types.Run.{stop, fld, no_more, and_then, of_opd, returns, enter}
use types.ByLocal.{alloc_all, pass_all, free_all, look_at, get, get_in, sets, lands_as}
use denote.RattleType.{RattleType}
use denote.Exit.{no}
use denote.Param.{bounded}
use denote.RawPtr.{Ptr, RawPtr, block_ptr, null_ptr, ptr_val, in_a_block}
use denote.Signature.{plain}
use denote.Steps.{heard, nothing, only}
use denote.Struct.Tuple.{Tuple}
use denote.Triple.Call.{calls_at}
use denote.Triple.Clauses.{Ended, Clauses}
use denote.Triple.Spec.{triple_of}
use denote.Triple.Statement.{Triple, Contract}
use denote.Triple.Table.{entered}
use denote.Triple.Walked.{says, Stays, stay_dropped, walk_of, ends_at, walk_Meets}
use Rattle.core.proofs.alloc.Calls.{token, handle_tells, Goes-blank}
use Rattle.std_alloc.specs.Box.Ownership.{box_owns}
use Rattle.std_alloc.proofs.BoxSteps.Form.{Bx, D, τ, R, P, B, word, box_typed}
use Rattle.std_alloc.proofs.BoxSteps.Steps.{box_out, box_in}
use Rattle.std_alloc.specs.contracts.boxed.Box.into_raw_with_allocator as IntoRaw
use Rattle.std_alloc.proofs.boxed.Box.into_raw_with_allocator.Symbol as into_raw_symbol
use Rattle.std_alloc.proofs.boxed.Box.into_raw_with_allocator.Met as into_raw_met
use Rattle.framehop_c.specs.contracts.handle.raw_box.RawBox as RawBox
use Rattle.framehop_c.specs.contracts.handle.raw_box.RawBox.of as F
use Rattle.framehop_c.specs.contracts.handle.raw_box.RawBox.of.Key.{name as #self}
use Rattle.framehop_c.proofs.handle.raw_box.RawBox.of.Statement as stated
use Rattle.framehop_c.proofs.handle.raw_box.RawBox.of.Code as code

-- `drops` is how a value of the box is dropped
module _ (E : Bx) (drops : Dict) where
  abbrev types_of : Args
  types_of = bounded (a_type ∷ a_type ∷ []) (E.row, (E.al.row, tt)) (dcons E.al.d (dcons E.al.drops (dcons drops dnil)))

  abbrev function : Fn
  function = inst_fn types_of code.function

  abbrev ended : Ended
  ended = F.ended E.row E.al.row E.al.g E.al.d E.al.drops drops

  -- nothing of the box is left
  abbrev spent : Stays ended.signature.params ended.kept
  spent = (stay_dropped (plain (λ _. B E)) no, tt)

  abbrev Raw : RattleType
  Raw = RawBox.the_row (R E) (P E) E.al.g

  module _ {M : Type 1} {𝓤 : Ura M} (𝓛 : Logic 𝓤) (memory : Memory → SProp 𝓤) (run : Routine → Fun 𝓤) (𝓣 : Tables 𝓤 𝓛.H) where
    open 𝓛 use {H}

    abbrev clauses : Clauses 𝓤 ended
    clauses = F.clauses E.row E.al.row E.al.g E.al.d E.al.drops drops 𝓛 memory run

    abbrev Opening : Contract 𝓤
    Opening = triple_of 𝓛 (IntoRaw.signature E.row E.al.row E.al.g E.al.d E.al.drops drops) (IntoRaw.spec E.row E.al.row E.al.g E.al.d E.al.drops drops 𝓛 memory run)

    opens : Triple 𝓤 (𝓣.C (into_raw_symbol.name types_of)) Opening → (z : (walk_of 𝓛 ended spent clauses).Ghost)
        → ent 𝓤 ((walk_of 𝓛 ended spent clauses).pre z) (WpFn 𝓤 H 𝓣.C 𝓣.Λ function (z.0.4.0 ++ []) ((walk_of 𝓛 ended spent clauses).post z))
    opens opened z =
        let κs = z.0.0 in let shares = z.0.1 in let given = z.0.3.0 in let a = given.alloc in
        let After = (walk_of 𝓛 ended spent clauses).post z in
        let tokens : Item 𝓤 = ‵ (flft κs.0 shares.0) ⊛ ‵ (flft κs.1.0 shares.1.0) ⊛ ‵ ftrue in
        let alive : Item 𝓤 = raw (fact 𝓤 (κs.0 ⊑ E.row.lives)) ⊛ raw (fact 𝓤 (κs.1.0 ⊑ E.al.row.lives)) ⊛ ‵ ftrue in
        qed 𝓛 ((tokens ⊛ ‵ (fsep ((B E).own_val given z.0.4.0) ftrue)) ∷ alive ∷ []) ∵ split ! $ move ! (1 ∷ []) $ fsplit ! $
        box_out E ! given z.0.4.0 (λ block place alloc at same sized. box_in E ! given block place given.value at refl $
        let here = word E alloc block place in
        let call : Opening.Ghost = ((κs, shares, tt, (given, tt), (here ∷ [], tt)), tt) in
        let owned : List (Item 𝓤) = ‵ ((B E).own_val given (here ∷ [])) ∷ ‵ ftrue ∷ tokens ∷ alive ∷ [] in
        by ! (subst (λ (words : List Val). ent 𝓤 (types.Kit.⋆ 𝓛 owned) (WpFn 𝓤 H 𝓣.C 𝓣.Λ function (words ++ []) After)) (sym same)
        (qed 𝓛 owned ∵ enter ! 𝓣.C 𝓣.Λ function (here ∷ []) _ $
        alloc_all ! (λ locals. pass_all ! refl (box_typed E alloc block place sized, tt) $
        sets ! (of_opd ! (get ! refl)) refl (box_typed E alloc block place sized) $
        -- the call, and what it answers: a pointer, and the allocator of the box
        fjoin ! $ move ! (1 ∷ 0 ∷ []) $ join ! $ join ! $ use1 𝓛 (raw (Opening.pre call)) (id⊢ 𝓤 _) $
        calls_at ! (fm_of 𝓤 H 𝓛.laws 𝓣) Opening opened call (and_then ! (get ! refl) (no_more !)) (λ answer.
        use1 𝓛 (later (some (λ (r : Ptr × E.al.row.Denot). (tokens ⊛ ‵ ((Tuple (RawPtr ∷ P E ∷ [])).own_val r (answer ∷ [])))
        ⊛ some (λ (_ : (Unit {0} × (Unit {0} × Unit {0})) × Unit {0}). ‵ (fsep (fsep ftrue (fsep ftrue ftrue)) ftrue)
        ⊛ (raw (fact 𝓤 (r.1 ≡ a)) ⊛ ‵ (box_owns (token E.al a) (R E) r.0 given.value)))))) (id⊢ 𝓤 _) $
        await ! tt $ pick ! (λ r. split ! $ move ! (1 ∷ []) $ pick ! (λ _. split3 ! $ drop ! $ heard ! (r.1 ≡ a) (λ of_box.
        in_a_block ! r.0 (λ p. box_owns (token E.al a) (R E) p given.value) (fst∗ 𝓤 (never 𝓤) (sem 𝓛 (token E.al a (bare (τ E)) null_ptr))) (λ block' place' at'.
        move ! (1 ∷ []) $ split ! $ move ! (1 ∷ []) $
        fpick ! (λ parts. fsplit ! $ feq_l ! (λ pair. fsplit ! $ feq_l ! (λ first. fsplit ! $
        rewrite ! 0 (λ (s : E.al.row.Denot). ‵ (E.al.row.own_val s parts.1.0)) of_box refl $
        handle_tells E.al ! a parts.1.0 (λ alloc' second sized'.
        let box : D E = record { ptr = block_ptr block' place'; alloc = a; value = given.value } in
        let made : Raw.Denot = record { pointer = block_ptr block' place'; alloc = a; value = given.value } in
        let typed = box_typed E alloc' block' place' sized' in
        lands_as ! (ap only (pair ∙ (λ j. vstruct (of_list ((first ∙ ap (λ (p : Ptr). ptr_val p ∷ []) at') j ++ (second j ++ []))) ∷ []))) refl typed $
        sets ! (of_opd ! (get_in ! (fld ! refl (stop !)) (sub ! 0 refl (whole !)))) refl (tt, tt) $
        sets ! (of_opd ! (get_in ! (fld ! refl (stop !)) (sub ! 1 refl (whole !)))) refl sized' $
        sets ! (of_opd ! (get ! refl)) refl sized' $
        sets ! (agg ! (and_then ! (get ! refl) (and_then ! (get ! refl) (no_more !)))) refl typed $
        returns ! (look_at ! 0 refl) $ free_all ! refl $
        move ! (3 ∷ []) $ fsplit ! $ box_in E ! box block' place' given.value refl refl $
        use1 𝓛 (‵ (Raw.own_val made (word E alloc' block' place' ∷ []))) (id⊢ 𝓤 _) $ move ! (1 ∷ []) $ drop ! $
        suffices ! _ (ends_at 𝓛 ended spent clauses z (word E alloc' block' place') made ((tt, (tt, tt)), tt) (tt, tt)) $ says ! refl $
        nothing ! $ nothing ! $ fjoin ! $ join ! $ move ! (1 ∷ 0 ∷ []) $ join ! $ done !)))))))))))))

pub of_spec : {M : Type 1} → stated.statement M
unfolding tables_of
of_spec 𝓤 𝓛 𝓜 𝓡 wired X Z LX LZ g d dd drops allocator drops_alloc drops_value =
    let E : Bx = record { row = X; laws = LX; al = record { row = Z; laws = LZ; g = g; d = d; drops = dd } } in
    let 𝓣 : Tables 𝓤 𝓛.H = tables_of 𝓤 𝓛.H 𝓜 (tables 𝓤 𝓛.H 𝓜 𝓡 𝓡.env) in
    let opened = into_raw_met.met 𝓤 𝓛 𝓜 𝓡 (code.calls-std_alloc::boxed::Box::into_raw_with_allocator 𝓡.env wired) X Z LX LZ g d dd drops allocator drops_alloc drops_value in
    let met =
    walk_Meets 𝓛 (ended E drops) (spent E drops) (Goes-blank 𝓛 2 (plain (λ _. B E)) no (λ κs x f. tt), tt)
    (clauses E drops 𝓛 𝓜.mem 𝓡.returns 𝓣) (WpFn 𝓤 𝓛.H 𝓣.C 𝓣.Λ (function E drops)) (WpFn-mono 𝓤 𝓛.H 𝓛.laws 𝓣 (function E drops))
    (opens E drops 𝓛 𝓜.mem 𝓡.returns 𝓣 opened) in
    entered 𝓤 𝓛.H (triple_of 𝓛 (ended E drops).signature (F.spec X Z g d dd drops 𝓛 𝓜.mem 𝓡.returns)) 𝓣.C 𝓣.Λ (#self (types_of E drops)) (function E drops)
    (code.unfolded 𝓤 𝓛.H 𝓜 𝓡 wired (X, (Z, tt)) d dd drops) met
