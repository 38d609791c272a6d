-- `into_box` hands what the parts own to `Box::from_raw`.
use mathlib.Core.Path.{◌≡◌, refl, sym, subst, ap}
use mathlib.Core.List.{List, [], ◌∷◌, ◌++◌}
use lib.Dec.{T}
use seplogic.Ra.Ura.{Ura}
use mir.Syntax.{Fn, Body, place, copy, assign, rv_opd, seq, return}
use mir.MapTy.{inst_fn}
use mir.Val.{Val, vptr, has_ty, WT}
use base.Logic.{SProp, ent, id⊢}
use base.Fml.{ftrue, fsep, flft}
use contract.BorrowLft.{◌⊑◌}
use prog.Memory.{Memory}
use prog.Routine.{Routine}
use prog.Wp.{WpFn, Tables}
use types.Logic.{Logic}
use contract.Monad.{Fun, fact}
use contract.Running.{tables, tables_of}
use sound.WpLaws.{fm_of, WpFn-mono}
use types.Kit.{Item, at_ret, ‵, raw, ◌⊛◌, some, later, ◌$◌, ◌∵◌, !, qed, by, move, drop, use1, join, split, split3, pick, rewrite, fsplit, fjoin, feq_i, suffices, await, done}
use types.Part.{whole, sub}
use types.Run.{stop, fld, no_more, and_then, of_opd, returns, enter, first, blocks, exec}
use types.ByLocal.{alloc_all, pass_all, free_all, look_at, get, get_in, sets, lands_last, env}
use denote.RattleType.{RattleType}
use denote.Exit.{no}
use denote.RawPtr.{block_ptr}
use denote.Signature.{plain}
use denote.Steps.{heard, nothing, only}
use denote.Triple.Call.{calls_at_last}
use denote.Triple.Clauses.{Ended, Clauses}
use denote.Triple.Spec.{triple_of}
use denote.Triple.Statement.{Triple, Contract}
use denote.Triple.Table.{entered}
use denote.Triple.Walked.{says, Stays, stay_dropped, walk_of, ends_at, walk_Meets}
use Rattle.core.proofs.alloc.Calls.{token, Goes-blank}
use Rattle.std_alloc.specs.Box.Ownership.{box_owns}
use Rattle.std_alloc.proofs.BoxSteps.Form.{Bx, D, R, P, B, args, box_ty, word, box_typed}
use Rattle.std_alloc.proofs.BoxSteps.Steps.{box_out, box_in}
use Rattle.std_alloc.specs.contracts.boxed.Box.from_raw as FromRaw
use Rattle.std_alloc.proofs.boxed.Box.from_raw.Symbol as from_raw_symbol
use Rattle.std_alloc.proofs.boxed.Box.from_raw.Met as from_raw_met
use Rattle.framehop_c.specs.contracts.handle.raw_box.RawBox as RawBox
use Rattle.framehop_c.specs.contracts.handle.raw_box.RawBox.into_box as F
use Rattle.framehop_c.specs.contracts.handle.raw_box.RawBox.into_box.Key.{name as #self}
use Rattle.framehop_c.proofs.handle.raw_box.RawBox.into_box.Statement as stated
use Rattle.framehop_c.proofs.handle.raw_box.RawBox.into_box.Code as code

-- what is left to do after the call: its answer is the result
abbrev last : Body
last = seq (assign (place 0 []) (rv_opd (copy (place 4 [])))) return

module _ (E : Bx) where
  abbrev function : Fn
  function = inst_fn (args E) code.function

  abbrev ended : Ended
  ended = F.ended E.row E.al.row E.al.g E.al.d E.al.drops

  abbrev Raw : RattleType
  Raw = RawBox.the_row (R E) (P E) E.al.g

  -- nothing of the raw box is left
  abbrev spent : Stays ended.signature.params ended.kept
  spent = (stay_dropped (plain (λ _. Raw)) no, tt)

  module _ {M : Type 1} {𝓤 : Ura M} (𝓛 : Logic 𝓤) (memory : Memory → SProp 𝓤) (run : Routine → Fun 𝓤) (𝓣 : Tables 𝓤 𝓛.H) where
    open 𝓛 use {H}

    abbrev clauses : Clauses 𝓤 ended
    clauses = F.clauses E.row E.al.row E.al.g E.al.d E.al.drops 𝓛 memory run

    abbrev Closing : Contract 𝓤
    Closing = triple_of 𝓛 (FromRaw.signature E.row E.al.row E.al.g E.al.d E.al.drops) (FromRaw.spec E.row E.al.row E.al.g E.al.d E.al.drops 𝓛 memory run)

    closes : Triple 𝓤 (𝓣.C (from_raw_symbol.name (args E))) Closing → (z : (walk_of 𝓛 ended spent clauses).Ghost)
        → ent 𝓤 ((walk_of 𝓛 ended spent clauses).pre z) (WpFn 𝓤 H 𝓣.C 𝓣.Λ function (z.0.4.0 ++ []) ((walk_of 𝓛 ended spent clauses).post z))
    closes closed z =
        let κs = z.0.0 in let shares = z.0.1 in let a = z.0.3.0.alloc in let x = z.0.3.0.value in
        let After = (walk_of 𝓛 ended spent clauses).post z in
        let given : D E = record { ptr = z.0.3.0.pointer; alloc = a; value = x } in
        let tokens : Item 𝓤 = ‵ (flft κs.0 shares.0) ⊛ ‵ (flft κs.1.0 shares.1.0) ⊛ ‵ ftrue in
        let value_alive : Item 𝓤 = raw (fact 𝓤 (κs.0 ⊑ E.row.lives)) in
        let alloc_alive : Item 𝓤 = raw (fact 𝓤 (κs.1.0 ⊑ E.al.row.lives)) in
        qed 𝓛 ((tokens ⊛ ‵ (fsep ((B E).own_val given z.0.4.0) ftrue)) ∷ (value_alive ⊛ alloc_alive ⊛ ‵ ftrue) ∷ []) ∵ split ! $ move ! (1 ∷ []) $ fsplit ! $
        box_out E ! given z.0.4.0 (λ block place alloc at same sized. fjoin ! $
        let here = word E alloc block place in
        let call : Closing.Ghost = ((κs, shares, tt, (a, (block_ptr block place, tt)), (alloc ∷ [], (vptr block place ∷ [], tt))), x) in
        let owned : List (Item 𝓤) = ‵ (box_owns (token E.al a) (R E) (block_ptr block place) x) ∷ ‵ ((P E).own_val a (alloc ∷ [])) ∷ ‵ ftrue ∷ tokens ∷ (value_alive ⊛ alloc_alive ⊛ ‵ ftrue) ∷ [] in
        by ! (subst (λ (vals : List Val). ent 𝓤 (types.Kit.⋆ 𝓛 owned) (WpFn 𝓤 H 𝓣.C 𝓣.Λ function (vals ++ []) After)) (sym same)
        (qed 𝓛 owned ∵ enter ! 𝓣.C 𝓣.Λ function (here ∷ []) _ $
        alloc_all ! (λ locals. pass_all ! refl (box_typed E alloc block place sized, tt) $
        sets ! (of_opd ! (get_in ! (fld ! refl (stop !)) (sub ! 0 refl (whole !)))) refl (tt, tt) $
        sets ! (of_opd ! (get_in ! (fld ! refl (stop !)) (sub ! 1 refl (whole !)))) refl sized $
        first ! $ blocks ! $ sets ! (of_opd ! (get ! refl)) refl sized $
        move ! (4 ∷ []) $ split3 ! $ move ! (2 ∷ []) $ drop ! $ move ! (1 ∷ 2 ∷ []) $ join ! $ move ! (1 ∷ 0 ∷ []) $ join ! $
        -- the call: it takes what the parts own
        move ! (2 ∷ []) $ feq_i ! (List Val) (vptr block place ∷ []) (vptr block place ∷ []) refl $ fjoin ! $
        move ! (2 ∷ 0 ∷ []) $ fjoin ! $ move ! (2 ∷ 0 ∷ []) $ join ! $ join ! $ use1 𝓛 (raw (Closing.pre call)) (id⊢ 𝓤 _) $
        calls_at_last ! (fm_of 𝓤 H 𝓛.laws 𝓣) Closing closed call (and_then ! (get ! refl) (and_then ! (get ! refl) (no_more !))) (λ answer.
        use1 𝓛 (later (some (λ (r : D E). (tokens ⊛ ‵ ((B E).own_val r (answer ∷ [])))
        ⊛ some (λ (_ : Unit {0} × (Unit {0} × Unit {0})). ‵ (fsep ftrue (fsep ftrue ftrue)) ⊛ (raw (fact 𝓤 (r.value ≡ x)) ⊛ raw (fact 𝓤 (r.alloc ≡ a))))))) (id⊢ 𝓤 _) $
        await ! tt $ pick ! (λ r. split ! $ move ! (1 ∷ []) $ pick ! (λ _. split3 ! $ drop ! $ heard ! (r.value ≡ x) (λ kept. drop ! $ split ! $ move ! (1 ∷ []) $
        -- the box that it answered is the result
        box_out E ! r (answer ∷ []) (λ block' place' alloc' at' word' sized'. box_in E ! r block' place' r.value at' refl $
        rewrite ! 0 (λ (vals : List Val). ‵ ((B E).own_val r vals)) (sym word') refl $
        let typed : T (has_ty (box_ty E) answer) × WT answer = subst (λ (s : Val). T (has_ty (box_ty E) s) × WT s) (sym (ap only word')) (box_typed E alloc' block' place' sized') in
        lands_last ! refl typed $ exec ! 𝓣.C 𝓣.Λ (env function.locals locals) last (at_ret (env function.locals locals) After) $
        sets ! (of_opd ! (get ! refl)) refl typed $ returns ! (look_at ! 0 refl) $ free_all ! refl $
        suffices ! _ (ends_at 𝓛 ended spent clauses z answer r ((tt, (tt, tt)), tt) (tt, tt)) $ says ! kept $
        nothing ! $ nothing ! $ fjoin ! $ join ! $ move ! (1 ∷ 0 ∷ []) $ join ! $ done !)))))))))

pub into_box_spec : {M : Type 1} → stated.statement M
unfolding tables_of
into_box_spec 𝓤 𝓛 𝓜 𝓡 wired X Z LX LZ g d dd allocator drops_alloc =
    let E : Bx = record { row = X; laws = LX; al = record { row = Z; laws = LZ; g = g; d = d; drops = dd } } in
    let 𝓣 : Tables 𝓤 𝓛.H = tables_of 𝓤 𝓛.H 𝓜 (tables 𝓤 𝓛.H 𝓜 𝓡 𝓡.env) in
    let closed = from_raw_met.met 𝓤 𝓛 𝓜 𝓡 (code.calls-std_alloc::boxed::Box::from_raw 𝓡.env wired) X Z LX LZ g d dd allocator drops_alloc in
    let met =
    walk_Meets 𝓛 (ended E) (spent E) (Goes-blank 𝓛 2 (plain (λ _. Raw E)) no (λ κs x f. tt), tt)
    (clauses E 𝓛 𝓜.mem 𝓡.returns 𝓣) (WpFn 𝓤 𝓛.H 𝓣.C 𝓣.Λ (function E)) (WpFn-mono 𝓤 𝓛.H 𝓛.laws 𝓣 (function E))
    (closes E 𝓛 𝓜.mem 𝓡.returns 𝓣 closed) in
    entered 𝓤 𝓛.H (triple_of 𝓛 (ended E).signature (F.spec X Z g d dd 𝓛 𝓜.mem 𝓡.returns)) 𝓣.C 𝓣.Λ (#self (args E)) (function E)
    (code.unfolded 𝓤 𝓛.H 𝓜 𝓡 wired (X, (Z, tt)) d dd) met
