-- `object_mut` lends the object, and the handle follows it.
use mathlib.Core.Path.{◌≡◌, refl}
use Prim.Native.Nat.{ℕ}
use mathlib.Core.List.{List, [], ◌∷◌}
use seplogic.Ra.Ura.{Ura}
use base.Fraction.{full_share}
use mir.Syntax.{named}
use mir.Val.{Val, vptr}
use mir.Raw.{raw as bare}
use base.Logic.{SProp, ent, sep, emp, via, fst∗, id⊢}
use base.Fml.{Lft, GName, Share, Fml, ftrue, flft, fsep}
use prog.Memory.{Memory}
use prog.Routine.{Routine}
use prog.Wp.{Env, Calls, Loops, WpFn, Tables}
use types.Logic.{Logic, sem}
use contract.Monad.{Fun}
use contract.Running.{tables, tables_of}
use sound.WpLaws.{WpFn-mono}
use types.Kit.{‵, ◌⊛◌, some, at_ret, ◌$◌, ◌∵◌, !, qed, by, move, keep, use1, drop, split, join, pick, rewrite, fsplit, fsplit3, fjoin, suffices, frame, done, raw, later, await, group, fpack}
use types.Part.{whole, sub, look_in}
use types.Run.{stop, fld, load, of_opd, first, blocks, exec, returns, enter, addr}
use types.ByLocal.{alloc_all, pass_all, free_all, look_at, get, through, sets, env, sets_last}
use denote.RattleType.{RattleType, owns}
use denote.Memory.{part_at, mem, cell_at, part_of}
use denote.RawPtr.{block_ptr}
use denote.Ref.{MutRef, mut_vals, mut_Tells}
use denote.Signature.{plain, mut_ref_to}
use denote.Steps.{nothing, opens}
use denote.Exit.{no}
use denote.Follow.{follows, Part, lends_Part}
use denote.Triple.Entry.{on_entry}
use denote.Triple.Spec.{triple_of}
use denote.Triple.Table.{entered}
use denote.Triple.Walked.{says, Stays, stay_dropped, walk_of, ends_at, walked, walk_Meets, Goes-spent_ref}
use Rattle.core.proofs.alloc.Calls.{token}
use Rattle.std_alloc.proofs.VecSteps.Shapes.{after}
use Rattle.std_alloc.proofs.BoxSteps.Form.{R, B, D, τ, word, handle as allocator}
use Rattle.std_alloc.proofs.BoxSteps.Steps.{box_out, box_in}
use Rattle.framehop_c.proofs.ObjectBox.{object_box as E}
use Rattle.framehop_c.specs.Lending.{with_object}
use Rattle.framehop_c.specs.contracts.object.Object as Object
use Rattle.framehop_c.specs.contracts.handle.Handle as Handle
use Rattle.framehop_c.specs.contracts.handle.Handle.object_mut as F
use Rattle.framehop_c.specs.contracts.handle.Handle.object_mut.Key.{name as #self}
use Rattle.framehop_c.proofs.handle.Handle.object_mut.Statement as stated
use Rattle.framehop_c.proofs.handle.Handle.object_mut.Code as code

abbrev Owner : RattleType
Owner = Handle.the_row

abbrev Content : RattleType
Content = Object.the_row

-- the reference to the handle is used up
abbrev spent : Stays (F.ended).signature.params (F.ended).kept
spent = (stay_dropped (mut_ref_to (0 ∷ []) tt (plain (λ _. Owner))) no, tt)

-- the box of a handle's object
abbrev boxed : Owner.Denot → D E
boxed handle = record { ptr = handle.address; alloc = handle.alloc; value = handle.object }

module _ {M : Type 1} {𝓤 : Ura M} (𝓛 : Logic 𝓤) (memory : Memory → SProp 𝓤) (run : Routine → Fun 𝓤) (κ : Lft) (share : Share) (of_block of_place : ℕ) (γ : GName) (given : Owner.Denot) where
  open 𝓛 use {H, A}

  abbrev call : (walk_of 𝓛 F.ended spent (F.clauses 𝓛 memory run)).Ghost
  call = (((κ, tt), (share, tt), tt, (record { ref_ptr = (of_block, of_place); ghost_name = γ; now = given }, tt), (vptr of_block of_place ∷ [], tt)), tt)

  abbrev After : Val → SProp 𝓤
  After = (walk_of 𝓛 F.ended spent (F.clauses 𝓛 memory run)).post call

  module _ (block place : ℕ) (alloc : Val) where
    -- the handle without its object: the token of the block, the allocator, and the place where the handle is
    abbrev Others : Fml
    Others = fsep (fsep (token E.al given.alloc (bare (τ E)) (block_ptr block place)) (allocator E given.alloc alloc)) (cell_at full_share Owner.mir (word E alloc block place ∷ []) of_block of_place)

    -- with any object again they are the handle to it
    returned : given.address ≡ block_ptr block place → (object : Content.Denot)
        → ent 𝓤 (sep 𝓤 (sem 𝓛 ((mem Content).own_at object block place)) (sem 𝓛 Others)) (sem 𝓛 ((mem Owner).own_at (with_object given object) of_block of_place))
    unfolding part_of
    returned at object =
        qed 𝓛 (‵ (part_at (R E) full_share object block place) ∷ ‵ Others ∷ []) ∵ move ! (1 ∷ []) $ fsplit ! $ fsplit ! $ move ! (3 ∷ []) $
        box_in E ! (boxed (with_object given object)) block place object at refl $
        use1 𝓛 (‵ (Owner.own_val (with_object given object) (word E alloc block place ∷ []))) (id⊢ 𝓤 _) $ move ! (1 ∷ 0 ∷ []) $ fjoin ! $
        fpack ! (List Val) (λ words. fsep (cell_at full_share Owner.mir words of_block of_place) (Owner.own_val (with_object given object) words)) (word E alloc block place ∷ []) $
        done !

    -- the end of the call: the reference to the object, which the handle follows
    lent : (γ' : GName)
        → ent 𝓤 (sep 𝓤 (sem 𝓛 ((MutRef (named 0) κ Content).own_val (record { ref_ptr = (block, place); ghost_name = γ'; now = given.object }) (vptr block place ∷ [])))
        (sep 𝓤 (A.lft κ share) (sem 𝓛 (follows Owner Content γ γ' (with_object given))))) (After (vptr block place))
    lent γ' =
        qed 𝓛 (‵ ((MutRef (named 0) κ Content).own_val (record { ref_ptr = (block, place); ghost_name = γ'; now = given.object }) (vptr block place ∷ [])) ∷ ‵ (flft κ share) ∷ ‵ (follows Owner Content γ γ' (with_object given)) ∷ []) ∵
        suffices ! _ (ends_at 𝓛 F.ended spent (F.clauses 𝓛 memory run) call (vptr block place) (record { ref_ptr = (block, place); ghost_name = γ'; now = given.object }) (tt, tt) (tt, tt)) $
        nothing ! $ nothing ! $ fjoin ! $ join ! $ nothing ! $ move ! (2 ∷ 0 ∷ []) $ join ! $ join ! $ frame ! $ says ! refl $ done !

  module _ (C : Calls 𝓤 H) (Λ : Loops 𝓤 H) where
    lends : ent 𝓤 (on_entry 𝓛 (F.ended).signature (κ, tt) (share, tt) (record { ref_ptr = (of_block, of_place); ghost_name = γ; now = given }, tt) (vptr of_block of_place ∷ [], tt))
        (WpFn 𝓤 H C Λ code.function (vptr of_block of_place ∷ []) After)
    lends =
        qed 𝓛 ((‵ (flft κ share) ⊛ ‵ ftrue) ∷ ‵ (owns (MutRef (named 0) κ Owner ∷ []) (record { ref_ptr = (of_block, of_place); ghost_name = γ; now = given }, tt) (vptr of_block of_place ∷ [], tt)) ∷ []) ∵
        enter ! C Λ code.function (vptr of_block of_place ∷ []) _ $
        alloc_all ! (λ locals. pass_all ! refl ((tt, tt), tt) $
        let now : Env 𝓤 H = env (code.function).locals locals in
        move ! (1 ∷ []) $ fsplit ! $ fsplit3 ! $ drop ! $ move ! (3 ∷ []) $ split ! $ move ! (2 ∷ 3 ∷ 0 ∷ []) $
        -- the handle behind the reference is a box
        opens ! tt Owner {h = given} of_block of_place (λ words. move ! (1 ∷ []) $
        use1 𝓛 (‵ ((B E).own_val (boxed given) words)) (id⊢ 𝓤 _) $
        box_out E ! (boxed given) words (λ block place alloc at same sized.
        move ! (1 ∷ 2 ∷ []) $ fjoin ! $ move ! (1 ∷ []) $ rewrite ! 2 (λ (vals : List Val). ‵ (cell_at full_share Owner.mir vals of_block of_place)) same refl $
        use1 𝓛 (‵ (part_at Content full_share given.object block place)) (id⊢ 𝓤 _) $
        -- the address, the cast, the reference
        first ! $ blocks ! $
        sets ! (of_opd ! (load ! (through ! refl (fld ! refl (stop !))) (look_in ! 2 (sub ! 0 refl (whole !))))) refl (tt, tt) $
        sets ! (of_opd ! (get ! refl)) refl (tt, tt) $
        sets_last ! (addr ! (through ! refl (stop !))) refl (tt, tt) $
        exec ! C Λ now (after 1 (code.function).body) (at_ret now After) $
        sets ! (of_opd ! (get ! refl)) refl (tt, tt) $
        move ! (1 ∷ 2 ∷ []) $ fjoin ! $ move ! (2 ∷ 3 ∷ 4 ∷ 1 ∷ 0 ∷ []) $ group ! 5 $
        use1 𝓛 (later (some (λ (γ' : GName). raw (Part 𝓛 Owner Content (with_object given) (named 0) κ share of_block of_place block place γ (sem 𝓛 (Others block place alloc)) (returned block place alloc at) given.object γ'))))
        (lends_Part 𝓛 Owner Content (with_object given) (named 0) κ share of_block of_place block place γ (sem 𝓛 (Others block place alloc)) (returned block place alloc at) (Owner.coded.code given) (Owner.coded.code given) given.object) $
        await ! tt $ pick ! (λ γ'. returns ! (look_at ! 0 refl) $ free_all ! refl $ keep ! (0 ∷ []) $ by ! (lent block place alloc γ')))))

pub object_mut_spec : {M : Type 1} → stated.statement M
unfolding tables_of
object_mut_spec 𝓤 𝓛 𝓜 𝓡 wired =
    let 𝓣 : Tables 𝓤 𝓛.H = tables_of 𝓤 𝓛.H 𝓜 (tables 𝓤 𝓛.H 𝓜 𝓡 𝓡.env) in
    let clauses = F.clauses 𝓛 𝓜.mem 𝓡.returns in
    let met =
    walk_Meets 𝓛 F.ended spent (Goes-spent_ref 𝓛 1 (0 ∷ []) tt (plain (λ _. Owner)), tt) clauses (WpFn 𝓤 𝓛.H 𝓣.C 𝓣.Λ code.function) (WpFn-mono 𝓤 𝓛.H 𝓛.laws 𝓣 code.function)
    (walked 𝓛 F.ended spent clauses (WpFn 𝓤 𝓛.H 𝓣.C 𝓣.Λ code.function) (λ κs. (mut_vals, tt)) (λ κs. (mut_Tells (named 0) κs.0 Owner, tt))
    (λ κs shares bounds args ghost are. via 𝓤 _ (fst∗ 𝓤 _ (emp 𝓤)) (lends 𝓛 𝓜.mem 𝓡.returns κs.0 shares.0 args.0.ref_ptr.0 args.0.ref_ptr.1 args.0.ghost_name args.0.now 𝓣.C 𝓣.Λ))) in
    entered 𝓤 𝓛.H (triple_of 𝓛 F.signature (F.spec 𝓛 𝓜.mem 𝓡.returns)) 𝓣.C 𝓣.Λ #self code.function (code.unfolded 𝓤 𝓛.H 𝓜 𝓡 wired) met
