-- Operations read one by one: what those that are left give, after some have been read.
use Rattle.std.proofs.Common.{◌≡◌, ◌≢◌, ℕ, ◌<◌, ◌≤◌, Bool, true, false, List, [], ◌∷◌, ◌++◌, length, Option, Some, None, refl, sym, ap, ◌∙◌, append_assoc, append-nil, length-append, arith}
use Rattle.std.specs.Option.{option_map}
use Rattle.std.proofs.lemmas.Option.{none-some, some_pair_parts}
use Rattle.std.specs.Iterator.{AlwaysYields}
use Rattle.framehop_core.specs.X86_64.Rules.{pops_of, offset_and_pops_of}
use Rattle.framehop_core.specs.declared.x86_64.unwindregs.Reg.{Reg}
use Rattle.framehop_core.specs.declared.x86_64.unwind_rule.OffsetOrPop.{OffsetOrPop}
use Rattle.framehop_core.specs.declared.x86_64.unwind_rule.OffsetOrPop.TheVariants.{OffsetBy8, Pop}

-- the offset and the registers, where these are the ones so far; `true`: no operation has been read
abbrev pub continued : Bool → ℕ → List Reg → List OffsetOrPop → Option (ℕ × List Reg)
continued false x registers operations = option_map (λ more. (x, registers ++ more)) (pops_of operations)
continued true x registers (OffsetBy8 y ∷ operations) = option_map (λ more. (y, registers ++ more)) (pops_of operations)
continued true x registers operations = option_map (λ more. (x, registers ++ more)) (pops_of operations)

-- the registers so far in front of the others, if those are pops
in_front : ℕ → List Reg → Option (List Reg) → Option (ℕ × List Reg)
in_front x registers None = None
in_front x registers (Some more) = Some (x, registers ++ more)

continued-in_front : (x : ℕ) (registers : List Reg) (more : Option (List Reg)) → option_map {U = ℕ × List Reg} (λ m. (x, registers ++ m)) more ≡ in_front x registers more
unfolding in_front
continued-in_front x registers None = refl
continued-in_front x registers (Some more) = refl

one_more : (x : ℕ) (registers : List Reg) (register : Reg) (more : Option (List Reg)) → in_front x registers (option_map (λ m. register ∷ m) more) ≡ in_front x (registers ++ register ∷ []) more
unfolding in_front
one_more x registers register None = refl
one_more x registers register (Some more) = ap (in_front x []) (ap Some (sym (append_assoc registers (register ∷ []) more)))

longer : (x y : ℕ) (registers found : List Reg) (more : Option (List Reg)) → in_front x registers more ≡ Some (y, found) → length registers ≤ length found
unfolding in_front
longer x y registers found None e = absurd (none-some (y, found) e)
longer x y registers found (Some more) e =
    let both = some_pair_parts x y (registers ++ more) found e in
    omega (arith, ap length both.1, length-append registers more)

pub continued-pop : (first : Bool) (x : ℕ) (registers : List Reg) (register : Reg) (operations : List OffsetOrPop) → continued first x registers (Pop register ∷ operations) ≡ continued false x (registers ++ register ∷ []) operations
continued-pop true x registers register operations =
    continued-in_front x registers (option_map (λ m. register ∷ m) (pops_of operations)) ∙ one_more x registers register (pops_of operations) ∙ sym (continued-in_front x (registers ++ register ∷ []) (pops_of operations))
continued-pop false x registers register operations =
    continued-in_front x registers (option_map (λ m. register ∷ m) (pops_of operations)) ∙ one_more x registers register (pops_of operations) ∙ sym (continued-in_front x (registers ++ register ∷ []) (pops_of operations))

continued-none : (first : Bool) (x : ℕ) (registers : List Reg) → continued first x registers [] ≡ Some (x, registers)
continued-none true x registers = ap (λ r. Some (x, r)) (append-nil registers)
continued-none false x registers = ap (λ r. Some (x, r)) (append-nil registers)

-- an offset after another operation, or an operation that is neither an offset nor a pop
pub continued-offset : (first : Bool) (x y : ℕ) (registers : List Reg) (operation : OffsetOrPop) (operations : List OffsetOrPop) → first ≡ false → operation ≡ OffsetBy8 y → continued first x registers (operation ∷ operations) ≡ None
continued-offset first x y registers operation operations behind is = rw (behind, is) refl

pub continued-other : (first : Bool) (x : ℕ) (registers : List Reg) (operation : OffsetOrPop) (operations : List OffsetOrPop) → ((y : ℕ) → operation ≢ OffsetBy8 y) → ((r : Reg) → operation ≢ Pop r) → continued first x registers (operation ∷ operations) ≡ None
continued-other first x registers (OffsetBy8 y) operations offset pop = absurd (offset y refl)
continued-other first x registers (Pop r) operations offset pop = absurd (pop r refl)
continued-other true x registers _ operations offset pop = refl
continued-other false x registers _ operations offset pop = refl

-- an iterator gives a list of operations, some of which have been read
pub record Gives {S : Type 0} (steps : S → Option OffsetOrPop → S → Type 0) (state : S) (first : Bool) (x : ℕ) (registers : List Reg) (given : List OffsetOrPop) : Type 0 where
  pub rest : List OffsetOrPop
  pub yields : AlwaysYields steps (λ operation. operation) state rest
  pub same : continued first x registers rest ≡ offset_and_pops_of given

module _ {S : Type 0} (steps : S → Option OffsetOrPop → S → Type 0) (state next : S) (first : Bool) (x : ℕ) (registers : List Reg) (given : List OffsetOrPop) where
  -- the next operation, and what is left then
  next_of : (operation : OffsetOrPop) (rest : List OffsetOrPop) → AlwaysYields steps (λ o. o) state rest → continued first x registers rest ≡ offset_and_pops_of given → steps state (Some operation) next → (others : List OffsetOrPop) × AlwaysYields steps (λ o. o) next others × (continued first x registers (operation ∷ others) ≡ offset_and_pops_of given)
  next_of operation [] yields same step = absurd (yields operation next step)
  next_of operation (o ∷ rest) yields same step =
      let here = yields.1 operation next step in
      (rest, here.1, ap (λ p. continued first x registers (p ∷ rest)) here.0 ∙ same)

  end_of : (rest : List OffsetOrPop) → AlwaysYields steps (λ o. o) state rest → continued first x registers rest ≡ offset_and_pops_of given → steps state None next → offset_and_pops_of given ≡ Some (x, registers)
  end_of [] yields same step = sym same ∙ continued-none first x registers
  end_of (o ∷ rest) yields same step = absurd (yields.0 next step)

  pub Gives-pop : (register : Reg) (operation : OffsetOrPop) (more : List Reg) → operation ≡ Pop register → more ≡ registers ++ register ∷ [] → steps state (Some operation) next → Gives steps state first x registers given → Gives steps next false x more given
  Gives-pop register operation more is more_is step g =
      let n = next_of operation g.rest g.yields g.same step in
      record {
        rest = n.0;
        yields = n.1;
        same = ap (λ r. continued false x r n.0) more_is ∙ sym (continued-pop first x registers register n.0) ∙ ap (λ o. continued first x registers (o ∷ n.0)) (sym is) ∙ n.2;
      }

  -- an offset before all others
  pub Gives-offset : (y : ℕ) (operation : OffsetOrPop) → first ≡ true → operation ≡ OffsetBy8 y → steps state (Some operation) next → Gives steps state first x registers given → Gives steps next false y registers given
  Gives-offset y operation before is step g =
      let n = next_of operation g.rest g.yields g.same step in
      record {
        rest = n.0;
        yields = n.1;
        same = ap (λ o. continued true x registers (o ∷ n.0)) (sym is) ∙ ap (λ b. continued b x registers (operation ∷ n.0)) (sym before) ∙ n.2;
      }

  -- one pop more than there is room for
  pub Gives-full : (register : Reg) (operation : OffsetOrPop) → operation ≡ Pop register → steps state (Some operation) next → Gives steps state first x registers given → (y : ℕ) (found : List Reg) → offset_and_pops_of given ≡ Some (y, found) → length registers < length found
  Gives-full register operation is step g y found e =
      let n = next_of operation g.rest g.yields g.same step in
      let all = sym (continued-in_front x (registers ++ register ∷ []) (pops_of n.0)) ∙ sym (continued-pop first x registers register n.0) ∙ ap (λ o. continued first x registers (o ∷ n.0)) (sym is) ∙ n.2 ∙ e in
      omega (arith, longer x y (registers ++ register ∷ []) found (pops_of n.0) all, length-append registers (register ∷ []))

  pub Gives-end : steps state None next → Gives steps state first x registers given → offset_and_pops_of given ≡ Some (x, registers)
  Gives-end step g = end_of g.rest g.yields g.same step

  -- an operation that is neither a pop nor an offset in front
  pub Gives-other : (operation : OffsetOrPop) → ((others : List OffsetOrPop) → continued first x registers (operation ∷ others) ≡ None) → steps state (Some operation) next → Gives steps state first x registers given → offset_and_pops_of given ≡ None
  Gives-other operation other step g =
      let n = next_of operation g.rest g.yields g.same step in
      sym n.2 ∙ other n.0
