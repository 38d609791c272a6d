-- A value under a limit is a value without one.
use Rattle.std.proofs.Common.{◌≡◌, ℕ, zero, suc, List, [], ◌∷◌, length, Option, Some, None, Ok, Err, sym, subst, inl, inr, ◌==◌}
use Rattle.std.specs.Prelude.{option_and_then, option_to_list, slice_get}
use Rattle.std.proofs.lemmas.Bool.{cases_Bool}
use Rattle.framehop_cfi.specs.Numbers.{Parsed}
use Rattle.framehop_cfi.specs.declared.rule.Register.{Register}
use Rattle.framehop_cfi.specs.declared.rule.Expression.{Expression}
use Rattle.framehop_dwarf.specs.Operation.{operation_at, changed, combined}
use Rattle.framehop_dwarf.specs.declared.operation.Operation.{Operation}
use Rattle.framehop_dwarf.specs.declared.operation.Operation.TheVariants.{Nop, Constant, RegisterOffset, Pick, Discard, Swap, Rot, Unary, Binary, PlusConstant, Skip, Branch}
use Rattle.framehop_dwarf.specs.Evaluation.{Evaluation, State, fits, pushed, stack_after, position_after, state_by, step, value_from, value_of, code_of, value_in}
use Rattle.framehop_dwarf.specs.Laws.ValueMeaning.{bind_some}
use Rattle.framehop_core.specs.Laws.Basics.{option_map-some}

some-list : (xs ys : List ℕ) → ◌≡◌ {A = Option (List ℕ)} (Some xs) (Some ys) → xs ≡ ys
some-list xs ys is = cc

module _ (limit : Option ℕ) where
  pushed-free : (value : ℕ) (stack new : List ℕ) → pushed limit value stack ≡ Some new
      → pushed None value stack ≡ Some new
  pushed-free value stack new is =
      elim (cases_Bool (fits limit (suc (length stack)))) [
        | inl room ↦ rw room at is
        | inr full ↦ (let e = rw full at is in cc)
      ]

  module _ (columns : Register → Option ℕ) where
    stack-free : (operation : Operation) (stack new : List ℕ) → stack_after limit columns operation stack ≡ Some new
        → stack_after None columns operation stack ≡ Some new
    stack-free Nop stack new is = is
    stack-free (Constant value) stack new is = pushed-free value stack new is
    stack-free (RegisterOffset register offset) stack new is =
        let value = bind_some (columns register) _ new is in
        rw value.1 (pushed-free _ stack new value.2)
    stack-free (Pick depth) stack new is =
        let value = bind_some (slice_get stack depth) _ new is in
        rw value.1 (pushed-free value.0 stack new value.2)
    stack-free Discard [] new is = cc
    stack-free Discard (top ∷ rest) new is = is
    stack-free Swap [] new is = cc
    stack-free Swap (top ∷ []) new is = cc
    stack-free Swap (top ∷ second ∷ rest) new is =
        let first = bind_some (pushed limit top rest) _ new is in
        let a = pushed-free top rest first.0 first.1 in
        let b = pushed-free second first.0 new first.2 in
        subst (λ l. ◌≡◌ {A = Option (List ℕ)} (Some (second ∷ l)) (Some new)) (sym (some-list (top ∷ rest) first.0 a)) b
    stack-free Rot [] new is = cc
    stack-free Rot (top ∷ []) new is = cc
    stack-free Rot (top ∷ second ∷ []) new is = cc
    stack-free Rot (top ∷ second ∷ third ∷ rest) new is =
        let two = bind_some (option_and_then (pushed limit third) (pushed limit top rest)) _ new is in
        let one = bind_some (pushed limit top rest) _ two.0 two.1 in
        let a = pushed-free top rest one.0 one.1 in
        let b = pushed-free third one.0 two.0 one.2 in
        let c = pushed-free second two.0 new two.2 in
        let d =
        subst (λ l. ◌≡◌ {A = Option (List ℕ)} (Some (third ∷ l)) (Some two.0))
        (sym (some-list (top ∷ rest) one.0 a)) b in
        subst (λ l. ◌≡◌ {A = Option (List ℕ)} (Some (second ∷ l)) (Some new))
        (sym (some-list (third ∷ top ∷ rest) two.0 d)) c
    stack-free (Unary operation) [] new is = cc
    stack-free (Unary operation) (top ∷ rest) new is = pushed-free (changed operation top) rest new is
    stack-free (Binary operation) [] new is = cc
    stack-free (Binary operation) (top ∷ []) new is = cc
    stack-free (Binary operation) (top ∷ second ∷ rest) new is =
        let value = bind_some (combined operation second top) _ new is in
        rw value.1 (pushed-free value.0 rest new value.2)
    stack-free (PlusConstant value) [] new is = cc
    stack-free (PlusConstant value) (top ∷ rest) new is = pushed-free _ rest new is
    stack-free (Skip distance) stack new is = is
    stack-free (Branch distance) [] new is = cc
    stack-free (Branch distance) (top ∷ rest) new is = is

    module _ (code : List ℕ) where
      abbrev limited : Evaluation
      limited = record { code = code; columns = columns; limit = limit }

      abbrev free : Evaluation
      free = record { code = code; columns = columns; limit = None }

      by-free : (stack : List ℕ) (read : Parsed Operation) (next : State) → state_by limited stack read ≡ Some next
          → state_by free stack read ≡ Some next
      by-free stack (Err error) next is = cc
      by-free stack (Ok read) next is =
          let position = bind_some (position_after (length code) read.0 read.1 (slice_get stack 0)) _ next is in
          let new = option_map-some _ (stack_after limit columns read.0 stack) next position.2 in
          let same = stack-free read.0 stack new.0 new.1 in
          rw position.1 (rw same (let e = new.2 in cc))

      step-free : (s next : State) → step limited s ≡ Some next → step free s ≡ Some next
      unfolding step
      step-free s next is = by-free s.stack (operation_at code s.position) next is

      from-free : (n : ℕ) (s : State) (v : ℕ) → value_from limited n s ≡ Some v → value_from free n s ≡ Some v
      unfolding value_from
      from-free zero s v is = is
      from-free (suc n) s v is =
          elim (cases_Bool (s.position == length code)) as (λ _. value_from free (suc n) s ≡ Some v) [
            | inl end ↦ rw end (rw end at is)
            | inr more ↦
                let next = bind_some (step limited s) (value_from limited n) v (rw more at is) in
                rw (more, step-free s next.0 next.1) (from-free n next.0 v next.2)
          ]

      of-free : (initial : List ℕ) (v : ℕ) → value_of limited initial ≡ Some v → value_of free initial ≡ Some v
      unfolding value_of
      of-free initial v is =
          elim (cases_Bool (fits limit (length initial))) [
            | inl room ↦ from-free 4096 (record { position = 0; stack = initial }) v (rw room at is)
            | inr full ↦ (let e = rw full at is in cc)
          ]

    pub in-free : (bytes : List ℕ) (expression : Expression) (first : Option ℕ) (v : ℕ)
        → value_in bytes columns limit expression first ≡ Some v → value_in bytes columns None expression first ≡ Some v
    in-free bytes expression first v is =
        let code = bind_some (code_of bytes expression) _ v is in
        rw code.1 (of-free code.0 (option_to_list first) v code.2)
