-- The value that is found operation by operation is that to which a list of states leads.
use Rattle.std.proofs.Common.{◌≡◌, ◌≢◌, ℕ, zero, suc, ◌+◌, ◌≤◌, true, false, List, [], ◌∷◌, length, Option, Some, None, Err, refl, ap, ◌∙◌, arith, inl, inr, ◌==◌, leb}
use Rattle.std.proofs.lemmas.Bool.{cases_Bool, lt-leb, le-leb}
use Rattle.std.proofs.lemmas.Bool.Decides.{nat_tests}
use Rattle.std.specs.Prelude.{option_and_then, option_to_list, slice_get, slice_range}
use Rattle.framehop_cfi.specs.Numbers.{u8_at}
use Rattle.framehop_core.specs.Memory.{Memory}
use Rattle.framehop_cfi.specs.declared.rule.Register.{Register}
use Rattle.framehop_cfi.specs.declared.rule.Expression.{Expression}
use Rattle.framehop_cfi.specs.declared.read_error.ReadError.TheVariants.{Eof}
use Rattle.framehop_dwarf.specs.Operation.{operation_at}
use Rattle.framehop_dwarf.specs.Evaluation.{Evaluation, State, fits, step, code_of}
use Rattle.framehop_dwarf.specs.Laws.ValueMeaning.{bind_some}
use Rattle.framehop_callers.specs.Load.{load_at}
use Rattle.framehop_callers.specs.Evaluation.{step_over, Leads, IsValue, value_from, value_of, value_in, IsValueIn}
use Rattle.framehop_callers.proofs.Values.{ended, stepped}

is-same : (m n : ℕ) → (m == n) ≡ true → m ≡ n
is-same m n e = grind (arith, nat_tests)

is-other : (m n : ℕ) → (m == n) ≡ false → m ≢ n
is-other m n e = λ same. grind (arith, nat_tests)

module _ (e : Evaluation) (memory : Memory) where
  -- at the end nothing can be read
  unread : (s : State) → s.position ≡ length e.code → u8_at e.code s.position ≡ Err Eof
  unfolding u8_at
  unread s end = rw (lt-leb (s.position + 1) (length e.code) (omega arith)) refl

  no_load : (s : State) → s.position ≡ length e.code → load_at e.code s.position ≡ None
  unfolding load_at
  no_load s end = rw (unread s end) refl

  no_operation : (s : State) → s.position ≡ length e.code → operation_at e.code s.position ≡ Err Eof
  unfolding operation_at
  no_operation s end = rw (unread s end) refl

  no_plain_step : (s : State) → s.position ≡ length e.code → step e s ≡ None
  unfolding step
  no_plain_step s end = rw (no_operation s end) refl

  no_step : (s : State) → s.position ≡ length e.code → step_over e memory s ≡ None
  unfolding step_over
  no_step s end = rw (no_load s end) (no_plain_step s end)

  -- at most n operations lead from a state to the end, with v on top
  record Ends (n : ℕ) (s : State) (v : ℕ) : Type 0 where
    states : List State
    few : length states ≤ n
    last : State
    leads : Leads e memory s states last
    ends : last.position ≡ length e.code
    top : slice_get last.stack 0 ≡ Some v

  here : (n : ℕ) (s : State) (v : ℕ) → s.position ≡ length e.code → slice_get s.stack 0 ≡ Some v → Ends n s v
  here n s v end top = record { states = []; few = omega arith; last = s; leads = refl; ends = end; top = top }

  value-leads : (n : ℕ) (s : State) (v : ℕ) → value_from e memory n s ≡ Some v → Ends n s v
  unfolding value_from
  value-leads zero s v is =
      elim (cases_Bool (s.position == length e.code)) [
        | inl end ↦ here zero s v (is-same s.position (length e.code) end) (rw end at is)
        | inr more ↦ (let none = rw more at is in cc)
      ]
  value-leads (suc n) s v is =
      elim (cases_Bool (s.position == length e.code)) [
        | inl end ↦ here (suc n) s v (is-same s.position (length e.code) end) (rw end at is)
        | inr more ↦
            let next = bind_some (step_over e memory s) (value_from e memory n) v (rw more at is) in
            let rest = value-leads n next.0 v next.2 in
            let few = rest.few in
            record {
              states = next.0 ∷ rest.states;
              few = omega arith;
              last = rest.last;
              leads = (next.1, rest.leads);
              ends = rest.ends;
              top = rest.top;
            }
      ]

  leads-value : (states : List State) (n : ℕ) (s last : State) (v : ℕ) → length states ≤ n → Leads e memory s states last
      → last.position ≡ length e.code → slice_get last.stack 0 ≡ Some v → value_from e memory n s ≡ Some v
  leads-value [] n s last v few leads end top =
      ended e memory n s (ap (λ t. t.position) leads ∙ end) ∙ ap (λ t. slice_get t.stack 0) leads ∙ top
  leads-value (next ∷ states) zero s last v few leads end top = absurd (omega arith)
  leads-value (next ∷ states) (suc n) s last v few leads end top =
      elim (cases_Bool (s.position == length e.code)) as (λ _. value_from e memory (suc n) s ≡ Some v) [
        | inl at-end ↦
            let none = no_step s (is-same s.position (length e.code) at-end) in
            let there = leads.0 in
            absurd cc
        | inr more ↦
            stepped e memory n s (is-other s.position (length e.code) more) ∙ ap (option_and_then (value_from e memory n)) leads.0
            ∙ leads-value states n next last v (omega arith) leads.1 end top
      ]

  pub value_of-means : (initial : List ℕ) (v : ℕ) → value_of e memory initial ≡ Some v → IsValue e memory initial v
  unfolding value_of
  value_of-means initial v is =
      elim (cases_Bool (fits e.limit (length initial))) [
        | inl room ↦
            let ends = value-leads 4096 (record { position = 0; stack = initial }) v (rw room at is) in
            record {
              room = room;
              states = ends.states;
              few = ends.few;
              last = ends.last;
              leads = ends.leads;
              ends = ends.ends;
              top = ends.top;
            }
        | inr full ↦ (let none = rw full at is in cc)
      ]

  pub means-value_of : (initial : List ℕ) (v : ℕ) → IsValue e memory initial v → value_of e memory initial ≡ Some v
  unfolding value_of
  means-value_of initial v i =
      rw i.room
      (leads-value i.states 4096 (record { position = 0; stack = initial }) i.last v i.few i.leads i.ends i.top)

module _ (bytes : List ℕ) (columns : Register → Option ℕ) (memory : Memory) (expression : Expression)
    (first : Option ℕ) where
  -- the bytes are there
  record Has (code : List ℕ) : Type 0 where
    ordered : expression.start ≤ expression.end
    inside : expression.end ≤ length bytes
    is : slice_range bytes expression.start expression.end ≡ code

  below : (m n : ℕ) → leb m n ≡ true → m ≤ n
  below m n e = grind (arith, nat_tests)

  has : (code : List ℕ) → code_of bytes expression ≡ Some code → Has code
  has code is =
      elim (cases_Bool (leb expression.start expression.end)) [
        | inl ordered ↦
            let e = rw ordered at is in
            elim (cases_Bool (leb expression.end (length bytes))) [
              | inl inside ↦ (let f = rw inside at e in
                  record {
                    ordered = below expression.start expression.end ordered;
                    inside = below expression.end (length bytes) inside;
                    is = cc;
                  })
              | inr outside ↦ (let f = rw outside at e in cc)
            ]
        | inr unordered ↦ (let e = rw unordered at is in cc)
      ]

  pub value_in-means : (v : ℕ) → value_in bytes columns memory expression first ≡ Some v
      → IsValueIn bytes columns memory expression first v
  value_in-means v is =
      let code = bind_some (code_of bytes expression) _ v is in
      let h = has code.0 code.1 in
      let e : Evaluation =
      record { code = slice_range bytes expression.start expression.end; columns = columns; limit = Some 64 } in
      record {
        ordered = h.ordered;
        inside = h.inside;
        is_value = value_of-means e memory (option_to_list first) v (rw (← h.is) at code.2);
      }

  pub means-value_in : (v : ℕ) → IsValueIn bytes columns memory expression first v
      → value_in bytes columns memory expression first ≡ Some v
  means-value_in v i =
      let e : Evaluation =
      record { code = slice_range bytes expression.start expression.end; columns = columns; limit = Some 64 } in
      rw (le-leb expression.start expression.end i.ordered, le-leb expression.end (length bytes) i.inside)
      (means-value_of e memory (option_to_list first) v i.is_value)

  pub no_value_in : value_in bytes columns memory expression first ≡ None → (v : ℕ)
      → IsValueIn bytes columns memory expression first v → ⊥
  no_value_in none v i = let is = means-value_in v i in cc
