-- The machine of x86_64 goes through what has been read: a prologue up to the pc, and an epilogue to its end.
use Rattle.std.proofs.Common.{◌≡◌, ◌≢◌, ◌⊎◌, inl, inr, ℕ, zero, suc, ◌+◌, ◌-◌, ◌*◌, ◌/◌, ◌%◌, ◌≤◌, Bool, true, false, nat_eq, cond, ◌||◌, ◌==◌, List, [], ◌∷◌, slice_get, Option, Some, refl, sym, ap, ◌∙◌, subst, arith}
use Rattle.std.proofs.lemmas.Bool.Decides.{nat_tests}
use Rattle.std.proofs.lemmas.Bool.{eqb-true, and_parts, or_cases}
use Rattle.framehop_core.specs.declared.x86_64.unwind_rule.UnwindRuleX86_64.{UnwindRuleX86_64}
use Rattle.framehop_analysis.specs.X86_64.Machine.{State, short, long, Pushes, Pops, Step, by_push, by_pop, by_move, Run, by_ret, by_jmp_rel8, by_jmp_rel32}
use Rattle.framehop_analysis.specs.X86_64.Prologue.{IsPushBytes, plain, prefixed, IsFrameSetUpBefore, ArePushes, AreLongestPushes, IsPrologueRule, framed, frameless, ReachesFrom}
use Rattle.framehop_analysis.specs.X86_64.Epilogue.{IsPopBytes, alone, after_40, after_41, ArePops, is_jump, IsEnd, returns, jumps, IsEpilogueRule, IsTakenForEnd, leaves, other, EndsFrom}
use Rattle.framehop_analysis.specs.Laws.X86_64.Prologue.{frame-decidable}
use Rattle.framehop_analysis.specs.Laws.X86_64.Pushes.{first-push}

-- ---- pushes

-- a word where it has been written, and one elsewhere
written : (m n : ℕ) (x y : Option ℕ) → m ≡ n → cond (nat_eq m n) x y ≡ x
written m n x y same = on (nat_eq m n) refl where
  on : (test : Bool) → nat_eq m n ≡ test → cond test x y ≡ x
  on true is = refl
  on false is = absurd (grind (arith, nat_tests))

unwritten : (m n : ℕ) (x y : Option ℕ) → m ≢ n → cond (nat_eq m n) x y ≡ y
unwritten m n x y apart = on (nat_eq m n) refl where
  on : (test : Bool) → nat_eq m n ≡ test → cond test x y ≡ y
  on true is = absurd (apart (eqb-true m n is))
  on false is = refl

-- the state after a push that writes rbp
after_push : State → State
after_push s = record {
  sp = s.sp - 8;
  bp = s.bp;
  memory = λ address. cond (nat_eq address (s.sp - 8)) s.bp (s.memory address);
}

pushes : (register : ℕ) (s : State) → 8 ≤ s.sp → Pushes register s (after_push s)
unfolding after_push
pushes register s room = record {
  sp = omega arith;
  bp = refl;
  stored = λ is. written (s.sp - 8) (s.sp - 8) s.bp (s.memory (s.sp - 8)) refl;
  others = λ address apart. unwritten address (s.sp - 8) s.bp (s.memory address) (other_place address apart);
} where
  other_place : (address : ℕ) → (address + 8 ≤ s.sp - 8) ⊎ (s.sp - 8 + 8 ≤ address) → address ≢ s.sp - 8
  other_place address (inl below) = λ same. absurd (omega arith)
  other_place address (inr above) = λ same. absurd (omega arith)

after-sp : (s : State) → (after_push s).sp ≡ s.sp - 8
unfolding after_push
after-sp s = refl

push-step : (text : List ℕ) (at next : ℕ) (s : State) → IsPushBytes text at next → 8 ≤ s.sp
    → Step text at next s (after_push s)
push-step text at next s (plain o there is next_is) room =
    let code : o / 8 ≡ 10 = eqb-true _ _ is in
    let split : o ≡ 0x50 + o % 8 = omega arith in
    by_push (o % 8) (short (omega arith) (there ∙ ap Some split) next_is) (pushes (o % 8) s room)
push-step text at next s (prefixed p o before is_pre there is next_is) room =
    let code : o / 8 ≡ 10 = eqb-true _ _ is in
    let rex : p / 2 ≡ 32 = eqb-true _ _ is_pre in
    let low : o ≡ 0x50 + o % 8 = omega arith in
    let high : p ≡ 0x40 + p % 2 = omega arith in
    let register = o % 8 + 8 * (p % 2) in
    by_push register
    (long (o % 8) (p % 2) (omega arith) (omega arith) (before ∙ ap Some high) (there ∙ ap Some low) next_is refl)
    (pushes register s room)

pushes-run : (text : List ℕ) (count at end : ℕ) (s : State) → ArePushes text count at end → 8 * count ≤ s.sp
    → (t : State) × Run text count at end s t
pushes-run text zero at end s same room = (s, (same, refl))
pushes-run text (suc count) at end s some room =
    let first = first-push text count at end some in
    let lowered = after-sp s in
    let rest = pushes-run text count first.0 end (after_push s) first.2 (omega arith) in
    (rest.0, (first.0, after_push s, push-step text at first.0 s first.1 (omega arith), rest.1))

-- ---- the frame's set-up

after_move : State → State
after_move s = record s { bp = Some s.sp }

move-step : (text : List ℕ) (at : ℕ) (s : State) → slice_get text at ≡ Some 0x48 → slice_get text (at + 1) ≡ Some 0x89
    → slice_get text (at + 2) ≡ Some 0xE5 → Step text at (at + 3) s (after_move s)
unfolding after_move
move-step text at s rex opcode registers =
    by_move 4 5 (record {
      source_fits = omega arith;
      destination_fits = omega arith;
      rex = rex;
      opcode = opcode;
      registers = registers;
      next_is = refl;
    }) (record { sp = λ other. refl; bp = refl; memory = refl })

move-sp : (s : State) → (after_move s).sp ≡ s.sp
unfolding after_move
move-sp s = refl

framed-run : (text : List ℕ) (count start end : ℕ) (s : State) → IsFrameSetUpBefore text (start + 4)
    → ArePushes text count (start + 4) end → 8 * suc (suc count) ≤ s.sp
    → (t : State) × Run text (suc (suc count)) start end s t
framed-run text count start end s frame some room =
    let zeroth : start + 4 - 4 ≡ start = omega arith in
    let first : start + 4 - 3 ≡ start + 1 = omega arith in
    let second : start + 4 - 2 ≡ start + 1 + 1 = omega arith in
    let third : start + 4 - 1 ≡ start + 1 + 2 = omega arith in
    let pushed = after_push s in
    let moved = after_move pushed in
    let lowered = after-sp s in
    let stays = move-sp pushed in
    let from : start + 4 ≡ start + 1 + 3 = omega arith in
    let P : ℕ → Type 0 = λ at. ArePushes text count at end in
    let rest = pushes-run text count (start + 1 + 3) end moved (subst P from some) (omega arith) in
    let push =
    by_push 5 (short (omega arith) (ap (slice_get text) (sym zeroth) ∙ frame.push) refl) (pushes 5 s (omega arith)) in
    let move =
    move-step text (start + 1) pushed (ap (slice_get text) (sym first) ∙ frame.rex)
    (ap (slice_get text) (sym second) ∙ frame.mov) (ap (slice_get text) (sym third) ∙ frame.registers) in
    (rest.0, (start + 1, pushed, push, (start + 1 + 3, moved, move, rest.1)))

pub reaches-from : (text : List ℕ) (pc : ℕ) (rule : UnwindRuleX86_64) → IsPrologueRule text pc rule
    → ReachesFrom text pc
reaches-from text pc rule p = elim (frame-decidable text p.start) [
  | inl frame ↦
      let room = frame.room in
      let back : p.start ≡ p.start - 4 + 4 = omega arith in
      let P : ℕ → Type 0 = IsFrameSetUpBefore text in
      let Q : ℕ → Type 0 = λ at. ArePushes text p.count at pc in
      let frame' = subst P back frame in
      record {
        start = p.start - 4;
        count = suc (suc p.count);
        begins = framed p.count (let R : ℕ → Type 0 = λ at. AreLongestPushes text pc at p.count in
            subst R back p.longest) frame';
        run = λ entry. framed-run text p.count (p.start - 4) pc entry frame' (subst Q back p.longest.pushes);
      }
  | inr none ↦ record {
    start = p.start;
    count = p.count;
    begins = frameless p.count p.longest none;
    run = λ entry. pushes-run text p.count p.start pc entry p.longest.pushes;
  }
]

-- ---- pops

-- the state after a pop
popped : ℕ → State → State
popped register s = record { sp = s.sp + 8; bp = cond (register == 5) (s.memory s.sp) s.bp; memory = s.memory }

pops : (register : ℕ) (s : State) → Pops register s (popped register s)
unfolding popped
pops register s = record { sp = λ other. refl; bp = refl; memory = refl }

-- a pop that has been read is one of the machine's
pop-step : (text : List ℕ) (at size : ℕ) (is_bp : Bool) (s : State) → IsPopBytes text at size is_bp
    → (t : State) × Step text at (at + size) s t
pop-step text at size is_bp s (alone o there is size_is bp_is) =
    let code : o / 8 ≡ 11 = eqb-true _ _ (and_parts _ _ is).0 in
    let split : o ≡ 0x58 + o % 8 = omega arith in
    (_, by_pop (o % 8) (short (omega arith) (there ∙ ap Some split) (omega arith)) (pops (o % 8) s))
pop-step text at size is_bp s (after_40 o first there is size_is bp_is) =
    let code : o / 8 ≡ 11 = eqb-true _ _ (and_parts _ _ is).0 in
    let split : o ≡ 0x58 + o % 8 = omega arith in
    let register = o % 8 + 8 * 0 in (
      _,
      by_pop register (long (o % 8) 0 (omega arith) (omega arith) first (there ∙ ap Some split) (omega arith) refl)
          (pops register s),
    )
pop-step text at size is_bp s (after_41 o first there is size_is bp_is) =
    let code : o / 8 ≡ 11 = eqb-true _ _ is in
    let split : o ≡ 0x58 + o % 8 = omega arith in
    let register = o % 8 + 8 * 1 in (
      _,
      by_pop register (long (o % 8) 1 (omega arith) (omega arith) first (there ∙ ap Some split) (omega arith) refl)
          (pops register s),
    )

-- an end that has been read is one that the machine leaves by, or another that begins with FF
jump-taken : (text : List ℕ) (at opcode : ℕ) → slice_get text at ≡ Some opcode → is_jump opcode ≡ true
    → IsTakenForEnd text at
jump-taken text at opcode there e = elim (or_cases ((opcode == 0xEB) || (opcode == 0xE9)) (opcode == 0xFF) e) [
  | inl first ↦ elim (or_cases (opcode == 0xEB) (opcode == 0xE9) first) [
    | inl eb ↦ leaves (by_jmp_rel8 (there ∙ ap Some (eqb-true opcode 0xEB eb)))
    | inr e9 ↦ leaves (by_jmp_rel32 (there ∙ ap Some (eqb-true opcode 0xE9 e9)))
  ]
  | inr ff ↦ other (there ∙ ap Some (eqb-true opcode 0xFF ff))
]

end-taken : (text : List ℕ) (pc at count : ℕ) → IsEnd text pc at count → IsTakenForEnd text at
end-taken text pc at count (returns there) = leaves (by_ret there)
end-taken text pc at count (jumps opcode there is follows) = jump-taken text at opcode there is

pops-run : (text : List ℕ) (at end : ℕ) (some : List Bool) (s : State) → ArePops text at some end
    → (count : ℕ) × (t : State) × Run text count at end s t
pops-run text at end [] s same = (0, s, (same, refl))
pops-run text at end (is_bp ∷ some) s (size, pop, stand) =
    let step = pop-step text at size is_bp s pop in
    let rest = pops-run text (at + size) end some step.0 stand in
    (suc rest.0, rest.1, (at + size, step.0, step.1, rest.2))

pub ends-from : (text : List ℕ) (pc : ℕ) (rule : UnwindRuleX86_64) → IsEpilogueRule text pc rule → EndsFrom text pc
ends-from text pc rule rest = λ here.
    let run = pops-run text pc rest.end rest.pops here rest.stand in
    (run.0, rest.end, run.1, run.2, end-taken text pc rest.end _ rest.ends)
