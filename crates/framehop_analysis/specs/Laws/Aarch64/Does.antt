-- The rule of an epilogue on aarch64 does what the machine does.
use Rattle.std.proofs.Common.{◌≡◌, inl, inr, ℕ, zero, suc, ◌+◌, ◌*◌, ◌^◌, ◌<◌, ℤ, pos, ◌+ℤ◌, Bool, true, false, cond, ◌==◌, ◌||◌, List, [], ◌∷◌, ◌++◌, length, Option, Some, None, Ok, refl, sym, ap, ◌∙◌, subst, arith}
use Rattle.std.specs.Prelude.{option_map}
use Rattle.std.proofs.lemmas.Int.{ints}
use Rattle.std.proofs.lemmas.Bool.{or_cases, or_right, or_left}
use Rattle.std.proofs.lemmas.Option.{same_Some}
use Rattle.framehop_core.specs.Memory.{Memory}
use Rattle.framehop_core.specs.Outcome.{answered, above, beside, address_at, word_at as memory_word_at, word_from}
use Rattle.framehop_core.specs.Laws.Outcome.{and_then-ok, address_at-ok, word_at-ok}
use Rattle.framehop_core.specs.Aarch64.Registers.{Registers, strip_ptr_auth}
use Rattle.framehop_core.specs.Aarch64.Rules.{outcome, nothing_more, Source, kept, stored_at}
use Rattle.framehop_core.specs.Laws.Aarch64.{IsCaller, caller-answered}
use Rattle.framehop_core.specs.declared.aarch64.unwind_rule.UnwindRuleAarch64.{UnwindRuleAarch64}
use Rattle.framehop_core.specs.declared.aarch64.unwind_rule.UnwindRuleAarch64.TheVariants.{NoOp, NoOpIfFirstFrameOtherwiseFp, OffsetSp, OffsetSpIfFirstFrameOtherwiseStackEndsHere, OffsetSpAndRestoreLr, OffsetSpAndRestoreFpAndLr, UseFramePointer, UseFramepointerWithOffsets}
use Rattle.framehop_core.specs.Laws.Basics.{ok-same}
use Rattle.framehop_analysis.specs.Aarch64.Words.{AreWordsAt, is_load, is_add_sp, addressing, pair_offset, first_register, second_register, immediate, is_signing, is_other, is_return, is_b, is_br, is_braa, is_mov, is_check, is_branch}
use Rattle.framehop_analysis.specs.Aarch64.Machine.{State, Signs, SameAddress, HasRegisters, offset_by}
use Rattle.framehop_analysis.specs.Laws.Aarch64.Shapes.{Step, RunOut, access_address}
use Rattle.framehop_analysis.specs.Laws.Aarch64.Encodings.{run_out-shape}
use Rattle.framehop_analysis.specs.Aarch64.Epilogue.{Places, at_pc, is_restoring, places_after, places_after_all, place_after_load, AllRestoring, IsAuthenticatedCall, by_b, by_braa, IsEnd, returns, branches, calls, IsRestored, inside_call, at_tail_call, IsPlaceInWords, IsRuleOfPlaces, IsEpilogueRule, restored, restores, DoesEpilogue}
use Rattle.framehop_analysis.specs.Laws.Aarch64.Offsets.{offset_by-fits, offset_by-zero, offset_by-offset_by}
use Rattle.framehop_analysis.specs.Laws.Aarch64.Calls.{branch-not-restoring, return-branch, b-branch, br-branch, braa-branch}
use Rattle.framehop_analysis.specs.Laws.Aarch64.Undoes.{stripped-again, at-memory}

-- ---- what restores

-- the value that a place has at the pc, or the register's own
value_at : State → Option ℤ → Option ℕ → Option ℕ
value_at s None old = old
value_at s (Some place) old = s.memory (offset_by s.sp place)

-- the state after instructions that have found these places
record Tracks (start s : State) (p : Places) : Type 0 where
  sp : s.sp ≡ offset_by start.sp p.sp
  fp : s.fp ≡ value_at start p.fp start.fp
  lr : s.lr ≡ value_at start p.lr start.lr
  memory : s.memory ≡ start.memory

moved-by : (test : Bool) (start : ℕ) (sp by : ℤ)
    → cond test (offset_by start sp) (offset_by (offset_by start sp) by) ≡ offset_by start (cond test sp (sp +ℤ by))
moved-by true start sp by = refl
moved-by false start sp by = offset_by-offset_by start sp by

loaded-at : (second first : Bool) (start : State) (address : ℕ) (place : ℤ) (memory : Memory) (old old' : Option ℕ)
    (p : Option ℤ) → address ≡ offset_by start.sp place → memory ≡ start.memory → old' ≡ value_at start p old
    → cond second (memory (offset_by address (pos 8))) (cond first (memory address) old')
    ≡ value_at start (cond second (Some (place +ℤ pos 8)) (cond first (Some place) p)) old
unfolding value_at
loaded-at true first start address place memory old old' p at same old_is =
    ap (λ n. memory (offset_by n (pos 8))) at ∙ ap memory (offset_by-offset_by start.sp place (pos 8))
    ∙ ap (λ (m : Memory). m (offset_by start.sp (place +ℤ pos 8))) same
loaded-at false true start address place memory old old' p at same old_is =
    ap memory at ∙ ap (λ (m : Memory). m (offset_by start.sp place)) same
loaded-at false false start address place memory old old' p at same old_is = old_is

step-restored : (mask word : ℕ) (start s t : State) (p : Places) (load add : Bool) → is_load word ≡ load
    → is_add_sp word ≡ add → (load || add) ≡ true → Step mask word s t → Tracks start s p
    → Tracks start t (cond load (record {
      sp = cond (addressing word == 2) p.sp (p.sp +ℤ pair_offset word);
      fp = place_after_load word 29 (cond (addressing word == 1) p.sp (p.sp +ℤ pair_offset word)) p.fp;
      lr = place_after_load word 30 (cond (addressing word == 1) p.sp (p.sp +ℤ pair_offset word)) p.lr;
    }) (record p { sp = p.sp +ℤ pos (immediate word) }))
step-restored mask word start s t p true add load_is add_is either step r =
    let e = step.loads load_is in
    let address = access_address word s.sp in
    let place = cond (addressing word == 1) p.sp (p.sp +ℤ pair_offset word) in
    let at : address ≡ offset_by start.sp place =
    ap (λ n. cond (addressing word == 1) n (offset_by n (pair_offset word))) r.sp
    ∙ moved-by (addressing word == 1) start.sp p.sp (pair_offset word) in
    record {
      sp = ap (λ u. u.sp) e ∙ ap (λ n. cond (addressing word == 2) n (offset_by n (pair_offset word))) r.sp
          ∙ moved-by (addressing word == 2) start.sp p.sp (pair_offset word);
      fp =
          ap (λ u. u.fp) e
          ∙ loaded-at (second_register word == 29)
          (first_register word == 29) start address place s.memory start.fp s.fp p.fp at r.memory r.fp;
      lr =
          ap (λ u. u.lr) e
          ∙ loaded-at (second_register word == 30)
          (first_register word == 30) start address place s.memory start.lr s.lr p.lr at r.memory r.lr;
      memory = ap (λ u. u.memory) e ∙ r.memory;
    }
step-restored mask word start s t p false true load_is add_is either step r =
    let e = step.adds add_is in
    record {
      sp =
          ap (λ u. u.sp) e ∙ ap (λ n. offset_by n (pos (immediate word))) r.sp
          ∙ offset_by-offset_by start.sp p.sp (pos (immediate word));
      fp = ap (λ u. u.fp) e ∙ r.fp;
      lr = ap (λ u. u.lr) e ∙ r.lr;
      memory = ap (λ u. u.memory) e ∙ r.memory;
    }
step-restored mask word start s t p false false load_is add_is either step r = cc

-- ---- what changes nothing but authentication bits

unfoldable pub is_quiet : ℕ → Bool
is_quiet word = is_signing word || is_other word

-- such instructions, of which the last one is a branch
unfoldable pub IsQuiet : ℕ → List ℕ → Type 0
IsQuiet word [] = (is_quiet word ≡ true) × (is_branch word ≡ true)
IsQuiet word (next ∷ words) = (is_quiet word ≡ true) × IsQuiet next words

step-quiet : (mask word : ℕ) (s t : State) → is_quiet word ≡ true → Step mask word s t → Signs mask s t
unfolding is_quiet
step-quiet mask word s t quiet step = elim (or_cases (is_signing word) (is_other word) quiet) [
  | inl signing ↦ step.signs signing
  | inr other ↦ record {
    others = (let e = step.others other in e ∙ ap (λ l. record s { lr = l }) (sym (ap (λ u. u.lr) e)));
    address = ap (λ u. option_map (strip_ptr_auth mask) u.lr) (sym (step.others other));
  }
]

signs-signs : (mask : ℕ) (s t u : State) → Signs mask s t → Signs mask t u → Signs mask s u
signs-signs mask s t u a b = record {
  others = b.others ∙ ap (λ (w : State). record w { lr = u.lr }) a.others;
  address = a.address ∙ b.address;
}

not-branch : (word : ℕ) → is_branch word ≡ true → is_branch word ≡ false → ⊥
not-branch word branch none = cc

run-quiet : (mask : ℕ) (text : List ℕ) (count at word : ℕ) (words : List ℕ) (s t : State)
    → AreWordsAt text at (word ∷ words) → IsQuiet word words → RunOut mask text count at s t → Signs mask s t
unfolding IsQuiet
run-quiet mask text zero at word [] s t stands quiet (w, there, branch, step) =
    let same : w ≡ word = same_Some w word (sym there ∙ stands.0) in
    step-quiet mask w s t (ap is_quiet same ∙ quiet.0) step
run-quiet mask text zero at word (next ∷ words) s t stands quiet (w, there, branch, step) =
    let same : w ≡ word = same_Some w word (sym there ∙ stands.0) in
    step-quiet mask w s t (ap is_quiet same ∙ quiet.0) step
run-quiet mask text (suc count) at word [] s t stands quiet (w, there, none, u, step, rest) =
    let same : w ≡ word = same_Some w word (sym there ∙ stands.0) in
    absurd (not-branch w (ap is_branch same ∙ quiet.1) none)
run-quiet mask text (suc count) at word (next ∷ words) s t stands quiet (w, there, none, u, step, rest) =
    let same : w ≡ word = same_Some w word (sym there ∙ stands.0) in
    signs-signs mask s u t (step-quiet mask w s u (ap is_quiet same ∙ quiet.0) step)
    (run-quiet mask text count (at + 4) next words u t stands.1 quiet.1 rest)

-- ---- ends are quiet

other-quiet : (word : ℕ) → is_other word ≡ true → is_quiet word ≡ true
unfolding is_quiet
other-quiet word e = or_right (is_signing word) (is_other word) e

return-other : (word : ℕ) → is_return word ≡ true → is_other word ≡ true
return-other word e =
    or_left _ (is_check word)
    (or_left _ (is_mov word)
    (or_left _ (is_braa word) (or_left _ (is_br word) (or_left (is_return word) (is_b word) e))))

b-other : (word : ℕ) → is_b word ≡ true → is_other word ≡ true
b-other word e =
    or_left _ (is_check word)
    (or_left _ (is_mov word)
    (or_left _ (is_braa word) (or_left _ (is_br word) (or_right (is_return word) (is_b word) e))))

br-other : (word : ℕ) → is_br word ≡ true → is_other word ≡ true
br-other word e =
    or_left _ (is_check word)
    (or_left _ (is_mov word) (or_left _ (is_braa word) (or_right (is_return word || is_b word) (is_br word) e)))

braa-other : (word : ℕ) → is_braa word ≡ true → is_other word ≡ true
braa-other word e =
    or_left _ (is_check word)
    (or_left _ (is_mov word) (or_right (is_return word || is_b word || is_br word) (is_braa word) e))

mov-other : (word : ℕ) → is_mov word ≡ true → is_other word ≡ true
mov-other word e =
    or_left _ (is_check word) (or_right (is_return word || is_b word || is_br word || is_braa word) (is_mov word) e)

-- a list of quiet instructions
unfoldable pub IsQuietList : List ℕ → Type 0
IsQuietList words = (first : ℕ) × (rest : List ℕ) × (words ≡ first ∷ rest) × IsQuiet first rest

call-quiet : (words : List ℕ) → IsAuthenticatedCall words → IsQuietList words
unfolding IsQuietList IsQuiet is_quiet
call-quiet words (by_b b is e) = (
  0xD50323FF,
  0xCA1E07D0 ∷ 0xB6F00050 ∷ 0xD4388E20 ∷ b ∷ [],
  e,
  (refl, (refl, (refl, (refl, (other-quiet b (b-other b is), b-branch b is))))),
)
call-quiet words (by_braa mov braa mov_is braa_is e) = (
  0xD50323FF,
  0xCA1E07D0 ∷ 0xB6F00050 ∷ 0xD4388E20 ∷ mov ∷ braa ∷ [],
  e,
  (
    refl,
    (
      refl,
      (
        refl,
        (
          refl,
          (
            other-quiet mov (mov-other mov mov_is),
            (other-quiet braa (braa-other braa braa_is), braa-branch braa braa_is),
          ),
        ),
      ),
    ),
  ),
)

pub end-quiet : (by : ℤ) (words : List ℕ) → IsEnd by words → IsQuietList words
unfolding IsQuietList IsQuiet
end-quiet by words (returns w is e) = (w, [], e, (other-quiet w (return-other w is), return-branch w is))
end-quiet by words (branches w is apart e) = (w, [], e, (other-quiet w (b-other w is), b-branch w is))
end-quiet by words (calls call) = call-quiet words call

-- the words from a place of the list on
from-place : (text : List ℕ) (start k first : ℕ) (rest : List ℕ) → AreWordsAt text start (first ∷ rest)
    → IsQuiet first rest → k < length (first ∷ rest)
    → (word : ℕ) × (words : List ℕ) × AreWordsAt text (start + 4 * k) (word ∷ words) × IsQuiet word words
unfolding IsQuiet
from-place text start zero first rest stands quiet below =
    let P : ℕ → Type 0 = λ n. AreWordsAt text n (first ∷ rest) in
    (first, rest, subst P (omega arith) stands, quiet)
from-place text start (suc k) first [] stands quiet below = absurd (omega arith)
from-place text start (suc k) first (next ∷ rest) stands quiet below =
    let found = from-place text (start + 4) k next rest stands.1 quiet.1 (omega arith) in
    let P : ℕ → Type 0 = λ n. AreWordsAt text n (found.0 ∷ found.1) in
    (found.0, found.1, subst P (omega arith) found.2, found.3)

pub restored-quiet : (text : List ℕ) (pc : ℕ) → IsRestored text pc
    → (word : ℕ) × (words : List ℕ) × AreWordsAt text pc (word ∷ words) × IsQuiet word words
unfolding IsQuietList IsQuiet
restored-quiet text pc (inside_call (k, i)) =
    let q = call-quiet i.words i.call in
    let P : List ℕ → Type 0 = AreWordsAt text i.start in
    let n : length i.words ≡ length (q.0 ∷ q.1) = ap length q.2 in
    let found = from-place text i.start k q.0 q.1 (subst P q.2 i.stands) q.3 (let inside = i.inside in omega arith) in
    let Q : ℕ → Type 0 = λ n. AreWordsAt text n (found.0 ∷ found.1) in
    (found.0, found.1, subst Q (sym i.place) found.2, found.3)
restored-quiet text pc (at_tail_call t) =
    elim (or_cases (is_b t.branch) (is_br t.branch) t.branches) [
      | inl b ↦ (t.branch, [], (t.branch_is, tt), (other-quiet t.branch (b-other t.branch b), b-branch t.branch b))
      | inr br ↦ (t.branch, [], (t.branch_is, tt), (other-quiet t.branch (br-other t.branch br), br-branch t.branch br))
    ]

-- ---- the run out of the function

-- the state after it
record TracksOut (mask : ℕ) (start t : State) (p : Places) : Type 0 where
  sp : t.sp ≡ offset_by start.sp p.sp
  fp : t.fp ≡ value_at start p.fp start.fp
  lr : SameAddress mask (value_at start p.lr start.lr) t.lr

signed : (mask : ℕ) (start s t : State) (p : Places) → Tracks start s p → Signs mask s t → TracksOut mask start t p
signed mask start s t p r signs = record {
  sp = ap (λ u. u.sp) signs.others ∙ r.sp;
  fp = ap (λ u. u.fp) signs.others ∙ r.fp;
  lr = ap (option_map (strip_ptr_auth mask)) (sym r.lr) ∙ signs.address;
}

run-out : (mask : ℕ) (text : List ℕ) (count at : ℕ) (restoring end : List ℕ) (start s t : State) (p : Places)
    → AreWordsAt text at (restoring ++ end) → AllRestoring restoring → IsEnd (places_after_all p restoring).sp end
    → Tracks start s p → RunOut mask text count at s t → TracksOut mask start t (places_after_all p restoring)
unfolding IsQuietList
run-out mask text count at [] end start s t p stands restore ends r out =
    let q = end-quiet p.sp end ends in
    let P : List ℕ → Type 0 = AreWordsAt text at in
    signed mask start s t p r (run-quiet mask text count at q.0 q.1 s t (subst P q.2 stands) q.3 out)
run-out mask text zero at (word ∷ restoring) end start s t p stands restore ends r (w, there, branch, step) =
    let same : w ≡ word = same_Some w word (sym there ∙ stands.0) in
    let unlike : is_restoring word ≡ false = branch-not-restoring word (ap is_branch (sym same) ∙ branch) in
    absurd (let yes = restore.0 in cc)
run-out mask text (suc count) at (word ∷ restoring) end start s t p stands restore ends r
    (w, there, none, u, step, rest) =
    let same : w ≡ word = same_Some w word (sym there ∙ stands.0) in
    let P : ℕ → Type 0 = λ v. Step mask v s u in
    let next =
    step-restored mask word start s u p (is_load word) (is_add_sp word) refl refl restore.0 (subst P same step) r in
    run-out mask text count (at + 4) restoring end start u t (places_after p word) stands.1 restore.1 ends next rest

-- ---- the rule

-- what a line of the table has found is what the state has
IsOut : Registers → Registers → State → ℕ → Type 0
IsOut r new out address = HasRegisters new out × (new.lr_mask ≡ r.lr_mask) × (address ≡ new.lr)

found-out : (sp : ℤ) (lr fp : Source) (first : Bool) (r new : Registers) (memory : Memory) (out : State) (address : ℕ)
    → (c : IsCaller sp lr fp nothing_more first r memory address new) → out.sp ≡ c.new_sp → out.fp ≡ Some c.new_fp
    → option_map (strip_ptr_auth r.lr_mask) out.lr ≡ Some (strip_ptr_auth r.lr_mask c.new_lr) → IsOut r new out address
unfolding IsOut
found-out sp lr fp first r new memory out address c sp_is fp_is lr_is =
    let mask : new.lr_mask ≡ r.lr_mask = ap (λ u. u.lr_mask) c.end.registers in
    let answer : new.lr ≡ address = ap (λ u. u.lr) c.end.registers in (
      record {
        sp = sp_is ∙ sym (ap (λ u. u.sp) c.end.registers);
        fp = fp_is ∙ ap Some (sym (ap (λ u. u.fp) c.end.registers));
        lr = ap (λ m. option_map (strip_ptr_auth m) out.lr) mask ∙ lr_is ∙ ap Some (sym c.end.stripped ∙ sym answer);
      },
      mask,
      sym answer,
    )

-- a register that is kept, and one that is stored
lr-kept : (r : Registers) (here out : State) (new_lr : ℕ) (p : Option ℤ) → p ≡ None
    → SameAddress r.lr_mask (value_at here p here.lr) out.lr → HasRegisters r here → r.lr ≡ new_lr
    → option_map (strip_ptr_auth r.lr_mask) out.lr ≡ Some (strip_ptr_auth r.lr_mask new_lr)
unfolding value_at
lr-kept r here out new_lr None e lr stands same =
    sym lr ∙ stands.lr
    ∙ ap Some (sym (stripped-again r.lr_mask r.lr here.lr stands.lr) ∙ ap (strip_ptr_auth r.lr_mask) same)
lr-kept r here out new_lr (Some place) e lr stands same = cc

fp-kept : (r : Registers) (here out : State) (new_fp : ℕ) (p : Option ℤ) → p ≡ None → out.fp ≡ value_at here p here.fp
    → HasRegisters r here → r.fp ≡ new_fp → out.fp ≡ Some new_fp
unfolding value_at
fp-kept r here out new_fp None e fp stands same = fp ∙ stands.fp ∙ ap Some same
fp-kept r here out new_fp (Some place) e fp stands same = cc

stored : (here : State) (r : Registers) (p : Option ℤ) (z : ℤ) (old : Option ℕ) (word : ℕ) → here.sp ≡ r.sp
    → IsPlaceInWords p z → word_from here.memory (beside r.sp z) ≡ Ok word → value_at here p old ≡ Some word
unfolding value_at
stored here r None z old word sp is read = elim is [ ]
stored here r (Some place) z old word sp is read =
    let a = and_then-ok (address_at (beside r.sp z)) (memory_word_at here.memory) word read in
    let at = address_at-ok (beside r.sp z) a.0 a.1 in
    let sum : pos here.sp +ℤ place ≡ pos a.0 = ap (λ n. pos n +ℤ place) sp ∙ ap (λ q. pos r.sp +ℤ q) is.0 ∙ at.0 in
    ap here.memory (offset_by-fits here.sp a.0 place sum at.1) ∙ word_at-ok here.memory a.0 word a.2

sp-out : (here : State) (r : Registers) (p : ℤ) (x n : ℕ) → here.sp ≡ r.sp → p ≡ pos x → above r.sp x ≡ pos n
    → n < 2 ^ 64 → offset_by here.sp p ≡ n
sp-out here r p x n sp is sum fits =
    offset_by-fits here.sp n p (ap (λ m. pos m +ℤ p) sp ∙ ap (λ q. pos r.sp +ℤ q) is ∙ sum) fits

rule-does : (rule : UnwindRuleAarch64) (r new : Registers) (here out : State) (first : Bool) (address : ℕ) (p : Places)
    → IsRuleOfPlaces p rule → HasRegisters r here → TracksOut r.lr_mask here out p
    → outcome rule first r here.memory ≡ answered address new → IsOut r new out address
rule-does NoOp r new here out false address p made stands t e = cc
rule-does NoOp r new here out true address p made stands t e =
    let c = caller-answered (pos r.sp) (kept r.lr) (kept r.fp) nothing_more true r here.memory address new e in
    found-out _ _ _ true r new here.memory out address c
    (t.sp ∙ sp-out here r p.sp 0 c.new_sp stands.sp made.0 (let s = c.sp_is in omega (arith, ints)) c.sp_fits)
    (fp-kept r here out c.new_fp p.fp made.1 t.fp stands (ok-same r.fp c.new_fp c.fp_is))
    (lr-kept r here out c.new_lr p.lr made.2 t.lr stands (ok-same r.lr c.new_lr c.lr_is))
rule-does (OffsetSp x) r new here out false address p made stands t e = cc
rule-does (OffsetSp x) r new here out true address p made stands t e =
    let c =
    caller-answered (above r.sp (x * 16)) (kept r.lr) (kept r.fp) nothing_more true r here.memory address new e in
    found-out _ _ _ true r new here.memory out address c
    (t.sp ∙ sp-out here r p.sp (x * 16) c.new_sp stands.sp made.0.0 c.sp_is c.sp_fits)
    (fp-kept r here out c.new_fp p.fp made.2 t.fp stands (ok-same r.fp c.new_fp c.fp_is))
    (lr-kept r here out c.new_lr p.lr made.3 t.lr stands (ok-same r.lr c.new_lr c.lr_is))
rule-does (OffsetSpAndRestoreLr x z) r new here out first address p made stands t e =
    let c =
    caller-answered (above r.sp (x * 16)) (stored_at (beside r.sp z))
    (kept r.fp) nothing_more first r here.memory address new e in
    found-out _ _ _ first r new here.memory out address c
    (t.sp ∙ sp-out here r p.sp (x * 16) c.new_sp stands.sp made.0.0 c.sp_is c.sp_fits)
    (fp-kept r here out c.new_fp p.fp made.1 t.fp stands (ok-same r.fp c.new_fp c.fp_is))
    (sym t.lr
    ∙ ap (option_map (strip_ptr_auth r.lr_mask)) (stored here r p.lr z here.lr c.new_lr stands.sp made.2 c.lr_is))
rule-does (OffsetSpAndRestoreFpAndLr x y z) r new here out first address p made stands t e =
    let c =
    caller-answered (above r.sp (x * 16)) (stored_at (beside r.sp z))
    (stored_at (beside r.sp y)) nothing_more first r here.memory address new e in
    found-out _ _ _ first r new here.memory out address c
    (t.sp ∙ sp-out here r p.sp (x * 16) c.new_sp stands.sp made.0.0 c.sp_is c.sp_fits)
    (t.fp ∙ stored here r p.fp y here.fp c.new_fp stands.sp made.1 c.fp_is)
    (sym t.lr
    ∙ ap (option_map (strip_ptr_auth r.lr_mask)) (stored here r p.lr z here.lr c.new_lr stands.sp made.2 c.lr_is))
rule-does NoOpIfFirstFrameOtherwiseFp r new here out first address p made stands t e = elim made [ ]
rule-does (OffsetSpIfFirstFrameOtherwiseStackEndsHere x) r new here out first address p made stands t e = elim made [ ]
rule-does UseFramePointer r new here out first address p made stands t e = elim made [ ]
rule-does (UseFramepointerWithOffsets x y z) r new here out first address p made stands t e = elim made [ ]

start : (s : State) → s.sp < 2 ^ 64 → Tracks s s at_pc
unfolding value_at
start s fits = record { sp = sym (offset_by-zero s.sp fits); fp = refl; lr = refl; memory = refl }

pub does : (text : List ℕ) (pc : ℕ) (rule : UnwindRuleAarch64) → IsEpilogueRule text pc rule → DoesEpilogue text pc rule
unfolding IsOut
does text pc rule (restored is e) = λ first r new memory address answer here out count fits stands same ran.
    let run = run_out-shape r.lr_mask text count pc here out ran in
    let answer = at-memory rule first r new memory here.memory address (sym same) answer in
    let q = restored-quiet text pc is in
    let P : UnwindRuleAarch64 → Type 0 = IsRuleOfPlaces at_pc in
    rule-does rule r new here out first address at_pc (subst P (sym e) (refl, refl, refl)) stands
    (signed r.lr_mask here here out at_pc (start here fits)
    (run-quiet r.lr_mask text count pc q.0 q.1 here out q.2 q.3 run)) answer
does text pc rule (restores not_restored rest) =
    λ first r new memory address answer here out count fits stands same ran.
    let run = run_out-shape r.lr_mask text count pc here out ran in
    let answer = at-memory rule first r new memory here.memory address (sym same) answer in
    rule-does rule r new here out first address (places_after_all at_pc rest.restoring) rest.made stands
    (run-out r.lr_mask text count pc rest.restoring rest.end here here out at_pc
    rest.stands rest.restore rest.ends (start here fits) run) answer
