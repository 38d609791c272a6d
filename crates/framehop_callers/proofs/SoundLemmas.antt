-- What a run knows after a step is so of the processor after it.
use Rattle.std.proofs.Common.{◌≡◌, ◌≢◌, ℕ, zero, suc, ◌<◌, Bool, true, false, ◌&&◌, List, [], ◌∷◌, ◌++◌, length, Option, Some, None, refl, ap, sym, ◌∙◌, subst, arith, inl, inr, ◌==◌}
use Rattle.std.proofs.lemmas.Bool.{cases_Bool}
use Rattle.std.proofs.lemmas.Bool.Decides.{nat_tests}
use Rattle.std.specs.List.{filter}
use Rattle.std.specs.Prelude.{⊤, IfSome, not, nat_lt, option_map, option_and_then, slice_get, slice_set, if◌then◌else◌}
use Rattle.framehop_cfi.specs.declared.rule.Register.{Register}
use Rattle.framehop_core.specs.Memory.{Memory}
use Rattle.framehop_callers.specs.RegisterFile.{in_column, word_of, with_word}
use Rattle.framehop_callers.proofs.Columns.{is-set, set-elsewhere, keeps-length}
use Rattle.framehop_code.specs.X86_64.Action.{action_at}
use Rattle.framehop_code.specs.Aarch64.Action.{actions_at}
use Rattle.framehop_code.specs.declared.aarch64.action.Actions.{Actions}
use Rattle.framehop_code.specs.declared.action.Action.{Action}
use Rattle.framehop_code.specs.declared.action.Action.TheVariants as action
use Rattle.framehop_code.specs.declared.action.Instruction.{Instruction}
use Rattle.framehop_code.specs.declared.action.Computation.{Computation}
use Rattle.framehop_code.specs.declared.action.Address.{Address}
use Rattle.framehop_code.specs.declared.action.Index.{Index}
use Rattle.framehop_code.specs.declared.action.Place.{Place}
use Rattle.framehop_code.specs.declared.action.Place.TheVariants.{At, Elsewhere}
use Rattle.framehop_code.specs.declared.action.Operand.{Operand}
use Rattle.framehop_code.specs.declared.action.Operand.TheVariants as operand
use Rattle.framehop_code.specs.declared.action.Source.{Source as From}
use Rattle.framehop_code.specs.declared.action.Source.TheVariants as source
use Rattle.framehop_code.specs.declared.action.Stored.{Stored}
use Rattle.framehop_code.specs.declared.action.Width.{Width}
use Rattle.framehop_code.specs.declared.action.Width.TheVariants.{Four, Eight}
use Rattle.framehop_callers.specs.declared.convention.Convention.{Convention}
use Rattle.framehop_callers.specs.declared.convention.Convention.TheVariants.{X86_64, Aarch64}
use Rattle.framehop_callers.specs.Convention.{stack_pointer_of, scratch_of}
use Rattle.framehop_callers.specs.declared.known.Write.{Write}
use Rattle.framehop_callers.specs.declared.state.State.{State}
use Rattle.framehop_callers.specs.Known.{is_at, stored}
use Rattle.framehop_callers.specs.Machine.{Machine, base_value, index_value, address_value, IsPlace, IsOperand, IsValue, Sets, IsWrite, AreKept, IsKept}
use Rattle.framehop_callers.specs.Sound.{Knows, Remembers, Writes, Puts, Pushes, Raises, Leaves, KeepsOthers, Changes, PassesOver, CallsTo, Calls, LinksTo, CallsByLink, Does, DoesThen, DoesAll, DoesAt, DoAt, Steps, way, ReturnsTo}
use Rattle.framehop_callers.specs.State.{RCX, RBP, RSP, X30, stack_pointer, sum, difference, product, start_of, bytes_of, low, sign_extended, computed, computed_of, base_of, index_of, sum_of, address_of, place_of, number_at, operand_of, value_of, with_bytes, with_writes, with_register, put, pushed, pushed_at, raised_by, word_at, popped, leaving, is_in, forgotten_below, forgotten}
use Rattle.framehop_callers.specs.declared.run.RunCaller.{RunCaller}
use Rattle.framehop_callers.specs.Run.{caller_of, onward, run_from}
use Rattle.framehop_callers.specs.Sound.ReturnsTo.{arrives, goes_on}
use Rattle.framehop_callers.specs.Calls.{opened, noted}
use Rattle.framehop_callers.specs.Step.{Source, After, goes, returns, given_up, at, on_at, changed, takes, with_loop, met, branched_by, branched, jumped, counted, passed_over_at, passed_over, with_calls, with_call_at, with_call, with_returns, with_return, entered, linked, is_entered, called, called_by_link, is_own_return, left_call, returned, returned_by, done, then_done, all_done, goes_by, returns_by, checked, stepped, stepped_by, read_at, step_by, step_of}
use Rattle.framehop_callers.proofs.StoreLemmas.{remembers-after}

-- what the run knows of the processor's registers and memory
pub record Fits (memory : Memory) (state : State) (machine : Machine) : Type 0 where
  pub long : length state.registers ≡ 33
  pub knows : Knows state.registers machine.registers
  pub remembers : Remembers memory state.writes machine.numbers

some-eq : (x y : ℕ) → Some x ≡ Some y → x ≡ y
some-eq x y is = cc

-- ---- addresses

base-is : (state : State) (m : Machine) (base : Option Register) (b : ℕ) → Knows state.registers m.registers
    → base_of state base ≡ Some b → base_value m base ≡ b
base-is state m None b knows is = some-eq 0 b is
base-is state m (Some r) b knows is = knows r.0 b is

scaled : (word : Option ℕ) (scale value b : ℕ) → ((x : ℕ) → word ≡ Some x → value ≡ x)
    → option_map (λ w. product w scale) word ≡ Some b → product value scale ≡ b
scaled None scale value b knows is = cc
scaled (Some w) scale value b knows is = ap (λ v. product v scale) (knows w refl) ∙ some-eq _ b is

index-is : (state : State) (m : Machine) (index : Option Index) (b : ℕ) → Knows state.registers m.registers
    → index_of state index ≡ Some b → index_value m index ≡ b
index-is state m None b knows is = some-eq 0 b is
index-is state m (Some i) b knows is =
    scaled (word_of state.registers i.register) i.scale (m.registers i.register.0) b (λ x same. knows i.register.0 x same) is

summed : (base index : Option ℕ) (base_is index_is displacement start b : ℕ) → ((x : ℕ) → base ≡ Some x → base_is ≡ x)
    → ((x : ℕ) → index ≡ Some x → index_is ≡ x) → sum_of base index displacement start ≡ Some b
    → sum (sum (sum base_is index_is) displacement) start ≡ b
summed None index base_is index_is displacement start b first second is = cc
summed (Some x) None base_is index_is displacement start b first second is = cc
summed (Some x) (Some y) base_is index_is displacement start b first second is =
    ap (λ v. sum (sum (sum v index_is) displacement) start) (first x refl)
    ∙ ap (λ v. sum (sum (sum x v) displacement) start) (second y refl) ∙ some-eq _ b is

address-is : (state : State) (m : Machine) (next : ℕ) (address : Address) (b : ℕ) → Knows state.registers m.registers
    → address_of state next address ≡ Some b → address_value m next address ≡ b
address-is state m next address b knows is =
    summed (base_of state address.base) (index_of state address.index) (base_value m address.base) (index_value m address.index)
    address.displacement (start_of next address.from_next) b (λ x. base-is state m address.base x knows)
    (λ x. index-is state m address.index x knows) is

place-is : (state : State) (m : Machine) (next : ℕ) (place : Place) (b at : ℕ) → Knows state.registers m.registers
    → place_of state next place ≡ Some b → IsPlace m next place at → at ≡ b
place-is state m next (At address) b at knows is there = there ∙ address-is state m next address b knows is
place-is state m next Elsewhere b at knows is there = cc

-- ---- values

numbered : (memory : Memory) (state : State) (m : Machine) (width : Width) (address : Option ℕ) (at value : ℕ)
    → Remembers memory state.writes m.numbers → ((x : ℕ) → address ≡ Some x → at ≡ x)
    → number_at memory state width address ≡ Some value → m.numbers at (bytes_of width) ≡ value
numbered memory state m width None at value remembers there is = cc
numbered memory state m width (Some x) at value remembers there is =
    ap (λ a. m.numbers a (bytes_of width)) (there x refl) ∙ remembers x (bytes_of width) value is

lowered : (width : Width) (word : Option ℕ) (value b : ℕ) → ((x : ℕ) → word ≡ Some x → value ≡ x)
    → option_map (low width) word ≡ Some b → low width value ≡ b
lowered width None value b knows is = cc
lowered width (Some w) value b knows is = ap (low width) (knows w refl) ∙ some-eq _ b is

operand-is : (memory : Memory) (state : State) (m : Machine) (next : ℕ) (width : Width) (of : Operand) (b value : ℕ)
    → Fits memory state m → operand_of memory state next width of ≡ Some b → IsOperand m next width of value → value ≡ b
operand-is memory state m next width (operand.Register r) b value fits is has =
    has ∙ lowered width (word_of state.registers r) (m.registers r.0) b (λ x same. fits.knows r.0 x same) is
operand-is memory state m next width (operand.Memory place) b value fits is has =
    has.2 ∙ numbered memory state m width (place_of state next place) has.0 b fits.remembers
    (λ x same. place-is state m next place x has.0 fits.knows same has.1) is

extended : (width : Width) (number : Option ℕ) (value b : ℕ) → ((x : ℕ) → number ≡ Some x → value ≡ x)
    → option_map (λ n. low width (sign_extended n)) number ≡ Some b → low width (sign_extended value) ≡ b
extended width None value b knows is = cc
extended width (Some n) value b knows is = ap (λ k. low width (sign_extended k)) (knows n refl) ∙ some-eq _ b is

pub value-is : (memory : Memory) (state : State) (m : Machine) (next : ℕ) (width : Width) (from : From) (b value : ℕ)
    → Fits memory state m → value_of memory state next width from ≡ Some b → IsValue m next width from value → value ≡ b
value-is memory state m next width (source.Operand of) b value fits is has = operand-is memory state m next width of b value fits is has
value-is memory state m next width (source.SignExtended of) b value fits is has =
    has.2 ∙ extended width (operand_of memory state next Four of) has.0 b
    (λ x same. operand-is memory state m next Four of x has.0 fits same has.1) is
value-is memory state m next width (source.Immediate number) b value fits is has = has ∙ some-eq _ b is
value-is memory state m next width (source.Address address) b value fits is has =
    has ∙ lowered width (address_of state next address) (address_value m next address) b
    (λ x same. address-is state m next address x fits.knows same) is
value-is memory state m next width source.Unknown b value fits is has = cc

-- ---- registers

pub set-some : (words : List (Option ℕ)) (k x : ℕ) (word : Option ℕ) → in_column (slice_get (slice_set words k word) k) ≡ Some x → word ≡ Some x
set-some [] k x word is = cc
set-some (w ∷ words) zero x word is = is
set-some (w ∷ words) (suc k) x word is = set-some words k x word is

some-below : (words : List (Option ℕ)) (j value : ℕ) → in_column (slice_get words j) ≡ Some value → j < length words
some-below [] j value is = cc
some-below (w ∷ words) zero value is = omega arith
some-below (w ∷ words) (suc j) value is = (let below = some-below words j value is in omega (arith, below))

long-set : (words : List (Option ℕ)) (k : ℕ) (word : Option ℕ) → length words ≡ 33
    → length (with_word words (record { 0 = k }) word) ≡ 33
long-set words k word long =
    elim (cases_Bool (nat_lt k 33)) [
      | inl below ↦ (let less : k < 33 = grind (arith, nat_tests) in keeps-length words k word long less)
      | inr beyond ↦ rw beyond long
    ]

-- the registers that are known after one of them has got a value
knows-below : (words : List (Option ℕ)) (k : ℕ) (word : Option ℕ) (value : ℕ) (before now : ℕ → ℕ) → Knows words before
    → Sets k value before now → ((x : ℕ) → word ≡ Some x → value ≡ x) → k < 33
    → Knows (with_word words (record { 0 = k }) word) now
knows-below words k word value before now knows sets same below j x is =
    elim (cases_Bool (j == k)) as (λ _. now j ≡ x) [
      | inl here ↦
          let equal : j ≡ k = grind (arith, nat_tests) in
          let at_k : word_of (with_word words (record { 0 = k }) word) (record { 0 = k }) ≡ Some x =
          subst (λ (i : ℕ). word_of (with_word words (record { 0 = k }) word) (record { 0 = i }) ≡ Some x) equal is in
          let known : word ≡ Some x = set-some words k x word (subst (λ (set : List (Option ℕ)). word_of set (record { 0 = k }) ≡ Some x) (is-set words k word below) at_k) in
          ap now equal ∙ sets.here ∙ same x known
      | inr other ↦
          let apart : j ≢ k = λ equal. grind (arith, nat_tests) in
          sets.elsewhere j apart ∙ knows j x (sym (set-elsewhere words k j word below apart) ∙ is)
    ]

knows-set : (words : List (Option ℕ)) (k : ℕ) (word : Option ℕ) (value : ℕ) (before now : ℕ → ℕ) → length words ≡ 33
    → Knows words before → Sets k value before now → ((x : ℕ) → word ≡ Some x → value ≡ x)
    → Knows (with_word words (record { 0 = k }) word) now
knows-set words k word value before now long knows sets same =
    elim (cases_Bool (nat_lt k 33)) [
      | inl below ↦ (let less : k < 33 = grind (arith, nat_tests) in knows-below words k word value before now knows sets same less)
      | inr beyond ↦ (λ j x is.
          let there : word_of words (record { 0 = j }) ≡ Some x = rw beyond at is in
          let under = some-below words j x there in
          let apart : j ≢ k = λ equal. grind (arith, nat_tests) in
          sets.elsewhere j apart ∙ knows j x there)
    ]

same-registers : (words : List (Option ℕ)) (before now : ℕ → ℕ) → AreKept before now → Knows words before → Knows words now
same-registers words before now kept knows j x is = kept j ∙ knows j x is

same-numbers : (memory : Memory) (writes : List Write) (before now : ℕ → ℕ → ℕ) → IsKept before now
    → Remembers memory writes before → Remembers memory writes now
same-numbers memory writes before now kept remembers a b x is = kept a b ∙ remembers a b x is

-- ---- memory

told : (value : Option ℕ) (number : ℕ) → ((x : ℕ) → value ≡ Some x → number ≡ x) → IfSome value (λ x. number ≡ x)
told None number is = tt
told (Some x) number is = is x refl

stored-is : (memory : Memory) (writes after : List Write) (a s : ℕ) (value : Option ℕ) (room : Bool) (others : List Write)
    (before now : ℕ → ℕ → ℕ)
    → ((kept : List Write) → kept ≡ others → Remembers memory (kept ++ record { address = a; bytes = s; value = value } ∷ []) now)
    → (if room then Some (others ++ record { address = a; bytes = s; value = value } ∷ []) else None) ≡ Some after
    → Remembers memory after now
stored-is memory writes after a s value true others before now known is = (let same : others ++ record { address = a; bytes = s; value = value } ∷ [] ≡ after = cc in subst (λ (x : List Write). Remembers memory x now) same (known others refl))
stored-is memory writes after a s value false others before now known is = cc

remembers-stored : (memory : Memory) (writes after : List Write) (a s : ℕ) (value : Option ℕ) (before now : ℕ → ℕ → ℕ)
    → Remembers memory writes before → IsWrite a s before now → ((x : ℕ) → value ≡ Some x → now a s ≡ x)
    → stored writes (record { address = a; bytes = s; value = value }) ≡ Some after → Remembers memory after now
remembers-stored memory writes after a s value before now remembers write same is =
    let others : List Write = filter (λ other. not (is_at other a s)) writes in
    stored-is memory writes after a s value (nat_lt (length others) 128) others before now
    (λ kept equal. subst (λ (x : List Write). Remembers memory (x ++ record { address = a; bytes = s; value = value } ∷ []) now) (sym equal)
    (remembers-after memory writes a s value before now remembers write (told value (now a s) same))) is

some-state : (x y : State) → Some x ≡ Some y → x ≡ y
some-state x y is = cc

written-fits : (memory : Memory) (state after : State) (o : Option (List Write)) (now : Machine) → length state.registers ≡ 33
    → Knows state.registers now.registers → ((w : List Write) → o ≡ Some w → Remembers memory w now.numbers)
    → with_writes state o ≡ Some after → Fits memory after now
written-fits memory state after None now long knows remembers is = cc
written-fits memory state after (Some w) now long knows remembers is =
    subst (λ (s : State). Fits memory s now) (some-state (record state { writes = w }) after is)
    (record { long = long; knows = knows; remembers = remembers w refl })

bytes-fit : (memory : Memory) (state after : State) (address : Option ℕ) (at bytes : ℕ) (word : Option ℕ) (before now : Machine)
    → Fits memory state before → ((x : ℕ) → address ≡ Some x → at ≡ x)
    → Writes memory state address at bytes before.numbers now.numbers → Knows state.registers now.registers
    → ((x : ℕ) → word ≡ Some x → now.numbers at bytes ≡ x) → with_bytes state address bytes word ≡ Some after
    → Fits memory after now
bytes-fit memory state after None at bytes word before now fits there writes knows same is =
    subst (λ (s : State). Fits memory s now) (some-state state after is)
    (record { long = fits.long; knows = knows; remembers = writes })
bytes-fit memory state after (Some a) at bytes word before now fits there writes knows same is =
    let here : at ≡ a = there a refl in
    written-fits memory state after (stored state.writes (record { address = a; bytes = bytes; value = word })) now fits.long knows
    (λ w kept. remembers-stored memory state.writes w a bytes word before.numbers now.numbers fits.remembers
    (subst (λ (x : ℕ). IsWrite x bytes before.numbers now.numbers) here writes)
    (λ x known. subst (λ (y : ℕ). now.numbers y bytes ≡ x) here (same x known)) kept) is

register-fits : (memory : Memory) (state : State) (k : ℕ) (word : Option ℕ) (value : ℕ) (before now : Machine) → Fits memory state before
    → Sets k value before.registers now.registers → IsKept before.numbers now.numbers → ((x : ℕ) → word ≡ Some x → value ≡ x)
    → Fits memory (with_register state (record { 0 = k }) word) now
register-fits memory state k word value before now fits sets kept same = record {
  long = long-set state.registers k word fits.long;
  knows = knows-set state.registers k word value before.registers now.registers fits.long fits.knows sets same;
  remembers = same-numbers memory state.writes before.numbers now.numbers kept fits.remembers;
}

pub put-fits : (memory : Memory) (state after : State) (next : ℕ) (width : Width) (to : Operand) (word : Option ℕ) (value : ℕ)
    (before now : Machine) → Fits memory state before → ((x : ℕ) → word ≡ Some x → value ≡ x)
    → put state next width to word ≡ Some after → Puts memory state next width to value before now → Fits memory after now
put-fits memory state after next width (operand.Register r) word value before now fits same is puts =
    subst (λ (s : State). Fits memory s now) (some-state (with_register state r word) after is)
    (register-fits memory state r.0 word value before now fits puts.0 puts.1 same)
put-fits memory state after next width (operand.Memory place) word value before now fits same is puts =
    bytes-fit memory state after (place_of state next place) puts.1.0 (bytes_of width) word before now fits
    (λ x known. place-is state before next place x puts.1.0 fits.knows known puts.1.1) puts.1.2
    (same-registers state.registers before.registers now.registers puts.0 fits.knows)
    (λ x known. puts.1.3 ∙ same x known) is

-- ---- what instructions do

-- the word that is known at rsp
slot-is : (state : State) (before : Machine) (sp bytes : ℕ) → Knows state.registers before.registers
    → word_of state.registers RSP ≡ Some sp → difference (before.registers 7) bytes ≡ difference sp bytes
slot-is state before sp bytes knows is = ap (λ x. difference x bytes) (knows 7 sp is)

lowered-fits : (memory : Memory) (state after : State) (o : Option (List Write)) (sp : ℕ) (before now : Machine) → Fits memory state before
    → ((w : List Write) → o ≡ Some w → Remembers memory w now.numbers)
    → Sets 7 (difference sp 8) before.registers now.registers
    → option_map (λ kept. with_register kept RSP (Some (difference sp 8))) (with_writes state o) ≡ Some after
    → Fits memory after now
lowered-fits memory state after None sp before now fits remembers sets is = cc
lowered-fits memory state after (Some w) sp before now fits remembers sets is =
    subst (λ (s : State). Fits memory s now)
    (some-state (with_register (record state { writes = w }) RSP (Some (difference sp 8))) after is)
    (record {
      long = long-set state.registers 7 (Some (difference sp 8)) fits.long;
      knows = knows-set state.registers 7 (Some (difference sp 8)) (difference sp 8) before.registers now.registers fits.long fits.knows sets (λ x known. some-eq _ x known);
      remembers = remembers w refl;
    })

pushed-fits : (memory : Memory) (state after : State) (sp : Option ℕ) (word : Option ℕ) (value : ℕ) (before now : Machine)
    → Fits memory state before → ((x : ℕ) → sp ≡ Some x → before.registers 7 ≡ x) → ((x : ℕ) → word ≡ Some x → value ≡ x)
    → pushed_at state sp word ≡ Some after → Pushes value before now → Fits memory after now
pushed-fits memory state after None word value before now fits known same is pushes = cc
pushed-fits memory state after (Some sp) word value before now fits known same is pushes =
    let slot : difference (before.registers 7) 8 ≡ difference sp 8 = ap (λ x. difference x 8) (known sp refl) in
    lowered-fits memory state after (stored state.writes (record { address = difference sp 8; bytes = 8; value = word })) sp before now fits
    (λ w kept. remembers-stored memory state.writes w (difference sp 8) 8 word before.numbers now.numbers fits.remembers
    (subst (λ (x : ℕ). IsWrite x 8 before.numbers now.numbers) slot pushes.elsewhere)
    (λ x told. subst (λ (y : ℕ). now.numbers y 8 ≡ x) slot (pushes.word ∙ same x told)) kept)
    (subst (λ (x : ℕ). Sets 7 x before.registers now.registers) slot pushes.sp) is

raised-is : (word : Option ℕ) (value bytes x : ℕ) → ((y : ℕ) → word ≡ Some y → value ≡ y)
    → option_map (λ sp. sum sp bytes) word ≡ Some x → sum value bytes ≡ x
raised-is None value bytes x known is = cc
raised-is (Some y) value bytes x known is = ap (λ v. sum v bytes) (known y refl) ∙ some-eq _ x is

raised-fits : (memory : Memory) (state : State) (bytes : ℕ) (before now : Machine) → Fits memory state before
    → Sets 7 (sum (before.registers 7) bytes) before.registers now.registers → IsKept before.numbers now.numbers
    → Fits memory (raised_by state bytes) now
raised-fits memory state bytes before now fits sets kept =
    register-fits memory state 7 (option_map (λ sp. sum sp bytes) (word_of state.registers RSP)) (sum (before.registers 7) bytes) before now
    fits sets kept (λ x is. raised-is (word_of state.registers RSP) (before.registers 7) bytes x (λ y known. fits.knows 7 y known) is)

word-is : (memory : Memory) (state : State) (k x : ℕ) (before : Machine) → Fits memory state before
    → word_at memory state (record { 0 = k }) ≡ Some x → before.numbers (before.registers k) 8 ≡ x
word-is memory state k x before fits is =
    numbered memory state before Eight (word_of state.registers (record { 0 = k })) (before.registers k) x fits.remembers
    (λ y known. fits.knows k y known) is

popped-fits : (memory : Memory) (state after : State) (next : ℕ) (to : Operand) (before middle now : Machine) → Fits memory state before
    → Raises 8 before middle → popped memory state next to ≡ Some after
    → Puts memory (raised_by state 8) next Eight to (before.numbers (before.registers 7) 8) middle now → Fits memory after now
popped-fits memory state after next to before middle now fits raises is puts =
    put-fits memory (raised_by state 8) after next Eight to (word_at memory state RSP) (before.numbers (before.registers 7) 8) middle now
    (raised-fits memory state 8 before middle fits raises.sp raises.memory)
    (λ x known. word-is memory state 7 x before fits known) is puts

-- the registers between the two that LEAVE sets
middle-of : Machine → Machine
middle-of before = record before { registers = λ column. if column == 7 then sum (before.registers 6) 8 else before.registers column }

middle-sets : (before : Machine) → Sets 7 (sum (before.registers 6) 8) before.registers (middle-of before).registers
unfolding middle-of
middle-sets before = record { here = refl; elsewhere = λ other apart. grind (arith, nat_tests) }

leaving-sets : (before now : Machine) → Leaves before now
    → Sets 6 (before.numbers (before.registers 6) 8) (middle-of before).registers now.registers
unfolding middle-of
leaving-sets before now leaves = record {
  here = leaves.fp;
  elsewhere = λ other apart. elim (cases_Bool (other == 7)) as (λ _. now.registers other ≡ (if other == 7 then sum (before.registers 6) 8 else before.registers other)) [
    | inl is ↦ (let same : other ≡ 7 = grind (arith, nat_tests) in rw is (ap now.registers same ∙ leaves.sp))
    | inr not_7 ↦ (let apart_7 : other ≢ 7 = λ same. grind (arith, nat_tests) in rw not_7 (leaves.others other apart_7 apart))
  ];
}

middle-kept : (before : Machine) → IsKept before.numbers (middle-of before).numbers
unfolding middle-of
middle-kept before a b = refl

middle-now : (before now : Machine) → IsKept before.numbers now.numbers → IsKept (middle-of before).numbers now.numbers
unfolding middle-of
middle-now before now kept a b = kept a b

leaving-fits : (memory : Memory) (state : State) (before now : Machine) → Fits memory state before → Leaves before now
    → Fits memory (leaving memory state) now
leaving-fits memory state before now fits leaves =
    let sp : Option ℕ = option_map (λ frame. sum frame 8) (word_of state.registers RBP) in
    register-fits memory (with_register state RSP sp) 6 (word_at memory state RBP) (before.numbers (before.registers 6) 8) (middle-of before) now
    (register-fits memory state 7 sp (sum (before.registers 6) 8) before (middle-of before) fits (middle-sets before) (middle-kept before)
    (λ x is. raised-is (word_of state.registers RBP) (before.registers 6) 8 x (λ y known. fits.knows 6 y known) is))
    (leaving-sets before now leaves) (middle-now before now leaves.memory)
    (λ x known. word-is memory state 6 x before fits known)

-- ---- registers that are forgotten

none-set : (words : List (Option ℕ)) (k x : ℕ) → k < 33 → word_of (with_word words (record { 0 = k }) None) (record { 0 = k }) ≡ Some x → ⊥
none-set words k x below is =
    (let none : None ≡ Some x = set-some words k x None (subst (λ (set : List (Option ℕ)). word_of set (record { 0 = k }) ≡ Some x) (is-set words k None below) is) in cc)

and-false : (b : Bool) → (b && false) ≡ false
and-false true = refl
and-false false = refl

at-n : (registers n : ℕ) (words : List (Option ℕ)) (j x : ℕ) → suc n < 33 → (is : Bool) → is_in registers n ≡ is → j ≡ n
    → (word_of (if is then with_word words (record { 0 = n }) None else words) (record { 0 = j }) ≡ Some x) × ((nat_lt j n && is_in registers j) ≡ false)
    → (word_of words (record { 0 = j }) ≡ Some x) × ((nat_lt j (suc n) && is_in registers j) ≡ false)
at-n registers n words j x below true in_set equal known =
    absurd (none-set words n x (omega arith) (subst (λ (i : ℕ). word_of (with_word words (record { 0 = n }) None) (record { 0 = i }) ≡ Some x) equal known.0))
at-n registers n words j x below false in_set equal known =
    let out : is_in registers j ≡ false = ap (is_in registers) equal ∙ in_set in
    (known.0, rw out (and-false (nat_lt j (suc n))))

beside : (registers n : ℕ) (words : List (Option ℕ)) (j x : ℕ) → suc n < 33 → (is : Bool) → j ≢ n
    → word_of (if is then with_word words (record { 0 = n }) None else words) (record { 0 = j }) ≡ Some x
    → word_of words (record { 0 = j }) ≡ Some x
beside registers n words j x below true apart known = sym (set-elsewhere words n j None (omega arith) apart) ∙ known
beside registers n words j x below false apart known = known

one-more : (registers n : ℕ) (words : List (Option ℕ)) (j x : ℕ) → suc n < 33 → (is : Bool) → is_in registers n ≡ is
    → (word_of (if is then with_word words (record { 0 = n }) None else words) (record { 0 = j }) ≡ Some x) × ((nat_lt j n && is_in registers j) ≡ false)
    → (word_of words (record { 0 = j }) ≡ Some x) × ((nat_lt j (suc n) && is_in registers j) ≡ false)
one-more registers n words j x below is in_set known =
    elim (cases_Bool (j == n)) [
      | inl here ↦
          let equal : j ≡ n = grind (arith, nat_tests) in
          at-n registers n words j x below is in_set equal known
      | inr other ↦
          let apart : j ≢ n = λ equal. grind (arith, nat_tests) in
          let same : nat_lt j (suc n) ≡ nat_lt j n = grind (arith, nat_tests) in
          (beside registers n words j x below is apart known.0, rw same known.1)
    ]

known-still : (registers n : ℕ) (words : List (Option ℕ)) (j x : ℕ) → n < 33 → word_of (forgotten_below registers n words) (record { 0 = j }) ≡ Some x
    → (word_of words (record { 0 = j }) ≡ Some x) × ((nat_lt j n && is_in registers j) ≡ false)
unfolding forgotten_below
known-still registers zero words j x below is = (is, (let no : nat_lt j 0 ≡ false = grind (arith, nat_tests) in rw no refl))
known-still registers (suc n) words j x below is =
    one-more registers n words j x below (is_in registers n) refl (known-still registers n (if is_in registers n then with_word words (record { 0 = n }) None else words) j x (omega arith) is)

long-if : (n : ℕ) (words : List (Option ℕ)) (is : Bool) → length words ≡ 33
    → length (if is then with_word words (record { 0 = n }) None else words) ≡ 33
long-if n words true long = long-set words n None long
long-if n words false long = long

long-forgotten : (registers n : ℕ) (words : List (Option ℕ)) → length words ≡ 33 → length (forgotten_below registers n words) ≡ 33
unfolding forgotten_below
long-forgotten registers zero words long = long
long-forgotten registers (suc n) words long =
    long-forgotten registers n (if is_in registers n then with_word words (record { 0 = n }) None else words) (long-if n words (is_in registers n) long)

forgotten-fits : (memory : Memory) (state : State) (registers : ℕ) (before now : Machine) → length state.registers ≡ 33
    → Knows state.registers before.registers → KeepsOthers registers before.registers now.registers
    → Remembers memory state.writes now.numbers → Fits memory (forgotten state registers) now
forgotten-fits memory state registers before now long knows kept remembers = record {
  long = long-forgotten registers 32 state.registers long;
  knows = λ j x is. (let still = known-still registers 32 state.registers j x (omega arith) is in kept j still.1 ∙ knows j x still.0);
  remembers = remembers;
}

-- the same machine, but for its memory
with-numbers : Machine → (ℕ → ℕ → ℕ) → Machine
with-numbers before numbers = record before { numbers = numbers }

changed-fits : (memory : Memory) (state after : State) (next : ℕ) (stored : Option Stored) (before : Machine) (numbers : ℕ → ℕ → ℕ)
    → Fits memory state before → changed state next stored ≡ Some after → Changes memory state next stored before numbers
    → Fits memory after (with-numbers before numbers)
unfolding with-numbers
changed-fits memory state after next None before numbers fits is changes =
    subst (λ (s : State). Fits memory s (record before { numbers = numbers })) (some-state state after is)
    (record { long = fits.long; knows = fits.knows; remembers = same-numbers memory state.writes before.numbers numbers changes fits.remembers })
changed-fits memory state after next (Some stored) before numbers fits is changes =
    bytes-fit memory state after (place_of state next stored.at) changes.0 stored.bytes None before (record before { numbers = numbers }) fits
    (λ x known. place-is state before next stored.at x changes.0 fits.knows known changes.1) changes.2 fits.knows (λ x none. cc) is

forget-fits : (memory : Memory) (state after : State) (next registers : ℕ) (o : Option State) (before now : Machine)
    → ((s : State) → o ≡ Some s → Fits memory s (with-numbers before now.numbers))
    → option_map (λ kept. forgotten kept registers) o ≡ Some after → KeepsOthers registers before.registers now.registers
    → Fits memory after now
unfolding with-numbers
forget-fits memory state after next registers None before now fits is kept = cc
forget-fits memory state after next registers (Some s) before now fits is kept =
    let there = fits s refl in
    subst (λ (t : State). Fits memory t now) (some-state (forgotten s registers) after is)
    (forgotten-fits memory s registers before now there.long there.knows kept there.remembers)

-- ---- a step

-- what holds after a step
abbrev FitsAfter : Memory → After → Machine → Type 0
FitsAfter memory (goes state) now = Fits memory state now × (now.address ≡ state.address)
FitsAfter memory (returns state) now = Fits memory state now × (now.address ≡ state.address)
FitsAfter memory given_up now = ⊤

at-fits : (memory : Memory) (state : State) (address : ℕ) (now : Machine) → Fits memory state now → Fits memory (at address state) now
at-fits memory state address now fits = record { long = fits.long; knows = fits.knows; remembers = fits.remembers }

on-at : (memory : Memory) (next : ℕ) (o : Option State) (now : Machine) → now.address ≡ next
    → ((s : State) → o ≡ Some s → Fits memory s now) → FitsAfter memory (on_at next o) now
on-at memory next None now here fits = tt
on-at memory next (Some s) now here fits = (at-fits memory s next now (fits s refl), here)

loop-fits : (memory : Memory) (state : State) (forward_is : Bool) (next : ℕ) (now : Machine) → Fits memory state now
    → Fits memory (with_loop forward_is state next) now
loop-fits memory state true next now fits = fits
loop-fits memory state false next now fits = record { long = fits.long; knows = fits.knows; remembers = fits.remembers }

met-fits : (memory : Memory) (state : State) (forward : Bool) (next : ℕ) (now : Machine) → Fits memory state now
    → Fits memory (met forward state next) now
met-fits memory state true next now fits = fits
met-fits memory state false next now fits = record { long = fits.long; knows = fits.knows; remembers = fits.remembers }

branched-by : (memory : Memory) (state : State) (taken forward : Bool) (next target : ℕ) (now : Machine) → Fits memory state now
    → now.address ≡ (if taken then target else next) → FitsAfter memory (branched_by taken state forward next target) now
branched-by memory state true forward next target now fits here =
    (at-fits memory (with_loop (nat_lt next target) state next) target now (loop-fits memory state (nat_lt next target) next now fits), here)
branched-by memory state false forward next target now fits here =
    (at-fits memory (met forward state next) next now (met-fits memory state forward next now fits), here)

branched-fits : (memory : Memory) (state : State) (forward : Bool) (next : ℕ) (target : Option ℕ) (real : ℕ) (now : Machine)
    → Fits memory state now → ((x : ℕ) → target ≡ Some x → real ≡ x) → now.address ≡ way state forward next real
    → FitsAfter memory (branched state forward next target) now
branched-fits memory state forward next None real now fits is here = tt
branched-fits memory state forward next (Some target) real now fits is here =
    branched-by memory state (takes state forward next target) forward next target now fits (here ∙ ap (way state forward next) (is target refl))

jumped-fits : (memory : Memory) (state : State) (target : Option ℕ) (real : ℕ) (now : Machine) → Fits memory state now
    → ((x : ℕ) → target ≡ Some x → real ≡ x) → now.address ≡ real → FitsAfter memory (jumped state target) now
jumped-fits memory state None real now fits is here = tt
jumped-fits memory state (Some target) real now fits is here = (at-fits memory state target now fits, here ∙ is target refl)

kept-fits : (memory : Memory) (state : State) (before now : Machine) → Fits memory state before → AreKept before.registers now.registers
    → IsKept before.numbers now.numbers → Fits memory state now
kept-fits memory state before now fits registers numbers = record {
  long = fits.long;
  knows = same-registers state.registers before.registers now.registers registers fits.knows;
  remembers = same-numbers memory state.writes before.numbers now.numbers numbers fits.remembers;
}

counted-is : (word : Option ℕ) (value x : ℕ) → ((y : ℕ) → word ≡ Some y → value ≡ y)
    → option_map (λ count. difference count 1) word ≡ Some x → difference value 1 ≡ x
counted-is None value x known is = cc
counted-is (Some y) value x known is = ap (λ v. difference v 1) (known y refl) ∙ some-eq _ x is

counted-fits : (memory : Memory) (state : State) (before now : Machine) → Fits memory state before
    → Sets 2 (difference (before.registers 2) 1) before.registers now.registers → IsKept before.numbers now.numbers
    → Fits memory (counted state) now
counted-fits memory state before now fits sets kept =
    register-fits memory state 2 (option_map (λ count. difference count 1) (word_of state.registers RCX)) (difference (before.registers 2) 1)
    before now fits sets kept
    (λ x is. counted-is (word_of state.registers RCX) (before.registers 2) x (λ y known. fits.knows 2 y known) is)

-- ---- calls and returns

opened-fits : (memory : Memory) (state after : State) (o : Option (List ℕ)) (now : Machine) → Fits memory state now
    → with_calls state o ≡ Some after → Fits memory after now
opened-fits memory state after None now fits is = cc
opened-fits memory state after (Some calls) now fits is =
    subst (λ (s : State). Fits memory s now) (some-state (record state { calls = calls }) after is)
    (record { long = fits.long; knows = fits.knows; remembers = fits.remembers })

call-fits : (memory : Memory) (state after : State) (sp : Option ℕ) (now : Machine) → Fits memory state now
    → with_call_at state sp ≡ Some after → Fits memory after now
call-fits memory state after None now fits is = cc
call-fits memory state after (Some sp) now fits is = opened-fits memory state after (opened state.calls sp) now fits is

entered-fits : (memory : Memory) (after : State) (o : Option State) (now : Machine) → ((s : State) → o ≡ Some s → Fits memory s now)
    → option_and_then with_call o ≡ Some after → Fits memory after now
entered-fits memory after None now fits is = cc
entered-fits memory after (Some s) now fits is = call-fits memory s after (word_of s.registers RSP) now (fits s refl) is

noted-fits : (memory : Memory) (state after : State) (o : Option (List ℕ)) (now : Machine) → Fits memory state now
    → with_returns state o ≡ Some after → Fits memory after now
noted-fits memory state after None now fits is = cc
noted-fits memory state after (Some addresses) now fits is =
    subst (λ (s : State). Fits memory s now) (some-state (record state { after_calls = addresses }) after is)
    (record { long = fits.long; knows = fits.knows; remembers = fits.remembers })

return-fits : (memory : Memory) (next : ℕ) (after : State) (o : Option State) (now : Machine) → ((s : State) → o ≡ Some s → Fits memory s now)
    → option_and_then (with_return next) o ≡ Some after → Fits memory after now
return-fits memory next after None now fits is = cc
return-fits memory next after (Some s) now fits is = noted-fits memory s after (noted s.after_calls next) now (fits s refl) is

over-fits : (memory : Memory) (state after : State) (a : ℕ) (before now : Machine) → Fits memory state (record now { numbers = before.numbers })
    → IsWrite a 0x10000 before.numbers now.numbers → with_bytes state (Some a) 0x10000 None ≡ Some after → Fits memory after now
over-fits memory state after a before now fits write is =
    bytes-fit memory state after (Some a) a 0x10000 None (record now { numbers = before.numbers }) now fits (λ x same. some-eq a x same)
    write fits.knows (λ x none. cc) is

passed-over-fits : (memory : Memory) (convention : Convention) (state : State) (next : ℕ) (sp : Option ℕ) (before now : Machine) → Fits memory state before
    → ((x : ℕ) → sp ≡ Some x → before.registers (stack_pointer_of convention) ≡ x) → PassesOver convention before now → now.address ≡ next
    → FitsAfter memory (passed_over_at convention state next sp) now
passed-over-fits memory convention state next None before now fits known passes here = tt
passed-over-fits memory convention state next (Some sp) before now fits known passes here =
    let scratch : ℕ = scratch_of convention in
    let below : difference (before.registers (stack_pointer_of convention)) 0x10000 ≡ difference sp 0x10000 = ap (λ x. difference x 0x10000) (known sp refl) in
    on-at memory next (with_bytes (forgotten state scratch) (Some (difference sp 0x10000)) 0x10000 None) now here
    (λ s is. over-fits memory (forgotten state scratch) s (difference sp 0x10000) before now
    (forgotten-fits memory state scratch before (record now { numbers = before.numbers }) fits.long fits.knows passes.others fits.remembers)
    (subst (λ (x : ℕ). IsWrite x 0x10000 before.numbers now.numbers) below passes.elsewhere) is)

over-by-convention : (source : Source) (state : State) (next : ℕ) (before now : Machine) → Fits source.memory state before
    → PassesOver source.convention before now → now.address ≡ next
    → FitsAfter source.memory (passed_over source.convention state next) now
over-by-convention source state next before now fits passes here =
    passed-over-fits source.memory source.convention state next (word_of state.registers (stack_pointer source.convention)) before now fits
    (λ x known. fits.knows (stack_pointer_of source.convention) x known) passes here

called-by : (source : Source) (state : State) (next target : ℕ) (enters : Bool) (before now : Machine) → Fits source.memory state before
    → CallsTo source.convention enters next target before now
    → FitsAfter source.memory (if enters then entered state next target else passed_over source.convention state next) now
called-by source state next target true before now fits calls =
    on-at source.memory target (option_and_then (with_return next) (option_and_then with_call (pushed state (Some next)))) now calls.0
    (λ r noting. return-fits source.memory next r (option_and_then with_call (pushed state (Some next))) now
    (λ s is. entered-fits source.memory s (pushed state (Some next)) now
    (λ t pushes. pushed-fits source.memory state t (word_of state.registers RSP) (Some next) next before now fits (λ x known. fits.knows 7 x known)
    (λ x same. some-eq next x same) pushes calls.1) is) noting)
called-by source state next target false before now fits calls = over-by-convention source state next before now fits calls.1 calls.0

called-fits : (source : Source) (state : State) (next : ℕ) (target : Option ℕ) (before now : Machine) → Fits source.memory state before
    → Calls source next target before now → FitsAfter source.memory (called source state next target) now
called-fits source state next None before now fits calls = over-by-convention source state next before now fits calls.1 calls.0
called-fits source state next (Some target) before now fits calls = called-by source state next target (is_entered source target) before now fits calls

linked-by : (source : Source) (state : State) (next target : ℕ) (enters : Bool) (before now : Machine) → Fits source.memory state before
    → LinksTo source.convention enters next target before now
    → FitsAfter source.memory (if enters then linked state next target else passed_over source.convention state next) now
linked-by source state next target true before now fits calls =
    on-at source.memory target (with_return next (with_register state X30 (Some next))) now calls.0
    (λ s is. noted-fits source.memory (with_register state X30 (Some next)) s (noted state.after_calls next) now
    (register-fits source.memory state 30 (Some next) next before now fits calls.1.link calls.1.memory (λ x same. some-eq next x same)) is)
linked-by source state next target false before now fits calls = over-by-convention source state next before now fits calls.1 calls.0

linked-fits : (source : Source) (state : State) (next : ℕ) (target : Option ℕ) (before now : Machine) → Fits source.memory state before
    → CallsByLink source next target before now → FitsAfter source.memory (called_by_link source state next target) now
linked-fits source state next None before now fits calls = over-by-convention source state next before now fits calls.1 calls.0
linked-fits source state next (Some target) before now fits calls = linked-by source state next target (is_entered source target) before now fits calls

returned-to-fits : (memory : Memory) (state : State) (address : ℕ) (none : Bool) (now : Machine) → Fits memory state now → now.address ≡ address
    → FitsAfter memory (if none then returns (at address state) else goes (at address (left_call state address))) now
returned-to-fits memory state address true now fits here = (at-fits memory state address now fits, here)
returned-to-fits memory state address false now fits here = (
  at-fits memory (left_call state address) address now
      (record { long = fits.long; knows = fits.knows; remembers = fits.remembers }),
  here,
)

returned-by-fits : (memory : Memory) (state : State) (address : Option ℕ) (real : ℕ) (now : Machine) → Fits memory state now
    → ((x : ℕ) → address ≡ Some x → real ≡ x) → now.address ≡ real → FitsAfter memory (returned_by state address) now
returned-by-fits memory state None real now fits known here = tt
returned-by-fits memory state (Some address) real now fits known here =
    returned-to-fits memory state address (is_own_return state address) now fits (here ∙ known address refl)

-- rsp raised twice
raised-once : Machine → Machine
raised-once before = record before { registers = λ column. if column == 7 then sum (before.registers 7) 8 else before.registers column }

once-sets : (before : Machine) → Sets 7 (sum (before.registers 7) 8) before.registers (raised-once before).registers
unfolding raised-once
once-sets before = record { here = refl; elsewhere = λ other apart. grind (arith, nat_tests) }

twice-sets : (before now : Machine) (bytes : ℕ) → Sets 7 (sum (sum (before.registers 7) 8) bytes) before.registers now.registers
    → Sets 7 (sum ((raised-once before).registers 7) bytes) (raised-once before).registers now.registers
unfolding raised-once
twice-sets before now bytes sets = record {
  here = sets.here;
  elsewhere = λ other apart. (let no : (other == 7) ≡ false = grind (arith, nat_tests) in rw no (sets.elsewhere other apart));
}

once-kept : (before : Machine) → IsKept before.numbers (raised-once before).numbers
unfolding raised-once
once-kept before a b = refl

once-now : (before now : Machine) → IsKept before.numbers now.numbers → IsKept (raised-once before).numbers now.numbers
unfolding raised-once
once-now before now kept a b = kept a b

returned-fits : (memory : Memory) (state : State) (bytes : ℕ) (address : Option ℕ) (before now : Machine) → Fits memory state before
    → ((x : ℕ) → address ≡ Some x → before.numbers (before.registers 7) 8 ≡ x) → now.address ≡ before.numbers (before.registers 7) 8
    → Sets 7 (sum (sum (before.registers 7) 8) bytes) before.registers now.registers → IsKept before.numbers now.numbers
    → FitsAfter memory (returned state bytes address) now
returned-fits memory state bytes None before now fits known here sets kept = tt
returned-fits memory state bytes (Some address) before now fits known here sets kept =
    returned-to-fits memory (raised_by (raised_by state 8) bytes) address (is_own_return (raised_by (raised_by state 8) bytes) address) now
    (raised-fits memory (raised_by state 8) bytes (raised-once before) now
    (raised-fits memory state 8 before (raised-once before) fits (once-sets before) (once-kept before))
    (twice-sets before now bytes sets) (once-now before now kept))
    (here ∙ known address refl)

computed-is : (computation : Computation) (width : Width) (left right : Option ℕ) (x y b : ℕ) → ((k : ℕ) → left ≡ Some k → x ≡ k)
    → ((k : ℕ) → right ≡ Some k → y ≡ k) → computed_of computation width left right ≡ Some b → low width (computed computation x y) ≡ b
computed-is computation width None right x y b first second is = cc
computed-is computation width (Some k) None x y b first second is = cc
computed-is computation width (Some k) (Some m) x y b first second is =
    ap (λ v. low width (computed computation v y)) (first k refl) ∙ ap (λ v. low width (computed computation k v)) (second m refl) ∙ some-eq _ b is

done-fits : (source : Source) (forward : Bool) (state : State) (next : ℕ) (does : Action) (before now : Machine) → Fits source.memory state before
    → Does source forward state next does before now → FitsAfter source.memory (done source forward state next does) now
done-fits source forward state next (action.Move to from width) before now fits does =
    on-at source.memory next (put state next width to (value_of source.memory state next width from)) now does.0
    (λ s is. put-fits source.memory state s next width to (value_of source.memory state next width from) does.1.0 before now fits
    (λ x known. value-is source.memory state before next width from x does.1.0 fits known does.1.1) is does.1.2)
done-fits source forward state next (action.Compute computation to from width) before now fits does =
    let left = operand_of source.memory state next width to in
    let right = value_of source.memory state next width from in
    on-at source.memory next (put state next width to (computed_of computation width left right)) now does.0
    (λ s is. put-fits source.memory state s next width to (computed_of computation width left right)
    (low width (computed computation does.1.0 does.1.1)) before now fits
    (λ x known. computed-is computation width left right does.1.0 does.1.1 x
    (λ k same. operand-is source.memory state before next width to k does.1.0 fits same does.1.2)
    (λ k same. value-is source.memory state before next width from k does.1.1 fits same does.1.3) known) is does.1.4)
done-fits source forward state next (action.Push from) before now fits does =
    let word = value_of source.memory state next Eight from in
    on-at source.memory next (pushed state word) now does.0
    (λ s is. pushed-fits source.memory state s (word_of state.registers RSP) word does.1.0 before now fits (λ x known. fits.knows 7 x known)
    (λ x known. value-is source.memory state before next Eight from x does.1.0 fits known does.1.1) is does.1.2)
done-fits source forward state next (action.Pop to) before now fits does =
    on-at source.memory next (popped source.memory state next to) now does.0
    (λ s is. popped-fits source.memory state s next to before does.1.0 now fits does.1.1 is does.1.2)
done-fits source forward state next action.Leave before now fits does =
    (at-fits source.memory (leaving source.memory state) next now (leaving-fits source.memory state before now fits does.1), does.0)
done-fits source forward state next (action.Forget registers stored) before now fits does =
    on-at source.memory next (option_map (λ kept. forgotten kept registers.0) (changed state next stored)) now does.0
    (λ s is. forget-fits source.memory state s next registers.0 (changed state next stored) before now
    (λ t kept. changed-fits source.memory state t next stored before now.numbers fits kept does.1) is does.2)
done-fits source forward state next (action.Branch address) before now fits does =
    branched-fits source.memory state forward next (address_of state next address) (address_value before next address) now
    (kept-fits source.memory state before now fits does.registers does.memory)
    (λ x known. address-is state before next address x fits.knows known) does.at
done-fits source forward state next (action.Loop address) before now fits does =
    branched-fits source.memory (counted state) forward next (address_of state next address) (address_value before next address) now
    (counted-fits source.memory state before now fits does.1 does.2)
    (λ x known. address-is state before next address x fits.knows known) does.0
done-fits source forward state next (action.Jump from) before now fits does =
    jumped-fits source.memory state (value_of source.memory state next Eight from) does.0 now
    (kept-fits source.memory state before now fits does.2.registers does.2.memory)
    (λ x known. value-is source.memory state before next Eight from x does.0 fits known does.1) does.2.at
done-fits source forward state next (action.Call from) before now fits does =
    called-fits source state next (value_of source.memory state next Eight from) before now fits does
done-fits source forward state next (action.Return bytes) before now fits does =
    returned-fits source.memory state bytes (word_at source.memory state RSP) before now fits
    (λ x known. word-is source.memory state 7 x before fits known) does.0 does.1 does.2
done-fits source forward state next (action.BranchWithLink from) before now fits does =
    linked-fits source state next (value_of source.memory state next Eight from) before now fits does
done-fits source forward state next (action.ReturnTo register) before now fits does =
    returned-by-fits source.memory state (word_of state.registers register) (before.registers register.0) now
    (kept-fits source.memory state before now fits does.registers does.memory) (λ x known. fits.knows register.0 x known) does.at

-- another action of the same instruction
then-fits : (source : Source) (forward : Bool) (next : ℕ) (action : Option Action) (result : After) (before now : Machine)
    → FitsAfter source.memory result before → DoesThen source forward next action result before now
    → FitsAfter source.memory (then_done source forward next action result) now
then-fits source forward next (Some does) (goes state) before now fits second = done-fits source forward state next does before now fits.0 second
then-fits source forward next (Some does) (returns state) before now fits second = subst (λ (m : Machine). FitsAfter source.memory (returns state) m) (sym second) fits
then-fits source forward next (Some does) given_up before now fits second = tt
then-fits source forward next None result before now fits second = subst (λ (m : Machine). FitsAfter source.memory result m) (sym second) fits

all-fit : (source : Source) (forward : Bool) (state : State) (next : ℕ) (actions : Actions) (before now : Machine)
    → Fits source.memory state before → DoesAll source forward state next actions before now
    → FitsAfter source.memory (all_done source forward state next actions) now
all-fit source forward state next actions before now fits does =
    then-fits source forward next actions.third (then_done source forward next actions.second (done source forward state next actions.first)) does.later now
    (then-fits source forward next actions.second (done source forward state next actions.first) does.middle does.later
    (done-fits source forward state next actions.first before does.middle fits does.first) does.second) does.third

goes-fits : (memory : Memory) (state : State) (sp : Option ℕ) (now : Machine) → Fits memory state now × (now.address ≡ state.address)
    → FitsAfter memory (goes_by state sp) now
goes-fits memory state None now fits = tt
goes-fits memory state (Some sp) now fits = (record { long = fits.0.long; knows = fits.0.knows; remembers = fits.0.remembers }, fits.1)

returns-fits : (memory : Memory) (state : State) (sp : Option ℕ) (now : Machine) → Fits memory state now × (now.address ≡ state.address)
    → FitsAfter memory (returns_by state sp) now
returns-fits memory state None now fits = tt
returns-fits memory state (Some sp) now fits = (record { long = fits.0.long; knows = fits.0.knows; remembers = fits.0.remembers }, fits.1)

checked-fits : (memory : Memory) (convention : Convention) (result : After) (now : Machine) → FitsAfter memory result now
    → FitsAfter memory (checked convention result) now
checked-fits memory convention (goes state) now fits = goes-fits memory state (word_of state.registers (stack_pointer convention)) now fits
checked-fits memory convention (returns state) now fits = returns-fits memory state (word_of state.registers (stack_pointer convention)) now fits
checked-fits memory convention given_up now fits = tt

stepped-fits : (source : Source) (forward : Bool) (state : State) (instruction : Option Instruction) (before now : Machine)
    → Fits source.memory state before → DoesAt source forward state instruction before now
    → FitsAfter source.memory (stepped source forward state instruction) now
stepped-fits source forward state None before now fits does = absurd does
stepped-fits source forward state (Some i) before now fits does =
    checked-fits source.memory source.convention (done source forward state (sum state.address i.size) i.action) now
    (done-fits source forward state (sum state.address i.size) i.action before now fits does)

stepped-by-fits : (source : Source) (forward : Bool) (state : State) (actions : Option Actions) (before now : Machine)
    → Fits source.memory state before → DoAt source forward state actions before now
    → FitsAfter source.memory (stepped_by source forward state actions) now
stepped-by-fits source forward state None before now fits does = absurd does
stepped-by-fits source forward state (Some actions) before now fits does =
    checked-fits source.memory source.convention (all_done source forward state (sum state.address 4) actions) now
    (all-fit source forward state (sum state.address 4) actions before now fits does)

step-in-fits : (source : Source) (convention : Convention) (forward : Bool) (state : State) (before now : Machine)
    → Fits source.memory state before → Steps convention source forward state before now
    → FitsAfter source.memory (step_by source forward state (read_at convention (source.code state.address))) now
step-in-fits source X86_64 forward state before now fits steps =
    stepped-fits source forward state (action_at (source.code state.address) 0) before now fits steps
step-in-fits source Aarch64 forward state before now fits steps =
    stepped-by-fits source forward state (actions_at (source.code state.address) 0) before now fits steps

step-fits : (source : Source) (forward : Bool) (state : State) (before now : Machine) → Fits source.memory state before
    → Steps source.convention source forward state before now
    → FitsAfter source.memory (step_of source forward state) now
unfolding step_of
step-fits source forward state before now fits steps =
    step-in-fits source source.convention forward state before now fits steps

-- ---- a run

onward-is : (source : Source) (forward : Bool) (n : ℕ) (state : State)
    → run_from source forward (suc n) state ≡ onward source.convention (run_from source forward n) (step_of source forward state)
unfolding run_from
onward-is source forward n state = refl

nothing-is : (source : Source) (forward : Bool) (state : State) → run_from source forward zero state ≡ None
unfolding run_from
nothing-is source forward state = refl

-- the processor comes to a state that is returned to
pub run-fits : (source : Source) (forward : Bool) (n : ℕ) (state : State) (caller : RunCaller) (before now : Machine)
    → Fits source.memory state before → run_from source forward n state ≡ Some caller → ReturnsTo source forward state before now
    → (last : State) × Fits source.memory last now × (now.address ≡ last.address) × (caller_of source.convention last ≡ caller)
run-fits source forward zero state caller before now fits is run = (let none : None ≡ Some caller = sym (nothing-is source forward state) ∙ is in cc)
run-fits source forward (suc n) state caller before now fits is (arrives s last b m steps does) =
    let there = subst (λ (a : After). FitsAfter source.memory a now) steps (step-fits source forward state before now fits does) in
    let same : Some (caller_of source.convention last) ≡ Some caller = sym (ap (onward source.convention (run_from source forward n)) steps) ∙ sym (onward-is source forward n state) ∙ is in
    (last, there.0, there.1, cc)
run-fits source forward (suc n) state caller before now fits is (goes_on s next b middle m steps does run) =
    let there = subst (λ (a : After). FitsAfter source.memory a middle) steps (step-fits source forward state before middle fits does) in
    run-fits source forward n next caller middle now there.0
    (sym (ap (onward source.convention (run_from source forward n)) steps) ∙ sym (onward-is source forward n state) ∙ is) run
