-- The unwinders after a command, and the notes of its reply.
use Rattle.std.proofs.Common.{◌≡◌, ◌∙◌, ℕ, ◌+◌, ◌-◌, ◌<◌, ◌≤◌, Bool, true, false, List, [], ◌∷◌, ◌++◌, length, drop, get_or, drop-cons, Some, None, Ok, Err, refl, sym, ap, subst, arith, lt-ltb, append_assoc, append-nil, codes, Result, IfOk, OnOk, if◌then◌else◌}
use Rattle.std.proofs.Math.ListN.{drop_of_length-le}
use Rattle.std.specs.Global.{Global}
use Rattle.std.specs.declared.vec.Vec.{Vec}
use Rattle.std.specs.List.{AllZip}
use Rattle.framehop_core.specs.CodeAddress.{location_of, at_instruction_pointer}
use Rattle.framehop_core.specs.declared.code_address.FrameAddress.{FrameAddress}
use Rattle.framehop.specs.CachedWorld.{step_of}
use Rattle.framehop.specs.World.{memory_of}
use Rattle.framehop.specs.declared.session.commands.Memory.{Memory as StackWords}
use Rattle.framehop_explain.specs.Callers.{frames_from}
use Rattle.framehop_explain.specs.FrameNotes.{IsFrameNote, AddsNote, AddsNotes}
use Rattle.framehop_explain.specs.FrameText.{name_text}
use Rattle.framehop_explain.specs.Note.{note_line}
use Rattle.framehop_explain.specs.SourceText.{hexadecimal}
use Rattle.std.specs.Str.{bytes_eq}
use Rattle.std.proofs.lemmas.Slice.Eq.{bytes_eq-Decides}
use Rattle.serde_json.specs.Find.{as_str, as_array}
use Rattle.framehop.specs.Aarch64.{aarch64}
use Rattle.framehop.specs.Policy.{Policy, with_allocation, without_allocation}
use Rattle.framehop.specs.X86_64.{x86_64}
use Rattle.framehop_explain.specs.Architectures.{explaining_aarch64, explaining_x86_64}
use Rattle.framehop_walk.specs.Answers.{policy_called, arch_called, read_policy, read_arch}
use Rattle.framehop_walk.specs.Fields.{field_as, required}
use Rattle.framehop_walk.specs.Refusals.{and_then}
use Rattle.framehop_walk.specs.Registers.{read_aarch64, read_x86_64}
use Rattle.framehop_walk.specs.declared.program.Arch.TheVariants.{Aarch64, X86_64}
use Rattle.serde_json.specs.Data.{Data, Items, no_items, item}
use Rattle.serde_json.specs.View.{view, items_view}
use Rattle.serde_json.specs.declared.value.Value.{Value}
use Rattle.framehop.specs.Unwinding.{Unwinding}
use Rattle.framehop_explain.specs.Found.{Explaining}
use Rattle.framehop_walk.specs.Commands.{Written}
use Rattle.framehop_walk.specs.Program.{read_next}
use Rattle.framehop_walk.specs.Refusals.{Reading}
use Rattle.framehop.specs.Modules.{ModuleView, UnwinderView}
use Rattle.framehop.specs.declared.session.commands.Command.{Command}
use Rattle.framehop.specs.declared.session.commands.Command.TheVariants.{Step, Walk}
use Rattle.framehop_explain_cli.specs.SessionNotes.{Unwinders, unwinder_at, IsAccepted, IsNoted, AreNotesBy, AreNotesOf, AreNotesIn, AreNotesUnder, AreNotesOn, AreSessionNotes, module_line, base_lines}
use Rattle.framehop_explain_cli.specs.Remarks.{remark_line, remark_lines, remark_on, lines_among}
use Rattle.framehop_explain.specs.declared.kind.UnwindDataKind.{UnwindDataKind}

-- ---- the commands of the input, one after another

module _ {R S : Type 0} (registers : Data → Reading S) (explaining : Explaining R S) (unwinding : Unwinding R S) (All : List (List ℕ) → Type 0) where
  -- with the notes of these items from a state on, the notes so far are all
  abbrev pub Left : Items → Unwinders → List (List ℕ) → Type 0
  Left items state before = (others : List (List ℕ)) → AreNotesOf registers explaining unwinding items state others → All (before ++ others)

  by-reading : (fields : Data) (reading : Reading (List ℕ × Written S)) (rest : Items) (command : Command (Vec ℕ Global) S) (state new : Unwinders) (before after others : List (List ℕ))
      → IsAccepted reading (Some command) → IsNoted explaining unwinding fields command state new before after
      → AreNotesOf registers explaining unwinding rest new others
      → (first : List (List ℕ)) × AreNotesBy registers explaining unwinding fields state (AreNotesOf registers explaining unwinding rest) reading (first ++ others) × (after ≡ before ++ first)
  by-reading fields reading rest command state new before after others accepted noted left =
      let P : Reading (List ℕ × Written S) → Type 0 = λ r. AreNotesBy registers explaining unwinding fields state (AreNotesOf registers explaining unwinding rest) r (noted.notes ++ others) in
      let Q : Unwinders → Type 0 = λ s. AreNotesOf registers explaining unwinding rest s others in
      (noted.notes, subst P (sym accepted.1) (command, noted.notes, others, accepted.2, noted.are, subst Q noted.state left, refl), noted.grown)

  pub next-noted : (items rest : Items) (fields : Data) (command : Command (Vec ℕ Global) S) (state new : Unwinders) (before after : List (List ℕ))
      → items ≡ item fields rest → IsAccepted (read_next registers [] fields) (Some command)
      → IsNoted explaining unwinding fields command state new before after → Left items state before → Left rest new after
  unfolding AreNotesOf
  next-noted items rest fields command state new before after is accepted noted left = λ others are.
      let made = by-reading fields (read_next registers [] fields) rest command state new before after others accepted noted are in
      let P : Items → Type 0 = λ these. AreNotesOf registers explaining unwinding these state (made.0 ++ others) in
      let whole = left (made.0 ++ others) (subst P (sym is) made.1) in
      subst All (sym (append_assoc before made.0 others) ∙ ap (λ notes. notes ++ others) (sym made.2)) whole

  pub refused-noted : (items rest : Items) (fields : Data) (state : Unwinders) (before : List (List ℕ))
      → items ≡ item fields rest → IsAccepted (read_next registers [] fields) None → Left items state before → All before
  unfolding AreNotesOf
  refused-noted items rest fields state before is refused left =
      let P : Reading (List ℕ × Written S) → Type 0 = λ r. AreNotesBy registers explaining unwinding fields state (AreNotesOf registers explaining unwinding rest) r [] in
      let Q : Items → Type 0 = λ these. AreNotesOf registers explaining unwinding these state [] in
      subst All (append-nil before) (left [] (subst Q (sym is) (subst P (sym refused.1) refl)))

  pub all-noted : (items : Items) (state : Unwinders) (before : List (List ℕ)) → items ≡ no_items → Left items state before → All before
  unfolding AreNotesOf
  all-noted items state before none left =
      let Q : Items → Type 0 = λ these. AreNotesOf registers explaining unwinding these state [] in
      subst All (append-nil before) (left [] (subst Q (sym none) refl))

-- the items from one on
pub items-more : (values : List Value) (i : ℕ) (value : Value) → i < length values → value ≡ get_or values i value
    → items_view (drop i values) ≡ item (view value) (items_view (drop (i + 1) values))
items-more values i value within is =
    let next : drop i values ≡ value ∷ drop (i + 1) values = grind (arith, drop-cons) in
    ap items_view next

pub items-end : (values : List Value) (i : ℕ) → length values ≤ i → items_view (drop i values) ≡ no_items
items-end values i past = ap items_view (drop_of_length-le values past)

-- ---- the policy and the architecture that the input names

false-by : (b : Bool) → (b ≡ true → ⊥) → b ≡ false
false-by true never = absurd (never refl)
false-by false never = refl

differs : (xs ys : List ℕ) → (xs ≡ ys → ⊥) → bytes_eq xs ys ≡ false
differs xs ys never = let d = bytes_eq-Decides xs ys in false-by (bytes_eq xs ys) (λ same. never (d.0 same))

module _ {R S : Type 0} (registers : Data → Reading S) (explaining : Policy → Explaining R S) (unwinding : Policy → Unwinding R S) (fields : Data) (notes : List (List ℕ)) where
  abbrev pub Under : Policy → Type 0
  Under policy = AreNotesIn registers (explaining policy) (unwinding policy) (field_as as_array (codes "commands") fields) notes

  pub under-may : field_as as_str (codes "policy") fields ≡ Ok (codes "may") → Under with_allocation
      → AreNotesUnder registers explaining unwinding fields (read_policy fields) notes
  unfolding read_policy
  under-may is are = rw is are

  by-policy : (name : List ℕ) (may must : Bool) → may ≡ false → Under without_allocation
      → AreNotesUnder registers explaining unwinding fields (required (codes "policy") (if may then Some with_allocation else if must then Some without_allocation else None)) notes
  by-policy name true must not are = absurd cc
  by-policy name false true not are = are
  by-policy name false false not are = tt

  by-policy-field : (reading : Reading (List ℕ)) → (reading ≡ Ok (codes "may") → ⊥) → Under without_allocation
      → AreNotesUnder registers explaining unwinding fields (and_then reading (λ name. required (codes "policy") (policy_called name))) notes
  by-policy-field (Err refusal) not are = tt
  by-policy-field (Ok name) not are =
      by-policy name (bytes_eq name (codes "may")) (bytes_eq name (codes "must")) (differs name (codes "may") (λ same. not (ap Ok same))) are

  pub under-other : (field_as as_str (codes "policy") fields ≡ Ok (codes "may") → ⊥) → Under without_allocation
      → AreNotesUnder registers explaining unwinding fields (read_policy fields) notes
  unfolding read_policy
  under-other not are = by-policy-field (field_as as_str (codes "policy") fields) not are

module _ (fields : Data) (notes : List (List ℕ)) where
  abbrev pub OnAarch64 : Type 0
  OnAarch64 = AreNotesUnder read_aarch64 explaining_aarch64 aarch64 fields (read_policy fields) notes

  abbrev pub OnX86_64 : Type 0
  OnX86_64 = AreNotesUnder read_x86_64 explaining_x86_64 x86_64 fields (read_policy fields) notes

  pub on-aarch64 : field_as as_str (codes "arch") fields ≡ Ok (codes "aarch64") → OnAarch64 → AreSessionNotes fields notes
  unfolding AreSessionNotes read_arch
  on-aarch64 is are = rw is are

  by-arch : (name : List ℕ) (a b : Bool) → a ≡ false → OnX86_64
      → AreNotesOn fields (required (codes "arch") (if a then Some Aarch64 else if b then Some X86_64 else None)) notes
  by-arch name true b not are = absurd cc
  by-arch name false true not are = are
  by-arch name false false not are = tt

  by-arch-field : (reading : Reading (List ℕ)) → (reading ≡ Ok (codes "aarch64") → ⊥) → OnX86_64
      → AreNotesOn fields (and_then reading (λ name. required (codes "arch") (arch_called name))) notes
  by-arch-field (Err refusal) not are = tt
  by-arch-field (Ok name) not are =
      by-arch name (bytes_eq name (codes "aarch64")) (bytes_eq name (codes "x86_64")) (differs name (codes "aarch64") (λ same. not (ap Ok same))) are

  pub on-other : (field_as as_str (codes "arch") fields ≡ Ok (codes "aarch64") → ⊥) → OnX86_64 → AreSessionNotes fields notes
  unfolding AreSessionNotes read_arch
  on-other not are = by-arch-field (field_as as_str (codes "arch") fields) not are

-- ---- the notes of steps and walks

abbrev pub unwinders_of : List UnwinderView → ℕ → Unwinders
unwinders_of us next = record { unwinders = us; next = next }

module _ (D : Type 0) {R S : Type 0} (explaining : Explaining R S) (unwinding : Unwinding R S) (fields : Data) (us : List UnwinderView) (next number : ℕ) (within : number < length us) (unwinder : UnwinderView) (is : unwinder ≡ unwinder_at (unwinders_of us next) number) where
  step-noted-so : (cache : ℕ) (address : FrameAddress) (regs : S) (memory : StackWords) (before between after : List (List ℕ))
      → AddsNote (IsFrameNote explaining unwinder.modules (memory_of memory) (location_of address) regs) before between → after ≡ between ++ [] ∷ []
      → IsNoted {D = D} explaining unwinding fields (Step number cache address regs memory) (unwinders_of us next) (unwinders_of us next) before after
  step-noted-so cache address regs memory before between after noted ended =
      let P : UnwinderView → Type 0 = λ u. IsFrameNote explaining u.modules (memory_of memory) (location_of address) regs noted.0 in
      record {
        notes = noted.0 ∷ [] ∷ [];
        are = rw (lt-ltb number (length us) within) (noted.0, subst P is noted.1, refl);
        grown = ended ∙ ap (λ notes. notes ++ [] ∷ []) noted.2 ∙ append_assoc before (noted.0 ∷ []) ([] ∷ []);
        state = refl;
      }

  walk-noted-so : (cache pc : ℕ) (regs : S) (memory : StackWords) (limit : ℕ) (before between after : List (List ℕ))
      → AddsNotes (IsFrameNote explaining unwinder.modules (memory_of memory)) (frames_from (step_of unwinding unwinder (memory_of memory)) limit (Some (at_instruction_pointer pc, regs))) before between
      → after ≡ between ++ [] ∷ [] ∷ []
      → IsNoted {D = D} explaining unwinding fields (Walk number cache pc regs memory limit) (unwinders_of us next) (unwinders_of us next) before after
  walk-noted-so cache pc regs memory limit before between after noted ended =
      let P : UnwinderView → Type 0 = λ u. AllZip (λ frame note. IsFrameNote explaining u.modules (memory_of memory) frame.0 frame.1 note) (frames_from (step_of unwinding u (memory_of memory)) limit (Some (at_instruction_pointer pc, regs))) noted.0 in
      record {
        notes = noted.0 ++ [] ∷ [] ∷ [];
        are = rw (lt-ltb number (length us) within) (noted.0, subst P is noted.1, refl);
        grown = ended ∙ ap (λ notes. notes ++ [] ∷ [] ∷ []) noted.2 ∙ append_assoc before noted.0 ([] ∷ [] ∷ []);
        state = refl;
      }

  pub step-noted : {E : Type 0} (r : Result (Unit {0}) E) (cache : ℕ) (address : FrameAddress) (regs : S) (memory : StackWords) (before between after : List (List ℕ))
      → AddsNote (IsFrameNote explaining unwinder.modules (memory_of memory) (location_of address) regs) before between → OnOk r (after ≡ between ++ [] ∷ [])
      → OnOk r (IsNoted {D = D} explaining unwinding fields (Step number cache address regs memory) (unwinders_of us next) (unwinders_of us next) before after)
  step-noted (Ok done) cache address regs memory before between after noted ended = step-noted-so cache address regs memory before between after noted ended
  step-noted (Err error) cache address regs memory before between after noted ended = tt

  pub walk-noted : {E : Type 0} (r : Result (Unit {0}) E) (cache pc : ℕ) (regs : S) (memory : StackWords) (limit : ℕ) (before between after : List (List ℕ))
      → AddsNotes (IsFrameNote explaining unwinder.modules (memory_of memory)) (frames_from (step_of unwinding unwinder (memory_of memory)) limit (Some (at_instruction_pointer pc, regs))) before between
      → OnOk r (after ≡ between ++ [] ∷ [] ∷ [])
      → OnOk r (IsNoted {D = D} explaining unwinding fields (Walk number cache pc regs memory limit) (unwinders_of us next) (unwinders_of us next) before after)
  walk-noted (Ok done) cache pc regs memory limit before between after noted ended = walk-noted-so cache pc regs memory limit before between after noted ended
  walk-noted (Err error) cache pc regs memory limit before between after noted ended = tt

-- ---- the note of a module

pub lined : (m : ModuleView) (note none text line name shown unwind_data : List ℕ) → note ≡ none ++ note_line text → none ≡ [] → text ≡ line
    → line ≡ name ++ (codes ": " ++ shown) → shown ≡ unwind_data → name ≡ name_text m.name → note ≡ module_line m unwind_data
lined m note none text line name shown unwind_data is empty same formatted told named =
    is ∙ ap (λ n. n ++ note_line text) empty
    ∙ ap note_line (same ∙ formatted ∙ ap (λ t. name ++ (codes ": " ++ t)) told ∙ ap (λ n. n ++ (codes ": " ++ unwind_data)) named)

pub based : (m : ModuleView) (start base : ℕ) (note more shown text : List ℕ) → start ≡ m.start → base ≡ m.base_avma → start < base
    → more ≡ note ++ remark_line shown → shown ≡ text
    → text ≡ codes "the base 0x" ++ (hexadecimal base ++ (codes " is above the start 0x" ++ (hexadecimal start ++ codes ": addresses below the base are not covered")))
    → more ≡ note ++ base_lines m
based m start base note more shown text starts bases above is same formatted =
    let higher : m.start < m.base_avma = omega (arith, starts, bases) in
    let told : ℕ → ℕ → List ℕ = λ b s. codes "the base 0x" ++ (hexadecimal b ++ (codes " is above the start 0x" ++ (hexadecimal s ++ codes ": addresses below the base are not covered"))) in
    rw (lt-ltb m.start m.base_avma higher)
    (is ∙ ap (λ t. note ++ remark_line t) (same ∙ formatted ∙ ap (λ b. told b start) bases ∙ ap (λ s. told m.base_avma s) starts))

-- the remarks on a list of sections, one section at a time
abbrev pub left_among : UnwindDataKind → List ℕ → List Value → List ℕ
left_among kind note sections = note ++ lines_among kind (items_view sections)

pub section-noted : (kind : UnwindDataKind) (sections : List Value) (i : ℕ) (section : Value) (note more : List ℕ) → i < length sections → section ≡ get_or sections i section
    → more ≡ note ++ remark_lines (remark_on kind (view section)) → left_among kind more (drop (i + 1) sections) ≡ left_among kind note (drop i sections)
section-noted kind sections i section note more within is grown =
    let others = lines_among kind (items_view (drop (i + 1) sections)) in
    ap (λ text. text ++ others) grown ∙ append_assoc note (remark_lines (remark_on kind (view section))) others
    ∙ ap (λ items. note ++ lines_among kind items) (sym (items-more sections i section within is))

pub sections-noted : (kind : UnwindDataKind) (sections : List Value) (i : ℕ) (note : List ℕ) → length sections ≤ i → left_among kind note (drop i sections) ≡ note
sections-noted kind sections i note past = ap (λ items. note ++ lines_among kind items) (items-end sections i past) ∙ append-nil note

-- ---- before the first command

module _ {R S : Type 0} (registers : Data → Reading S) (explaining : Explaining R S) (unwinding : Unwinding R S) where
  pub begun : (items : Items) (us : List UnwinderView) (next : ℕ) (before : List (List ℕ)) → us ≡ [] → next ≡ 0 → before ≡ []
      → Left registers explaining unwinding (λ notes. AreNotesOf registers explaining unwinding items (record { unwinders = []; next = 0 }) notes) items (record { unwinders = us; next = next }) before
  begun items us next before none zero-next empty = λ others are.
      let P : List UnwinderView → Type 0 = λ u. AreNotesOf registers explaining unwinding items (record { unwinders = u; next = next }) others in
      let Q : ℕ → Type 0 = λ n. AreNotesOf registers explaining unwinding items (record { unwinders = []; next = n }) others in
      let W : List (List ℕ) → Type 0 = λ b. AreNotesOf registers explaining unwinding items (record { unwinders = []; next = 0 }) (b ++ others) in
      subst W (sym empty) (subst Q zero-next (subst P none are))

-- ---- by the policy and the architecture, where memory has not run out

module _ {R S E : Type 0} (registers : Data → Reading S) (explaining : Policy → Explaining R S) (unwinding : Policy → Unwinding R S) (fields : Data) where
  pub under-may-ok : (r : Result (Vec (List ℕ) Global) E) → field_as as_str (codes "policy") fields ≡ Ok (codes "may")
      → IfOk r (λ notes. Under registers explaining unwinding fields notes.items with_allocation)
      → IfOk r (λ notes. AreNotesUnder registers explaining unwinding fields (read_policy fields) notes.items)
  under-may-ok (Ok notes) is are = under-may registers explaining unwinding fields notes.items is are
  under-may-ok (Err error) is are = tt

  pub under-other-ok : (r : Result (Vec (List ℕ) Global) E) → (field_as as_str (codes "policy") fields ≡ Ok (codes "may") → ⊥)
      → IfOk r (λ notes. Under registers explaining unwinding fields notes.items without_allocation)
      → IfOk r (λ notes. AreNotesUnder registers explaining unwinding fields (read_policy fields) notes.items)
  under-other-ok (Ok notes) not are = under-other registers explaining unwinding fields notes.items not are
  under-other-ok (Err error) not are = tt

module _ {E : Type 0} (fields : Data) where
  pub on-aarch64-ok : (r : Result (Vec (List ℕ) Global) E) → field_as as_str (codes "arch") fields ≡ Ok (codes "aarch64")
      → IfOk r (λ notes. OnAarch64 fields notes.items) → IfOk r (λ notes. AreSessionNotes fields notes.items)
  on-aarch64-ok (Ok notes) is are = on-aarch64 fields notes.items is are
  on-aarch64-ok (Err error) is are = tt

  pub on-other-ok : (r : Result (Vec (List ℕ) Global) E) → (field_as as_str (codes "arch") fields ≡ Ok (codes "aarch64") → ⊥)
      → IfOk r (λ notes. OnX86_64 fields notes.items) → IfOk r (λ notes. AreSessionNotes fields notes.items)
  on-other-ok (Ok notes) not are = on-other fields notes.items not are
  on-other-ok (Err error) not are = tt
