-- The numbers of frames as their names are met, the stacks of each thread, and that a file of speedscope has no number with a
-- point: so its text is known.
use denote.Ref.{Bor}
use Rattle.std.proofs.Common.{◌≡◌, ◌≢◌, ℕ, suc, ◌+◌, ◌<◌, ◌≤◌, Bool, true, false, ◌||◌, nat_eq, nat_lt, cond, eqb, not, List, [], ◌∷◌, ◌++◌, length, map, take, slice_index_or, refl, ap, sym, ◌∙◌, subst, arith}
use Rattle.std.proofs.lemmas.Bool.Decides.{nat_tests}
use Rattle.std.proofs.lemmas.List.{append-nil, length_push, length-map, map-append, take_more}
use Rattle.std.proofs.lemmas.List.Elements.{filter-append}
use Rattle.std.proofs.lemmas.List.Folds.{position_or_len_push}
use Rattle.std.proofs.lemmas.List.Sums.{prefix_len-le-length}
use Rattle.std.proofs.lemmas.Map.Text.{btree_map_updates_str, is_eq-slice_cmp}
use Rattle.std.specs.BTreeMap.{BTreeMap, IsOrdered, UpdatesBy, get, get_by, insert_entry}
use Rattle.std.specs.Cmp.Lexicographic.{pointwise, slice_cmp, same_text, other_text}
use Rattle.std.specs.Global.{Global}
use Rattle.std.specs.List.{All, AllByRecursion, filter, list_any, position, position_or_len}
use Rattle.std.specs.List.Sorted.{IsStrictlySortedBy}
use Rattle.std.specs.Map.{keys_of, lookup}
use Rattle.std.specs.Ordering.{is_eq, nat_cmp}
use Rattle.std.specs.Prelude.{Option, Some, None, is_some, option_map, unwrap_or, Result, Ok, Err, IfOk}
use Rattle.std.specs.declared.cmp.Ordering.{Ordering}
use Rattle.std.specs.declared.cmp.Ordering.TheVariants.{Less}
use Rattle.std.specs.declared.vec.Vec.{Vec}
use Rattle.serde_json.specs.Data.{Data}
use Rattle.serde_json.specs.View.{view, items_of}
use Rattle.serde_json.specs.Written.{compact_text, has_float, items_have_float}
use Rattle.serde_json.specs.declared.value.Value.{Value}
use Rattle.framehop_folded.specs.Laws.{by_items, is_line, lookup-insert_other}
use Rattle.framehop_folded.specs.Speedscope.{AreByThread, AreFrames, AreThreadProfiles, AreThreads, IsFileByThread, StackView, file_data, file_of, file_with, frame_data, names_among, number_data, number_in, names_of, profile_data, sample_data, some_of, stack_view, stacks_in, thread_profiles, with_name}
use Rattle.framehop_folded.specs.declared.speedscope.Frames.{Frames}
use Rattle.framehop_folded.specs.declared.speedscope.Stack.{Stack}

-- ---- numbers

push_true : (n L : ℕ) → n ≤ L → cond (nat_lt (cond (eqb n L) (L + 0) n) (L + 1)) (Some (cond (eqb n L) (L + 0) n)) None ≡ cond (nat_lt n L) (Some n) (Some L)
push_true n L le = grind (arith, nat_tests)

push_false : (n L : ℕ) → n ≤ L → cond (nat_lt (cond (eqb n L) (L + 1) n) (L + 1)) (Some (cond (eqb n L) (L + 1) n)) None ≡ cond (nat_lt n L) (Some n) None
push_false n L le = grind (arith, nat_tests)

within : {X : Type 0} (p : X → Bool) (xs : List X) → position_or_len p xs ≤ length xs
within p xs = prefix_len-le-length (λ x. not (p x)) xs

abbrev found_below : ℕ → ℕ → Option ℕ
found_below n most = cond (nat_lt n most) (Some n) None

pushed : {X : Type 0} (p : X → Bool) (xs : List X) (y : X) → position p (xs ++ y ∷ [])
    ≡ found_below (cond (eqb (position_or_len p xs) (length xs)) (length xs + cond (p y) 0 1) (position_or_len p xs)) (length xs + 1)
pushed p xs y =
    ap (λ n. found_below n (length (xs ++ y ∷ []))) (position_or_len_push p xs y)
    ∙ ap (found_below (cond (eqb (position_or_len p xs) (length xs)) (length xs + cond (p y) 0 1) (position_or_len p xs))) (length_push xs y)

hit : {X : Type 0} (p : X → Bool) (xs : List X) (y : X) → p y ≡ true → position p (xs ++ y ∷ []) ≡ cond (nat_lt (position_or_len p xs) (length xs)) (Some (position_or_len p xs)) (Some (length xs))
hit p xs y is = pushed p xs y ∙ rw is (push_true (position_or_len p xs) (length xs) (within p xs))

miss : {X : Type 0} (p : X → Bool) (xs : List X) (y : X) → p y ≡ false → position p (xs ++ y ∷ []) ≡ position p xs
miss p xs y is = pushed p xs y ∙ rw is (push_false (position_or_len p xs) (length xs) (within p xs))

last_of : (b : Bool) (n L : ℕ) → is_some (cond b (Some n) None) ≡ false → cond b (Some n) (Some L) ≡ Some L
last_of true n L h = cc
last_of false n L h = refl

is_itself : (name : List ℕ) (b : Bool) → b ≡ pointwise nat_eq name name → pointwise nat_eq name name ≡ true
is_itself name true e = sym e
is_itself name false e = absurd (other_text name name e refl)

is_other : (one name : List ℕ) → one ≢ name → (b : Bool) → b ≡ pointwise nat_eq one name → pointwise nat_eq one name ≡ false
is_other one name ne true e = absurd (ne (same_text one name e))
is_other one name ne false e = sym e

number-new : (names : List (List ℕ)) (name : List ℕ) → is_some (number_in names name) ≡ false → number_in (names ++ name ∷ []) name ≡ Some (length names)
number-new names name absent =
    hit (λ one. pointwise nat_eq one name) names name (is_itself name (pointwise nat_eq name name) refl)
    ∙ last_of (nat_lt (position_or_len (λ one. pointwise nat_eq one name) names) (length names))
    (position_or_len (λ one. pointwise nat_eq one name) names) (length names) absent

number-other : (names : List (List ℕ)) (name other : List ℕ) → name ≢ other → number_in (names ++ name ∷ []) other ≡ number_in names other
number-other names name other ne =
    miss (λ one. pointwise nat_eq one other) names name (is_other name other ne (pointwise nat_eq name other) refl)

-- ---- frames

pub with_name-new : (names : List (List ℕ)) (name : List ℕ) → is_some (number_in names name) ≡ false → with_name names name ≡ names ++ name ∷ []
unfolding with_name
with_name-new names name absent = rw absent refl

pub count_of : (names : List (List ℕ)) (frames : Frames) → AreFrames names frames → length frames.list.items ≡ length names
count_of names frames are =
    sym (length-map frames.list.items view) ∙ ap length are.list ∙ length-map names frame_data

module _ (names : List (List ℕ)) (name : List ℕ) (old new : Frames) (key : Vec ℕ Global) (frame : Value) (number : ℕ)
    (are : AreFrames names old) (absent : is_some (number_in names name) ≡ false) (keyed : key.items ≡ name)
    (counted : number ≡ length names) (entries : new.numbers.entries ≡ insert_entry by_items old.numbers.entries key number)
    (found : get_by (λ k. slice_cmp nat_cmp key.items k.items) new.numbers ≡ Some number)
    (pushed : new.list.items ≡ old.list.items ++ frame ∷ []) (framed : view frame ≡ frame_data name) where
  map_push : {A B : Type 0} (f : A → B) (xs : List A) (x : A) → map f (xs ++ x ∷ []) ≡ map f xs ++ f x ∷ []
  map_push f [] x = refl
  map_push f (y ∷ ys) x = ap (λ zs. f y ∷ zs) (map_push f ys x)

  at_name : get_by (λ k. slice_cmp nat_cmp name k.items) new.numbers ≡ number_in (names ++ name ∷ []) name
  at_name = subst (λ one. get_by (λ k. slice_cmp nat_cmp one k.items) new.numbers ≡ Some number) keyed found
      ∙ ap Some counted ∙ sym (number-new names name absent)

  at_other : (other : List ℕ) → name ≢ other → get_by (λ k. slice_cmp nat_cmp other k.items) new.numbers ≡ number_in (names ++ name ∷ []) other
  at_other other ne =
      ap (lookup (is_line other)) entries
      ∙ lookup-insert_other other key number (λ e. ne (sym keyed ∙ sym e)) old.numbers.entries
      ∙ are.numbers other ∙ sym (number-other names name other ne)

  at_each : (other : List ℕ) (b : Bool) → b ≡ pointwise nat_eq name other
      → get_by (λ k. slice_cmp nat_cmp other k.items) new.numbers ≡ number_in (names ++ name ∷ []) other
  at_each other true e =
      subst (λ one. get_by (λ k. slice_cmp nat_cmp one k.items) new.numbers ≡ number_in (names ++ name ∷ []) one) (same_text name other e) at_name
  at_each other false e = at_other other (other_text name other e)

  pub added : AreFrames (with_name names name) new
  added = subst (λ all. AreFrames all new) (sym (with_name-new names name absent)) (record {
    numbers = λ other. at_each other (pointwise nat_eq name other) refl;
    list = ap (map view) pushed ∙ map_push view old.list.items frame ∙ ap (λ all. all ++ view frame ∷ []) are.list
        ∙ ap (λ one. map frame_data names ++ one ∷ []) framed ∙ sym (map_push frame_data names name);
  })

-- ---- the stacks of each thread

abbrev by_now : Bor (List ℕ) → Bor (List ℕ) → Ordering
by_now x y = slice_cmp nat_cmp x.now y.now

abbrev at_thread : BTreeMap (Bor (List ℕ)) (Vec Stack Global) → List ℕ → Option (Vec Stack Global)
at_thread by_thread thread = get_by (λ key. slice_cmp nat_cmp thread key.now) by_thread

abbrev pub viewed : Vec Stack Global → List StackView
viewed stacks = map stack_view stacks.items

some-push : (stacks : List StackView) (one : StackView) → some_of (stacks ++ one ∷ []) ≡ Some (stacks ++ one ∷ [])
some-push [] one = refl
some-push (stack ∷ stacks) one = refl

some-or : (stacks : List StackView) → unwrap_or (some_of stacks) [] ≡ stacks
some-or [] = refl
some-or (stack ∷ stacks) = refl

or-none : (before : Option (Vec Stack Global)) (none : Vec Stack Global) → none.items ≡ []
    → viewed (unwrap_or before none) ≡ unwrap_or (option_map viewed before) []
or-none (Some stacks) none is = refl
or-none None none is = ap (map stack_view) is

module _ (stacks : List StackView) (stack : Stack) (old rest new : BTreeMap (Bor (List ℕ)) (Vec Stack Global))
    (before : Option (Vec Stack Global)) (none begun found : Vec Stack Global)
    (are : AreByThread stacks old) (value : before ≡ at_thread old stack.profile.now)
    (removed : UpdatesBy by_now (λ key. slice_cmp nat_cmp stack.profile.now key.now) old rest None)
    (empty : none.items ≡ []) (begins : begun ≡ unwrap_or before none) (pushed : found.items ≡ begun.items ++ stack ∷ [])
    (inserted : UpdatesBy by_now (λ key. slice_cmp nat_cmp stack.profile.now key.now) rest new (Some found)) where
  abbrev own_thread : List ℕ
  own_thread = stack.profile.now

  abbrev added_view : StackView
  added_view = stack_view stack

  abbrev is_of : List ℕ → StackView → Bool
  is_of thread stack = pointwise nat_eq stack.profile thread

  seen : viewed found ≡ unwrap_or (option_map viewed (at_thread old own_thread)) [] ++ added_view ∷ []
  seen =
      ap (map stack_view) pushed ∙ map-append stack_view begun.items (stack ∷ [])
      ∙ ap (λ all. all ++ added_view ∷ []) (ap viewed begins ∙ or-none before none empty ∙ ap (λ some. unwrap_or (option_map viewed some) []) value)

  at_own : option_map viewed (at_thread new own_thread) ≡ some_of (stacks_in own_thread (stacks ++ added_view ∷ []))
  at_own =
      let mine : is_of own_thread added_view ≡ true = is_itself own_thread (pointwise nat_eq own_thread own_thread) refl in
      let put : at_thread new own_thread ≡ Some found =
      btree_map_updates_str own_thread rest new (Some found) inserted own_thread ∙ ap (λ b. cond b (Some found) (at_thread rest own_thread)) mine in
      let others : unwrap_or (option_map viewed (at_thread old own_thread)) [] ≡ stacks_in own_thread stacks =
      ap (λ some. unwrap_or some []) (are own_thread) ∙ some-or (stacks_in own_thread stacks) in
      ap (option_map viewed) put ∙ ap Some seen ∙ ap (λ all. Some (all ++ added_view ∷ [])) others
      ∙ sym (some-push (stacks_in own_thread stacks) added_view)
      ∙ ap (λ b. some_of (stacks_in own_thread stacks ++ cond b (added_view ∷ []) [])) (sym mine)
      ∙ ap some_of (sym (filter-append (is_of own_thread) stacks (added_view ∷ [])))

  at_others : (thread : List ℕ) → is_of thread added_view ≡ false → option_map viewed (at_thread new thread) ≡ some_of (stacks_in thread (stacks ++ added_view ∷ []))
  at_others thread other =
      let put : at_thread new thread ≡ at_thread rest thread =
      btree_map_updates_str own_thread rest new (Some found) inserted thread ∙ ap (λ b. cond b (Some found) (at_thread rest thread)) other in
      let kept : at_thread rest thread ≡ at_thread old thread =
      btree_map_updates_str own_thread old rest None removed thread ∙ ap (λ b. cond b None (at_thread old thread)) other in
      let all : stacks_in thread (stacks ++ added_view ∷ []) ≡ stacks_in thread stacks =
      filter-append (is_of thread) stacks (added_view ∷ []) ∙ ap (λ b. stacks_in thread stacks ++ cond b (added_view ∷ []) []) other
      ∙ append-nil (stacks_in thread stacks) in
      ap (option_map viewed) (put ∙ kept) ∙ are thread ∙ ap some_of (sym all)

  at_thread-each : (thread : List ℕ) (b : Bool) → b ≡ is_of thread added_view
      → option_map viewed (at_thread new thread) ≡ some_of (stacks_in thread (stacks ++ added_view ∷ []))
  at_thread-each thread true e =
      subst (λ it. option_map viewed (at_thread new it) ≡ some_of (stacks_in it (stacks ++ added_view ∷ []))) (same_text own_thread thread e) at_own
  at_thread-each thread false e = at_others thread (sym e)

  pub stack_added : AreByThread (stacks ++ added_view ∷ []) new
  stack_added thread = at_thread-each thread (is_of thread added_view) refl

pub views-more : (stacks : List Stack) (i : ℕ) (d : Stack) → i < length stacks
    → map stack_view (take (i + 1) stacks) ≡ map stack_view (take i stacks) ++ stack_view (slice_index_or stacks i d) ∷ []
views-more stacks i d below =
    ap (map stack_view) (take_more stacks i d below) ∙ map-append stack_view (take i stacks) (slice_index_or stacks i d ∷ [])

-- ---- the profile of each thread

abbrev pub profile_of : List (List ℕ) → Bor (List ℕ) × Vec Stack Global → Data
profile_of names entry = profile_data names entry.0.now (viewed entry.1)

abbrev names_in : List (Bor (List ℕ) × Vec Stack Global) → List (List ℕ)
names_in entries = map (λ entry. entry.0.now) entries

all-below : (first : Bor (List ℕ)) (entries : List (Bor (List ℕ) × Vec Stack Global)) → AllByRecursion (λ key. by_now first key ≡ Less) (keys_of entries)
    → AllByRecursion (λ name. slice_cmp nat_cmp first.now name ≡ Less) (names_in entries)
all-below first [] below = tt
all-below first (entry ∷ entries) below = (below.0, all-below first entries below.1)

in-order : (entries : List (Bor (List ℕ) × Vec Stack Global)) → IsStrictlySortedBy by_now (keys_of entries) → IsStrictlySortedBy (slice_cmp nat_cmp) (names_in entries)
unfolding IsStrictlySortedBy
in-order [] sorted = tt
in-order (entry ∷ entries) sorted = (all-below entry.0 entries sorted.0, in-order entries sorted.1)

any-step : (b c : Bool) {X : Type 0} (x : X) (other : Option X) (rest : Bool) → b ≡ c → is_some other ≡ rest → is_some (cond b (Some x) other) ≡ (c || rest)
any-step b true x other rest e same = ap (λ b. is_some (cond b (Some x) other)) e
any-step b false x other rest e same = ap (λ b. is_some (cond b (Some x) other)) e ∙ same

found-any : (thread : List ℕ) (entries : List (Bor (List ℕ) × Vec Stack Global)) → is_some (lookup (λ key. is_eq (slice_cmp nat_cmp thread key.now)) entries)
    ≡ list_any (λ one. pointwise nat_eq thread one) (names_in entries)
found-any thread [] = refl
found-any thread (entry ∷ entries) =
    any-step (is_eq (slice_cmp nat_cmp thread entry.0.now)) (pointwise nat_eq thread entry.0.now) entry.1
    (lookup (λ key. is_eq (slice_cmp nat_cmp thread key.now)) entries) (list_any (λ one. pointwise nat_eq thread one) (names_in entries))
    (is_eq-slice_cmp thread entry.0.now) (found-any thread entries)

some-step : (b : Bool) (stack : StackView) (others : List StackView) (rest : Bool) → is_some (some_of others) ≡ rest
    → is_some (some_of (cond b (stack ∷ others) others)) ≡ (b || rest)
some-step true stack others rest same = refl
some-step false stack others rest same = same

some-any : (test : StackView → Bool) (stacks : List StackView) → is_some (some_of (filter test stacks)) ≡ list_any test stacks
some-any test [] = refl
some-any test (stack ∷ stacks) = some-step (test stack) stack (filter test stacks) (list_any test stacks) (some-any test stacks)

some-map : {X Y : Type 0} (f : X → Y) (some : Option X) → is_some (option_map f some) ≡ is_some some
some-map f (Some x) = refl
some-map f None = refl

module _ (names : List (List ℕ)) (stacks : List StackView) (by_thread : BTreeMap (Bor (List ℕ)) (Vec Stack Global)) (are : AreByThread stacks by_thread) where
  own : (entry : Bor (List ℕ) × Vec Stack Global) → get by_now by_thread entry.0 ≡ Some entry.1 → viewed entry.1 ≡ stacks_in entry.0.now stacks
  own entry found =
      ap (λ some. unwrap_or some []) (sym (ap (option_map viewed) found) ∙ are entry.0.now) ∙ some-or (stacks_in entry.0.now stacks)

  each : (entries : List (Bor (List ℕ) × Vec Stack Global)) → All (λ entry. get by_now by_thread entry.0 ≡ Some entry.1) entries
      → map (profile_of names) entries ≡ thread_profiles names stacks (names_in entries)
  each [] all = refl
  each (entry ∷ entries) all =
      ap (λ profile. profile ∷ map (profile_of names) entries) (ap (profile_data names entry.0.now) (own entry (all 0 entry (omega arith))))
      ∙ ap (λ profiles. profile_data names entry.0.now (stacks_in entry.0.now stacks) ∷ profiles)
      (each entries (λ k d below. all (suc k) d (omega (arith, below))))

  pub are_thread_profiles : IsOrdered by_now by_thread → All (λ entry. get by_now by_thread entry.0 ≡ Some entry.1) by_thread.entries
      → AreThreadProfiles names stacks (map (profile_of names) by_thread.entries)
  are_thread_profiles ordered found = (
    names_in by_thread.entries,
    record {
      ordered = in-order by_thread.entries ordered;
      all = λ thread. sym (found-any thread by_thread.entries) ∙ sym (some-map viewed (at_thread by_thread thread)) ∙ ap is_some (are thread)
          ∙ some-any (λ stack. pointwise nat_eq stack.profile thread) stacks;
    },
    each by_thread.entries found,
  )

-- ---- texts

neither : (a b : Bool) → a ≡ false → b ≡ false → (a || b) ≡ false
neither a b first second = ap (λ some. some || b) first ∙ second

items-none : {A : Type 0} (value : A → Data) → ((x : A) → has_float (value x) ≡ false) → (xs : List A) → items_have_float (items_of (map value xs)) ≡ false
items-none value none [] = refl
items-none value none (x ∷ xs) = neither _ _ (none x) (items-none value none xs)

sample-none : (names : List (List ℕ)) (frames : List ℕ) → has_float (sample_data names frames) ≡ false
sample-none names frames = items-none (λ name. number_data (unwrap_or (number_in names name) 0)) (λ name. refl) (names_of frames)

profile-none : (names : List (List ℕ)) (name : List ℕ) (stacks : List StackView) → has_float (profile_data names name stacks) ≡ false
profile-none names name stacks =
    neither _ _ (items-none (λ stack. sample_data names stack.frames) (λ stack. sample-none names stack.frames) stacks)
    (neither _ _ (items-none (λ stack. number_data stack.count) (λ stack. refl) stacks) refl)

data-none : (title : List ℕ) (names : List (List ℕ)) (profiles : List Data) → items_have_float (items_of profiles) ≡ false
    → has_float (file_data title names profiles) ≡ false
data-none title names profiles none =
    neither _ _ none (neither _ _ (neither _ _ (items-none frame_data (λ name. refl) names) refl) refl)

pub file-none : (title : List ℕ) (stacks : List StackView) → has_float (file_of title stacks) ≡ false
file-none title stacks =
    data-none title (names_among [] stacks) (profile_data (names_among [] stacks) title stacks ∷ [])
    (neither _ _ (profile-none (names_among [] stacks) title stacks) refl)

file_with-none : (title : List ℕ) (stacks : List StackView) (threads : List (List ℕ)) → has_float (file_with title stacks threads) ≡ false
file_with-none title stacks threads =
    data-none title (names_among [] stacks) (thread_profiles (names_among [] stacks) stacks threads)
    (items-none (λ thread. profile_data (names_among [] stacks) thread (stacks_in thread stacks))
    (λ thread. profile-none (names_among [] stacks) thread (stacks_in thread stacks)) threads)

-- a file of stacks, by what was made of them
pub file_is : (title : List ℕ) (stacks one two : List StackView) (profiles : List Data) (file : Data) → one ≡ stacks → two ≡ stacks
    → profiles ≡ profile_data (names_among [] one) title two ∷ [] → file ≡ file_data title (names_among [] one) profiles
    → file ≡ file_of title stacks
file_is title stacks one two profiles file first second made is =
    is ∙ ap (file_data title (names_among [] one)) made
    ∙ ap (λ all. file_data title (names_among [] one) (profile_data (names_among [] one) title all ∷ [])) second
    ∙ ap (λ all. file_data title (names_among [] all) (profile_data (names_among [] all) title stacks ∷ [])) first

pub text_is : {X E : Type 0} (bytes : X → List ℕ) (file whole : Data) (result : Result X E)
    → IfOk result (λ text. has_float file ≡ false → bytes text ≡ compact_text file) → file ≡ whole → has_float whole ≡ false
    → IfOk result (λ text. bytes text ≡ compact_text whole)
text_is bytes file whole (Ok text) told is none = told (ap has_float is ∙ none) ∙ ap compact_text is
text_is bytes file whole (Err error) told is none = tt

-- the same of a file with a profile for each thread
file_with_is : (title : List ℕ) (stacks one two : List StackView) (threads : List (List ℕ)) (profiles : List Data) (file : Data) → one ≡ stacks
    → two ≡ stacks → profiles ≡ thread_profiles (names_among [] one) two threads → file ≡ file_data title (names_among [] one) profiles
    → file ≡ file_with title stacks threads
file_with_is title stacks one two threads profiles file first second made is =
    is ∙ ap (file_data title (names_among [] one)) made
    ∙ ap (λ all. file_data title (names_among [] one) (thread_profiles (names_among [] one) all threads)) second
    ∙ ap (λ all. file_data title (names_among [] all) (thread_profiles (names_among [] all) stacks threads)) first

pub text_by_thread : {X E : Type 0} (bytes : X → List ℕ) (title : List ℕ) (stacks one two : List StackView) (profiles : List Data) (file : Data)
    → one ≡ stacks → two ≡ stacks → AreThreadProfiles (names_among [] one) two profiles → file ≡ file_data title (names_among [] one) profiles
    → (result : Result X E) → IfOk result (λ text. has_float file ≡ false → bytes text ≡ compact_text file)
    → IfOk result (λ text. IsFileByThread title stacks (bytes text))
text_by_thread bytes title stacks one two profiles file first second made is (Ok text) told =
    let whole : file ≡ file_with title stacks made.0 = file_with_is title stacks one two made.0 profiles file first second made.2 is in (
      made.0,
      subst (λ all. AreThreads all made.0) second made.1,
      told (ap has_float whole ∙ file_with-none title stacks made.0) ∙ ap compact_text whole,
    )
text_by_thread bytes title stacks one two profiles file first second made is (Err error) told = tt
