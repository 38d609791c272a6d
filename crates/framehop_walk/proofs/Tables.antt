-- Lists of addresses and of sections.
use Rattle.std.proofs.Common.{◌≡◌, ◌≢◌, ℕ, Bool, true, false, not, cond, List, [], ◌∷◌, ◌++◌, length, map, Option, None, Result, Ok, Err, IfOk, codes, Bor, refl, sym, ap, ◌∙◌, ◌||◌}
use Rattle.std.specs.Ordering.{nat_cmp, is_eq}
use Rattle.std.specs.Cmp.Lexicographic.{slice_cmp}
use Rattle.std.specs.Str.{bytes_eq}
use Rattle.std.specs.BTreeSet.{BTreeSet, contains}
use Rattle.std.specs.declared.ops.Range.{Range}
use Rattle.std.specs.List.{list_any}
use Rattle.std.proofs.lemmas.List.Folds.{list_any-append}
use Rattle.std.proofs.lemmas.Slice.Eq.{bytes_eq-Decides}
use Rattle.std.proofs.lemmas.Map.Text.{is_eq-slice_cmp}
use Rattle.serde_json.specs.Data.{Data}
use Rattle.serde_json.specs.Find.{as_str}
use Rattle.framehop_bytes.specs.SectionTable.{Entry, SectionTable, is_called}
use Rattle.framehop_walk.specs.Refusals.{Reading, and_then, bad_field, reading_of}
use Rattle.framehop_walk.specs.Fields.{field_as, address}
use Rattle.framehop_walk.specs.Commands.{read_module}
use Rattle.serde_json.specs.View.{items_view}
use Rattle.serde_json.specs.declared.value.Value.{Value}
use Rattle.framehop_walk.specs.Sections.{two_addresses, read_table, read_section, read_contents, new_name, HasNames, entry_view, entries_view, bytes_of_entry}
use Rattle.framehop_walk.specs.declared.sections.Section.{Section}
use Rattle.framehop_walk.specs.declared.refusal.Refusal.{Refusal}
use Rattle.framehop_walk.specs.declared.refusal.Refusal.TheVariants.{OutOfMemory}

-- a list that has not two items is no range
pub two_addresses-none : (values : List Value) → length values ≢ 2 → None ≡ two_addresses (items_view values)
two_addresses-none [] other = refl
two_addresses-none (a ∷ []) other = refl
two_addresses-none (a ∷ b ∷ []) other = absurd (other refl)
two_addresses-none (a ∷ b ∷ c ∷ values) other = refl

-- a section whose name is new, and one whose name stands twice
pub read_section-new : (entries : List (Entry (List ℕ))) (fields : Data) (name : List ℕ) → field_as as_str (codes "name") fields ≡ Ok name
    → list_any (is_called name) entries ≡ false → read_section entries fields ≡ read_contents name fields
unfolding read_section new_name
read_section-new entries fields name reads fresh = rw reads (rw fresh refl)

pub read_section-twice : (entries : List (Entry (List ℕ))) (fields : Data) (name : List ℕ) → field_as as_str (codes "name") fields ≡ Ok name
    → list_any (is_called name) entries ≡ true → read_section entries fields ≡ Err (bad_field (codes "name"))
unfolding read_section new_name
read_section-twice entries fields name reads twice = rw reads (rw twice refl)

pub read_section-refused : (entries : List (Entry (List ℕ))) (fields : Data) (refusal : List ℕ) → field_as as_str (codes "name") fields ≡ Err refusal
    → read_section entries fields ≡ Err refusal
unfolding read_section
read_section-refused entries fields refusal reads = rw reads refl

-- a section has the name that it was read by
ok-same : {A : Type 0} (a b : A) (reading : Reading A) → reading ≡ Ok a → reading ≡ Ok b → a ≡ b
ok-same a b reading one other = cc

named : (name : List ℕ) (svma : Reading (Option (Range ℕ))) (contents : Reading (Option (List ℕ))) (entry : Entry (List ℕ))
    → and_then svma (λ range. and_then contents (λ bytes. Ok (record { names = name ∷ []; range = range; contents = bytes }))) ≡ Ok entry
    → entry.names ≡ name ∷ []
named name (Ok range) (Ok bytes) entry is =
    let made : Entry (List ℕ) = record { names = name ∷ []; range = range; contents = bytes } in
    ap (λ (e : Entry (List ℕ)). e.names) (sym (ok-same made entry (Ok made) refl is))
named name (Ok range) (Err refusal) entry is = let no : ⊥ = cc in absurd no
named name (Err refusal) contents entry is = let no : ⊥ = cc in absurd no

named-contents : (name : List ℕ) (fields : Data) (entry : Entry (List ℕ)) → read_contents name fields ≡ Ok entry → entry.names ≡ name ∷ []
unfolding read_contents
named-contents name fields entry is = named name _ _ entry is

both_ways-same : (a b : Bool) → (a ≡ true → b ≡ true) → (b ≡ true → a ≡ true) → a ≡ b
both_ways-same true b to from = sym (to refl)
both_ways-same false true to from = from refl
both_ways-same false false to from = refl

bytes_eq-sym : (xs ys : List ℕ) → bytes_eq xs ys ≡ bytes_eq ys xs
bytes_eq-sym xs ys =
    let d = bytes_eq-Decides xs ys in let e = bytes_eq-Decides ys xs in
    both_ways-same (bytes_eq xs ys) (bytes_eq ys xs) (λ h. e.1 (sym (d.0 h))) (λ h. d.1 (sym (e.0 h)))

or-cond : (b before : Bool) → cond b true before ≡ (before || (b || false))
or-cond true true = refl
or-cond true false = refl
or-cond false true = refl
or-cond false false = refl

-- the names of the entries with one more
one_more : (entries : List (Entry (List ℕ))) (entry : Entry (List ℕ)) (name q : List ℕ) → entry.names ≡ name ∷ []
    → cond (is_eq (slice_cmp nat_cmp name q)) true (list_any (is_called q) entries) ≡ list_any (is_called q) (entries ++ entry ∷ [])
one_more entries entry name q named =
    let same : is_eq (slice_cmp nat_cmp name q) ≡ bytes_eq q name = is_eq-slice_cmp name q ∙ bytes_eq-sym name q in
    let last : list_any (is_called q) (entry ∷ []) ≡ ((bytes_eq q name || false) || false) = ap (λ ns. list_any (bytes_eq q) ns || false) named in
    ap (λ b. cond b true (list_any (is_called q) entries)) same ∙ or-cond (bytes_eq q name) (list_any (is_called q) entries)
    ∙ ap (λ b. list_any (is_called q) entries || b) (sym (last ∙ or-false (bytes_eq q name))) ∙ sym (list_any-append (is_called q) entries (entry ∷ []))
  where
    or-false : (b : Bool) → ((b || false) || false) ≡ (b || false)
    or-false true = refl
    or-false false = refl

-- a section that is read is no refusal
pub section-is_ok : (section : Section) (result : Result Section Refusal) → result ≡ Ok section → result ≢ Err OutOfMemory
section-is_ok section result is out = let no : ⊥ = cc in no

-- the set's names with that of a section that is read
pub names-after : (before after : BTreeSet (Bor (List ℕ))) (entries : List (Entry (List ℕ))) (name : Bor (List ℕ)) (fields : Data) (result : Result Section Refusal)
    → HasNames before entries
    → ((q : Bor (List ℕ)) → contains (λ x y. slice_cmp nat_cmp x.now y.now) after q
    ≡ cond (is_eq (slice_cmp nat_cmp name.now q.now)) true (contains (λ x y. slice_cmp nat_cmp x.now y.now) before q))
    → (result ≢ Err OutOfMemory → reading_of (λ section. bytes_of_entry (entry_view section)) result ≡ read_contents name.now fields)
    → IfOk result (λ section. HasNames after (entries ++ bytes_of_entry (entry_view section) ∷ []))
names-after before after entries name fields (Err refusal) has adds reads = tt
names-after before after entries name fields (Ok section) has adds reads =
    let called = named-contents name.now fields (bytes_of_entry (entry_view section)) (sym (reads (section-is_ok section (Ok section) refl))) in
    λ q. adds q ∙ ap (λ b. cond (is_eq (slice_cmp nat_cmp name.now q.now)) true b) (has q)
    ∙ one_more entries (bytes_of_entry (entry_view section)) name.now q.now called

-- the entries of a list that grows by one
pub entries-push : (sections : List Section) (section : Section)
    → map bytes_of_entry (entries_view (sections ++ section ∷ [])) ≡ map bytes_of_entry (entries_view sections) ++ bytes_of_entry (entry_view section) ∷ []
entries-push [] section = refl
entries-push (first ∷ sections) section = ap (λ es. bytes_of_entry (entry_view first) ∷ es) (entries-push sections section)

-- whether the set had the name
pub present : (added has : Bool) → added ≡ not has → added ≡ false → has ≡ true
present added true is fails = refl
present added false is fails = let bad : ⊥ = cc in absurd bad

pub absent : (added has : Bool) → added ≡ not has → added ≡ true → has ≡ false
absent added false is holds = refl
absent added true is holds = let bad : ⊥ = cc in absurd bad

-- a module whose fields are read
pub module-read : (fields : Data) (name : List ℕ) (start end base : ℕ) (table : SectionTable (List ℕ))
    → field_as as_str (codes "name") fields ≡ Ok name → field_as address (codes "start") fields ≡ Ok start
    → field_as address (codes "end") fields ≡ Ok end → field_as address (codes "base") fields ≡ Ok base → read_table fields ≡ Ok table
    → read_module fields ≡ Ok (record { name = name; start = start; end = end; base = base; table = table })
unfolding read_module
module-read fields name start end base table a b c d e = rw a (rw b (rw c (rw d (rw e refl))))

-- the same refusal of another reader
pub refused-same : {A B : Type 0} (refusal : Refusal) (first : Result A Refusal) (second : Result B Refusal)
    → first ≡ Err refusal → second ≡ Err refusal → first ≡ Err OutOfMemory → second ≡ Err OutOfMemory
refused-same refusal first second one two out = let same : refusal ≡ OutOfMemory = cc in two ∙ ap (λ r. Err r) same
