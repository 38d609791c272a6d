-- A line of JSON is made of its parts, one after another.
use Rattle.std.proofs.Common.{◌≡◌, refl, ℕ, List, [], ◌∷◌, ◌++◌, codes, Bool, true, false, ap, sym, ◌∙◌, append_assoc}
use Rattle.serde_json.specs.Data.{Data, array, Members, member, no_members}
use Rattle.serde_json.specs.View.{items_of}
use Rattle.serde_json.specs.Written.{comma_if, compact_text, items_text, members_text}
use Rattle.serde_json.proofs.OnLiterals.{serde_json_on_literals}
use Rattle.json.specs.Print.{quoted}
use Rattle.framehop_processes.specs.declared.mapping.Mapping.{Mapping}
use Rattle.framehop_processes.specs.declared.files.Files.{Files}
use Rattle.framehop_frames.specs.declared.json_files.FilePaths.{FilePaths}
use Rattle.framehop_dumps.specs.Dump.{DumpView}
use Rattle.framehop_dump_stacks.specs.Report.{texts_of}
use Rattle.framehop_dump_stacks.specs.JsonReport.{dump_members, dump_text, IsDumpText, members_front, head_text, IsHeadText, thread_text, threads_data, end_text}
use Rattle.framehop_dump_stacks.specs.JsonThreads.{thread_data}
use Rattle.framehop_dump_stacks.specs.Walked.{WalkedThread}

-- a member after others
abbrev with_last : List ℕ → Data → Members → Members
with_last name value no_members = member name value no_members
with_last name value (member k d others) = member k d (with_last name value others)

-- whether something comes before it
abbrev later_after : Bool → Members → Bool
later_after later no_members = later
later_after later (member k d others) = true

-- its text, with the closing brace
abbrev last_text : Bool → List ℕ → Data → List ℕ
last_text later name value = comma_if later ++ (quoted name ++ 58 ∷ (compact_text value ++ codes "}"))

after-more : (members : Members) → later_after true members ≡ true
after-more no_members = refl
after-more (member k d others) = refl

member-last : (later : Bool) (name : List ℕ) (value : Data) (members : Members)
    → members_text later (with_last name value members) ≡ members_front later members ++ last_text (later_after later members) name value
member-last later name value no_members = refl
member-last later name value (member k d others) =
    ap (λ rest. comma_if later ++ (quoted k ++ 58 ∷ (compact_text d ++ rest)))
    (member-last true name value others ∙ ap (λ after. members_front true others ++ last_text after name value) (after-more others))
    ∙ sym (append_assoc (comma_if later) _ _ ∙ ap (λ rest. comma_if later ++ rest) (append_assoc (quoted k) _ _
    ∙ ap (λ rest. quoted k ++ 58 ∷ rest) (append_assoc (compact_text d) _ _)))

-- a text with what comes before and after it
around : (front text texts : List ℕ) → text ++ codes "}\n" ≡ texts ++ end_text
    → (front ++ (codes ",\"threads\":[" ++ (text ++ codes "}"))) ++ codes "\n" ≡ (front ++ codes ",\"threads\":[") ++ texts ++ end_text
around front text texts same =
    append_assoc front _ _ ∙ ap (λ rest. front ++ (codes ",\"threads\":[" ++ rest)) (append_assoc text (codes "}") (codes "\n") ∙ same)
    ∙ sym (append_assoc (front ++ codes ",\"threads\":[") texts end_text ∙ append_assoc front (codes ",\"threads\":[") (texts ++ end_text))

-- the threads one after another, and what comes after them
threads-text : (files : Files) (mappings : List Mapping) (later : Bool) (stacks : List WalkedThread)
    → items_text later (items_of (threads_data files mappings stacks)) ++ codes "}\n"
    ≡ texts_of (thread_text files mappings) later stacks ++ end_text
threads-text files mappings later [] = refl
threads-text files mappings later (one ∷ others) =
    let text = compact_text (thread_data files mappings one.thread one.stack) in
    append_assoc (comma_if later) _ _ ∙ ap (λ rest. comma_if later ++ rest) (append_assoc text _ _)
    ∙ ap (λ rest. comma_if later ++ (text ++ rest)) (threads-text files mappings true others)
    ∙ sym (append_assoc (comma_if later ++ text) _ _ ∙ append_assoc (comma_if later) text _)

one-line : (paths : List FilePaths) (dump : DumpView) (files : Files) (mappings : List Mapping) (threads : List WalkedThread)
    → dump_text paths dump files mappings threads
    ≡ head_text paths dump files mappings ++ texts_of (thread_text files mappings) false threads ++ end_text
unfolding serde_json_on_literals
one-line paths dump files mappings threads =
    let members = dump_members paths dump files mappings no_members in
    let items = items_of (threads_data files mappings threads) in
    ap (λ text. 123 ∷ text ++ codes "\n") (member-last false (codes "threads") (array items) members)
    ∙ around (123 ∷ members_front false members) (items_text false items) (texts_of (thread_text files mappings) false threads)
    (threads-text files mappings false threads)

pub is-by-parts : (gives : List FilePaths → Type 0) (dump : DumpView) (files : Files) (mappings : List Mapping) (threads : List WalkedThread)
    (head : List ℕ) → IsHeadText gives dump files mappings head
    → IsDumpText gives dump files mappings threads (head ++ texts_of (thread_text files mappings) false threads ++ end_text)
is-by-parts gives dump files mappings threads head is = (
  is.0,
  is.1,
  ap (λ front. front ++ texts_of (thread_text files mappings) false threads ++ end_text) is.2
      ∙ sym (one-line is.0 dump files mappings threads),
)
