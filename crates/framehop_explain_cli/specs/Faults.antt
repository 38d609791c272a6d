-- Which field of the input is missing or wrong, and how: the first, in the order in which `framehop-walk` reads them.
use Rattle.std.specs.Prelude.{◌≡◌, ℕ, ◌+◌, ◌%◌, ◌^◌, ◌==◌, ◌&&◌, ◌||◌, nat_lt, Bool, true, false, if◌then◌else◌, List, [], ◌∷◌, codes, length, Option, Some, None, option_map, Result, Ok, Err}
use Rattle.std.specs.Borrow.{Bor}
use Rattle.std.specs.BTreeSet.{BTreeSet, contains}
use Rattle.std.specs.Char.{is_ascii_hexdigit}
use Rattle.std.specs.Cmp.Lexicographic.{slice_cmp}
use Rattle.std.specs.List.{list_all, list_any}
use Rattle.std.specs.Ordering.{nat_cmp}
use Rattle.std.specs.Result.{result_err}
use Rattle.std.specs.Str.{bytes_eq}
use Rattle.serde_json.specs.Data.{Data, Items, no_items, item}
use Rattle.serde_json.specs.Find.{get, as_str, as_array}
use Rattle.framehop_bytes.specs.Bytes.{◌>>=◌}
use Rattle.framehop_walk.specs.Fields.{address, whole_number, group}
use Rattle.framehop_walk.specs.Sections.{range}
use Rattle.framehop_explain_cli.specs.declared.fault.Cause.{Cause}
use Rattle.framehop_explain_cli.specs.declared.fault.Cause.TheVariants.{Missing, NoText, NoList, NoObject, NoNumber, NotBelow, NoAddress, OddDigits, NoDigits, NoRange, SameName, Unknown, NullReturnAddress, NoUnwinder, NoCache}
use Rattle.framehop_explain_cli.specs.declared.fault.Fault.{Fault}
use Rattle.framehop_explain_cli.specs.declared.fault.Parent.{Parent}
use Rattle.framehop_explain_cli.specs.declared.fields.Kind.{Kind}
use Rattle.framehop_explain_cli.specs.declared.fields.Kind.TheVariants.{Text, Number, Address, Range, Bytes}

-- what has a field: an object, or an item of a list
pub record Holder : Type 0 where
  pub name : List ℕ
  pub item : Option ℕ

-- a field that is missing or wrong, with texts for names
pub record Wrong : Type 0 where
  pub command : Option ℕ
  pub parent : Option Holder
  pub field : List ℕ
  pub item : Option ℕ
  pub cause : Cause

abbrev pub holder_view : Parent → Holder
holder_view parent = record { name = parent.name.now; item = parent.item }

abbrev pub fault_view : Fault → Wrong
fault_view fault = record {
  command = fault.command;
  parent = option_map holder_view fault.parent;
  field = fault.field.now;
  item = fault.item;
  cause = fault.cause;
}

-- a field, or an item of one that is a list, that is wrong
abbrev pub wrong : List ℕ → Cause → Wrong
wrong field cause = record { command = None; parent = None; field = field; item = None; cause = cause }

abbrev pub wrong_item : List ℕ → ℕ → Cause → Wrong
wrong_item field number cause =
    record { command = None; parent = None; field = field; item = Some number; cause = cause }

-- the same in a field that is an object or in an item of one that is a list, and in a command
abbrev pub within : List ℕ → Option ℕ → Wrong → Wrong
within name number fault = record fault { parent = Some (record { name = name; item = number }) }

abbrev pub in_command : ℕ → Wrong → Wrong
in_command number fault = record fault { command = Some number }

-- what is found in the input, or the first field that is missing or wrong
abbrev pub Finding : Type 0 → Type 0
Finding A = Result A Wrong

-- what a reader has found, seen so
abbrev pub found : {A B : Type 0} → (A → B) → Result A Fault → Finding B
found see (Ok value) = Ok (see value)
found see (Err fault) = Err (fault_view fault)

-- the fields are right, or not
abbrev pub tested : Result (Unit {0}) Fault → Finding (Unit {0})
tested (Ok right) = Ok tt
tested (Err fault) = Err (fault_view fault)

-- the same with a fault told otherwise
abbrev pub told_as : {A : Type 0} → (Wrong → Wrong) → Finding A → Finding A
told_as tell (Ok value) = Ok value
told_as tell (Err fault) = Err (tell fault)

-- a value that is asked for under this name
abbrev pub asked : {A : Type 0} → List ℕ → Cause → Option A → Finding A
asked name cause None = Err (wrong name cause)
asked name cause (Some value) = Ok value

-- a field of this kind, or what is wrong with it
unfoldable pub find_as : {A : Type 0} → (Data → Option A) → Cause → List ℕ → Data → Finding A
find_as read cause name fields =
    asked name Missing (get name fields) >>= λ value. asked name cause (read value)

abbrev pub find_text : List ℕ → Data → Finding (List ℕ)
find_text name fields = find_as as_str NoText name fields

abbrev pub find_items : List ℕ → Data → Finding Items
find_items name fields = find_as as_array NoList name fields

abbrev pub find_object : List ℕ → Data → Finding Data
find_object name fields = find_as group NoObject name fields

abbrev pub find_number : List ℕ → Data → Finding ℕ
find_number name fields = find_as whole_number NoNumber name fields

abbrev pub find_address : List ℕ → Data → Finding ℕ
find_address name fields = find_as address NoAddress name fields

-- what is wrong with a value, if it is none that is wanted
abbrev pub unless : {A : Type 0} → Cause → Option A → Option Cause
unless cause None = Some cause
unless cause (Some value) = None

-- with a text that should be pairs of hexadecimal digits
abbrev pub digits_cause : List ℕ → Option Cause
digits_cause digits =
    if list_all is_ascii_hexdigit digits
    then (if length digits % 2 == 0 then None else Some OddDigits)
    else Some NoDigits

abbrev pub bytes_cause : Option (List ℕ) → Option Cause
bytes_cause None = Some NoText
bytes_cause (Some digits) = digits_cause digits

-- with a value that should be of a kind
abbrev pub kind_cause : Kind → Data → Option Cause
kind_cause Text value = unless NoText (as_str value)
kind_cause Number value = unless NoNumber (whole_number value)
kind_cause Address value = unless NoAddress (address value)
kind_cause Range value = unless NoRange (range value)
kind_cause Bytes value = bytes_cause (as_str value)

-- a test of a field: that it is there and of a kind, and that it is of a kind if it is there
abbrev pub right_unless : List ℕ → Option Cause → Finding (Unit {0})
right_unless name None = Ok tt
right_unless name (Some cause) = Err (wrong name cause)

unfoldable pub test_field : Kind → List ℕ → Data → Finding (Unit {0})
test_field kind name fields =
    asked name Missing (get name fields) >>= λ value. right_unless name (kind_cause kind value)

abbrev pub test_given : Kind → List ℕ → Option Data → Finding (Unit {0})
test_given kind name None = Ok tt
test_given kind name (Some value) = right_unless name (kind_cause kind value)

unfoldable pub test_optional : Kind → List ℕ → Data → Finding (Unit {0})
test_optional kind name fields = test_given kind name (get name fields)

-- a field that is one of two words, and one that is a whole number below a limit
unfoldable pub find_word : List ℕ → List ℕ → List ℕ → Data → Finding (List ℕ)
find_word name first second fields =
    find_text name fields >>= λ text.
    if bytes_eq text first || bytes_eq text second then Ok text else Err (wrong name Unknown)

unfoldable pub test_below : ℕ → List ℕ → Data → Finding (Unit {0})
test_below limit name fields =
    find_number name fields >>= λ number.
    if nat_lt number limit then Ok tt else Err (wrong name (NotBelow limit))

-- all of these tests are passed, or the first fault counts
abbrev pub all_from : Finding (Unit {0}) → List (Finding (Unit {0})) → Finding (Unit {0})
all_from first [] = first
all_from first (next ∷ others) = first >>= λ right. all_from next others

abbrev pub all_right : List (Finding (Unit {0})) → Finding (Unit {0})
all_right [] = Ok tt
all_right (first ∷ others) = all_from first others

-- Each item of a list is right, by a test of its number, of what is known of the items before it, and of its value.
module _ {S : Type 0} (next : S → Data → S) (one : ℕ → S → Data → Finding (Unit {0})) where
  unfoldable pub test_items : ℕ → S → Items → Finding (Unit {0})
  test_items number known no_items = Ok tt
  test_items number known (item value items) =
      one number known value >>= λ right. test_items (number + 1) (next known value) items

-- the same where nothing has to be known of the items before
abbrev pub test_list : (ℕ → Data → Finding (Unit {0})) → Items → Finding (Unit {0})
test_list one items =
    test_items {S = Unit {0}} (λ known value. known) (λ number known value. one number value) 0 tt items

-- `memory`: `base` and `words`
abbrev pub right_word : ℕ → Option ℕ → Finding (Unit {0})
right_word number None = Err (wrong_item (codes "words") number NoAddress)
right_word number (Some word) = Ok tt

abbrev pub test_word : ℕ → Data → Finding (Unit {0})
test_word number value = right_word number (address value)

unfoldable pub test_words : Data → Finding (Unit {0})
test_words memory =
    test_field Address (codes "base") memory >>= λ right. find_items (codes "words") memory >>= λ words.
    test_list test_word words

unfoldable pub test_memory : Data → Finding (Unit {0})
test_memory fields =
    find_object (codes "memory") fields >>= λ memory. told_as (within (codes "memory") None) (test_words memory)

-- `regs`: the registers of aarch64 and of x86_64
unfoldable pub test_aarch64 : Data → Finding (Unit {0})
test_aarch64 regs = all_right (
    test_field Address (codes "lr") regs
    ∷ test_field Address (codes "sp") regs
    ∷ test_field Address (codes "fp") regs
    ∷ test_optional Address (codes "mask") regs
    ∷ [])

unfoldable pub test_named : Data → Finding (Unit {0})
test_named regs = all_right (
    test_optional Address (codes "rax") regs
    ∷ test_optional Address (codes "rbx") regs
    ∷ test_optional Address (codes "rcx") regs
    ∷ test_optional Address (codes "rdx") regs
    ∷ test_optional Address (codes "rsi") regs
    ∷ test_optional Address (codes "rdi") regs
    ∷ [])

unfoldable pub test_numbered : Data → Finding (Unit {0})
test_numbered regs = all_right (
    test_optional Address (codes "r8") regs
    ∷ test_optional Address (codes "r9") regs
    ∷ test_optional Address (codes "r10") regs
    ∷ test_optional Address (codes "r11") regs
    ∷ test_optional Address (codes "r12") regs
    ∷ test_optional Address (codes "r13") regs
    ∷ test_optional Address (codes "r14") regs
    ∷ test_optional Address (codes "r15") regs
    ∷ [])

unfoldable pub test_x86_64 : Data → Finding (Unit {0})
test_x86_64 regs = all_right (
    test_field Address (codes "ip") regs
    ∷ test_field Address (codes "sp") regs
    ∷ test_field Address (codes "bp") regs
    ∷ test_named regs
    ∷ test_numbered regs
    ∷ [])

abbrev pub test_registers_of : List ℕ → Data → Finding (Unit {0})
test_registers_of arch regs = if bytes_eq arch (codes "aarch64") then test_aarch64 regs else test_x86_64 regs

unfoldable pub test_registers : List ℕ → Data → Finding (Unit {0})
test_registers arch fields =
    find_object (codes "regs") fields >>= λ regs. told_as (within (codes "regs") None) (test_registers_of arch regs)

-- a section or a segment: its name is none of these, and its addresses and bytes are right
unfoldable pub test_contents : Data → Finding (Unit {0})
test_contents section = all_right (
    test_optional Range (codes "svma") section ∷ test_optional Bytes (codes "data") section ∷ [])

abbrev pub test_named_section : List (List ℕ) → List ℕ → Data → Finding (Unit {0})
test_named_section names name section =
    if list_any (bytes_eq name) names then Err (wrong (codes "name") SameName) else test_contents section

unfoldable pub test_section : List (List ℕ) → Data → Finding (Unit {0})
test_section names section =
    find_text (codes "name") section >>= λ name. test_named_section names name section

-- the names of sections with that of one more
abbrev pub names_with : List (List ℕ) → Finding (List ℕ) → List (List ℕ)
names_with names (Ok name) = name ∷ names
names_with names (Err fault) = names

abbrev pub names_after : List (List ℕ) → Data → List (List ℕ)
names_after names section = names_with names (find_text (codes "name") section)

-- the set has these names
abbrev pub HasNames : BTreeSet (Bor (List ℕ)) → List (List ℕ) → Type 0
HasNames set names =
    (name : Bor (List ℕ)) → contains (λ x y. slice_cmp nat_cmp x.now y.now) set name
    ≡ list_any (bytes_eq name.now) names

abbrev pub test_one_of : List ℕ → ℕ → List (List ℕ) → Data → Finding (Unit {0})
test_one_of list number names section = told_as (within list (Some number)) (test_section names section)

unfoldable pub test_sections : List ℕ → Data → Finding (Unit {0})
test_sections list fields =
    find_items list fields >>= λ sections. test_items names_after (test_one_of list) 0 [] sections

-- `add`, `remove`, `step` and `walk`
unfoldable pub test_place : Data → Finding (Unit {0})
test_place fields = all_right (
    test_field Number (codes "unwinder") fields
    ∷ test_field Text (codes "name") fields
    ∷ test_field Address (codes "start") fields
    ∷ test_field Address (codes "end") fields
    ∷ test_field Address (codes "base") fields
    ∷ test_field Address (codes "base_svma") fields
    ∷ [])

unfoldable pub test_add : Data → Finding (Unit {0})
test_add fields = all_right (
    test_place fields ∷ test_sections (codes "sections") fields ∷ test_sections (codes "segments") fields ∷ [])

unfoldable pub test_remove : Data → Finding (Unit {0})
test_remove fields = all_right (
    test_field Number (codes "unwinder") fields ∷ test_field Address (codes "start") fields ∷ [])

-- a return address is not 0
abbrev pub right_location : List ℕ → ℕ → Finding (Unit {0})
right_location kind at =
    if (at == 0) && bytes_eq kind (codes "ra") then Err (wrong (codes "address") NullReturnAddress) else Ok tt

unfoldable pub test_location : Data → Finding (Unit {0})
test_location fields =
    find_word (codes "kind") (codes "ip") (codes "ra") fields >>= λ kind.
    find_address (codes "address") fields >>= λ at. right_location kind at

unfoldable pub test_step : List ℕ → Data → Finding (Unit {0})
test_step arch fields = all_right (
    test_field Number (codes "unwinder") fields
    ∷ test_field Number (codes "cache") fields
    ∷ test_location fields
    ∷ test_registers arch fields
    ∷ test_memory fields
    ∷ [])

unfoldable pub test_walk : List ℕ → Data → Finding (Unit {0})
test_walk arch fields = all_right (
    test_field Number (codes "unwinder") fields
    ∷ test_field Number (codes "cache") fields
    ∷ test_field Address (codes "pc") fields
    ∷ test_registers arch fields
    ∷ test_memory fields
    ∷ test_below (2 ^ 32) (codes "limit") fields
    ∷ [])

-- a command by its field `do`
unfoldable pub test_verb : List ℕ → List ℕ → Data → Finding (Unit {0})
test_verb arch verb fields =
    if bytes_eq verb (codes "new") then Ok tt
    else if bytes_eq verb (codes "clone") then test_field Number (codes "unwinder") fields
    else if bytes_eq verb (codes "add") then test_add fields
    else if bytes_eq verb (codes "remove") then test_remove fields
    else if bytes_eq verb (codes "step") then test_step arch fields
    else if bytes_eq verb (codes "walk") then test_walk arch fields
    else if bytes_eq verb (codes "stats") then test_field Number (codes "cache") fields
    else Err (wrong (codes "do") Unknown)

unfoldable pub test_command : List ℕ → Data → Finding (Unit {0})
test_command arch fields = find_text (codes "do") fields >>= λ verb. test_verb arch verb fields

abbrev pub test_numbered_command : List ℕ → ℕ → Data → Finding (Unit {0})
test_numbered_command arch number fields = told_as (in_command number) (test_command arch fields)

-- the architecture of an input whose policy and number of caches are right
unfoldable pub find_arch : Data → Finding (List ℕ)
find_arch fields =
    find_word (codes "arch") (codes "aarch64") (codes "x86_64") fields >>= λ arch.
    find_word (codes "policy") (codes "may") (codes "must") fields >>= λ policy.
    test_below (2 ^ 16) (codes "caches") fields >>= λ right. Ok arch

unfoldable pub test_commands : List ℕ → Data → Finding (Unit {0})
test_commands arch fields =
    find_items (codes "commands") fields >>= λ commands. test_list (test_numbered_command arch) commands

-- an input
unfoldable pub test_input : Data → Finding (Unit {0})
test_input fields = find_arch fields >>= λ arch. test_commands arch fields

-- the first field that is missing or wrong
abbrev pub first_wrong : Data → Option Wrong
first_wrong fields = result_err (test_input fields)

-- whether a command of this verb names an unwinder, and whether it names a cache
abbrev pub names_unwinder : List ℕ → Bool
names_unwinder verb =
    if bytes_eq verb (codes "new") then false else if bytes_eq verb (codes "stats") then false else true

abbrev pub names_cache : List ℕ → Bool
names_cache verb =
    if bytes_eq verb (codes "step") then true
    else if bytes_eq verb (codes "walk") then true else if bytes_eq verb (codes "stats") then true else false

-- the unwinder and the cache that a command names are among so many
abbrev pub below_count : List ℕ → Cause → ℕ → ℕ → Finding (Unit {0})
below_count name cause count number = if nat_lt number count then Ok tt else Err (wrong name cause)

unfoldable pub test_unwinder : ℕ → List ℕ → Data → Finding (Unit {0})
test_unwinder unwinders verb fields =
    if names_unwinder verb
    then (find_number (codes "unwinder") fields
    >>= λ number. below_count (codes "unwinder") (NoUnwinder unwinders) unwinders number)
    else Ok tt

unfoldable pub test_cache : ℕ → List ℕ → Data → Finding (Unit {0})
test_cache caches verb fields =
    if names_cache verb
    then (find_number (codes "cache") fields
    >>= λ number. below_count (codes "cache") (NoCache caches) caches number)
    else Ok tt

unfoldable pub test_numbers : ℕ → ℕ → Data → Finding (Unit {0})
test_numbers caches unwinders fields =
    find_text (codes "do") fields >>= λ verb.
    all_right (test_unwinder unwinders verb fields ∷ test_cache caches verb fields ∷ [])

abbrev pub test_numbers_of : ℕ → ℕ → ℕ → Data → Finding (Unit {0})
test_numbers_of caches number unwinders fields = told_as (in_command number) (test_numbers caches unwinders fields)

-- how many unwinders a command makes, and how many there are after it
abbrev pub made_by_verb : List ℕ → ℕ
made_by_verb verb = if bytes_eq verb (codes "new") then 1 else if bytes_eq verb (codes "clone") then 1 else 0

abbrev pub made_by : Finding (List ℕ) → ℕ
made_by (Ok verb) = made_by_verb verb
made_by (Err fault) = 0

abbrev pub unwinders_after : ℕ → Data → ℕ
unwinders_after unwinders fields = unwinders + made_by (find_text (codes "do") fields)

-- the unwinders and caches that the commands of an input name are there
unfoldable pub test_session : Data → Finding (Unit {0})
test_session fields =
    find_number (codes "caches") fields >>= λ caches. find_items (codes "commands") fields >>= λ commands.
    test_items unwinders_after (test_numbers_of caches) 0 0 commands

-- the first that is not
abbrev pub first_absent : Data → Option Wrong
first_absent fields = result_err (test_session fields)
