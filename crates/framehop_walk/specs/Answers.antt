-- What a run answers to its input: the lines of the replies, or the first refusal.
use Rattle.std.specs.Prelude.{◌≡◌, ◌^◌, ℕ, Bool, true, ◌⊎◌, List, [], map, codes, Option, Some, None, Ok, Err, IfSome, IsUtf8, if◌then◌else◌}
use Rattle.std.specs.Str.{bytes_eq}
use Rattle.std.specs.Global.{Global}
use Rattle.std.specs.declared.vec.Vec.{Vec}
use Rattle.std.specs.Io.KnownBytes.{Appends}
use Rattle.serde_json.specs.Data.{Data}
use Rattle.serde_json.specs.Find.{as_str, as_array}
use Rattle.serde_json.specs.Read.{read}
use Rattle.framehop_core.specs.Aarch64.Registers.{Registers}
use Rattle.framehop_core.specs.X86_64.Registers.{Registers as RegistersX86_64}
use Rattle.framehop_core.specs.declared.aarch64.unwind_rule.UnwindRuleAarch64.{UnwindRuleAarch64}
use Rattle.framehop_core.specs.declared.x86_64.unwind_rule.UnwindRuleX86_64.{UnwindRuleX86_64}
use Rattle.framehop.specs.Policy.{Policy, with_allocation, without_allocation}
use Rattle.framehop.specs.Unwinding.{Unwinding}
use Rattle.framehop.specs.Aarch64.{aarch64}
use Rattle.framehop.specs.X86_64.{x86_64}
use Rattle.framehop.specs.CachedWorld.{cached_replies, empty_cached_world}
use Rattle.framehop.specs.declared.session.Command.{Command}
use Rattle.framehop_walk.specs.Refusals.{Reading, and_then, refusal_text}
use Rattle.framehop_walk.specs.Fields.{field_as, field_below, required, each}
use Rattle.framehop_walk.specs.Numbers.{has_bad_number}
use Rattle.framehop_walk.specs.Registers.{read_aarch64, read_x86_64}
use Rattle.framehop_walk.specs.Text.{aarch64_text, x86_64_text}
use Rattle.framehop_walk.specs.Commands.{Written}
use Rattle.framehop_walk.specs.Program.{printed, read_next, AreSaid}
use Rattle.framehop_walk.specs.declared.program.Arch.{Arch}
use Rattle.framehop_walk.specs.declared.program.Arch.TheVariants.{Aarch64, X86_64}
use Rattle.framehop_walk.specs.declared.program.PolicyName.{PolicyName}
use Rattle.framehop_walk.specs.declared.program.PolicyName.TheVariants.{May, Must}
use Rattle.framehop_walk.specs.declared.refusal.Refusal.{Refusal}
use Rattle.framehop_walk.specs.declared.refusal.Refusal.TheVariants.{BadNumber, NotJson, CannotReadInput, CannotWriteOutput}

-- an answer to what is read; where the reading is refused, its refusal is the answer
abbrev pub Follows : {A B : Type 0} → Reading A → (A → Reading B → Type 0) → Reading B → Type 0
Follows (Ok value) Answers answer = Answers value answer
Follows (Err refusal) Answers answer = answer ≡ Err refusal

-- an architecture: its registers as they are read and as they are printed, and how it unwinds under a policy
pub record Architecture (Rule Regs : Type 0) : Type 0 where
  pub registers : Data → Reading Regs
  pub text : Regs → List ℕ
  pub unwinding : Policy → Unwinding Rule Regs

abbrev pub architecture : {Rule Regs : Type 0} → (Data → Reading Regs) → (Regs → List ℕ) → (Policy → Unwinding Rule Regs)
    → Architecture Rule Regs
architecture registers text unwinding = record { registers = registers; text = text; unwinding = unwinding }

-- the two architectures
abbrev pub on_aarch64 : Architecture UnwindRuleAarch64 Registers
on_aarch64 = architecture read_aarch64 aarch64_text aarch64

abbrev pub on_x86_64 : Architecture UnwindRuleX86_64 RegistersX86_64
on_x86_64 = architecture read_x86_64 x86_64_text x86_64

-- how many caches there are, and the commands with their fields `do`
pub record Document (Regs : Type 0) : Type 0 where
  pub caches : ℕ
  pub commands : List (List ℕ × Written Regs)

-- `caches`, then `commands`
unfoldable pub read_document : {Regs : Type 0} → (Data → Reading Regs) → Data → Reading (Document Regs)
read_document registers fields =
    and_then (field_below (2 ^ 16) (codes "caches") fields) (λ caches.
    and_then (field_as as_array (codes "commands") fields) (λ items.
    and_then (each (read_next registers) [] items) (λ commands.
    Ok (record { caches = caches; commands = commands }))))

-- the lines of a session's replies to these commands over so many caches, or its refusal
abbrev pub AreReplies : {Rule Regs : Type 0} → Architecture Rule Regs → Policy → Document Regs → Reading (List ℕ) → Type 0
AreReplies {Rule} {Regs} on policy document answer =
    (commands : List (Command (Vec ℕ Global) Regs)) × AreSaid document.commands commands
    × (answer ≡ printed on.text (map (λ (w : List ℕ × Written Regs). w.0) document.commands)
    (cached_replies (on.unwinding policy) (empty_cached_world document.caches 0) commands))

-- the answer to the commands of the input, under an architecture and a policy
unfoldable pub AnswersUnder : {Rule Regs : Type 0} → Architecture Rule Regs → Policy → Data → Reading (List ℕ) → Type 0
AnswersUnder on policy fields answer = Follows (read_document on.registers fields) (AreReplies on policy) answer

-- the field `policy`
abbrev pub policy_of : PolicyName → Policy
policy_of May = with_allocation
policy_of Must = without_allocation

abbrev pub policy_called : List ℕ → Option Policy
policy_called name =
    if bytes_eq name (codes "may") then Some with_allocation
    else if bytes_eq name (codes "must") then Some without_allocation
    else None

-- the policy that the input names
unfoldable pub read_policy : Data → Reading Policy
read_policy fields =
    and_then (field_as as_str (codes "policy") fields) (λ name. required (codes "policy") (policy_called name))

-- the answer under that policy
unfoldable pub AnswersOn : {Rule Regs : Type 0} → Architecture Rule Regs → Data → Reading (List ℕ) → Type 0
AnswersOn on fields answer = Follows (read_policy fields) (λ policy. AnswersUnder on policy fields) answer

-- the field `arch`
abbrev pub arch_called : List ℕ → Option Arch
arch_called name =
    if bytes_eq name (codes "aarch64") then Some Aarch64
    else if bytes_eq name (codes "x86_64") then Some X86_64
    else None

unfoldable pub read_arch : Data → Reading Arch
read_arch fields =
    and_then (field_as as_str (codes "arch") fields) (λ name. required (codes "arch") (arch_called name))

-- the answer under an architecture
abbrev pub AnswersFor : Arch → Data → Reading (List ℕ) → Type 0
AnswersFor Aarch64 fields answer = AnswersOn on_aarch64 fields answer
AnswersFor X86_64 fields answer = AnswersOn on_x86_64 fields answer

-- a value whose numbers are all whole and fit 64 bits
abbrev pub whole_numbers : Data → Reading Data
whole_numbers value = if has_bad_number value then Err (refusal_text BadNumber) else Ok value

-- the answer to the JSON value of the input: its numbers are tested first, then the fields in their order
unfoldable pub AnswersValue : Data → Reading (List ℕ) → Type 0
AnswersValue value answer =
    Follows (whole_numbers value) (λ fields. Follows (read_arch fields) (λ arch. AnswersFor arch fields)) answer

-- the bytes are UTF-8, and the JSON text of this value
pub record IsJson (bytes : List ℕ) (value : Data) : Type 0 where
  pub is_utf8 : IsUtf8 bytes
  pub is_read : read bytes ≡ Some value

-- they are the JSON text of no value
abbrev pub IsNoJson : List ℕ → Type 0
IsNoJson bytes = IsUtf8 bytes → read bytes ≡ None

-- the answer to the bytes of the input
abbrev pub Answers : List ℕ → Reading (List ℕ) → Type 0
Answers bytes answer =
    ((value : Data) × IsJson bytes value × AnswersValue value answer)
    ⊎ (IsNoJson bytes × (answer ≡ Err (refusal_text NotJson)))

-- a writer's bytes, where they are known, have grown by the lines that are the answer to the bytes of the input
abbrev pub IsPrinted : Option (List ℕ) → Option (List ℕ) → List ℕ → Type 0
IsPrinted old new bytes = (lines : List ℕ) × Answers bytes (Ok lines) × Appends old new lines

-- a refusal for the input: a read has failed, or the refusal is the answer to the bytes, where they are known
abbrev pub IsOfInput : Bool → Option (List ℕ) → Refusal → Type 0
IsOfInput read_failed input refusal =
    ((refusal ≡ CannotReadInput) × (read_failed ≡ true)) ⊎ IfSome input (λ bytes. Answers bytes (Err (refusal_text refusal)))

-- a refusal of a run: one for the input, or a write has failed
abbrev pub IsOfRun : Bool → Bool → Option (List ℕ) → Refusal → Type 0
IsOfRun read_failed write_failed input refusal =
    ((refusal ≡ CannotWriteOutput) × (write_failed ≡ true)) ⊎ IsOfInput read_failed input refusal
