-- The input as a document: its caches, its commands, and the answer to it.
use Rattle.std.proofs.Common.{◌≡◌, ◌≢◌, ◌^◌, ◌∙◌, ℕ, List, [], Result, Ok, Err, true, false, codes, map, refl, sym, ap, subst}
use Rattle.std.specs.Global.{Global}
use Rattle.std.specs.declared.vec.Vec.{Vec}
use Rattle.serde_json.specs.Data.{Data, Items}
use Rattle.serde_json.specs.Find.{as_array}
use Rattle.framehop.specs.Policy.{Policy}
use Rattle.framehop.specs.CachedWorld.{cached_replies, empty_cached_world}
use Rattle.framehop.specs.declared.session.Command.{Command}
use Rattle.framehop_walk.specs.Refusals.{Reading, refusal_text}
use Rattle.framehop_walk.specs.Numbers.{has_bad_number}
use Rattle.framehop_walk.specs.Fields.{field_as, field_below, each}
use Rattle.framehop_walk.specs.Commands.{Written}
use Rattle.framehop_walk.specs.Program.{printed, read_next, AreSaid}
use Rattle.framehop_walk.specs.Answers.{Follows, Architecture, read_document, read_policy, read_arch, AreReplies, AnswersUnder, AnswersOn, AnswersFor, AnswersValue, whole_numbers}
use Rattle.framehop_walk.specs.declared.program.Arch.{Arch}
use Rattle.framehop_walk.specs.declared.refusal.Refusal.{Refusal}
use Rattle.framehop_walk.specs.declared.refusal.Refusal.TheVariants.{BadNumber, OutOfMemory}

-- a refusal that is not for want of memory
pub other-refusal : {A : Type 0} (refusal : Refusal) (result : Result A Refusal) → result ≡ Err refusal → result ≢ Err OutOfMemory
    → refusal ≢ OutOfMemory
other-refusal refusal result is other = λ out. other (is ∙ ap (λ r. Err r) out)

-- the answer to what is read, and to what is refused
follows-ok : {A B : Type 0} (reading : Reading A) (value : A) (Answers : A → Reading B → Type 0) (answer : Reading B)
    → reading ≡ Ok value → Answers value answer → Follows reading Answers answer
follows-ok {A} {B} reading value Answers answer is holds =
    let P : Reading A → Type 0 = λ r. Follows r Answers answer in subst P (sym is) holds

follows-err : {A B : Type 0} (reading : Reading A) (refusal : List ℕ) (Answers : A → Reading B → Type 0)
    → reading ≡ Err refusal → Follows reading Answers (Err refusal)
follows-err {A} {B} reading refusal Answers is =
    let P : Reading A → Type 0 = λ r. Follows r Answers (Err refusal) in subst P (sym is) refl

module _ {Regs : Type 0} (registers : Data → Reading Regs) (fields : Data) where
  document-no_caches : (refusal : List ℕ) → field_below (2 ^ 16) (codes "caches") fields ≡ Err refusal
      → read_document registers fields ≡ Err refusal
  unfolding read_document
  document-no_caches refusal a = rw a refl

  document-no_list : (caches : ℕ) (refusal : List ℕ) → field_below (2 ^ 16) (codes "caches") fields ≡ Ok caches
      → field_as as_array (codes "commands") fields ≡ Err refusal → read_document registers fields ≡ Err refusal
  unfolding read_document
  document-no_list caches refusal a b = rw a (rw b refl)

  document-refused : (caches : ℕ) (items : Items) (refusal : List ℕ) → field_below (2 ^ 16) (codes "caches") fields ≡ Ok caches
      → field_as as_array (codes "commands") fields ≡ Ok items → each (read_next registers) [] items ≡ Err refusal
      → read_document registers fields ≡ Err refusal
  unfolding read_document
  document-refused caches items refusal a b c = rw a (rw b (rw c refl))

  document-read : (caches : ℕ) (items : Items) (commands : List (List ℕ × Written Regs)) → field_below (2 ^ 16) (codes "caches") fields ≡ Ok caches
      → field_as as_array (codes "commands") fields ≡ Ok items → each (read_next registers) [] items ≡ Ok commands
      → read_document registers fields ≡ Ok (record { caches = caches; commands = commands })
  unfolding read_document
  document-read caches items commands a b c = rw a (rw b (rw c refl))

-- the answer under an architecture and a policy, as far as the input is read
module _ {Rule Regs : Type 0} (on : Architecture Rule Regs) (policy : Policy) (fields : Data) where
  pub under-no_caches : (refusal : List ℕ) → field_below (2 ^ 16) (codes "caches") fields ≡ Err refusal
      → AnswersUnder on policy fields (Err refusal)
  unfolding AnswersUnder
  under-no_caches refusal a = follows-err (read_document on.registers fields) refusal (AreReplies on policy) (document-no_caches on.registers fields refusal a)

  pub under-no_list : (caches : ℕ) (refusal : List ℕ) → field_below (2 ^ 16) (codes "caches") fields ≡ Ok caches
      → field_as as_array (codes "commands") fields ≡ Err refusal → AnswersUnder on policy fields (Err refusal)
  unfolding AnswersUnder
  under-no_list caches refusal a b =
      follows-err (read_document on.registers fields) refusal (AreReplies on policy) (document-no_list on.registers fields caches refusal a b)

  pub under-refused : (caches : ℕ) (items : Items) (refusal : List ℕ) → field_below (2 ^ 16) (codes "caches") fields ≡ Ok caches
      → field_as as_array (codes "commands") fields ≡ Ok items → each (read_next on.registers) [] items ≡ Err refusal
      → AnswersUnder on policy fields (Err refusal)
  unfolding AnswersUnder
  under-refused caches items refusal a b c =
      follows-err (read_document on.registers fields) refusal (AreReplies on policy) (document-refused on.registers fields caches items refusal a b c)

  pub under-read : (caches : ℕ) (items : Items) (written : List (List ℕ × Written Regs)) (verbs : List (List ℕ)) (commands : List (Command (Vec ℕ Global) Regs))
      (answer : Reading (List ℕ))
      → field_below (2 ^ 16) (codes "caches") fields ≡ Ok caches → field_as as_array (codes "commands") fields ≡ Ok items
      → each (read_next on.registers) [] items ≡ Ok written → map (λ (w : List ℕ × Written Regs). w.0) written ≡ verbs → AreSaid written commands
      → answer ≡ printed on.text verbs (cached_replies (on.unwinding policy) (empty_cached_world caches 0) commands)
      → AnswersUnder on policy fields answer
  unfolding AnswersUnder
  under-read caches items written verbs commands answer a b c same are is =
      follows-ok (read_document on.registers fields) (record { caches = caches; commands = written }) (AreReplies on policy) answer
      (document-read on.registers fields caches items written a b c)
      (commands, are, is ∙ ap (λ vs. printed on.text vs (cached_replies (on.unwinding policy) (empty_cached_world caches 0) commands)) (sym same))

module _ {Rule Regs : Type 0} (on : Architecture Rule Regs) (fields : Data) where
  pub on-refused : (refusal : List ℕ) → read_policy fields ≡ Err refusal → AnswersOn on fields (Err refusal)
  unfolding AnswersOn
  on-refused refusal a = follows-err (read_policy fields) refusal (λ policy. AnswersUnder on policy fields) a

  pub on-policy : (policy : Policy) (answer : Reading (List ℕ)) → read_policy fields ≡ Ok policy → AnswersUnder on policy fields answer
      → AnswersOn on fields answer
  unfolding AnswersOn
  on-policy policy answer a holds = follows-ok (read_policy fields) policy (λ policy. AnswersUnder on policy fields) answer a holds

-- the answer to a value: to one with a bad number, to one that names no architecture, and else on that architecture
module _ (value : Data) where
  whole : has_bad_number value ≡ false → whole_numbers value ≡ Ok value
  whole good = rw good refl

  pub value-bad : has_bad_number value ≡ true → AnswersValue value (Err (refusal_text BadNumber))
  unfolding AnswersValue
  value-bad bad =
      let refused : whole_numbers value ≡ Err (refusal_text BadNumber) = rw bad refl in
      follows-err (whole_numbers value) (refusal_text BadNumber) (λ fields. Follows (read_arch fields) (λ arch. AnswersFor arch fields)) refused

  pub value-refused : (refusal : List ℕ) → has_bad_number value ≡ false → read_arch value ≡ Err refusal → AnswersValue value (Err refusal)
  unfolding AnswersValue
  value-refused refusal good a =
      follows-ok (whole_numbers value) value (λ fields. Follows (read_arch fields) (λ arch. AnswersFor arch fields)) (Err refusal) (whole good)
      (follows-err (read_arch value) refusal (λ arch. AnswersFor arch value) a)

  pub value-arch : (arch : Arch) (answer : Reading (List ℕ)) → has_bad_number value ≡ false → read_arch value ≡ Ok arch → AnswersFor arch value answer
      → AnswersValue value answer
  unfolding AnswersValue
  value-arch arch answer good a holds =
      follows-ok (whole_numbers value) value (λ fields. Follows (read_arch fields) (λ arch. AnswersFor arch fields)) answer (whole good)
      (follows-ok (read_arch value) arch (λ arch. AnswersFor arch value) answer a holds)
