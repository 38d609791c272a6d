-- What is read of the bytes that a reader told.
use Rattle.std.proofs.Common.{◌≡◌, ◌≢◌, ℕ, Bool, List, Option, Some, None, Result, Ok, Err, IfOk, IfErr, IfSome, refl, subst, inr}
use Rattle.serde_json.specs.View.{view}
use Rattle.serde_json.specs.declared.value.Value.{Value}
use Rattle.framehop_walk.specs.Refusals.{refusal_text}
use Rattle.framehop_walk.specs.Answers.{Answers, IsJson, IsNoJson, IsOfInput}
use Rattle.framehop_walk.specs.declared.refusal.Refusal.{Refusal}
use Rattle.framehop_walk.specs.declared.refusal.Refusal.TheVariants.{NotJson, OutOfMemory}

-- where the bytes are those that the reader told, their value is that of what it told
pub json-told : {E : Type 0} (told : Option (List ℕ)) (bytes : List ℕ) (result : Result Value E)
    → IfSome told (λ text. bytes ≡ text) → IfOk result (λ value. IsJson bytes (view value))
    → IfOk result (λ value. IfSome told (λ text. IsJson text (view value)))
json-told None bytes (Ok value) same is_json = tt
json-told (Some text) bytes (Ok value) same is_json = let P : List ℕ → Type 0 = λ t. IsJson t (view value) in subst P same is_json
json-told told bytes (Err e) same is_json = tt

no_json-told : (told : Option (List ℕ)) (bytes : List ℕ) (refusal : Refusal) → IfSome told (λ text. bytes ≡ text)
    → (refusal ≡ NotJson) × IsNoJson bytes → IfSome told (λ text. Answers text (Err (refusal_text refusal)))
no_json-told None bytes refusal same none = tt
no_json-told (Some text) bytes refusal same none = rw none.0 (inr (subst IsNoJson same none.1, refl))

-- and the same of bytes that are no JSON
pub refused-told : (told : Option (List ℕ)) (bytes : List ℕ) (read_failed : Bool) (result : Result Value Refusal)
    → IfSome told (λ text. bytes ≡ text) → IfErr result (λ refusal. refusal ≢ OutOfMemory → (refusal ≡ NotJson) × IsNoJson bytes)
    → IfErr result (λ refusal. refusal ≢ OutOfMemory → IsOfInput read_failed told refusal)
refused-told told bytes read_failed (Ok value) same none = tt
refused-told told bytes read_failed (Err refusal) same none = λ other. inr (no_json-told told bytes refusal same (none other))
