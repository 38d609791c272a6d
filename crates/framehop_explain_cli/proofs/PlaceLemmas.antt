-- Where the input is wrong, by the refusal.
use Rattle.std.proofs.Common.{◌≡◌, ℕ, List, Option}
use Rattle.serde_json.specs.Data.{Data}
use Rattle.framehop_walk.specs.Answers.{IsJson}
use Rattle.framehop_walk.specs.declared.refusal.Refusal.{Refusal}
use Rattle.framehop_walk.specs.declared.refusal.Refusal.TheVariants.{Usage, CannotReadInput, CannotWriteOutput, NotJson, BadNumber, BadField, NoSuchUnwinder, NoSuchCache, OutOfMemory, GenerationsExhausted}
use Rattle.framehop_explain_cli.specs.FaultText.{place_of, IsPlace}

-- the place in the JSON value of the bytes
pub placed-in : (refusal : Refusal) (bytes : List ℕ) (value : Data) (place : Option (List ℕ))
    → IsJson bytes value → place ≡ place_of refusal value → IsPlace refusal bytes place
placed-in NotJson bytes value place json is = λ none. let is_read = json.is_read in let is_none = none json.is_utf8 in let no : ⊥ = cc in absurd no
placed-in (BadField name) bytes value place json is = (value, json, is)
placed-in NoSuchUnwinder bytes value place json is = (value, json, is)
placed-in NoSuchCache bytes value place json is = (value, json, is)
placed-in Usage bytes value place json is = is
placed-in CannotReadInput bytes value place json is = is
placed-in CannotWriteOutput bytes value place json is = is
placed-in BadNumber bytes value place json is = is
placed-in OutOfMemory bytes value place json is = is
placed-in GenerationsExhausted bytes value place json is = is
