-- The text of an object without its closing brace.
use Rattle.std.proofs.Common.{◌≡◌, ℕ, ◌+◌, ◌-◌, List, [], ◌∷◌, ◌++◌, Bool, true, false, length, take, refl, ap, sym, ◌∙◌, append_assoc, arith}
use Rattle.std.proofs.lemmas.List.{length-append}
use Rattle.std.proofs.Math.Seq.{take-append_seam}
use Rattle.serde_json.specs.Data.{object, Members, member, no_members}
use Rattle.serde_json.specs.Written.{comma_if, compact_text, members_text}
use Rattle.json.specs.Print.{quoted}
use Rattle.framehop_dump_stacks.specs.JsonReport.{members_front}

members-front : (later : Bool) (members : Members) → members_text later members ≡ members_front later members ++ 125 ∷ []
members-front later no_members = refl
members-front later (member k d others) =
    ap (λ rest. comma_if later ++ (quoted k ++ 58 ∷ (compact_text d ++ rest))) (members-front true others)
    ∙ sym (append_assoc (comma_if later) _ _ ∙ ap (λ rest. comma_if later ++ rest) (append_assoc (quoted k) _ _
    ∙ ap (λ rest. quoted k ++ 58 ∷ rest) (append_assoc (compact_text d) _ _)))

-- an object's text without its last byte
pub without-brace : (members : Members) (text front : List ℕ) → text ≡ compact_text (object members) → front ≡ take (length text - 1) text
    → front ≡ 123 ∷ members_front false members
without-brace members text front is cut =
    let whole : text ≡ (123 ∷ members_front false members) ++ 125 ∷ [] = is ∙ ap (λ rest. 123 ∷ rest) (members-front false members) in
    let size : length text ≡ length (123 ∷ members_front false members) + 1 = ap length whole ∙ length-append (123 ∷ members_front false members) (125 ∷ []) in
    let count : length text - 1 ≡ length (123 ∷ members_front false members) = omega (arith, size) in
    cut ∙ ap (λ n. take n text) count ∙ ap (take (length (123 ∷ members_front false members))) whole
    ∙ take-append_seam (123 ∷ members_front false members) (125 ∷ [])
