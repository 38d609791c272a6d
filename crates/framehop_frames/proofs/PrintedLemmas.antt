-- A name of which each byte is printed as it is.
use Rattle.std.proofs.Common.{◌≡◌, ℕ, List, [], ◌∷◌, ◌++◌, Bool, false, refl, ap, ◌∙◌}
use Rattle.std.proofs.lemmas.Bool.{or_parts}
use Rattle.std.specs.List.{flat_map, list_any}
use Rattle.std.specs.Prelude.{◌==◌}
use Rattle.framehop_frames.specs.Line.{is_changed, is_escaped, printed_byte}

same_byte : (text : Bool) (byte : ℕ) → is_changed text byte ≡ false → printed_byte text byte ≡ byte ∷ []
same_byte text byte kept =
    let parts = or_parts (byte == 59) (is_escaped text byte) kept in
    rw (parts.0, parts.1) refl

pub printed_as_it_is : (text : Bool) (bytes : List ℕ) → list_any (is_changed text) bytes ≡ false
    → flat_map (printed_byte text) bytes ≡ bytes
printed_as_it_is text [] kept = refl
printed_as_it_is text (byte ∷ bytes) kept =
    let parts = or_parts (is_changed text byte) (list_any (is_changed text) bytes) kept in
    ap (λ printed. printed ++ flat_map (printed_byte text) bytes) (same_byte text byte parts.0)
    ∙ ap (λ rest. byte ∷ rest) (printed_as_it_is text bytes parts.1)
