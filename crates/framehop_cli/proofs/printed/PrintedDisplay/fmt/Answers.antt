use Rattle.std.proofs.Common.{◌≡◌, ◌∙◌, ℕ, ◌-◌, true, false, List, [], ◌∷◌, ◌++◌, codes, length, refl, sym, ap, append_assoc, append-nil, nat_lt, rules, arith}
use Rattle.std.proofs.Output.{has_written_append, has_written_of_eq}
use Rattle.std.proofs.lemmas.Str.{chars-nil, chars_past_char, IsUtf8-past_char}
use Rattle.std.specs.Char.{len_utf8}
use Rattle.std.specs.Str.{chars}
use Rattle.std.specs.Str.Iter.{chars_rest}
use Rattle.framehop_cli.specs.Printed.{text_within, character_text}
use Rattle.framehop_cli.proofs.printed.PrintedDisplay.fmt.Goals as goal

-- a character that fits, and those after it
fits : (left character : ℕ) (characters : List ℕ) → nat_lt left (len_utf8 character) ≡ false
    → text_within left (character ∷ characters) ≡ character_text character ++ text_within (left - len_utf8 character) characters
unfolding text_within
fits left character characters so = rw so refl

-- one that does not
cut : (left character : ℕ) (characters : List ℕ) → nat_lt left (len_utf8 character) ≡ true
    → text_within left (character ∷ characters) ≡ codes "..."
unfolding text_within
cut left character characters so = rw so refl

none-left : (left : ℕ) → text_within left (chars []) ≡ []
unfolding text_within
none-left left = rw chars-nil refl

empty : (bytes : List ℕ) → length bytes ≡ 0 → bytes ≡ []
empty [] is = refl
empty (byte ∷ bytes) is = absurd (omega (arith, is))

pub loop-character-init : goal.loop-character-init
loop-character-init g c = (search rules, λ plain. ([], search (rules, plain), search rules))

pub loop-character-preserved : goal.loop-character-preserved
loop-character-preserved g c =
    let inv = c.loop-character.invariant in
    let rest = chars_rest c.loop-character.character-iterator in
    let character = c.in-Some.character in
    let others = chars_rest c.next.new.self in
    let are = chars_past_char rest others character inv.0 c.in-Some.ensures.steps.0 in
    let within : nat_lt c.loop-character.left (len_utf8 character) ≡ false = search rules in
    let text = ap (text_within c.loop-character.left) are ∙ fits c.loop-character.left character (chars others) within in (
      IsUtf8-past_char rest others character inv.0 c.in-Some.ensures.steps.0,
      λ plain. let met = inv.1 plain in (
        met.0 ++ character_text character,
        has_written_append _ _ _ _ _ _ met.1 (c.in_ok-print_character.ensures met.1.plain refl),
        append_assoc met.0 (character_text character) _
            ∙ ap (λ left. met.0 ++ (character_text character ++ text_within left (chars others))) (ap (λ size. c.loop-character.left - size) c.len_utf8-size.ensures.value)
            ∙ ap (λ more. met.0 ++ more) (sym text) ∙ met.2,
      ),
    )

pub returns-then-size-left-clause-writes : goal.returns-then-size-left-clause-writes
returns-then-size-left-clause-writes g c = λ plain ok.
    let inv = c.loop-character.invariant in
    let met = inv.1 plain in
    let rest = chars_rest c.loop-character.character-iterator in
    let are = chars_past_char rest (chars_rest c.next.new.self) c.in-Some.character inv.0 c.in-Some.ensures.steps.0 in
    let over : nat_lt c.loop-character.left (len_utf8 c.in-Some.character) ≡ true = search rules in
    let text = ap (text_within c.loop-character.left) are ∙ cut c.loop-character.left c.in-Some.character (chars (chars_rest c.next.new.self)) over in
    has_written_of_eq _ _ _ _ _ (ap (λ more. met.0 ++ more) (sym text) ∙ met.2) (has_written_append _ _ _ _ _ _ met.1 (c.write_str.ensures.writes met.1.plain ok))

pub returns-clause-writes : goal.returns-clause-writes
returns-clause-writes g c = λ plain ok.
    let met = c.loop-character.invariant.1 plain in
    let none : chars_rest c.loop-character.character-iterator ≡ [] = empty _ (search rules) in
    has_written_of_eq _ _ _ _ _ (sym (append-nil met.0) ∙ ap (λ more. met.0 ++ more) (sym (none-left c.loop-character.left)) ∙ ap (λ rest. met.0 ++ text_within c.loop-character.left (chars rest)) (sym none) ∙ met.2) met.1
