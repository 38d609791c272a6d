-- The text of a file, one address at a time, and one function of a PE file at a time.
use Rattle.std.proofs.Common.{◌≡◌, ◌∙◌, ◌<◌, ◌≤◌, ◌+◌, ◌^◌, Result, Ok, Err, lt-ltb, ℕ, List, [], ◌∷◌, ◌++◌, drop, drop-cons, length, get_or, refl, sym, ap, subst, append_assoc, append-nil, arith}
use Rattle.std.proofs.Math.ListN.{drop_of_length-le}
use Rattle.std.specs.List.{flat_map}
use Rattle.framehop_pe.specs.FunctionTable.{function_at}
use Rattle.framehop.specs.Modules.{UnwindData}
use Rattle.framehop_explain.specs.Found.{Explaining}
use Rattle.framehop_explain_cli.specs.Functions.{line}
use Rattle.framehop_explain_cli.specs.FileText.{IsToldOf, IsAddressText, AreAddressTexts, near_text, entry_text}
use Rattle.framehop_explain.specs.declared.source.Source.{Source}
use Rattle.framehop_explain.specs.declared.told.Told.{Told}
use Rattle.std.specs.Prelude.{OnOk}

module _ {R S : Type 0} (names : List (List ℕ)) (explaining : Explaining R S) (registers : S) (unwind_data : UnwindData) where
  -- what is told of an address that is less than 4 GiB above the base, once it is appended
  pub near-appended : {A E : Type 0} (address : ℕ) (source : Source) (told : Told R) (result : Result A E) (old new : List ℕ) → address < 2 ^ 32
      → IsToldOf names explaining registers unwind_data address source told
      → OnOk result (new ≡ old ++ near_text names explaining.text unwind_data address source told)
      → OnOk result ((text : List ℕ) × IsAddressText names explaining registers unwind_data address text × (new ≡ old ++ text))
  near-appended address source told (Ok done) old new within is appended =
      (near_text names explaining.text unwind_data address source told, rw (lt-ltb address (2 ^ 32) within) (source, told, is, refl), appended)
  near-appended address source told (Err error) old new within is appended = tt

module _ {R S : Type 0} (names : List (List ℕ)) (explaining : Explaining R S) (registers : S) (unwind_data : UnwindData) (addresses : List ℕ) where
  -- with the texts of the addresses from one on, those so far are all
  abbrev pub AllWith : ℕ → List ℕ → Type 0
  AllWith i texts = (others : List ℕ) → AreAddressTexts names explaining registers unwind_data (drop i addresses) others
      → AreAddressTexts names explaining registers unwind_data addresses (texts ++ others)

  pub with-next : (i : ℕ) (address : ℕ) (texts first : List ℕ) → i < length addresses → address ≡ get_or addresses i address
      → IsAddressText names explaining registers unwind_data address first → AllWith i texts → AllWith (i + 1) (texts ++ first)
  unfolding AreAddressTexts
  with-next i address texts first within is told all = λ others are.
      let next : drop i addresses ≡ address ∷ drop (i + 1) addresses = grind (arith, drop-cons) in
      let These : List ℕ → Type 0 = λ these. AreAddressTexts names explaining registers unwind_data these (first ++ others) in
      let All : List ℕ → Type 0 = λ text. AreAddressTexts names explaining registers unwind_data addresses text in
      subst All (sym (append_assoc texts first others)) (all (first ++ others) (subst These (sym next) (first, others, told, are, refl)))

  pub with-none : (i : ℕ) (texts : List ℕ) → length addresses ≤ i → AllWith i texts → AreAddressTexts names explaining registers unwind_data addresses texts
  unfolding AreAddressTexts
  with-none i texts past all =
      let These : List ℕ → Type 0 = λ these. AreAddressTexts names explaining registers unwind_data these [] in
      let All : List ℕ → Type 0 = λ text. AreAddressTexts names explaining registers unwind_data addresses text in
      subst All (append-nil texts) (all [] (subst These (sym (drop_of_length-le addresses past)) refl))

-- a text, and then the functions of some entries
abbrev pub left_of : List ℕ → List (List ℕ) → List ℕ
left_of text entries = text ++ flat_map (λ entry. entry_text (function_at entry)) entries

pub entry-next : (entries : List (List ℕ)) (i : ℕ) (entry text more : List ℕ) → more ≡ text ++ entry_text (function_at entry)
    → i < length entries → entry ≡ get_or entries i entry → left_of more (drop (i + 1) entries) ≡ left_of text (drop i entries)
entry-next entries i entry text more grown within is =
    let next : drop i entries ≡ entry ∷ drop (i + 1) entries = grind (arith, drop-cons) in
    ap (λ t. left_of t (drop (i + 1) entries)) grown
    ∙ append_assoc text (entry_text (function_at entry)) (flat_map (λ e. entry_text (function_at e)) (drop (i + 1) entries))
    ∙ ap (left_of text) (sym next)

pub entry-none : (entries : List (List ℕ)) (i : ℕ) (text : List ℕ) → length entries ≤ i → left_of text (drop i entries) ≡ text
entry-none entries i text past = ap (left_of text) (drop_of_length-le entries past) ∙ append-nil text

-- the first line of a text
pub first-line : (empty shown text out : List ℕ) → empty ≡ [] → shown ≡ text → out ≡ empty ++ (shown ++ 10 ∷ []) → out ≡ line text ++ []
first-line empty shown text out none same written =
    written ∙ ap (λ e. e ++ (shown ++ 10 ∷ [])) none ∙ ap (λ t. t ++ 10 ∷ []) same ∙ sym (append-nil (line text))
