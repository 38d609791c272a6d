-- What is found of a frame, from the clauses of the call that finds it.
use Rattle.std.proofs.Common.{◌≡◌, ◌∙◌, ℕ, ◌-◌, Bool, List, Option, Some, None, option_map, MatchOption, IfSome, Result, Ok, Err, IfOk, ap, sym, subst}
use Rattle.framehop_core.specs.CodeAddress.{FrameLocation, lookup_address, is_first_frame}
use Rattle.framehop_core.specs.Memory.{Memory}
use Rattle.framehop_cfi.specs.declared.storage.StorageLimits.{StorageLimits}
use Rattle.framehop_macho.specs.Unwinder.{CompactReader}
use Rattle.framehop_pe.specs.Sections.{Sections}
use Rattle.framehop.specs.Modules.{ModuleView, covering}
use Rattle.framehop.specs.Policy.{Policy}
use Rattle.framehop.specs.Unwinding.{Readers}
use Rattle.framehop_explain.specs.Explain.{IsSource, IsTold}
use Rattle.framehop_explain.specs.CompactSource.{CodeReader}
use Rattle.framehop_explain.specs.Found.{Explaining, FrameFinding, IsFinding, explaining_by}
use Rattle.framehop_explain.specs.declared.source.PeSource.{PeSource}

pub found-by : {R S F : Type 0} (explaining : Explaining R S) (modules : List ModuleView) (memory : Memory) (location : FrameLocation) (regs : S) (view : F → FrameFinding R) (finding : Option F)
    → MatchOption finding (covering modules (lookup_address location) ≡ None)
    (λ found. (covering modules (lookup_address location) ≡ Some (view found).«module»)
    × ((view found).relative_address ≡ lookup_address location - (view found).«module».base_avma)
    × IsSource explaining.places explaining.limits (view found).«module».unwind_data (view found).relative_address (is_first_frame location) (view found).source)
    → IfSome finding (λ found. IsTold (explaining.values memory (is_first_frame location) regs) explaining.limits (view found).«module».unwind_data (view found).relative_address (is_first_frame location) (view found).told)
    → IsFinding explaining modules memory location regs (option_map view finding)
found-by explaining modules memory location regs view None covers tells = covers
found-by explaining modules memory location regs view (Some found) covers tells = (covers.0, covers.1, covers.2, tells)

-- how frames are explained, by readers, and by limits in the place of a policy
abbrev pub explaining_with : {R S : Type 0} → Readers R S → CompactReader R → (Sections → ℕ → Bool → PeSource) → CodeReader R → (R → List ℕ) → R → Option StorageLimits → Option ℕ → Explaining R S
explaining_with r compact pe code text fallback rows values = record {
  places = record { pe = pe; code = code; compact = compact };
  values = λ memory first old. record {
    translated = r.rows.translated;
    uncovered = r.rows.uncovered;
    direct = λ bytes row. r.rows.direct bytes values memory row first old;
    found = r.pe_found;
    computed = λ sections relative frame. r.pe_computed sections relative frame memory old;
    compact = compact;
  };
  limits = rows;
  text = text;
  fallback = fallback;
}

-- the readers and the limits by their names in the traits
pub named : {R S : Type 0} (x r : Readers R S) (pe : Sections → ℕ → Bool → PeSource) (code : CodeReader R) (text : R → List ℕ) (fallback : R) (policy : Policy) (rows : Option StorageLimits) (values : Option ℕ)
    (P : Explaining R S → Type 0) → x ≡ r → policy.rows ≡ rows → policy.values ≡ values
    → P (explaining_with r x.compact pe code text fallback rows values) → P (explaining_by x pe code text fallback policy)
named {R} {S} x r pe code text fallback policy rows values P is rows-are values-are holds =
    let same : explaining_by x pe code text fallback policy ≡ explaining_with r x.compact pe code text fallback rows values =
    ap (λ (y : Readers R S). explaining_with y x.compact pe code text fallback policy.rows policy.values) is
    ∙ ap (λ limits. explaining_with r x.compact pe code text fallback limits policy.values) rows-are
    ∙ ap (λ limit. explaining_with r x.compact pe code text fallback rows limit) values-are in
    subst P (sym same) holds

-- what two clauses say of a result that is there, by what follows of both
pub ok-from : {A E : Type 0} {P Q R : A → Type 0} (result : Result A E) → IfOk result P → IfOk result Q → ((x : A) → P x → Q x → R x) → IfOk result R
ok-from (Ok x) first second both = both x first second
ok-from (Err error) first second both = tt
