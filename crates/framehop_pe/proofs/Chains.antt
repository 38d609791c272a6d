-- Chains read info by info.
use Rattle.std.proofs.Common.{◌≡◌, ℕ, zero, suc, ◌-◌, ◌<◌, List, [], ◌∷◌, Option, Some, None, Result, Ok, Err, refl, ap, sym, ◌∙◌, subst, arith}
use Rattle.framehop_bytes.specs.Bytes.{◌>>=◌}
use Rattle.framehop_pe.specs.Info.{Info}
use Rattle.framehop_pe.specs.Chain.{info_at, chained_infos, infos_from, or_end}
use Rattle.framehop_pe.specs.Sections.{Sections}
use Rattle.framehop_pe.specs.declared.pe.PeUnwinderError.{PeUnwinderError}
use Rattle.framehop_pe.specs.declared.pe.PeUnwinderError.TheVariants.{UnwindInfoParseError}

-- what reading the rest of a chain says of the whole chain
pub record Leads (s : Sections) (left : ℕ) (next : Option ℕ) (whole : ℕ) (first : Option ℕ) : Type 0 where
  pub found : chained_infos s left next ≡ Ok (infos_from s left next) → chained_infos s whole first ≡ Ok (infos_from s whole first)
  pub refused : (error : PeUnwinderError) → chained_infos s left next ≡ Err error → chained_infos s whole first ≡ Err error

pub Leads-end : (s : Sections) (left whole : ℕ) (first : Option ℕ) → Leads s left None whole first → chained_infos s whole first ≡ Ok (infos_from s whole first)
unfolding chained_infos infos_from
Leads-end s zero whole first h = h.found refl
Leads-end s (suc left) whole first h = h.found refl

-- one info too many
pub Leads-full : (s : Sections) (left : ℕ) (rva : ℕ) (whole : ℕ) (first : Option ℕ) → left ≡ 0 → Leads s left (Some rva) whole first → chained_infos s whole first ≡ Err UnwindInfoParseError
unfolding chained_infos
Leads-full s zero rva whole first e h = h.refused UnwindInfoParseError refl
Leads-full s (suc left) rva whole first e h = absurd (omega arith)

-- an info that can't be read
pub Leads-refused : (s : Sections) (left : ℕ) (rva : ℕ) (whole : ℕ) (first : Option ℕ) (error : PeUnwinderError) → 0 < left → info_at s rva ≡ Err error → Leads s left (Some rva) whole first → chained_infos s whole first ≡ Err error
unfolding chained_infos
Leads-refused s zero rva whole first error some e h = absurd (omega arith)
Leads-refused s (suc left) rva whole first error some e h = h.refused error (ap (λ r. r >>= (λ info. chained_infos s left info.chained >>= (λ infos. Ok (info ∷ infos)))) e)

behind : Info → Result (List Info) PeUnwinderError → Result (List Info) PeUnwinderError
behind info infos = infos >>= (λ i. Ok (info ∷ i))

chained-suc : (s : Sections) (left rva : ℕ) (info : Info) → info_at s rva ≡ Ok info → chained_infos s (suc left) (Some rva) ≡ behind info (chained_infos s left info.chained)
unfolding chained_infos behind
chained-suc s left rva info e = ap (λ r. r >>= (λ i. chained_infos s left i.chained >>= (λ infos. Ok (i ∷ infos)))) e

infos-suc : (s : Sections) (left rva : ℕ) (info : Info) → info_at s rva ≡ Ok info → infos_from s (suc left) (Some rva) ≡ info ∷ infos_from s left info.chained
unfolding infos_from
infos-suc s left rva info e = ap (λ r. or_end r (λ i. infos_from s left i.chained)) e

-- an info that can be read, and the rest of the chain
more : (s : Sections) (n : ℕ) (rva whole : ℕ) (first : Option ℕ) (info : Info) → info_at s rva ≡ Ok info → Leads s (suc n) (Some rva) whole first → Leads s n info.chained whole first
unfolding behind
more s n rva whole first info e h = record {
  found = λ ok. h.found (chained-suc s n rva info e ∙ ap (behind info) ok ∙ ap Ok (sym (infos-suc s n rva info e)));
  refused = λ error ok. h.refused error (chained-suc s n rva info e ∙ ap (behind info) ok);
}

pub Leads-more : (s : Sections) (left now : ℕ) (rva whole : ℕ) (first : Option ℕ) (info : Info) → 0 < left → now ≡ left - 1 → info_at s rva ≡ Ok info → Leads s left (Some rva) whole first → Leads s now info.chained whole first
Leads-more s zero now rva whole first info some is e h = absurd (omega arith)
Leads-more s (suc n) now rva whole first info some is e h =
    let same : now ≡ n = omega arith in
    subst (λ m. Leads s m info.chained whole first) (sym same) (more s n rva whole first info e h)

-- the infos at the front of a chain
pub infos_from-none : (s : Sections) (left : ℕ) → infos_from s left None ≡ []
unfolding infos_from
infos_from-none s zero = refl
infos_from-none s (suc left) = refl

pub infos_from-full : (s : Sections) (left rva : ℕ) → left ≡ 0 → infos_from s left (Some rva) ≡ []
unfolding infos_from
infos_from-full s zero rva e = refl
infos_from-full s (suc left) rva e = absurd (omega arith)

pub infos_from-refused : (s : Sections) (left rva : ℕ) (error : PeUnwinderError) → info_at s rva ≡ Err error → infos_from s left (Some rva) ≡ []
unfolding infos_from
infos_from-refused s zero rva error e = refl
infos_from-refused s (suc left) rva error e = ap (λ r. or_end r (λ i. infos_from s left i.chained)) e

pub infos_from-more : (s : Sections) (left now rva : ℕ) (info : Info) → 0 < left → now ≡ left - 1 → info_at s rva ≡ Ok info → infos_from s left (Some rva) ≡ info ∷ infos_from s now info.chained
infos_from-more s zero now rva info some is e = absurd (omega arith)
infos_from-more s (suc n) now rva info some is e =
    let same : now ≡ n = omega arith in
    infos-suc s n rva info e ∙ ap (λ m. info ∷ infos_from s m info.chained) (sym same)
