use Rattle.std.proofs.Common.{◌≡◌, true, false, nat_le, slice_get, Option, Some, None, length, refl, sym, ap, ◌∙◌, arith, rules}
use Rattle.std.specs.List.Sorted.{IsPartitionPoint}
use Rattle.std.proofs.lemmas.Bool.{ltb-true, ltb-false}
use Rattle.std.proofs.lemmas.Option.{slice_get_read, slice_get_past}
use Rattle.std.proofs.lemmas.List.Sorted.{IsPartitionPoint-from_clause, IsPartitionedBy-leb}
use Rattle.framehop_check.specs.declared.rows.Span.{Span}
use Rattle.framehop_check.specs.Rows.{end_of, claim_of_found}
use Rattle.framehop_check.proofs.RowLemmas.{claim_at-point}
use Rattle.framehop_check.proofs.rows.claim_at.Goals as goal

pub returns-in-Some : goal.returns-in-Some
returns-in-Some c =
    let spans = c.args.spans.now in
    let address = c.args.address in
    let place = c.partition_point-place.result in
    let point : IsPartitionPoint (λ (s : Span). nat_le (end_of s) address ≡ true) (λ (s : Span). nat_le (end_of s) address ≡ false)
    spans place = IsPartitionPoint-from_clause (λ s. nat_le (end_of s) address) spans place
    c.partition_point-place.ensures.partitioned
    (IsPartitionedBy-leb end_of spans address c.requires) (λ a r q k. search rules) in
    let said = claim_at-point spans address place (λ k d below within. point.0 k d (omega arith) below)
    (λ k d above within. point.1 k d above within) in
    let found : ◌≡◌ {A = Option Span} (Some c.in-Some.span.now) (slice_get spans place) = sym (slice_get_read spans (length spans) place c.in-Some.span.now refl (ltb-true _ _ (sym c.in-Some.ensures.lookup.0)) c.in-Some.ensures.lookup.1) in
    c.claim_of_span.ensures ∙ (ap (claim_of_found address) found ∙ said)

pub returns-in-None : goal.returns-in-None
returns-in-None c =
    let spans = c.args.spans.now in
    let address = c.args.address in
    let place = c.partition_point-place.result in
    let point : IsPartitionPoint (λ (s : Span). nat_le (end_of s) address ≡ true) (λ (s : Span). nat_le (end_of s) address ≡ false)
    spans place = IsPartitionPoint-from_clause (λ s. nat_le (end_of s) address) spans place
    c.partition_point-place.ensures.partitioned
    (IsPartitionedBy-leb end_of spans address c.requires) (λ a r q k. search rules) in
    let said = claim_at-point spans address place (λ k d below within. point.0 k d (omega arith) below)
    (λ k d above within. point.1 k d above within) in
    let found : ◌≡◌ {A = Option Span} None (slice_get spans place) = sym (slice_get_past spans place (ltb-false _ _ (sym c.in-None.ensures.lookup.0))) in
    ap (claim_of_found address) found ∙ said
