use Rattle.std.proofs.Common.{◌≡◌, true, false, nat_le, slice_get, Option, Some, None, length, refl, sym, ap, ◌∙◌, arith, rules}
use Rattle.std.specs.List.Sorted.{IsPartitionPoint}
use Rattle.std.proofs.lemmas.Bool.{ltb-true, ltb-false}
use Rattle.std.proofs.lemmas.Option.{slice_get_read, slice_get_past}
use Rattle.std.proofs.lemmas.List.Sorted.{IsPartitionPoint-from_clause, IsPartitionedBy-leb}
use Rattle.framehop_disk.specs.declared.gaps.Gap.{Gap}
use Rattle.framehop_disk.proofs.GapsLemmas.{ends-rise, kept-at, kept_by}
use Rattle.framehop_disk.proofs.gaps.is_kept.Goals as goal

pub returns-in-Some : goal.returns-in-Some
returns-in-Some c =
    let gaps = c.args.gaps.now in
    let offset = c.args.offset in
    let place = c.partition_point-next.result in
    let point : IsPartitionPoint (λ (g : Gap). nat_le g.end offset ≡ true) (λ (g : Gap). nat_le g.end offset ≡ false) gaps place
    = IsPartitionPoint-from_clause (λ g. nat_le g.end offset) gaps place
    c.partition_point-next.ensures.partitioned
    (IsPartitionedBy-leb (λ g. g.end) gaps offset (ends-rise 0 0 gaps c.requires)) (λ a r q k. search rules) in
    let said = kept-at offset c.args.size 0 0 gaps c.requires place (λ k d below. point.0 k d (omega arith) below) point.1 in
    let found : ◌≡◌ {A = Option Gap} (Some c.in-Some.gap.now) (slice_get gaps place) = sym (slice_get_read gaps (length gaps) place c.in-Some.gap.now refl (ltb-true _ _ (sym c.in-Some.ensures.lookup.0)) c.in-Some.ensures.lookup.1) in
    ap (λ sum. nat_le sum c.in-Some.gap.now.start) c.saturating_add.ensures ∙ (ap (kept_by offset c.args.size) found ∙ said)

pub returns-in-None : goal.returns-in-None
returns-in-None c =
    let gaps = c.args.gaps.now in
    let offset = c.args.offset in
    let place = c.partition_point-next.result in
    let point : IsPartitionPoint (λ (g : Gap). nat_le g.end offset ≡ true) (λ (g : Gap). nat_le g.end offset ≡ false) gaps place
    = IsPartitionPoint-from_clause (λ g. nat_le g.end offset) gaps place
    c.partition_point-next.ensures.partitioned
    (IsPartitionedBy-leb (λ g. g.end) gaps offset (ends-rise 0 0 gaps c.requires)) (λ a r q k. search rules) in
    let said = kept-at offset c.args.size 0 0 gaps c.requires place (λ k d below. point.0 k d (omega arith) below) point.1 in
    let found : ◌≡◌ {A = Option Gap} None (slice_get gaps place) = sym (slice_get_past gaps place (ltb-false _ _ (sym c.in-None.ensures.lookup.0))) in
    ap (kept_by offset c.args.size) found ∙ said
