use Rattle.std.proofs.Common.{◌≡◌, ◌+◌, ◌^◌, Bool, true, nat_lt, List, IfOk, OnOk, subst}
use Rattle.std.proofs.lemmas.Bool.{lt-ltb}
use Rattle.framehop_check.specs.declared.check.Item.{Item}
use Rattle.framehop_check.specs.Rows.{claim_at}
use Rattle.framehop_check.specs.Check.{first_pass}
use Rattle.framehop_check.specs.Counts.{counted}
use Rattle.framehop_check.proofs.CheckLemmas.{items-by-rows, all-by-rows}
use Rattle.framehop_check.proofs.check.Checker.check_rows.Goals as goal

pub returns-clause-counts : goal.returns-clause-counts
returns-clause-counts g c =
    let fits : nat_lt (c.args.fde.now.initial_address + c.args.fde.now.address_range) (2 ^ 64) ≡ true = lt-ltb _ _ c.in-Some.ensures.0 in
    subst (λ (items : List Item). OnOk c.check_code.result (c.check_code.new.report.counts ≡ counted c.args.report.now.counts (first_pass c.args.fde.now.initial_address) items))
    (items-by-rows g.C.Code.instruction g.C.Code.numbered g.C.Code.return_column g.S.UnwindContextStorage.limits c.args.section.now
    c.args.fde.now c.args.code.now (claim_at c.deref.result.now) fits
    (λ address. rw c.deref.ensures.value (c.in_ok-read_spans.ensures.claims address))) c.check_code.ensures.counts

pub returns-clause-all : goal.returns-clause-all
returns-clause-all g c =
    let fits : nat_lt (c.args.fde.now.initial_address + c.args.fde.now.address_range) (2 ^ 64) ≡ true = lt-ltb _ _ c.in-Some.ensures.0 in
    subst (λ (whole : Bool). IfOk c.check_code.result (λ all. all ≡ whole))
    (all-by-rows g.C.Code.instruction g.C.Code.numbered g.C.Code.return_column g.S.UnwindContextStorage.limits c.args.section.now
    c.args.fde.now c.args.code.now (claim_at c.deref.result.now) fits
    (λ address. rw c.deref.ensures.value (c.in_ok-read_spans.ensures.claims address))) c.check_code.ensures.all
