use Rattle.std.proofs.Common.{◌<◌, ◌-◌, ap, refl, arith, sym, ◌∙◌}
use Rattle.std.specs.List.{flat_map}
use Rattle.framehop_pe.specs.Sections.{sections_of}
use Rattle.framehop_pe.specs.Chain.{all_of, infos_from}
use Rattle.framehop_pe.specs.Info.{read_by}
use Rattle.framehop_pe.proofs.Chains.{infos_from-none, infos_from-full, infos_from-refused, infos_from-more}
use Rattle.framehop_pe.proofs.unwind_info.chain.UnwindOperations.enter_chained.Goals as goal

pub returns-in_err-rva : goal.returns-in_err-rva
returns-in_err-rva g c =
    let s = sections_of g.D.SectionBytes.contents c.args.self.now.sections.now in
    rw c.from_residual.ensures (refl, ap (infos_from s c.args.self.now.left) c.in_err-rva.was ∙ infos_from-none s c.args.self.now.left)

pub returns-then-self-eq0 : goal.returns-then-self-eq0
returns-then-self-eq0 g c =
    let s = sections_of g.D.SectionBytes.contents c.args.self.now.sections.now in
    (refl, ap (infos_from s c.args.self.now.left) c.in_ok-rva.was ∙ infos_from-full s c.args.self.now.left c.in_ok-rva.rva c.if-self-eq0.true)

pub returns-in_default : goal.returns-in_default
returns-in_default g c =
    let s = sections_of g.D.SectionBytes.contents c.args.self.now.sections.now in
    (refl, ap (infos_from s c.args.self.now.left) c.in_ok-rva.was ∙ infos_from-refused s c.args.self.now.left c.in_ok-rva.rva c.in_default.field-0 c.in_default.ensures)

pub returns : goal.returns
returns g c =
    let s = sections_of g.D.SectionBytes.contents c.args.self.now.sections.now in
    let left = c.args.self.now.left in
    let some : 0 < left = omega (arith, c.if-self-eq0.false) in
    let more = ap (infos_from s left) c.in_ok-rva.was ∙ infos_from-more s left (left - 1) c.in_ok-rva.rva (read_by c.in-Ok.info) some refl c.in-Ok.ensures in
    (omega arith, ap (flat_map all_of) (sym more))
