use Rattle.std.proofs.Common.{rules}
use Rattle.framehop.specs.Policy.{with_allocation}
use Rattle.framehop_explain.specs.Found.{explaining_by}
use Rattle.framehop_explain_cli.proofs.FileLemmas.{near-appended}
use Rattle.framehop_explain_cli.proofs.file.push_relative.Goals as goal

pub returns : goal.returns
returns g c =
    let explaining = (explaining_by g.A.Unwinding.readers g.A.Sources.pe_source (record { by_code = g.A.CompactUnwindInfoUnwinding.by_code; prologue = g.A.InstructionAnalysis.prologue_rule; epilogue = g.A.InstructionAnalysis.epilogue_rule }) g.A.UnwindRule.DescribeRule.rule_text g.A.UnwindRule.UnwindRule.fallback with_allocation) in
    near-appended g.A.RegisterNames.names explaining g.A.Machine.no_registers c.args.«module».now.unwind_data c.args.address c.in_ok-source.source c.in_ok-source.told c.push_near.result _ _ (search rules) c.in_ok-source.ensures c.push_near.ensures
