use Rattle.std.proofs.Common.{◌≡◌, ◌++◌, ℕ, List, string_bytes}
use Rattle.framehop.specs.Policy.{with_allocation}
use Rattle.framehop_explain.specs.DataText.{IsDataText}
use Rattle.framehop_explain.specs.Found.{explaining_by}
use Rattle.framehop_explain_cli.specs.Functions.{line}
use Rattle.framehop_explain_cli.proofs.FileLemmas.{AllWith}
use Rattle.framehop_explain_cli.proofs.file.module_text.Given as goal

abbrev pub invariant-loop-address : goal.invariant-loop-address
invariant-loop-address g l =
    let explaining = (explaining_by g.A.Unwinding.readers g.A.Sources.pe_source (record { by_code = g.A.CompactUnwindInfoUnwinding.by_code; prologue = g.A.InstructionAnalysis.prologue_rule; epilogue = g.A.InstructionAnalysis.epilogue_rule }) g.A.UnwindRule.DescribeRule.rule_text g.A.UnwindRule.UnwindRule.fallback with_allocation) in
    (data_text : List ℕ) × (texts : List ℕ) × IsDataText l.«module».unwind_data data_text
    × AllWith g.A.RegisterNames.names explaining g.A.Machine.no_registers l.«module».unwind_data l.addresses l.address-index texts
    × (string_bytes l.out ≡ line data_text ++ texts)
