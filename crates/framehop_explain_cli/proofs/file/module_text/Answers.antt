use Rattle.std.proofs.Common.{◌≤◌, ◌+◌, ◌++◌, ◌∙◌, [], length, string_bytes, ap, append_assoc, rules}
use Rattle.framehop.specs.Policy.{with_allocation}
use Rattle.framehop_explain.specs.Found.{explaining_by}
use Rattle.framehop_explain_cli.specs.Functions.{line}
use Rattle.framehop_explain_cli.specs.FileText.{functions_unless_asked}
use Rattle.framehop_explain_cli.proofs.FileLemmas.{with-next, with-none, first-line}
use Rattle.framehop_explain_cli.proofs.file.module_text.Goals as goal

pub loop-address-init : goal.loop-address-init
loop-address-init g c =
    let data_text = string_bytes c.in_ok-unwind_data.unwind_data in (
      data_text,
      [],
      c.in_ok-unwind_data.ensures,
      (λ others are. are),
      first-line _ _ _ _ c.new-out.ensures.bytes c.as_str.ensures.value c.in_ok-writeln.ensures.bytes,
    )

pub loop-address-preserved : goal.loop-address-preserved
loop-address-preserved g c =
    let explaining = (explaining_by g.A.Unwinding.readers g.A.Sources.pe_source (record { by_code = g.A.CompactUnwindInfoUnwinding.by_code; prologue = g.A.InstructionAnalysis.prologue_rule; epilogue = g.A.InstructionAnalysis.epilogue_rule }) g.A.UnwindRule.DescribeRule.rule_text g.A.UnwindRule.UnwindRule.fallback with_allocation) in
    let inv = c.loop-address.invariant in
    let one = c.in_ok-push_address.ensures in (
      inv.0,
      inv.1 ++ one.0,
      inv.2,
      with-next g.A.RegisterNames.names explaining g.A.Machine.no_registers c.args.«module».now.unwind_data c.args.addresses.now c.loop-address.address-index _ inv.1 one.0 (search rules) (search rules) one.1 inv.3,
      one.2 ∙ ap (λ text. text ++ one.0) inv.4 ∙ append_assoc (line inv.0) inv.1 one.0,
    )

pub returns : goal.returns
returns g c =
    let explaining = (explaining_by g.A.Unwinding.readers g.A.Sources.pe_source (record { by_code = g.A.CompactUnwindInfoUnwinding.by_code; prologue = g.A.InstructionAnalysis.prologue_rule; epilogue = g.A.InstructionAnalysis.epilogue_rule }) g.A.UnwindRule.DescribeRule.rule_text g.A.UnwindRule.UnwindRule.fallback with_allocation) in
    let inv = c.loop-address.invariant in
    let past : length c.args.addresses.now ≤ c.loop-address.address-index = search rules in (
      inv.0,
      inv.1,
      inv.2,
      with-none g.A.RegisterNames.names explaining g.A.Machine.no_registers c.args.«module».now.unwind_data c.args.addresses.now c.loop-address.address-index inv.1 past inv.3,
      c.in_ok-push_functions_unless_asked.ensures ∙ ap (λ text. text ++ functions_unless_asked c.args.«module».now.unwind_data c.args.addresses.now) inv.4,
    )
