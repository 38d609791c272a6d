use Rattle.std.proofs.Common.{rules, ◌≡◌, ◌+◌, ◌-◌, ◌/◌, ◌∙◌, sym, ap, length}
use Rattle.std.specs.List.{filter_map, fold, range_with_len}
use Rattle.framehop_check_cli.specs.Findings.{found_view}
use Rattle.framehop_check_cli.specs.PeFindings.{function_in, with_entry, with_found}
use Rattle.framehop_check_cli.proofs.PeLemmas.{one-entry}
use Rattle.framehop_check_cli.proofs.pe_file.check_table.Goals as goal

pub loop-number-preserved : goal.loop-number-preserved
loop-number-preserved c =
    let image = c.args.image.now in
    let options = c.args.options in
    let table = c.args.table.now in
    let number = c.loop-number.number in
    let count = length table / 12 in
    let found = found_view c.loop-number.findings in
    let at : c.parse.result ≡ function_in table number = search rules in
    let now : found_view c.check_found.new.findings ≡ with_found image options found (function_in table number)
    = c.in_ok-check_found.ensures ∙ ap (with_found image options found) at in
    ap (λ f. fold (with_entry image options) f (filter_map (function_in table) (range_with_len (number + 1) (count - (number + 1))))) now
    ∙ sym (one-entry image options table found number count c.loop-number-test.true) ∙ c.loop-number.invariant
