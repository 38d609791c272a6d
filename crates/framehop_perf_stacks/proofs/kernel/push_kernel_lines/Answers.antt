use Rattle.std.proofs.Common.{◌≡◌, ◌++◌, Some, false, ap, sym, ◌∙◌, subst}
use Rattle.std.specs.List.{flat_map}
use Rattle.std.specs.Result.{OnOk}
use Rattle.std.proofs.lemmas.List.Folds.{flat_map-map}
use Rattle.framehop_core.specs.CodeAddress.{location_of}
use Rattle.framehop_recording.specs.Chain.{kernel_part}
use Rattle.framehop_recording.specs.Sample.{read_chain_view}
use Rattle.framehop_perf_stacks.specs.Chain.{chain_locations, kernel_line, kernel_lines, kernel_lines_by}
use Rattle.framehop_perf_stacks.proofs.kernel.push_kernel_lines.Goals as goal

pub returns : goal.returns
returns c =
    let names = c.in-Some.names.now.by_start in
    let whole : kernel_lines c.args.options (read_chain_view c.args.chain) ≡ flat_map (kernel_line names) (chain_locations (kernel_part c.in-Ok.chain.bytes.now)) =
    ap (λ kernel. kernel_lines_by kernel c.args.options.explain (read_chain_view c.args.chain)) c.in-Some.is
    ∙ ap (λ explain. kernel_lines_by (Some c.in-Some.names) explain (read_chain_view c.args.chain)) c.if-options.false
    ∙ ap (λ chain. kernel_lines_by (Some c.in-Some.names) false (read_chain_view chain)) c.in-Ok.is in
    let shown : flat_map (λ frame. kernel_line names (location_of frame)) c.as_slice.result.now ≡ kernel_lines c.args.options (read_chain_view c.args.chain) =
    ap (flat_map (λ frame. kernel_line names (location_of frame))) c.as_slice.ensures.value
    ∙ sym (flat_map-map (kernel_line names) location_of c.in_ok-frames.frames.items)
    ∙ ap (flat_map (kernel_line names)) c.in_ok-frames.ensures ∙ sym whole in
    subst (λ text. OnOk c.push_lines.result (c.push_lines.new.block.items ≡ c.args.block.now.items ++ text)) shown c.push_lines.ensures
