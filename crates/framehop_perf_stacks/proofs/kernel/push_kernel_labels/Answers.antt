use Rattle.std.proofs.Common.{◌≡◌, ◌++◌, Some, false, ap, sym, ◌∙◌, subst}
use Rattle.std.specs.Result.{OnOk}
use Rattle.framehop_core.specs.CodeAddress.{location_of}
use Rattle.framehop_frames.specs.Line.{frames_text}
use Rattle.framehop_recording.specs.Chain.{kernel_part}
use Rattle.framehop_recording.specs.Sample.{read_chain_view}
use Rattle.framehop_perf_stacks.specs.Chain.{chain_locations, kernel_label, kernel_text, kernel_text_by}
use Rattle.framehop_perf_stacks.proofs.ChainLemmas.{labels-map}
use Rattle.framehop_perf_stacks.proofs.kernel.push_kernel_labels.Goals as goal

pub returns : goal.returns
returns c =
    let names = c.in-Some.names.now.by_start in
    let whole : kernel_text c.args.options (read_chain_view c.args.chain) ≡ frames_text (kernel_label names) (chain_locations (kernel_part c.in-Ok.chain.bytes.now)) =
    ap (λ kernel. kernel_text_by kernel c.args.options.explain (read_chain_view c.args.chain)) c.in-Some.is
    ∙ ap (λ explain. kernel_text_by (Some c.in-Some.names) explain (read_chain_view c.args.chain)) c.if-options.false
    ∙ ap (λ chain. kernel_text_by (Some c.in-Some.names) false (read_chain_view chain)) c.in-Ok.is in
    let shown : frames_text (λ frame. kernel_label names (location_of frame)) c.as_slice.result.now ≡ kernel_text c.args.options (read_chain_view c.args.chain) =
    ap (frames_text (λ frame. kernel_label names (location_of frame))) c.as_slice.ensures.value
    ∙ sym (labels-map (kernel_label names) location_of c.in_ok-frames.frames.items)
    ∙ ap (frames_text (kernel_label names)) c.in_ok-frames.ensures ∙ sym whole in
    subst (λ text. OnOk c.push_labels.result (c.push_labels.new.line.items ≡ c.args.line.now.items ++ text)) shown c.push_labels.ensures
