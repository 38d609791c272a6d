use Rattle.std.proofs.Common.{rules, ◌≡◌, Ok, map, ap, ◌∙◌}
use Rattle.framehop_object.specs.Elf.Segment.{loaded_segments_of}
use Rattle.framehop_object.specs.Elf.UnwindSections.{bytes_in, bytes_or_none, debug_frame_of}
use Rattle.framehop_processes.specs.ObjectFiles.{part_view, constant_parts, headers_view, headers_of, code_of, module_in, debug_frame_in, elf_contents, elf_contents_by}
use Rattle.framehop_processes.proofs.object_file.read_elf.Goals as goal

pub returns-clause-kept : goal.returns-clause-kept
returns-clause-kept c =
    let file = c.args.bytes.now in
    let view = headers_view c.in_ok-headers.headers in
    let read : headers_of file ≡ Ok view = search rules in
    let contents : bytes_in c.in_ok-frames.frames.contents ≡ bytes_or_none (debug_frame_of view.elf) = search rules in
    let loaded = ap (module_in view.elf) contents in
    let debug_frame = ap (debug_frame_in view.elf) contents in
    let placed : c.in_ok-constants.constants.items ≡ constant_parts view.elf.sections = search rules in
    let listed : c.in_ok-segments.segments.items ≡ loaded_segments_of view.segments = search rules in (
      elf_contents file view,
      ap (elf_contents_by file) read,
      λ code whole same. record {
        segments = search rules;
        entry = search rules;
        code = same ∙ ap (code_of file) listed;
        constants = ap (λ f. map (part_view f) c.in_ok-constants.constants.items) whole ∙ ap (map (part_view file)) placed;
        build_id = search rules;
        debug_link = search rules;
        frames_problem = search rules;
        loaded = search (rules, loaded);
        debug_frame = search (rules, debug_frame);
        tables = search rules;
      },
    )
