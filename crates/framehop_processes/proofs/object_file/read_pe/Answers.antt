use Rattle.std.proofs.Common.{rules, ◌≡◌, Ok, map, ap, ◌∙◌}
use Rattle.framehop_object.specs.Pe.PeFile.{pe_file_of}
use Rattle.framehop_processes.specs.ObjectFiles.{segment_of, code_of, pe_contents, pe_contents_by}
use Rattle.framehop_processes.proofs.object_file.read_pe.Goals as goal

pub returns-clause-kept : goal.returns-clause-kept
returns-clause-kept c =
    let file = c.args.bytes.now in
    let pe = c.in_ok-pe.pe in
    let read : pe_file_of file ≡ Ok pe = search rules in
    let listed : c.in_ok-segments.segments.items ≡ map segment_of pe.sections = search rules in (
      pe_contents file pe,
      ap (pe_contents_by file) read,
      λ code whole same. record {
        segments = search rules;
        entry = search rules;
        code = same ∙ ap (code_of file) listed;
        constants = search rules;
        build_id = search rules;
        debug_link = search rules;
        frames_problem = search rules;
        loaded = search rules;
        debug_frame = search rules;
        tables = search rules;
      },
    )
