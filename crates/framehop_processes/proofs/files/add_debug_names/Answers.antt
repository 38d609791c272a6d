use Rattle.std.proofs.Common.{rules, ◌≡◌, ◌≢◌, [], Some, None, refl}
use Rattle.framehop_processes.proofs.FileLemmas.{debug-given, empty-of_length}
use Rattle.framehop_processes.specs.ObjectFiles.{debug_tables_of}
use Rattle.framehop_processes.specs.Files.{AreDebugTables}
use Rattle.framehop_processes.proofs.files.add_debug_names.Goals as goal

pub returns-then-is_empty : goal.returns-then-is_empty
returns-then-is_empty g c = record {
  kept = λ file kept.
      let empty : c.args.object.now.build_id.items ≡ [] = empty-of_length _ (search rules) in
      let none : AreDebugTables (g.S.FileSource.source c.args.source.now) c.args.path.now c.args.object.now.debug_link.items c.args.object.now.build_id.items [] = rw empty refl in
      ([], none, kept);
}

pub returns-in_default : goal.returns-in_default
returns-in_default g c = record {
  kept = λ file kept.
      let source = g.S.FileSource.source c.args.source.now in
      let build_id = c.args.object.now.build_id.items in
      let link = c.args.object.now.debug_link.items in
      let some : build_id ≢ [] = search rules in
      let gave : source.gives_debug c.args.path.now build_id link None = search rules in
      ([], debug-given source c.args.path.now link build_id None some gave, kept);
}

pub returns-in-Ok : goal.returns-in-Ok
returns-in-Ok g c = record {
  kept = λ file kept.
      let source = g.S.FileSource.source c.args.source.now in
      let build_id = c.args.object.now.build_id.items in
      let link = c.args.object.now.debug_link.items in
      let bytes = c.in-Some.bytes.items in
      let some : build_id ≢ [] = search rules in
      let gave : source.gives_debug c.args.path.now build_id link (Some bytes) = search rules in
      let given = debug-given source c.args.path.now link build_id (Some bytes) some gave in
      let same = c.add_debug_names.ensures.same in
      let same_link = c.add_debug_names.ensures.same_link in
      let after = c.in-Ok.ensures.kept file kept in
      (debug_tables_of build_id bytes, search (rules, given, same, same_link), search (rules, after));
}
