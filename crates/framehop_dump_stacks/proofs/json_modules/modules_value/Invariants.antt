use Rattle.std.proofs.Common.{◌≡◌, map, take}
use Rattle.serde_json.specs.View.{view}
use Rattle.framehop_dump_stacks.specs.JsonModules.{modules_data}
use Rattle.framehop_dump_stacks.proofs.json_modules.modules_value.Given as goal

abbrev pub invariant-loop-mapping : goal.invariant-loop-mapping
invariant-loop-mapping l = map view l.values.items ≡ modules_data l.paths l.files (take l.mapping-index l.mappings)
