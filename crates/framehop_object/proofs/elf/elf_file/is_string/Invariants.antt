use Rattle.std.proofs.Common.{◌≡◌, drop}
use Rattle.framehop_object.proofs.StringLemmas.{is_name}
use Rattle.framehop_object.proofs.elf.elf_file.is_string.Given as goal

-- what is left of the bytes and of the name decides
abbrev pub invariant-loop-index : goal.invariant-loop-index
invariant-loop-index l = is_name l.bytes l.name ≡ is_name (drop l.index l.bytes) (drop l.index l.name)
