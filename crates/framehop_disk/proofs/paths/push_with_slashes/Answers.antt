use Rattle.std.proofs.Common.{◌≡◌, ◌∙◌, ap, [], ◌∷◌, ◌++◌, arith, rules, string_bytes, None, Some}
use Rattle.std.proofs.lemmas.Str.Pattern.{split_parts}
use Rattle.framehop_disk.specs.Paths.{with_slashes}
use Rattle.framehop_disk.proofs.PathLemmas.{slashes-step, slashes-last}
use Rattle.framehop_disk.proofs.paths.push_with_slashes.Goals as goal

pub loop-folder-preserved : goal.loop-folder-preserved
loop-folder-preserved c =
    let parts = split_parts 92 c.loop-folder.rest.now (Some (c.in-Some.folder, c.in-Some.below)) c.in-Some.ensures.cases (omega arith) in
    let done = string_bytes c.loop-folder.path in
    let bytes : string_bytes c.push_str-in-Some.new.self ≡ (done ++ c.in-Some.folder.now) ++ 47 ∷ [] = search rules in
    record {
      text = search rules;
      left = ap (λ bytes. bytes ++ with_slashes c.in-Some.below.now) bytes
          ∙ slashes-step done c.loop-folder.rest.now c.in-Some.folder.now c.in-Some.below.now parts.0 parts.1
          ∙ c.loop-folder.invariant.left;
    }

pub returns : goal.returns
returns c =
    let lacks = split_parts 92 c.loop-folder.rest.now None c.in_default.ensures.cases (omega arith) in
    c.in_ok-push_str-3.ensures.bytes ∙ slashes-last (string_bytes c.loop-folder.path) c.loop-folder.rest.now lacks
    ∙ c.loop-folder.invariant.left
