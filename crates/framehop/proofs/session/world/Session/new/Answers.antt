use Rattle.std.proofs.Common.{◌≡◌, [], ◌∷◌, ◌++◌, replicate, ap, ◌∙◌, arith, rules}
use Rattle.std.proofs.lemmas.List.{replicate_more}
use Rattle.framehop_cache.specs.Cache.{empty_cache}
use Rattle.framehop.proofs.session.world.Session.new.Goals as goal

pub loop-number-preserved : goal.loop-number-preserved
loop-number-preserved g c =
    let pushed : c.push.new.self.items ≡ c.loop-number.caches.items ++ c.in-Ok.cache ∷ [] = search rules in
    rw (pushed, c.in-Ok.ensures.made, c.loop-number.invariant) (replicate_more c.loop-number._number empty_cache)

pub returns-clause-made : goal.returns-clause-made
returns-clause-made g c =
    let all : c.loop-number._number ≡ c.args.cache_count = omega arith in
    (c.new-2.ensures.items, c.loop-number.invariant ∙ ap (λ n. replicate n empty_cache) all)
