-- Runs over arguments.
use Rattle.std.proofs.Common.{◌≡◌, ℕ, List, Option, None, Result, Ok, Err, refl, subst}
use Rattle.framehop_walk.specs.Refusals.{Reading, refusal_status}
use Rattle.framehop_walk.specs.Runs.{HasRefused, IsRunOver, IsRunOn}
use Rattle.framehop_walk.specs.Streams.{InputView, Outputs}
use Rattle.framehop_walk.specs.declared.refusal.Refusal.{Refusal}
use Rattle.framehop_walk.specs.declared.refusal.Refusal.TheVariants.{Usage}

module _ (OpensAs : Option (List ℕ) → Result InputView Refusal → Type 0) (asked : Reading (Option (List ℕ))) (status : ℕ) (old new : Outputs) where
  pub usage-run : (text : List ℕ) (refusal : Refusal) → Err text ≡ asked → refusal ≡ Usage → status ≡ refusal_status refusal
      → HasRefused refusal old new → IsRunOn OpensAs asked status None old new
  usage-run text refusal asked_is usage status_is refused =
      let P : Reading (Option (List ℕ)) → Type 0 = λ r. IsRunOn OpensAs r status None old new in
      let Q : Refusal → Type 0 = λ r. IsRunOver (Err r) status None old new in
      subst P asked_is (subst Q usage (refl, status_is, refused))

  pub opened-run : (path : Option (List ℕ)) (opened : Result InputView Refusal) (input : Option InputView) → Ok path ≡ asked
      → OpensAs path opened → IsRunOver opened status input old new → IsRunOn OpensAs asked status input old new
  opened-run path opened input asked_is opens ran =
      let P : Reading (Option (List ℕ)) → Type 0 = λ r. IsRunOn OpensAs r status input old new in
      subst P asked_is (opened, opens, ran)
