-- The last of frames.
use Rattle.std.proofs.Common.{◌≡◌, ◌-◌, List, map, length, ap, ◌∙◌}
use Rattle.std.specs.Prelude.{option_map, slice_get}
use Rattle.std.proofs.lemmas.List.{length-map}
use Rattle.std.proofs.lemmas.Option.{slice_get-map}

-- the last of views is the view of the last
pub last_of_views : {A B : Type 0} (view : A → B) (frames : List A)
    → slice_get (map view frames) (length (map view frames) - 1) ≡ option_map view (slice_get frames (length frames - 1))
last_of_views view frames =
    ap (λ count. slice_get (map view frames) (count - 1)) (length-map frames view) ∙ slice_get-map view frames (length frames - 1)
