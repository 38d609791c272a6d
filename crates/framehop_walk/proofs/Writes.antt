-- What a writer holds after several writes.
use Rattle.std.proofs.Common.{◌∙◌, ℕ, List, ◌++◌, Option, Some, None, Result, Ok, Err, OnOk, append_assoc, ap, refl}
use Rattle.std.specs.Io.KnownBytes.{Keeps, Appends}

-- known bytes that grow twice
Appends-twice : (old next new : Option (List ℕ)) (first second : List ℕ) → Appends old next first → Appends next new second
    → Appends old new (first ++ second)
Appends-twice None next new first second a b = tt
Appends-twice (Some xs) None new first second a b = absurd a
Appends-twice (Some xs) (Some ys) None first second a b = absurd b
Appends-twice (Some xs) (Some ys) (Some zs) first second a b = b ∙ ap (λ s. s ++ second) a ∙ append_assoc xs first second

-- a line is written in four parts
pub line-written : {E : Type 0} (result : Result Unit E) (old first second third new : Option (List ℕ)) (name text field feed : List ℕ)
    → Appends old first name → Appends first second text → Appends second third field → OnOk result (Appends third new feed)
    → OnOk result (Appends old new ((name ++ (text ++ field)) ++ feed))
line-written (Err e) old first second third new name text field feed a b c d = tt
line-written (Ok v) old first second third new name text field feed a b c d =
    Appends-twice old third new (name ++ (text ++ field)) feed (Appends-twice old first third name (text ++ field) a (Appends-twice first second third text field b c)) d

-- and the bytes of nothing stay
pub Keeps-same : (bytes : Option (List ℕ)) → Keeps bytes bytes
Keeps-same None = tt
Keeps-same (Some xs) = refl
