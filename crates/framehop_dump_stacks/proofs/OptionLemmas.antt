-- The first of two options that has a value.
use Rattle.std.proofs.Common.{◌≡◌, true, false, Option, Some, None, refl}
use Rattle.std.specs.Prelude.{is_some, option_map}
use Rattle.std.specs.Option.{option_or}

pub or-none : {X : Type 0} (x : Option X) → x ≡ option_or x None
or-none None = refl
or-none (Some x) = refl

pub some-first : {X : Type 0} (x y : Option X) → is_some x ≡ true → x ≡ option_or x y
some-first None y is = cc
some-first (Some a) y is = refl

pub none-first : {X : Type 0} (x y : Option X) → is_some x ≡ false → y ≡ option_or x y
none-first None y is = refl
none-first (Some a) y is = cc

pub map-or : {X Y : Type 0} (f : X → Y) (a b : Option X) → option_or (option_map f a) (option_map f b) ≡ option_map f (option_or a b)
map-or f None b = refl
map-or f (Some a) b = refl
