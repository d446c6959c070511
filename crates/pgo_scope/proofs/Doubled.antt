-- A name that holds `__` is one that shows a `_` behind a `_` when it is read from the left.
use Rattle.std.proofs.Common.{◌≡◌, false, [], ◌∷◌, refl, ap}
use Rattle.std.specs.Prelude.{◌&&◌, ◌||◌, nat_eq}
use Rattle.pgo_base.specs.Lookup.{Name}
use Rattle.pgo_scope.specs.Underscores.{has_double}
use Rattle.pgo_scope.specs.Doubles.{double_behind}

pub has_double_is : (x : Name) → has_double x ≡ double_behind false x
has_double_is [] = refl
has_double_is (b ∷ []) = refl
has_double_is (b ∷ c ∷ cs) = ap (λ r. (nat_eq b 95 && nat_eq c 95) || r) (has_double_is (c ∷ cs))
