-- A `_` behind a `_`, read from the left.
use Rattle.std.specs.Prelude.{Bool, false, ◌&&◌, ◌||◌, nat_eq, [], ◌∷◌}
use Rattle.pgo_base.specs.Lookup.{Name}

-- whether two stand in the name, or one at its beginning where one stands before it
abbrev pub double_behind : Bool → Name → Bool
double_behind p [] = false
double_behind p (b ∷ bs) = (p && nat_eq b 95) || double_behind (nat_eq b 95) bs
