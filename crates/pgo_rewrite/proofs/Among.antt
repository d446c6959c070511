-- A name is among those of a group and those around it where it is among the one or the other.
use Rattle.std.proofs.Common.{◌≡◌, Bool, true, false, ◌||◌, List, [], ◌∷◌, refl, ◌∙◌}
use Rattle.pgo_base.specs.Lookup.{Name, same_name}
use Rattle.pgo_model.specs.Names.{is_among}
use Rattle.pgo_sections.specs.Bound.{below}

swapped : (a b c : Bool) → a || (b || c) ≡ b || (a || c)
swapped true true c = refl
swapped true false c = refl
swapped false true c = refl
swapped false false c = refl

joined : (a b c : Bool) → (a || b) || c ≡ a || (b || c)
joined true b c = refl
joined false b c = refl

pub below_has : (x : Name) (ns under : List Name) → is_among x ns || is_among x under ≡ is_among x (below ns under)
below_has x [] under = refl
below_has x (y ∷ ys) under =
    joined (same_name x y) (is_among x ys) (is_among x under) ∙ swapped (same_name x y) (is_among x ys) (is_among x under) ∙ below_has x ys (y ∷ under)
